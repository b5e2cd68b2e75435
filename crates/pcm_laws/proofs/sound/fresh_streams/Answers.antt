use Rattle.pcm_laws.proofs.KeptByVotes.{Sound-fresh}
use Rattle.pcm_laws.proofs.sound.fresh_streams.Goals as goal

pub returns : goal.returns
returns c = Sound-fresh

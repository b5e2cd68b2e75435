use Rattle.pcm_laws.proofs.KeptByVotes.{Sound-after}
use Rattle.pcm_laws.proofs.sound.acts.Goals as goal

pub returns : goal.returns
returns c = Sound-after

use Rattle.pcm_stream.proofs.BehindReads.{behind-read}
use Rattle.pcm_stream.proofs.laws.behind.Goals as goal

pub returns : goal.returns
returns c = behind-read

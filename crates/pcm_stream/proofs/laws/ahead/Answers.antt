use Rattle.pcm_stream.proofs.AheadRuns.{ahead-taken}
use Rattle.pcm_stream.proofs.laws.ahead.Goals as goal

pub returns : goal.returns
returns c = ahead-taken

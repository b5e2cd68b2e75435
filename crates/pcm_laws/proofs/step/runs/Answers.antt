use Rattle.pcm_laws.proofs.Decomposition.{Decomposes-run}
use Rattle.pcm_laws.proofs.step.runs.Goals as goal

pub returns : goal.returns
returns c = Decomposes-run

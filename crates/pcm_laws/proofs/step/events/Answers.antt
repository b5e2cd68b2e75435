use Rattle.pcm_laws.proofs.ActCounts.{AtMost-program}
use Rattle.pcm_laws.proofs.step.events.Goals as goal

pub returns : goal.returns
returns c = AtMost-program

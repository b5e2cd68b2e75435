use Rattle.std.proofs.Common.{sym}
use Rattle.pcm_laws.specs.Turns.{turn}
use Rattle.xfer_loop.proofs.TurnLemmas.{IsTurned-after, step-none, stream-stays, xfer-stays}
use Rattle.xfer_loop.proofs.laws.kept.Goals as goal

pub returns-clause-rest : goal.returns-clause-rest
returns-clause-rest c = IsTurned-after

pub returns-clause-none : goal.returns-clause-none
returns-clause-none c x io s none = (sym (stream-stays x (turn x.rest s) io s none), sym (xfer-stays x (turn x.rest s) none))

pub returns-clause-nothing : goal.returns-clause-nothing
returns-clause-nothing c x s none = sym (step-none x s none)

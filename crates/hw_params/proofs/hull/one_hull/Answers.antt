use Rattle.hw_params.proofs.Unique.{one-hull}
use Rattle.hw_params.proofs.hull.one_hull.Goals as goal

pub returns-clause-one : goal.returns-clause-one
returns-clause-one c = one-hull

pub returns-clause-some : goal.returns-clause-some
returns-clause-some c = λ m s h is none. none is.channels.least.0 is.channels.least.1

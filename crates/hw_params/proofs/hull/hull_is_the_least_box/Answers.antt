use Rattle.hw_params.proofs.Unique.{hull-holds, hull-least}
use Rattle.hw_params.proofs.hull.hull_is_the_least_box.Goals as goal

pub returns-clause-holds : goal.returns-clause-holds
returns-clause-holds c = hull-holds

pub returns-clause-least : goal.returns-clause-least
returns-clause-least c = hull-least

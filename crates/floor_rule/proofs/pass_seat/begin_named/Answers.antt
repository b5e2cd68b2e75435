use Rattle.std.proofs.Common.{ap}
use Rattle.floor_rule.proofs.PassSteps.{begins_as}
use Rattle.floor_rule.proofs.pass_seat.begin_named.Goals as goal

pub split_seat-requires : goal.split_seat-requires
split_seat-requires g c = (c.requires.table.0, c.requires.table.1, begins_as _ _ _ _ _ (ap (λ m. m.0) c.requires.pass) c.requires.idle)

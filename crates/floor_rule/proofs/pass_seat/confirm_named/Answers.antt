use Rattle.floor_rule.proofs.PassSteps.{confirms_as}
use Rattle.floor_rule.proofs.pass_seat.confirm_named.Goals as goal

pub load-requires : goal.load-requires
load-requires g c =
    let s = c.requires.stands in
    (c.requires.table.0, c.requires.table.1, confirms_as _ _ _ _ _ _ _ s.0 _ c.requires.pass c.requires.named c.requires.open s.1 s.2)

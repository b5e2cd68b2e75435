use Rattle.std.proofs.Common.{refl}
use Rattle.room_parts.proofs.Calls.{stands_new}
use Rattle.room_parts.proofs.Seen.{remembers_none}
use Rattle.room_parts.proofs.pass.Pass.new.Goals as goal

pub invariant_of-result : goal.invariant_of-result
invariant_of-result g c =
    let fresh = c.requires.fresh in
    (c.requires.table, stands_new _ _ _ fresh.0 fresh.1, refl, remembers_none 256 c.args.seat.knows fresh.2 fresh.1)

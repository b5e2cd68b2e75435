use Rattle.std.proofs.Common.{refl}
use Rattle.room_parts.proofs.Backing.{stands_more}
use Rattle.room_parts.proofs.Calls.{stands_told}
use Rattle.room_parts.proofs.pass.Pass.hear.Goals as goal

pub invariant_of-self : goal.invariant_of-self
invariant_of-self g c =
    rw (c.take_note.ensures) (c.self.invariant.0, stands_told _ _ _ c.self.inside.seat.knows _ refl refl refl (stands_more c.args.note.lists.logs c.self.inside.seat.knows.held.logs) c.self.invariant.1, c.self.invariant.2, c.self.invariant.3)

use Rattle.room_parts.proofs.Backing.{heard}
use Rattle.room_parts.proofs.rec.Rec.hear.Goals as goal

pub invariant_of-self : goal.invariant_of-self
invariant_of-self g c =
    rw (c.take_note.ensures) (c.self.invariant.0, c.self.invariant.1, c.self.invariant.2, heard _ c.self.inside.seat.knows c.args.note.lists c.self.invariant.3)

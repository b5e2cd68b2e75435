use Rattle.std.proofs.Common.{sym, ap, ◌∙◌, arith}
use Rattle.floor_rule.proofs.NoteSteps.{copies_log_as}
use Rattle.floor_rule.proofs.rec_seat.RecSeat.copy_note.Goals as goal

pub split_seat-seat-requires : goal.split_seat-seat-requires
split_seat-seat-requires c =
    let i = c.words.invariant in
    let table = ap (λ w. w.table) c.self.view_is ∙ c.requires.table ∙ sym (ap (λ w. w.table) c.words.view_is) in
    (table, omega (arith, i.1, i.2), copies_log_as _ _ _ _ (ap (λ m. m.0) c.self.invariant.0))

use Rattle.std.proofs.Common.{sym, ap, ◌∙◌, arith}
use Rattle.floor_rule.proofs.NoteSteps.{pass_takes_as}
use Rattle.floor_rule.proofs.pass_seat.PassSeat.take_note.Goals as goal

pub join_seat-requires : goal.join_seat-requires
join_seat-requires c =
    let i = c.words.invariant in
    let words = sym (ap (λ w. w.table) c.words.view_is) in (
      ap (λ v. v.table) c.self.view_is ∙ c.requires.table ∙ words,
      ap (λ v. v.table) c.note.view_is ∙ c.requires.note ∙ words,
      ap (λ m. m.1) c.note.invariant,
      omega (arith, i.1, i.2),
      pass_takes_as _ _ _ _ _ _ _ (ap (λ m. m.0) c.self.invariant.0) (ap (λ m. m.0) c.note.invariant),
    )

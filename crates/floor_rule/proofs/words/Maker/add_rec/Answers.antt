use Rattle.std.proofs.Common.{sym, ap, ◌∙◌, arith}
use Rattle.floor_rule.proofs.MakerSteps.{adds_rec_as}
use Rattle.floor_rule.proofs.words.Maker.add_rec.Goals as goal

pub split_seat-seat-requires : goal.split_seat-seat-requires
split_seat-seat-requires c =
    let i = c.words.invariant in
    let v = c.self.view_is in (
      ap (λ w. w.table) v ∙ c.requires.table ∙ sym (ap (λ w. w.table) c.words.view_is),
      omega (arith, i.1, i.2),
      adds_rec_as _ _ _ _ _ i.0 (ap (λ m. m.0) c.self.invariant.0) (omega (arith, c.requires.room, ap (λ w. w.knows.recs) v, ap (λ w. w.cards) c.words.view_is)),
    )

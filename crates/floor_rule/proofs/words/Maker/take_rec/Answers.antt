use Rattle.std.proofs.Common.{sym, ap, ◌∙◌, arith}
use Rattle.floor_rule.proofs.RollSteps.{takes_rec_as}
use Rattle.floor_rule.proofs.words.Maker.take_rec.Goals as goal

pub join_seat-requires : goal.join_seat-requires
join_seat-requires c =
    let i = c.words.invariant in
    let words = sym (ap (λ w. w.table) c.words.view_is) in (
      ap (λ v. v.table) c.self.view_is ∙ c.requires.table ∙ words,
      ap (λ v. v.table) c.rec.view_is ∙ c.requires.rec ∙ words,
      ap (λ m. m.1) c.rec.invariant.0,
      omega (arith, i.1, i.2),
      takes_rec_as _ _ _ _ _ _ _ (ap (λ m. m.0) c.self.invariant.0) (ap (λ m. m.0) c.rec.invariant.0),
    )

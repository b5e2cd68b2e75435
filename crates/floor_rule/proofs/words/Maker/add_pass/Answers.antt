use Rattle.std.proofs.Common.{sym, ap, ◌∙◌, arith}
use Rattle.floor_rule.proofs.MakerSteps.{adds_pass_as}
use Rattle.floor_rule.proofs.words.Maker.add_pass.Goals as goal

pub split_seat-seat-requires : goal.split_seat-seat-requires
split_seat-seat-requires c =
    let i = c.words.invariant in
    let table = ap (λ w. w.table) c.self.view_is ∙ c.requires.table ∙ sym (ap (λ w. w.table) c.words.view_is) in
    (table, omega (arith, i.1, i.2), adds_pass_as _ _ _ _ (ap (λ m. m.0) c.self.invariant.0))

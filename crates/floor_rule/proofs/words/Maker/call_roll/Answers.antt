use Rattle.std.proofs.Common.{sym, ap, ◌∙◌, arith}
use Rattle.floor_rule.proofs.RollSteps.{calls_roll_as}
use Rattle.floor_rule.proofs.words.Maker.call_roll.Goals as goal

pub load-requires : goal.load-requires
load-requires c =
    let i = c.words.invariant in (
      ap (λ v. v.table) c.self.view_is ∙ c.requires.table ∙ sym (ap (λ v. v.table) c.words.view_is),
      omega (arith, i.1, i.2),
      calls_roll_as _ _ _ _ _ _ c.self.invariant.0,
    )

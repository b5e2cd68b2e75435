use Rattle.std.proofs.Common.{◌<◌, length, rules}
use Rattle.live_top.proofs.Saving.{save_more}
use Rattle.live_top.proofs.saves.save_all.Goals as goal

pub saves-preserved : goal.saves-preserved
saves-preserved g c =
    let F = g.F.Shelf in
    let lines = c.args.plan.now.saves.items in
    let i = c.saves.line-index in
    let within : i < length lines = search rules in
    record {
      files = λ logs streams are.
          save_more streams lines i c.line-item.result (F.files c.args.shelf.now) (F.files c.saves.shelf) (F.files c.save_line.new.shelf) within (search rules)
          (c.saves.invariant.files logs streams are) (c.in_ok-save_line.ensures.saved logs streams are);
      kept = search rules;
    }

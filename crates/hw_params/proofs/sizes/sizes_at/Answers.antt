use Rattle.std.proofs.Common.{◌∙◌, ap, max}
use Rattle.hw_params.proofs.Ranges.{box-at, none-at}
use Rattle.hw_params.proofs.sizes.sizes_at.Goals as goal

pub returns-then-least-most : goal.returns-then-least-most
returns-then-least-most c =
    let s = c.args.spans.now in
    none-at s c.args.count _ _ (record {
      some = c.requires.some;
      least-is = c.max-least.ensures ∙ ap (max s.period.least) c.div_ceil.ensures;
      most-is = c.min-most.ensures;
    }) c.if-least-most.true

pub returns : goal.returns
returns c =
    let s = c.args.spans.now in
    box-at s c.args.count _ _ (record {
      some = c.requires.some;
      least-is = c.max-least.ensures ∙ ap (max s.period.least) c.div_ceil.ensures;
      most-is = c.min-most.ensures;
    }) c.requires.within c.if-least-most.false

use Rattle.std.proofs.Common.{◌+◌, sym, subst}
use Rattle.std.specs.declared.option.Option.{Option}
use Rattle.hw_params.specs.declared.sizes.Sizes.{Sizes}
use Rattle.hw_params.specs.Sizes.{FitsBelow, IsBoxOf}
use Rattle.hw_params.proofs.Ranges.{box-one-more, box-all}
use Rattle.hw_params.proofs.sizes.sizes_of.Goals as goal

pub loop-count-preserved : goal.loop-count-preserved
loop-count-preserved c =
    let s = c.args.spans.now in
    let n = c.loop-count.count in
    subst (λ (o : Option Sizes). IsBoxOf (FitsBelow s (n + 1)) o) (sym c.either_of-found.ensures)
    (box-one-more s n c.loop-count.found c.sizes_at.result c.loop-count.invariant c.sizes_at.ensures)

pub returns : goal.returns
returns c = box-all c.args.spans.now c.loop-count.count c.loop-count.found c.loop-count-test.false c.loop-count.invariant

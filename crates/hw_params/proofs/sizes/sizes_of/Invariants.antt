use Rattle.hw_params.specs.Sizes.{FitsBelow, IsBoxOf}
use Rattle.hw_params.proofs.sizes.sizes_of.Given as goal

-- the box of the counts so far
abbrev pub invariant-loop-count : goal.invariant-loop-count
invariant-loop-count l = IsBoxOf (FitsBelow l.spans l.count) l.found

use Rattle.std.proofs.Common.{ℕ, ◌<◌}
use Rattle.live_gather.specs.Ordered.{IsAt}
use Rattle.live_gather.proofs.ordering.place_of.Given as goal

abbrev pub invariant-loop-i : goal.invariant-loop-i
invariant-loop-i l = (k : ℕ) → k < l.i → IsAt l.number k l.all.items → ⊥

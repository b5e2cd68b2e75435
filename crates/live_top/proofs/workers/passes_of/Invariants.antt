use Rattle.std.proofs.Common.{◌≡◌, map}
use Rattle.live_top.proofs.workers.passes_of.Given as goal

-- the passes so far
abbrev pub invariant-loop-one : goal.invariant-loop-one
invariant-loop-one g l = l.passes.items ≡ map (λ w. w.pass) l.yielded

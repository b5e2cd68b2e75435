use Rattle.std.proofs.Common.{◌≡◌, ◌++◌, take, drop}
use Rattle.sleepers.specs.Wake.{with_mark}
use Rattle.sleepers.proofs.wake.mark_each.Given as goal

-- the places before the index are marked, and those from it on are as they were
abbrev pub invariant-loop-place : goal.invariant-loop-place
invariant-loop-place l = l.places ≡ with_mark l.client l.asleep (take l.place-index l.initial.places) ++ drop l.place-index l.initial.places

use Rattle.std.proofs.Common.{◌≡◌, ◌<◌, ℕ, Some, length}
use Rattle.std.specs.List.{slice_get}
use Rattle.pcm_world.specs.Groups.{numbers_in, place_in}
use Rattle.pcm_world.proofs.groups.places_of.Given as goal

abbrev pub invariant-loop-k : goal.invariant-loop-k
invariant-loop-k l = (length l.places ≡ 16) × ((k : ℕ) → k < l.k → slice_get l.places k ≡ Some (place_in (record { 0 = k }) (numbers_in l.groups)))

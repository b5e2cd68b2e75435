use Rattle.std.proofs.Common.{◌≡◌, drop}
use Rattle.pcm_world.specs.Groups.{numbers_in, place_from, place_in}
use Rattle.pcm_world.proofs.groups.place_of.Given as goal

abbrev pub invariant-loop-i : goal.invariant-loop-i
invariant-loop-i l = place_from l.i l.sub (drop l.i (numbers_in l.groups)) ≡ place_in l.sub (numbers_in l.groups)

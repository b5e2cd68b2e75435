use Rattle.std.proofs.Common.{◌≡◌, ◌≤◌, ◌-◌}
use Rattle.pcm_base.proofs.BoundaryLemmas.{Doubling}
use Rattle.pcm_base.proofs.config.boundary_of.Given as goal

abbrev pub invariant-doublings : goal.invariant-doublings
invariant-doublings l = record {
  room_is : l.room ≡ l.fn.long_max - l.fn.buffer;
  some : 1 ≤ l.boundary;
  doubling : Doubling l.fn.buffer l.fn.long_max l.boundary;
}

abbrev pub decreases-doublings : goal.decreases-doublings
decreases-doublings l = l.room - l.boundary

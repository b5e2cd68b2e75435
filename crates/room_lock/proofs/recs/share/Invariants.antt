use Rattle.std.proofs.Common.{◌≡◌, ◌+◌, length, drop, slice_get, Some}
use Rattle.room_parts.specs.Recs.{RecView}
use Rattle.room_lock.specs.Joined.{GainedSoFar}
use Rattle.room_lock.specs.Joints.{shared_at}
use Rattle.room_lock.proofs.recs.share.Given as goal

-- the entries so far, and those of the acts that are left
abbrev pub invariant-loop-i : goal.invariant-loop-i
invariant-loop-i g l = record {
  gained : (r : RecView) → slice_get l.fn.recs.items l.other ≡ Some r
      → GainedSoFar l.fn.recs.items l.recs.items l.other l.i (shared_at l.other l.number (l.serial + l.i) (drop l.i l.acts) l.last l.hw l.sub l.place) (shared_at l.other l.number l.serial l.acts l.last l.hw l.sub l.place) r;
  size : length l.recs.items ≡ length l.fn.recs.items;
}

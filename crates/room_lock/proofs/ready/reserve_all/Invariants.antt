use Rattle.std.proofs.Common.{◌≡◌, length}
use Rattle.room_lock.specs.Ready.{SpareTo, knows_of}
use Rattle.room_lock.proofs.ready.reserve_all.Given as goal

abbrev pub invariant-loop-i : goal.invariant-loop-i
invariant-loop-i g l = record {
  same : knows_of l.recs.items ≡ knows_of l.fn.recs.items;
  spare : SpareTo l.i l.recs.items;
  size : length l.recs.items ≡ length l.fn.recs.items;
}

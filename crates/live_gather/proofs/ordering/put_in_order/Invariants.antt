use Rattle.std.proofs.Common.{◌≡◌, length}
use Rattle.live_gather.specs.Ordered.{AreAmong, AreInOrder, HasAll}
use Rattle.live_gather.proofs.ordering.put_in_order.Given as goal

abbrev pub invariant-loop-number : goal.invariant-loop-number
invariant-loop-number l = record {
  size : length l.all.items ≡ length l.fn.all.items;
  whole : HasAll (length l.fn.all.items) l.all.items;
  order : AreInOrder l.number l.all.items;
  among : AreAmong l.all.items l.fn.all.items;
}

use Rattle.std.proofs.Common.{◌≡◌, ◌≤◌, ◌+◌, ◌-◌, ◌++◌, length, take}
use Rattle.std.specs.Prelude.{vec_len, vec_capacity}
use Rattle.room_lock.proofs.moved.push_all.Given as goal

abbrev pub invariant-loop-i : goal.invariant-loop-i
invariant-loop-i l = record {
  items : l.bytes.items ≡ l.fn.bytes.items ++ take l.i l.more;
  room : vec_len l.bytes + (length l.more - l.i) ≤ vec_capacity l.bytes;
  same : vec_capacity l.bytes ≡ vec_capacity l.fn.bytes;
}

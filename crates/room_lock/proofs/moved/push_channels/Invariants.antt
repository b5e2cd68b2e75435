use Rattle.std.proofs.Common.{◌≡◌, ◌≤◌, ◌+◌, ◌*◌, ◌++◌, length}
use Rattle.std.specs.Prelude.{vec_len, vec_capacity}
use Rattle.room_lock.specs.Moved.{parts}
use Rattle.room_lock.proofs.moved.push_channels.Given as goal

-- what is pushed, and what is left to push
abbrev pub invariant-channels : goal.invariant-channels
invariant-channels l = record {
  items : l.bytes.items ++ parts l.left l.area l.from l.size l.rest ≡ l.fn.bytes.items ++ parts l.channels l.area l.from l.size l.io;
  areas : l.left * l.area ≤ length l.rest;
  room : vec_len l.bytes + l.left * l.size ≤ vec_capacity l.bytes;
}

abbrev pub decreases-channels : goal.decreases-channels
decreases-channels l = l.left

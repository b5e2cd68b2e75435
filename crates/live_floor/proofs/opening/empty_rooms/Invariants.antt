use Rattle.std.proofs.Common.{◌≡◌, ◌≤◌, ◌+◌}
use Rattle.std.specs.Prelude.{vec_len, vec_capacity}
use Rattle.live_floor.proofs.opening.empty_rooms.Given as goal

abbrev pub invariant-loop-number : goal.invariant-loop-number
invariant-loop-number g l = record {
  count : vec_len l.rooms ≡ l.number;
  within : l.number ≤ 32;
  room : 32 ≤ vec_capacity l.rooms;
  parts : l.tally.rest.parts + l.number ≡ 32;
  total : l.tally.book.total ≡ l.fn.tally.book.total;
}

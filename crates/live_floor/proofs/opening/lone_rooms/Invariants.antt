use Rattle.std.proofs.Common.{◌≡◌, ◌≤◌, ◌+◌, []}
use Rattle.std.specs.Prelude.{vec_len, vec_capacity}
use Rattle.live_floor.proofs.opening.lone_rooms.Given as goal

abbrev pub invariant-loop-i : goal.invariant-loop-i
invariant-loop-i g l = record {
  count : vec_len l.rooms ≡ l.i;
  room : 32 ≤ vec_capacity l.rooms;
  parts : l.tally.rest.parts + l.i ≡ 32;
  total : l.tally.book.total ≡ l.i;
  maker : l.maker ≡ record { table = g.N.FloorName.table; knows = record { recs = l.i; passes = 0; roll = [] } };
}

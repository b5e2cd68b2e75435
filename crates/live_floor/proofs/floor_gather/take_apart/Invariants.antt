use Rattle.std.proofs.Common.{◌≡◌, ◌≤◌, ◌+◌, vec_len, vec_capacity}
use Rattle.live_floor.specs.Rooms.{AreTaken}
use Rattle.live_floor.proofs.floor_gather.take_apart.Given as goal

-- the shares so far are the parts of the rooms that were taken, and count their pieces, which have the logs of these rooms
abbrev pub invariant-loop-next : goal.invariant-loop-next
invariant-loop-next g l = record {
  parts : l.share.parts + vec_len l.rooms ≡ 32;
  count : l.share.amount ≡ vec_len l.pieces;
  room : 16 ≤ vec_capacity l.pieces;
  taken : AreTaken g.N.FloorName.cards g.N.FloorName.long_max l.pieces.items;
}

abbrev pub decreases-loop-next : goal.decreases-loop-next
decreases-loop-next g l = goal.left-loop-next g l

use Rattle.std.proofs.Common.{◌≡◌, length, take}
use Rattle.room_lock.proofs.noting.copied_votes.Given as goal

-- the votes so far
abbrev pub invariant-loop-i : goal.invariant-loop-i
invariant-loop-i l = record {
  copy : l.copy ≡ take l.i l.votes;
  count : length l.copy ≡ l.i;
}

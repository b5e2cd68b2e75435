use Rattle.std.proofs.Common.{◌≡◌, ◌+◌, ◌++◌, length, drop}
use Rattle.room_lock.specs.Joints.{joints_at}
use Rattle.room_lock.proofs.joints.joints.Given as goal

-- the joints so far, and those of the acts that are left
abbrev pub invariant-loop-i : goal.invariant-loop-i
invariant-loop-i l = record {
  told : l.found ++ joints_at l.place l.room (l.serial + l.i) (drop l.i l.acts) ≡ joints_at l.place l.room l.serial l.acts;
  count : length l.found ≡ l.i;
}

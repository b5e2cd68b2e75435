use Rattle.std.proofs.Common.{◌≡◌, ◌≤◌, ◌-◌, length, take}
use Rattle.pcm_help.specs.Shown.{columns}
use Rattle.pcm_help.proofs.window.fitting.Given as goal

abbrev pub invariant-bytes : goal.invariant-bytes
invariant-bytes l = record { inside : l.i ≤ length l.bytes; used : l.used ≡ columns (take l.i l.bytes); few : l.used ≤ l.room }

abbrev pub decreases-bytes : goal.decreases-bytes
decreases-bytes l = length l.bytes - l.i

use Rattle.std.proofs.Common.{◌≡◌, ◌≤◌, length, drop}
use Rattle.pcm_help.specs.Shown.{columns}
use Rattle.pcm_help.proofs.window.fitting_from.Given as goal

abbrev pub invariant-bytes : goal.invariant-bytes
invariant-bytes l = record { inside : l.from ≤ length l.bytes; used : l.used ≡ columns (drop l.from l.bytes); few : l.used ≤ l.room }

abbrev pub decreases-bytes : goal.decreases-bytes
decreases-bytes l = l.from

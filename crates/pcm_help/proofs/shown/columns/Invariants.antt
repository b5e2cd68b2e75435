use Rattle.std.proofs.Common.{◌≡◌, ◌≤◌, ◌*◌, take}
use Rattle.pcm_help.specs.Shown.{columns}
use Rattle.pcm_help.proofs.shown.columns.Given as goal

abbrev pub invariant-bytes : goal.invariant-bytes
invariant-bytes l = record { sum : l.columns ≡ columns (take l.byte-index l.bytes); few : l.columns ≤ 4 * l.byte-index }

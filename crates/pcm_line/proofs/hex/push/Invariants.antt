use Rattle.std.proofs.Common.{◌≡◌, ◌++◌, drop}
use Rattle.pcm_line.specs.Kinds.{hex_pairs}
use Rattle.pcm_line.proofs.hex.push.Given as goal

abbrev pub invariant-bytes : goal.invariant-bytes
invariant-bytes l = l.out.items ++ hex_pairs (drop l.b-index l.bytes) ≡ l.initial.out.items ++ hex_pairs l.bytes

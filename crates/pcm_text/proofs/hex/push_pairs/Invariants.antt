use Rattle.std.proofs.Common.{◌≡◌, ◌*◌, ◌++◌, take}
use Rattle.pcm_text.specs.Hex.{hex_pairs}
use Rattle.pcm_text.proofs.hex.push_pairs.Given as goal

abbrev pub invariant-parts : goal.invariant-parts
invariant-parts l = l.text.items ≡ l.fn.text.items ++ hex_pairs (take (16 * l.i) l.bytes)

abbrev pub invariant-bytes : goal.invariant-bytes
invariant-bytes l = l.text.items ≡ l.fn.text.items ++ hex_pairs (take l.i l.bytes)

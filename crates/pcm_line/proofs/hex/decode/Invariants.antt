use Rattle.std.proofs.Common.{◌≡◌, ◌<◌, ◌*◌, ◌++◌, take, drop}
use Rattle.pcm_line.specs.Hex.{pairs_in_front}
use Rattle.pcm_line.proofs.hex.decode.Given as goal

abbrev pub invariant-pairs : goal.invariant-pairs
invariant-pairs l = l.most < 16 → (take l.i l.area ++ (pairs_in_front (drop (2 * l.i) l.text)).0, (pairs_in_front (drop (2 * l.i) l.text)).1) ≡ pairs_in_front l.text

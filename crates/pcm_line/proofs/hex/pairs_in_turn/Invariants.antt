use Rattle.std.proofs.Common.{◌≡◌, ◌++◌, length}
use Rattle.pcm_line.specs.Hex.{pairs_in_front}
use Rattle.pcm_line.proofs.hex.pairs_in_turn.Given as goal

abbrev pub invariant-pairs : goal.invariant-pairs
invariant-pairs l = (l.bytes.items ++ (pairs_in_front l.rest).0, (pairs_in_front l.rest).1) ≡ pairs_in_front l.text

abbrev pub decreases-pairs : goal.decreases-pairs
decreases-pairs l = length l.rest

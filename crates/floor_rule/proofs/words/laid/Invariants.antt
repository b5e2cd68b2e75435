use Rattle.std.proofs.Common.{◌≡◌, ◌+◌, ◌<◌, ℕ, length, get_or}
use Rattle.floor_rule.proofs.words.laid.Given as goal

abbrev pub invariant-loop-j : goal.invariant-loop-j
invariant-loop-j l = (length l.words ≡ 32) × ((k : ℕ) → k < l.j → (get_or l.words k 0 ≡ 1030792151040) × (get_or l.words (l.cards + k) 0 ≡ k))

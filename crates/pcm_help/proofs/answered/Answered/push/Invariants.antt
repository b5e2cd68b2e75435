use Rattle.std.proofs.Common.{ℕ, List, ◌++◌, take}
use Rattle.pcm_help.specs.Answered.{Tells}
use Rattle.pcm_help.proofs.answered.Answered.push.Given as goal

abbrev pub invariant-bytes : goal.invariant-bytes
invariant-bytes l = (all : List ℕ) → Tells l.fn.self all → Tells l.self (all ++ take l.byte-index l.bytes)

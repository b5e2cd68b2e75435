use Rattle.std.proofs.Common.{◌<◌, ℕ, List, length}
use Rattle.pcm_help.specs.FileLine.{SkipsLine}
use Rattle.pcm_help.specs.Recent.{Holds, IsFrom}
use Rattle.pcm_help.proofs.file.next_spoken.Given as goal

abbrev pub invariant-lines : goal.invariant-lines
invariant-lines l = record {
  behind : l.answered < l.number;
  here : (all : List ℕ) → Holds l.recent all → IsFrom l.number all l.rest;
  between : (all : List ℕ) → Holds l.recent all → (k : ℕ) → l.answered < k → k < l.number → SkipsLine all k;
}

abbrev pub decreases-lines : goal.decreases-lines
decreases-lines l = length l.rest

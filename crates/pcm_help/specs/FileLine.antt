-- The line of a script that asked for the file at which the run ended. This project's own.
use Rattle.std.specs.Prelude.{◌<◌, ℕ, List}
use Rattle.pcm_line.specs.Skipped.{IsSkipped}
use Rattle.pcm_help.specs.BadLine.{IsLineOf}

-- the line of this number is skipped in version 2
abbrev pub SkipsLine : List ℕ → ℕ → Type 0
SkipsLine all number = (line : List ℕ) × IsLineOf number all line × IsSkipped 2 line

-- the first line behind that of the number `answered` that is not skipped in version 2
pub record IsNextSpoken (all : List ℕ) (answered number : ℕ) (line : List ℕ) : Type 0 where
  pub behind : answered < number
  pub there : IsLineOf number all line
  pub speaks : ¬ IsSkipped 2 line
  pub between : (k : ℕ) → answered < k → k < number → SkipsLine all k

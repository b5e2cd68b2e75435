-- The piece of a line at which its fault is. This project's own.
use Rattle.std.specs.Prelude.{◌≡◌, ◌≤◌, ℕ, List, [], ◌∷◌, length, drop, min, slice_range}
use Rattle.pcm_line.specs.declared.error.LineError.{LineError}
use Rattle.pcm_line.specs.declared.error.LineError.TheVariants.{Word, Number, Short, Long, Memory}
use Rattle.pcm_help.specs.Lines.{count_of}
use Rattle.pcm_help.specs.declared.piece.Piece.{Piece}

abbrev pub spaces_in : List ℕ → ℕ
spaces_in bytes = count_of 32 bytes

-- nothing, or a space and more
abbrev pub IsPieceEnd : List ℕ → Type 0
IsPieceEnd [] = Unit {0}
IsPieceEnd (b ∷ bytes) = b ≡ 32

-- the piece begins there, or at the end of a line that is shorter, and goes to the next space or to the end
pub record IsPieceAt (line : List ℕ) (at : ℕ) (p : Piece) : Type 0 where
  pub begin : p.at ≡ min at (length line)
  pub order : p.at ≤ p.end
  pub within : p.end ≤ length line
  pub plain : spaces_in (slice_range line p.at p.end) ≡ 0
  pub end : IsPieceEnd (drop p.end line)

-- where the fault is: at the end where one piece more is expected
abbrev pub fault_at : List ℕ → LineError → ℕ
fault_at line (Word at) = at
fault_at line (Number at) = at
fault_at line (Long at) = at
fault_at line Short = length line
fault_at line Memory = length line

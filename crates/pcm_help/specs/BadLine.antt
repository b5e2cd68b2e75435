-- What is told of a line at fault. This project's own.
use Rattle.std.specs.Prelude.{◌≡◌, ℕ, List, ◌++◌}
use Rattle.pcm_line.specs.declared.error.LineError.{LineError}
use Rattle.pcm_help.specs.declared.piece.Piece.{Piece}
use Rattle.pcm_help.specs.declared.window.Window.{Window}
use Rattle.pcm_help.specs.Piece.{IsPieceAt, fault_at}
use Rattle.pcm_help.specs.Recent.{IsFrom, IsFirstLine}
use Rattle.pcm_help.specs.Window.{IsWindow, pointed}

-- the text begins with the line and the mark under the piece at fault
pub record Points (line : List ℕ) (fault : LineError) (text : List ℕ) : Type 0 where
  pub piece : Piece
  pub there : IsPieceAt line (fault_at line fault) piece
  pub window : Window
  pub shows : IsWindow line piece.at window
  pub notes : List ℕ
  pub begins : text ≡ pointed line window piece.at piece.end ++ notes

-- the line of this number, counted from 1, is this
pub record IsLineOf (number : ℕ) (all line : List ℕ) : Type 0 where
  pub rest : List ℕ
  pub begins : IsFrom number all rest
  pub ends : IsFirstLine rest line

-- the text begins with the line of this number and the mark under the piece at fault
pub record ShowsLine (number : ℕ) (fault : LineError) (all text : List ℕ) : Type 0 where
  pub line : List ℕ
  pub there : IsLineOf number all line
  pub points : Points line fault text

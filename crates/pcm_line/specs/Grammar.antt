-- What a line is, and which fault other bytes have. This project's own.
use Rattle.std.specs.Prelude.{◌≡◌, ◌≢◌, ℕ, ◌+◌, ◌⊎◌, List, [], ◌∷◌, length}
use Rattle.pcm_line.specs.declared.line.Line.{Line}
use Rattle.pcm_line.specs.declared.error.LineError.{LineError}
use Rattle.pcm_line.specs.declared.error.LineError.TheVariants.{Word, Number, Short, Long}
use Rattle.pcm_line.specs.declared.keyword.Keyword.{Keyword}
use Rattle.pcm_line.specs.Keywords.{text_of}
use Rattle.pcm_line.specs.Kinds.{Kind, OfNumber, Value, spelled, Fits}
use Rattle.pcm_line.specs.Pieces.{joined, pieces_of}
use Rattle.pcm_line.specs.Forms.{Values, form_of}

-- each value in its one spelling
abbrev pub spellings : (kinds : List Kind) → Values kinds → List (List ℕ)
spellings [] v = []
spellings (k ∷ kinds) v = spelled k v.0 ∷ spellings kinds v.1

abbrev pub AllFit : (kinds : List Kind) → Values kinds → Type 0
AllFit [] v = Unit {0}
AllFit (k ∷ kinds) v = Fits k v.0 × AllFit kinds v.1

-- The bytes are the pieces of a form, joined by single spaces, each in the one spelling of its kind.
pub record IsLine (bytes : List ℕ) (line : Line) : Type 0 where
  pub keyword : Keyword
  pub values : Values (form_of keyword).kinds
  pub fit : AllFit (form_of keyword).kinds values
  pub means : line ≡ (form_of keyword).means values
  pub spelling : bytes ≡ joined (text_of keyword) (spellings (form_of keyword).kinds values)

-- the piece spells a value of its kind
abbrev pub IsOfKind : Kind → List ℕ → Type 0
IsOfKind k piece = (v : Value k) × Fits k v × (piece ≡ spelled k v)

abbrev pub misfit : Kind → ℕ → LineError
misfit OfNumber at = Number at
misfit _ at = Word at

-- The first fault from the left of these pieces, where pieces of these kinds are expected. The first of them is at this offset.
abbrev pub IsFault : List Kind → ℕ → List (List ℕ) → LineError → Type 0
IsFault [] at [] fault = ⊥
IsFault [] at (piece ∷ others) fault = fault ≡ Long at
IsFault (k ∷ kinds) at [] fault = fault ≡ Short
IsFault (k ∷ kinds) at (piece ∷ others) fault =
    ((¬ IsOfKind k piece) × (fault ≡ misfit k at)) ⊎ (IsOfKind k piece × IsFault kinds (at + length piece + 1) others fault)

abbrev pub IsNoKeyword : List ℕ → Type 0
IsNoKeyword piece = (k : Keyword) → piece ≢ text_of k

-- the first piece is no keyword, or it is one whose form the others do not have
abbrev pub IsPiecesFault : List (List ℕ) → LineError → Type 0
IsPiecesFault [] fault = ⊥
IsPiecesFault (first ∷ others) fault =
    (IsNoKeyword first × (fault ≡ Word 0)) ⊎ ((k : Keyword) × (first ≡ text_of k) × IsFault (form_of k).kinds (length first + 1) others fault)

-- the leftmost fault of a line
abbrev pub LineFault : List ℕ → LineError → Type 0
LineFault bytes fault = IsPiecesFault (pieces_of bytes) fault

-- A line is cut into pieces at each space. This project's own.
use Rattle.std.specs.Prelude.{ℕ, List, [], ◌∷◌, ◌++◌, ◌==◌, if◌then◌else◌}

-- pieces with a space between each two
abbrev pub joined : List ℕ → List (List ℕ) → List ℕ
joined first [] = first
joined first (piece ∷ others) = joined (first ++ 32 ∷ piece) others

abbrev pub onto_first : ℕ → List (List ℕ) → List (List ℕ)
onto_first b [] = (b ∷ []) ∷ []
onto_first b (piece ∷ others) = (b ∷ piece) ∷ others

-- the pieces of a line: one more than it has spaces
abbrev pub pieces_of : List ℕ → List (List ℕ)
pieces_of [] = [] ∷ []
pieces_of (b ∷ bytes) = if b == 32 then [] ∷ pieces_of bytes else onto_first b (pieces_of bytes)

-- the pieces that are left, where what is left of the line is nothing, or a space and more
abbrev pub pieces_left : List ℕ → List (List ℕ)
pieces_left [] = []
pieces_left (b ∷ bytes) = pieces_of bytes

-- where reading stands: the offset of the next piece, and the pieces from there on
pub record Place : Type 0 where
  pub at : ℕ
  pub pieces : List (List ℕ)

abbrev pub place_at : ℕ → List ℕ → Place
place_at at rest = record { at = at; pieces = pieces_left rest }

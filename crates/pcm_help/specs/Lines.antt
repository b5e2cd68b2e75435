-- Bytes as lines that end in line feeds. This project's own.
use Rattle.std.specs.Prelude.{◌≡◌, ◌<◌, ℕ, ◌+◌, ◌==◌, Bool, List, [], ◌∷◌, count_by, length, take, drop}

-- how often a byte stands among the bytes
abbrev pub count_of : ℕ → List ℕ → ℕ
count_of c bytes = count_by (λ b. b == c) bytes

-- how many line feeds the bytes have
abbrev pub feeds_in : List ℕ → ℕ
feeds_in bytes = count_of 10 bytes

-- a line begins behind these bytes, where one begins before them if the first word says so
abbrev pub begins_after : Bool → List ℕ → Bool
begins_after begins [] = begins
begins_after begins (b ∷ bytes) = begins_after (b == 10) bytes

-- nothing, or a line feed and more
abbrev pub IsLineEnd : List ℕ → Type 0
IsLineEnd [] = Unit {0}
IsLineEnd (b ∷ bytes) = b ≡ 10

-- the byte stands at this place, and at none before it
pub record IsFirstAt (c : ℕ) (bytes : List ℕ) (at : ℕ) : Type 0 where
  pub inside : at < length bytes
  pub plain : count_of c (take at bytes) ≡ 0
  pub here : drop at bytes ≡ c ∷ drop (at + 1) bytes

-- The lines that a script passes over. This project's own.
use Rattle.std.specs.Prelude.{◌≡◌, ℕ, List, [], ◌∷◌}

-- nothing, or a remark: it begins with "#"
abbrev pub IsEmptyOrRemark : List ℕ → Type 0
IsEmptyOrRemark [] = Unit {0}
IsEmptyOrRemark (b ∷ others) = b ≡ 35

-- version 2 of the language alone has empty lines and remarks
pub record IsSkipped (version : ℕ) (bytes : List ℕ) : Type 0 where
  pub second : version ≡ 2
  pub blank : IsEmptyOrRemark bytes

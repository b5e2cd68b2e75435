-- What was written of a text, to a sink that tells its bytes. This project's own.
use Rattle.std.specs.Prelude.{◌≡◌, ℕ, List, ◌++◌}
use Rattle.std.specs.declared.option.Option.{Option}
use Rattle.std.specs.Io.KnownBytes.{Appends}

-- so much of the text was written, and the rest is left
pub record IsCutInto (before now : Option (List ℕ)) (whole rest : List ℕ) : Type 0 where
  pub front : List ℕ
  pub written : Appends before now front
  pub cut : whole ≡ front ++ rest

-- a front of the text was written
pub record IsFrontWritten (before now : Option (List ℕ)) (whole : List ℕ) : Type 0 where
  pub rest : List ℕ
  pub front : IsCutInto before now whole rest

-- Text that grows at its end.
use Rattle.std.specs.Prelude.{◌≡◌, ℕ, List, length, take}

-- what stood there stands in front of what was added
abbrev pub KeepsFront : List ℕ → List ℕ → Type 0
KeepsFront old new = take (length old) new ≡ old

-- Frames that all have so many bytes.
use Rattle.std.specs.Prelude.{◌≡◌, ℕ, List, [], ◌∷◌, length}
use Rattle.pcm_base.specs.model.Frame.{Frame}
use Rattle.pcm_base.specs.model.Standing.{Put}

-- each of these frames has w bytes
abbrev pub AreWide : ℕ → List Frame → Type 0
AreWide w [] = Unit {0}
AreWide w (f ∷ fs) = (length f ≡ w) × AreWide w fs

-- each frame that was put has w bytes
abbrev pub PutsAreWide : ℕ → List Put → Type 0
PutsAreWide w [] = Unit {0}
PutsAreWide w (q ∷ qs) = (length q.frame ≡ w) × PutsAreWide w qs

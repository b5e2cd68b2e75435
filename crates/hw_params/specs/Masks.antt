-- Masks of accesses and formats.
use Rattle.std.specs.Prelude.{◌≡◌, ℕ, ◌≤◌, ◌↔◌}
use Rattle.pcm_base.specs.declared.format.Access.{Access}
use Rattle.pcm_base.specs.declared.format.Format.{Format}
use Rattle.pcm_base.specs.Numbers.{access_number, format_number, sample_bytes}
use Rattle.hw_params.specs.Hull.{HasBit}

-- no format of the mask is narrower
abbrev pub IsNarrowestOf : ℕ → Format → Type 0
IsNarrowestOf mask f = (g : Format) → HasBit mask (format_number g) → sample_bytes f ≤ sample_bytes g

-- the part of a mask that is accesses
abbrev pub AreAccessesOf : ℕ → ℕ → Type 0
AreAccessesOf mask part = (i : ℕ) → HasBit part i ↔ ((a : Access) × HasBit mask i × (access_number a ≡ i))

-- the part of a mask that is formats of at most this width
abbrev pub AreFormatsOf : ℕ → ℕ → ℕ → Type 0
AreFormatsOf mask width part =
    (i : ℕ) → HasBit part i ↔ ((f : Format) × HasBit mask i × (format_number f ≡ i) × (sample_bytes f ≤ width))

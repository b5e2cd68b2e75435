-- Hex read from the front of bytes, by pairs of digits.
use Rattle.std.specs.Prelude.{ℕ, ◌+◌, ◌*◌, List, [], ◌∷◌, Bool, true, ◌==◌, if◌then◌else◌}
use Rattle.std.specs.declared.option.Option.{Option}
use Rattle.std.specs.declared.option.Option.TheVariants.{Some, None}
use Rattle.pcm_line.specs.Reading.{hex_value}

abbrev pub or_sixteen : Option ℕ → ℕ
or_sixteen None = 16
or_sixteen (Some v) = v

-- the value of a digit, or 16
abbrev pub digit_or_sixteen : ℕ → ℕ
digit_or_sixteen b = or_sixteen (hex_value b)

abbrev pub pair_then : Option ℕ → Option ℕ → List ℕ → List ℕ × List ℕ → List ℕ × List ℕ
pair_then None low here more = ([], here)
pair_then (Some high) None here more = ([], here)
pair_then (Some high) (Some low) here more = ((16 * high + low) ∷ more.0, more.1)

-- the bytes of the pairs of digits at the front, and what follows them
abbrev pub pairs_in_front : List ℕ → List ℕ × List ℕ
pairs_in_front [] = ([], [])
pairs_in_front (a ∷ []) = ([], a ∷ [])
pairs_in_front (a ∷ b ∷ rest) = pair_then (hex_value a) (hex_value b) (a ∷ b ∷ rest) (pairs_in_front rest)

-- a piece ends here
abbrev pub is_piece_end : List ℕ → Bool
is_piece_end [] = true
is_piece_end (b ∷ rest) = b == 32

abbrev pub some_bytes : List ℕ × List ℕ → Option (List ℕ × List ℕ)
some_bytes ([], rest) = None
some_bytes (b ∷ bytes, rest) = if is_piece_end rest then Some (b ∷ bytes, rest) else None

-- the bytes of a piece of hex, and what follows it
abbrev pub hex_in_front : List ℕ → Option (List ℕ × List ℕ)
hex_in_front [] = None
hex_in_front (b ∷ rest) = if b == 45 then (if is_piece_end rest then Some ([], rest) else None) else some_bytes (pairs_in_front (b ∷ rest))

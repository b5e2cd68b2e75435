-- How bytes are shown on a terminal. This project's own.
use Rattle.std.specs.Prelude.{ℕ, ◌==◌, ◌&&◌, nat_lt, nat_le, not, Bool, List, [], ◌∷◌, length, sum_by, flat_map, if◌then◌else◌}
use Rattle.pcm_text.specs.Hex.{hex_text}

-- it is shown as it stands: a printable byte, but for the backslash
abbrev pub is_plain : ℕ → Bool
is_plain b = nat_le 32 b && nat_lt b 127 && not (b == 92)

-- \t, \r and \\, and any other byte as \x and two digits
abbrev pub escaped : ℕ → List ℕ
escaped b =
    if b == 9 then 92 ∷ 116 ∷ []
    else (if b == 13 then 92 ∷ 114 ∷ []
    else (if b == 92 then 92 ∷ 92 ∷ []
    else 92 ∷ 120 ∷ hex_text (b ∷ [])))

-- how a byte is shown
abbrev pub shown_byte : ℕ → List ℕ
shown_byte b = if is_plain b then b ∷ [] else escaped b

abbrev pub shown : List ℕ → List ℕ
shown bytes = flat_map shown_byte bytes

-- how many columns a byte takes
abbrev pub width : ℕ → ℕ
width b = length (shown_byte b)

abbrev pub columns : List ℕ → ℕ
columns bytes = sum_by width bytes

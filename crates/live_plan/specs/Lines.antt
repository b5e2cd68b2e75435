-- The lines of a plan's bytes, the places of their pieces, and the limits. This project's own.
use Rattle.std.specs.Prelude.{ℕ, zero, suc, ◌+◌, Bool, false, List, [], ◌∷◌, length, take, nat_lt, if◌then◌else◌, ◌==◌}
use Rattle.std.specs.List.{onto_first}

-- the most lines and the most bytes of a plan, and the most beats over all
abbrev pub line_limit : ℕ
line_limit = 65536

abbrev pub byte_limit : ℕ
byte_limit = 4194304

abbrev pub beat_limit : ℕ
beat_limit = 1048576

-- cut at each line feed; a last line without one is a line, and what follows a final line feed is none
abbrev pub lines_of : List ℕ → List (List ℕ)
lines_of [] = []
lines_of (b ∷ bs) = if b == 10 then [] ∷ lines_of bs else onto_first b (lines_of bs)

-- the front of a plan that is read: one byte past the limit, if there are so many
abbrev pub front_of : List ℕ → List ℕ
front_of bytes = take (byte_limit + 1) bytes

-- the lines that are read; where there is a byte past the limit, it ends or stands in the last of them
abbrev pub plan_lines : List ℕ → List (List ℕ)
plan_lines bytes = lines_of (front_of bytes)

abbrev pub is_over : List ℕ → Bool
is_over bytes = nat_lt byte_limit (length (front_of bytes))

-- it is the line with the byte past the limit, where these follow
abbrev pub is_last : Bool → List (List ℕ) → Bool
is_last over [] = over
is_last over (line ∷ lines) = false

-- the offset of a piece of a line, before which there are so many: it begins behind that many spaces
abbrev pub piece_at : List ℕ → ℕ → ℕ
piece_at bytes zero = 0
piece_at [] (suc n) = 0
piece_at (b ∷ bytes) (suc n) = 1 + (if b == 32 then piece_at bytes n else piece_at bytes (suc n))

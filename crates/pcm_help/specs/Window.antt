-- Which bytes of a line are shown, and where the mark stands. This project's own.
use Rattle.std.specs.Prelude.{◌≡◌, ◌≤◌, ◌<◌, ℕ, ◌+◌, Bool, List, [], ◌∷◌, ◌++◌, length, slice_range, replicate, max, min, nat_lt, if◌then◌else◌, codes}
use Rattle.pcm_help.specs.Shown.{columns, shown}
use Rattle.pcm_help.specs.declared.window.Window.{Window}

-- These bytes of the line are shown: they take 72 columns at most, the whole line is shown where it takes no more, and the piece that begins at this offset is among them, or the end of the line where none does.
pub record IsWindow (line : List ℕ) (at : ℕ) (w : Window) : Type 0 where
  pub before : w.from ≤ at
  pub behind : at ≤ w.to
  pub within : w.to ≤ length line
  pub piece : at < length line → at < w.to
  pub few : columns (slice_range line w.from w.to) ≤ 72
  pub whole : columns line ≤ 72 → (w.from ≡ 0) × (w.to ≡ length line)

-- three dots stand for what is not shown
abbrev pub dots_if : Bool → List ℕ
dots_if more = if more then codes "..." else []

-- the bytes of the line that are shown, as a line
abbrev pub shown_line : List ℕ → Window → List ℕ
shown_line line w = codes "    " ++ dots_if (nat_lt 0 w.from) ++ shown (slice_range line w.from w.to) ++ dots_if (nat_lt w.to (length line)) ++ 10 ∷ []

-- what stands before them: four columns, and the dots
abbrev pub lead_of : Window → ℕ
lead_of w = 4 + length (dots_if (nat_lt 0 w.from))

-- the mark under the piece from one offset to another, as a line: a column for each that the piece takes, and one at least
abbrev pub mark_line : List ℕ → Window → ℕ → ℕ → List ℕ
mark_line line w at end =
    replicate (lead_of w + columns (slice_range line w.from at)) 32 ++ replicate (max (columns (slice_range line at (min end w.to))) 1) 94 ++ 10 ∷ []

-- the bytes shown, and below them the mark
abbrev pub pointed : List ℕ → Window → ℕ → ℕ → List ℕ
pointed line w at end = shown_line line w ++ mark_line line w at end

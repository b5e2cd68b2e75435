-- How much of a log a pass has seen. This project's own.
use Rattle.std.specs.Prelude.{◌≡◌, ℕ, nat_eq, ◌+◌, max, if◌then◌else◌, List, [], ◌∷◌, get_or}
use Rattle.floor_rule.specs.declared.rule.PassKnows.{PassKnows}
use Rattle.floor_rule.specs.declared.rule.Reading.{Reading}

-- the greatest count of the page words of this substream; 0 where there is none
abbrev pub most_read : ℕ → List Reading → ℕ
most_read sub [] = 0
most_read sub (r ∷ rs) = if nat_eq r.sub sub then max r.count (most_read sub rs) else most_read sub rs

-- the greatest index + 1 of the receipts in the log of this substream; 0 where there is none
abbrev pub most_answered : ℕ → List (ℕ × ℕ) → ℕ
most_answered sub [] = 0
most_answered sub (r ∷ rs) = if nat_eq r.0 sub then max (r.1 + 1) (most_answered sub rs) else most_answered sub rs

-- the greater of the two
abbrev pub seen_of : ℕ → PassKnows → ℕ
seen_of sub p = max (most_read sub p.reads) (most_answered sub p.receipts)

-- the table has at each substream how much the pass has seen of its log
abbrev pub Remembers : List ℕ → PassKnows → Type 0
Remembers table p = (sub : ℕ) → get_or table sub 0 ≡ seen_of sub p

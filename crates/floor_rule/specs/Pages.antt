-- What a page word says of a log. This project's own.
use Rattle.std.specs.Prelude.{◌≡◌, ℕ, zero, suc, ◌+◌, ◌*◌, ◌^◌, ◌<◌, ◌≤◌, List, [], ◌∷◌, length}
use Rattle.pcm_base.specs.Numbers.{state_number}
use Rattle.pcm_base.specs.declared.state.State.TheVariants as state
use Rattle.floor_rule.specs.declared.rule.Marked.{Marked}
use Rattle.floor_rule.specs.declared.rule.Reading.{Reading}
use Rattle.floor_rule.specs.Marks.{Shown, shown_of}

-- 24 bits for the count of entries, 4 for the state, 36 for the hardware position
abbrev pub page_word : ℕ → Shown → ℕ
page_word k s = k * 1099511627776 + state_number s.state * 68719476736 + s.hw

-- before any entry
abbrev pub closed : Shown
closed = record { state = state.Closed; hw = 0 }

-- what is shown after k entries of a log, where it was `first` before them
abbrev pub shown_at : Shown → List Marked → ℕ → Shown
shown_at first log zero = first
shown_at first [] (suc k) = first
shown_at first (e ∷ es) (suc k) = shown_at (shown_of e.mark) es k

-- the page of the first k entries of a log
abbrev pub pack_at : List Marked → ℕ → ℕ
pack_at log k = page_word k (shown_at closed log k)

-- it is the page word of some parts that fit
abbrev pub IsPageWord : ℕ → Type 0
IsPageWord word = (count : ℕ) × (shown : Shown) × (count < 2 ^ 24) × (shown.hw < 2 ^ 36) × (word ≡ page_word count shown)

-- the hardware positions of a log fit a page word
abbrev pub AllLow : List Marked → Type 0
AllLow [] = Unit {0}
AllLow (e ∷ es) = ((shown_of e.mark).hw < 2 ^ 36) × AllLow es

-- the page word that was read is that of a log's first entries
abbrev pub IsPageOf : List Marked → Reading → Type 0
IsPageOf log r = (r.count ≤ length log) × (r.word ≡ pack_at log r.count)

abbrev pub AllRead : (ℕ → List Marked) → List Reading → Type 0
AllRead logs [] = Unit {0}
AllRead logs (r ∷ rs) = IsPageOf (logs r.sub) r × AllRead logs rs

-- the same of the pages of one substream
abbrev pub AllReadOf : ℕ → List Marked → List Reading → Type 0
AllReadOf sub log [] = Unit {0}
AllReadOf sub log (r ∷ rs) = (r.sub ≡ sub → IsPageOf log r) × AllReadOf sub log rs

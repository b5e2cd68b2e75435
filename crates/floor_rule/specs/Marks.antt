-- The marks of entries: what a page shows after an entry, and whose call it comes from. This project's own.
use Rattle.std.specs.Prelude.{◌≡◌, ℕ, Bool, true, false, not, ◌&&◌, ◌||◌, nat_eq, List, [], ◌∷◌, ◌++◌}
use Rattle.pcm_base.specs.declared.state.State.{State}
use Rattle.floor_rule.specs.declared.entry.EntryMark.{EntryMark}
use Rattle.floor_rule.specs.declared.entry.EntryMark.TheVariants as mark
use Rattle.floor_rule.specs.declared.rule.Marked.{Marked}

-- what a page shows beside the count: the state and the shown hardware position
pub record Shown : Type 0 where
  pub state : State
  pub hw : ℕ

abbrev pub shown_of : EntryMark → Shown
shown_of (mark.Called state hw caller number count) = record { state = state; hw = hw }
shown_of (mark.Caused state hw sub place) = record { state = state; hw = hw }

-- the count of bytes that the caller of an entry handed in
abbrev pub count_of : EntryMark → ℕ
count_of (mark.Called state hw caller number count) = count
count_of (mark.Caused state hw sub place) = 0

-- the mark is that of call `number` of this caller
abbrev pub is_call : ℕ → ℕ → EntryMark → Bool
is_call caller number (mark.Called state hw c n count) = nat_eq c caller && nat_eq n number
is_call caller number (mark.Caused state hw sub place) = false

abbrev pub has_call : ℕ → ℕ → List Marked → Bool
has_call caller number [] = false
has_call caller number (e ∷ es) = is_call caller number e.mark || has_call caller number es

-- the log has no entry of the mark's call
abbrev pub is_new : EntryMark → List Marked → Bool
is_new (mark.Called state hw caller number count) log = not (has_call caller number log)
is_new (mark.Caused state hw sub place) log = true

-- no call has two entries: that of each of these is new to those before it
abbrev pub IsOnce : List Marked → List Marked → Type 0
IsOnce before [] = Unit {0}
IsOnce before (e ∷ es) = (is_new e.mark before ≡ true) × IsOnce (before ++ e ∷ []) es

-- What the lists that a seat holds say together. This project's own.
use Rattle.std.specs.Prelude.{◌≡◌, ℕ, true, List, [], ◌∷◌, ◌++◌, ◌<◌, length, slice_get, Some}
use mathlib.Core.List.{IsPrefix}
use Rattle.floor_rule.specs.declared.rule.Marked.{Marked}
use Rattle.floor_rule.specs.declared.rule.Made.{Made}
use Rattle.floor_rule.specs.Causes.{AllOwn, Tells}
use Rattle.floor_rule.specs.Lists.{Agree, AllOf, Stands, longest}
use Rattle.floor_rule.specs.Rule.{Among, Distinct}
use Rattle.floor_rule.specs.Steps.{AllBelow}
use Rattle.floor_rule.specs.Marks.{IsOnce, count_of, is_call}

-- where each list of a log is a beginning of it, the log itself is the longest
abbrev pub WholeLogIsLongest : Type 0
WholeLogIsLongest = (j : ℕ) (log : List Marked) (ps : List (ℕ × List Marked)) → AllOf j (λ l. IsPrefix l log) ps → longest j ((j, log) ∷ ps) ≡ log

-- where the lists of a log are beginnings of it, so are some of them, those of two, and all of them once the log has grown

abbrev pub SomeOfThem : Type 0
SomeOfThem = (j : ℕ) (log : List Marked) (ps qs : List (ℕ × List Marked)) → AllOf j (λ l. IsPrefix l log) (ps ++ qs) → AllOf j (λ l. IsPrefix l log) ps

abbrev pub BothOfThem : Type 0
BothOfThem = (j : ℕ) (log : List Marked) (ps qs : List (ℕ × List Marked)) → AllOf j (λ l. IsPrefix l log) ps → AllOf j (λ l. IsPrefix l log) qs → AllOf j (λ l. IsPrefix l log) (ps ++ qs)

abbrev pub LogGoesOn : Type 0
LogGoesOn = (j : ℕ) (log more : List Marked) (ps : List (ℕ × List Marked)) → AllOf j (λ l. IsPrefix l log) ps → AllOf j (λ l. IsPrefix l (log ++ more)) ps

-- lists that agree go on from those that were held before
abbrev pub TellingGoesOn : Type 0
TellingGoesOn = (j : ℕ) (ps qs : List (ℕ × List Marked)) → Agree (ps ++ qs) → IsPrefix (longest j qs) (longest j (ps ++ qs))

-- what stands in one of the lists stands in the longest
abbrev pub LongestHasAll : Type 0
LongestHasAll = (j i : ℕ) (e : Marked) (ps : List (ℕ × List Marked)) → Agree ps → Stands ps j i e → slice_get (longest j ps) i ≡ Some e

-- where the lists of a log are beginnings of it, what stands in one of them stands in the log
abbrev pub StandsInLog : Type 0
StandsInLog = (j i : ℕ) (e : Marked) (log : List Marked) (ps : List (ℕ × List Marked)) → AllOf j (λ l. IsPrefix l log) ps → Stands ps j i e → slice_get log i ≡ Some e

-- an entry of a call of this caller, in a list of which it knows its own, is that of its call of this number
abbrev pub OwnEntriesAreCalls : Type 0
OwnEntriesAreCalls = (caller : ℕ) (calls : List Made) (j i number : ℕ) (e : Marked) (ps : List (ℕ × List Marked)) → AllOwn caller calls ps → Stands ps j i e → is_call caller number e.mark ≡ true
    → (c : Made) × (slice_get calls number ≡ Some c) × (c.count ≡ count_of e.mark) × Tells j e.entry c.event

-- what stands in a list that is held stands there when more are
abbrev pub StandingStays : Type 0
StandingStays = (j i : ℕ) (e : Marked) (ps qs : List (ℕ × List Marked)) → Stands qs j i e → Stands (ps ++ qs) j i e

-- two entries of one call stand at one place
abbrev pub CallsStandOnce : Type 0
CallsStandOnce = (log : List Marked) (caller number i k : ℕ) (d e : Marked) → IsOnce [] log
    → slice_get log i ≡ Some d → is_call caller number d.mark ≡ true → slice_get log k ≡ Some e → is_call caller number e.mark ≡ true → i ≡ k

-- a roll of as many recs as there are, none twice, has each of them
abbrev pub RollIsWhole : Type 0
RollIsWhole = (n : ℕ) (js : List ℕ) → Distinct js → AllBelow n js → length js ≡ n → (j : ℕ) → j < n → Among j js

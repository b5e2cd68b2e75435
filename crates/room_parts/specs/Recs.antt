-- What a contract sees of a rec. This project's own.
use Rattle.std.specs.Prelude.{ℕ, ◌<◌, List, [], ◌∷◌, map}
use Rattle.pcm_base.specs.declared.ids.SubId.{SubId}
use Rattle.floor_rule.specs.declared.entry.Entry.{Entry}
use Rattle.floor_rule.specs.declared.entry.EntryMark.{EntryMark}
use Rattle.floor_rule.specs.declared.entry.EntryMark.TheVariants as mark
use Rattle.floor_rule.specs.declared.rule.Made.{Made}
use Rattle.floor_rule.specs.declared.rule.Marked.{Marked}
use Rattle.floor_rule.specs.declared.rule.RecKnows.{RecKnows}
use Rattle.floor_rule.specs.Causes.{IsBacked}
use Rattle.floor_rule.specs.Lists.{Stands}

-- what the seat knows, and for how many more entries there is memory
pub record RecView : Type 0 where
  pub knows : RecKnows
  pub spare : ℕ

-- the substream of a rec
abbrev pub sub_of : RecView → SubId
sub_of r = record { 0 = r.knows.sub }

abbrev pub subs_of : List RecView → List SubId
subs_of rs = map sub_of rs

-- a log without its marks
abbrev pub entries_of : List Marked → List Entry
entries_of log = map (λ (m : Marked). m.entry) log

-- the cause of an entry stands in the log of one of so many cards
abbrev pub IsOfCard : ℕ → EntryMark → Type 0
IsOfCard cards (mark.Called state hw caller number count) = Unit {0}
IsOfCard cards (mark.Caused state hw sub place) = sub.0 < cards

-- the entries of log j come from these calls, or from entries of these logs of cards
abbrev pub AllFrom : ℕ → List (ℕ × List Marked) → List (ℕ × List Made) → ℕ → List Marked → Type 0
AllFrom cards logs calls j [] = Unit {0}
AllFrom cards logs calls j (e ∷ es) = IsBacked (Stands logs) (Stands calls) j e.entry e.mark × IsOfCard cards e.mark × AllFrom cards logs calls j es

-- each entry of the log comes from a call that the rec was told of, or from an entry of its log or of one that it was told of, which is that of a card
abbrev pub IsBackedByItself : ℕ → RecKnows → Type 0
IsBackedByItself cards r = AllFrom cards ((r.sub, r.log) ∷ r.held.logs) r.held.calls r.sub r.log

-- What the logs and the passes of a floor at rest tell each other. This project's own.
use Rattle.std.specs.Prelude.{◌≡◌, ℕ, ◌<◌, List, [], ◌∷◌, slice_get}
use Rattle.std.specs.declared.option.Option.TheVariants.{Some}
use mathlib.Core.List.{IsPrefix}
use Rattle.pcm_base.specs.declared.call.Event.{Event}
use Rattle.floor_rule.specs.declared.entry.Entry.{Entry}
use Rattle.floor_rule.specs.declared.entry.EntryMark.{EntryMark}
use Rattle.floor_rule.specs.declared.entry.EntryMark.TheVariants as mark
use Rattle.floor_rule.specs.declared.rule.Lists.{Lists}
use Rattle.floor_rule.specs.declared.rule.Made.{Made}
use Rattle.floor_rule.specs.declared.rule.Marked.{Marked}
use Rattle.floor_rule.specs.Causes.{AllOwnIn, Causes, Tells}
use Rattle.floor_rule.specs.Lists.{AllOf}
use Rattle.floor_rule.specs.Marks.{IsOnce}
use Rattle.floor_rule.specs.Pages.{AllReadOf}
use Rattle.floor_rule.specs.Steps.{told_by_pass}
use Rattle.room_parts.specs.Passes.{PassStands, PassView}
use Rattle.room_parts.specs.Recs.{AllFrom}

-- a fact of the one at a place, and of each

abbrev pub HoldsAt : {A : Type 0} → (A → Type 0) → ℕ → List A → Type 0
HoldsAt {A} P i xs = (a : A) → slice_get xs i ≡ Some a → P a

abbrev pub Each : {A : Type 0} → (A → Type 0) → List A → Type 0
Each P xs = (i : ℕ) → HoldsAt P i xs

-- These lists have the log among them, and what backs each of its entries.
pub record IsTold (cards : ℕ) (l : ℕ × List Marked) (told : Lists) : Type 0 where
  pub rest : List (ℕ × List Marked)
  pub logs : told.logs ≡ l ∷ rest
  pub from : AllFrom cards told.logs told.calls l.0 l.1

-- The log agrees with these lists: those of it are beginnings of it, its pages that were read are pages of it, and no call has two entries in it.
pub record Agrees (told : Lists) (l : ℕ × List Marked) : Type 0 where
  pub lists : AllOf l.0 (λ log. IsPrefix log l.1) told.logs
  pub pages : AllReadOf l.0 l.1 told.reads
  pub once : IsOnce [] l.1

-- each entry of this caller's in the log is that of one of these calls
abbrev pub OwnsIn : ℕ → List Made → ℕ × List Marked → Type 0
OwnsIn number calls l = AllOwnIn number calls l.0 l.1

-- The logs agree with all that a pass knows, and it knows whose entries they have.
pub record IsMet (cards : ℕ) (ls : List (ℕ × List Marked)) (p : PassView) : Type 0 where
  pub stands : PassStands cards p.caller p.busy p.knows
  pub agree : Each (Agrees (told_by_pass p.knows)) ls
  pub own : Each (OwnsIn p.knows.number p.knows.calls) ls

-- the entry of log j tells of a call; or its cause is in the log of a card, and is found in l where that is the one
abbrev pub IsFound : ℕ → ℕ → Entry → EntryMark → ℕ × List Marked → Type 0
IsFound cards j e (mark.Called state hw caller number count) l = (event : Event) × Tells j e event
IsFound cards j e (mark.Caused state hw sub place) l = (sub.0 < cards) × (sub.0 ≡ l.0 → (c : Marked) × (slice_get l.1 place ≡ Some c) × Causes c.entry e)

-- the same of each entry of the log k
abbrev pub IsFoundIn : ℕ → ℕ × List Marked → ℕ × List Marked → Type 0
IsFoundIn cards k l = Each (λ (e : Marked). IsFound cards k.0 e.entry e.mark l) k.1

-- Why an entry stands in a log: a call of a pass, or an entry of a log. This project's own.
use Rattle.std.specs.Prelude.{◌≡◌, ◌⊎◌, ℕ, suc, true, false, List, [], ◌∷◌, slice_get}
use Rattle.std.specs.declared.option.Option.TheVariants.{Some}
use Rattle.pcm_base.specs.declared.call.Call.TheVariants as call
use Rattle.pcm_base.specs.declared.call.Event.{Event}
use Rattle.pcm_base.specs.declared.reply.Reply.TheVariants as reply
use Rattle.floor_rule.specs.declared.entry.Entry.{Entry}
use Rattle.floor_rule.specs.declared.entry.Entry.TheVariants as entry
use Rattle.floor_rule.specs.declared.entry.EntryMark.{EntryMark}
use Rattle.floor_rule.specs.declared.entry.EntryMark.TheVariants as mark
use Rattle.floor_rule.specs.declared.entry.Joint.{Joint}
use Rattle.floor_rule.specs.declared.rule.Made.{Made}
use Rattle.floor_rule.specs.declared.rule.Marked.{Marked}
use Rattle.floor_rule.specs.Marks.{has_call, is_call}

-- the two are parts of one act
abbrev pub IsOneAct : Joint → Joint → Type 0
IsOneAct i j = (i.act ≡ j.act) × (i.room ≡ j.room) × (i.serial ≡ j.serial) × (i.outcome ≡ j.outcome)

-- among these joints is one of the act of j
abbrev pub HasJoint : List Joint → Joint → Type 0
HasJoint [] j = ⊥
HasJoint (i ∷ is) j = IsOneAct i j ⊎ HasJoint is j

-- Causes c e: the entry e of another log, or of this one, comes from c. A joint comes from the event that made the act, a move from a link or an unlink that was answered Ok.
abbrev pub Causes : Entry → Entry → Type 0
Causes (entry.Own event bytes joints r s) (entry.Shared j) = HasJoint joints j
Causes (entry.Own event bytes joints r s) (entry.Moved room) = (event.call ≡ call.Unlink) × (r ≡ reply.Ok)
Causes (entry.Linkage client first second s t linked r) (entry.Moved room) = r ≡ reply.Ok
Causes c e = ⊥

-- Tells j e event: the entry e of log j tells of this event. A link stands in the logs of both that it names.
abbrev pub Tells : ℕ → Entry → Event → Type 0
Tells j (entry.Own event bytes joints r s) made = (made ≡ event) × (event.sub.0 ≡ j)
Tells j (entry.Linkage client first second s t linked r) made = (made ≡ record { client = Some client; sub = first; call = call.Link second }) × ((first.0 ≡ j) ⊎ (second.0 ≡ j))
Tells j e made = ⊥

-- IsBacked stands made j e m: the entry e of log j with the mark m comes from a call, or from an entry. Here `stands` says which entries stand in which logs, and `made` which calls which caller has made.
abbrev pub IsBacked : (ℕ → ℕ → Marked → Type 0) → (ℕ → ℕ → Made → Type 0) → ℕ → Entry → EntryMark → Type 0
IsBacked stands made j e (mark.Called state hw caller number count) = (c : Made) × made caller number c × (c.count ≡ count) × Tells j e c.event
IsBacked stands made j e (mark.Caused state hw sub place) = (c : Marked) × stands sub.0 place c × Causes c.entry e

-- an element of a list of lists
abbrev pub At : {A : Type 0} → (ℕ → List A) → ℕ → ℕ → A → Type 0
At f j i a = slice_get (f j) i ≡ Some a

-- the entries of log j are backed by these logs and calls
abbrev pub AllBacked : (ℕ → List Marked) → (ℕ → List Made) → ℕ → List Marked → Type 0
AllBacked logs calls j [] = Unit {0}
AllBacked logs calls j (e ∷ es) = IsBacked (At logs) (At calls) j e.entry e.mark × AllBacked logs calls j es

-- IsOwn number calls j e m: where the entry e of log j comes from a call of this caller, that call is among its calls
abbrev pub IsOwn : ℕ → List Made → ℕ → Entry → EntryMark → Type 0
IsOwn number calls j e (mark.Called state hw caller n count) = caller ≡ number → (c : Made) × (slice_get calls n ≡ Some c) × (c.count ≡ count) × Tells j e c.event
IsOwn number calls j e (mark.Caused state hw sub place) = Unit {0}

abbrev pub AllOwnIn : ℕ → List Made → ℕ → List Marked → Type 0
AllOwnIn number calls j [] = Unit {0}
AllOwnIn number calls j (e ∷ es) = IsOwn number calls j e.entry e.mark × AllOwnIn number calls j es

-- the same of the entries of several logs
abbrev pub AllOwn : ℕ → List Made → List (ℕ × List Marked) → Type 0
AllOwn number calls [] = Unit {0}
AllOwn number calls (p ∷ ps) = AllOwnIn number calls p.0 p.1 × AllOwn number calls ps

-- none of these lists has an entry of this call
abbrev pub NoneHas : ℕ → ℕ → List (ℕ × List Marked) → Type 0
NoneHas caller number [] = Unit {0}
NoneHas caller number (p ∷ ps) = (has_call caller number p.1 ≡ false) × NoneHas caller number ps

-- AllReceived logs number k receipts: the calls from k on have their entries at these receipts, each a substream and a place in its log
abbrev pub AllReceived : (ℕ → List Marked) → ℕ → ℕ → List (ℕ × ℕ) → Type 0
AllReceived logs number k [] = Unit {0}
AllReceived logs number k (r ∷ rs) = ((e : Marked) × (slice_get (logs r.0) r.1 ≡ Some e) × (is_call number k e.mark ≡ true)) × AllReceived logs number (suc k) rs

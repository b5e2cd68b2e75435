-- The steps: the view of a seat afterwards, and what each tells its caller. This project's own.
use Rattle.std.specs.Prelude.{◌≡◌, ℕ, ◌+◌, ◌<◌, ◌≤◌, ◌^◌, List, [], ◌∷◌, ◌++◌, length}
use Rattle.std.specs.declared.option.Option.TheVariants.{None}
use mathlib.Core.List.{IsPrefix}
use Rattle.atomic_table.specs.Table.{Me, Step}
use Rattle.pcm_base.specs.declared.call.Call.TheVariants as call
use Rattle.pcm_base.specs.declared.state.State.TheVariants as state
use Rattle.floor_rule.specs.declared.entry.Entry.TheVariants as entry
use Rattle.floor_rule.specs.declared.entry.EntryMark.TheVariants as mark
use Rattle.floor_rule.specs.declared.rule.Lists.{Lists}
use Rattle.floor_rule.specs.declared.rule.Made.{Made}
use Rattle.floor_rule.specs.declared.rule.Marked.{Marked}
use Rattle.floor_rule.specs.declared.rule.PassKnows.{PassKnows}
use Rattle.floor_rule.specs.declared.rule.Reading.{Reading}
use Rattle.floor_rule.specs.declared.rule.RecKnows.{RecKnows}
use Rattle.floor_rule.specs.declared.rule.View.{View}
use Rattle.floor_rule.specs.declared.rule.View.TheVariants.{Maker, Rec, Pass, Note}
use Rattle.floor_rule.specs.Causes.{AllOwn, IsBacked, NoneHas}
use Rattle.floor_rule.specs.Lists.{Agree, AllOf, Stands}
use Rattle.floor_rule.specs.Marks.{IsOnce, Shown}
use Rattle.floor_rule.specs.Pages.{AllReadOf, page_word}
use Rattle.floor_rule.specs.Rule.{Distinct}
use Rattle.floor_rule.specs.Views.{both_lists, maker_of, no_lists, note_of, pass_of, rec_of}

-- one rec or one pass more, and the seat of the new one

abbrev pub one_rec_more : View → View
one_rec_more v = Maker (record (maker_of v) { recs = (maker_of v).recs + 1 })

abbrev pub next_rec : View → View
next_rec v = Rec (record { sub = (maker_of v).recs; log = []; place = (maker_of v).recs; held = no_lists })

abbrev pub one_pass_more : View → View
one_pass_more v = Maker (record (maker_of v) { passes = (maker_of v).passes + 1 })

abbrev pub next_pass : View → View
next_pass v = Pass (record { number = (maker_of v).passes; calls = []; receipts = []; reads = []; held = no_lists })

-- a rec moves

abbrev pub IsPlaced : Step (Unit {0}) → Me (Unit {0}) View → ℕ → Me (Unit {0}) View → Type 0
IsPlaced s me found after = after ≡ (Rec (record (rec_of me.0) { place = s.first }), me.1)

-- a rec's log gains an entry

abbrev pub some_entry : Marked
some_entry = record { entry = entry.Moved 0; mark = mark.Caused state.Closed 0 (record { 0 = 0 }) 0 }

-- Where the entry may come from: a call or an entry that stands in a list that the rec holds, its own log among them.
abbrev pub MayEnter : RecKnows → Marked → Type 0
MayEnter r e = IsBacked (Stands ((r.sub, r.log) ∷ r.held.logs)) (Stands r.held.calls) r.sub e.entry e.mark

abbrev pub with_entry : RecKnows → Marked → RecKnows
with_entry r e = record r { log = r.log ++ e ∷ [] }

abbrev pub IsPublished : Marked → Step (Unit {0}) → Me (Unit {0}) View → ℕ → Me (Unit {0}) View → Type 0
IsPublished e s me found after = after ≡ (Rec (with_entry (rec_of me.0) e), me.1)

-- a pass reads a page word

-- no page of this substream, no receipt in its log and no list of its log goes beyond k entries

abbrev pub NoneAbove : ℕ → ℕ → List Reading → Type 0
NoneAbove sub k [] = Unit {0}
NoneAbove sub k (r ∷ rs) = (r.sub ≡ sub → r.count ≤ k) × NoneAbove sub k rs

abbrev pub NoneBeyond : ℕ → ℕ → List (ℕ × ℕ) → Type 0
NoneBeyond sub k [] = Unit {0}
NoneBeyond sub k (r ∷ rs) = (r.0 ≡ sub → r.1 < k) × NoneBeyond sub k rs

abbrev pub NoneLonger : ℕ → ℕ → List (ℕ × List Marked) → Type 0
NoneLonger sub k ps = AllOf sub (λ log. length log ≤ k) ps

-- The page of a substream that a pass finds: so many entries, and what it shows. It is below nothing that the pass has read or was told.
pub record IsPage (sub word : ℕ) (p : PassKnows) (k : ℕ) (shown : Shown) : Type 0 where
  pub word_is : word ≡ page_word k shown
  pub short : k ≤ 16777215
  pub low : shown.hw < 2 ^ 36
  pub reads : NoneAbove sub k p.reads
  pub told : NoneAbove sub k p.held.reads
  pub receipts : NoneBeyond sub k p.receipts
  pub lists : NoneLonger sub k p.held.logs

abbrev pub with_page : PassKnows → ℕ → ℕ → ℕ → PassKnows
with_page p sub k word = record p { reads = p.reads ++ record { sub = sub; count = k; word = word } ∷ [] }

abbrev pub IsPageRead : Step (Unit {0}) → Me (Unit {0}) View → ℕ → Me (Unit {0}) View → Type 0
IsPageRead s me found after = (k : ℕ) × (shown : Shown) × IsPage s.word found (pass_of me.0) k shown × (after ≡ (Pass (with_page (pass_of me.0) s.word k found), me.1))

-- a pass reads a place word

abbrev pub IsPlaceRead : Step (Unit {0}) → Me (Unit {0}) View → ℕ → Me (Unit {0}) View → Type 0
IsPlaceRead s me found after = (found < 32) × (after ≡ me)

-- What a pass knows of its own calls: in the lists that it holds each entry of its number is one of its calls, and none is the next one. The lists of each substream are beginnings of one.
pub record KnowsOwn (p : PassKnows) : Type 0 where
  pub own : AllOwn p.number p.calls p.held.logs
  pub next : NoneHas p.number (length p.calls) p.held.logs
  pub agree : Agree p.held.logs

abbrev pub IsLookedAt : Step (Unit {0}) → Me (Unit {0}) View → ℕ → Me (Unit {0}) View → Type 0
IsLookedAt s me found after = KnowsOwn (pass_of me.0) × (after ≡ me)

-- a call begins

abbrev pub some_call : Made
some_call = record { event = record { client = None; sub = record { 0 = 0 }; call = call.Irq }; count = 0 }

abbrev pub with_call : PassKnows → Made → PassKnows
with_call p c = record p { calls = p.calls ++ c ∷ [] }

abbrev pub one_call_more : View → Made → View
one_call_more v c = Pass (with_call (pass_of v) c)

-- the note of a pass: what it holds, its own calls, and the pages that it has read
abbrev pub told_by_pass : PassKnows → Lists
told_by_pass p = record { logs = p.held.logs; calls = (p.number, p.calls) ∷ p.held.calls; reads = p.reads ++ p.held.reads }

abbrev pub call_note : View → Made → View
call_note v c = Note (told_by_pass (with_call (pass_of v) c))

-- copies

abbrev pub rec_again : View → View
rec_again v = Rec (rec_of v)

-- the note of a rec: what it holds, and its own log
abbrev pub told_by_rec : RecKnows → Lists
told_by_rec r = record r.held { logs = (r.sub, r.log) ∷ r.held.logs }

abbrev pub log_note : View → View
log_note v = Note (told_by_rec (rec_of v))

abbrev pub pass_again : View → View
pass_again v = Pass (pass_of v)

abbrev pub calls_note : View → View
calls_note v = Note (told_by_pass (pass_of v))

-- notes that are taken

-- what stands in the lists that are held stands in those that are held afterwards
pub record HoldsMore (before now : Lists) : Type 0 where
  pub logs : (j i : ℕ) (e : Marked) → Stands before.logs j i e → Stands now.logs j i e
  pub calls : (p n : ℕ) (c : Made) → Stands before.calls p n c → Stands now.calls p n c

abbrev pub rec_told : View → View → View
rec_told v n = Rec (record (rec_of v) { held = both_lists (note_of n) (rec_of v).held })

abbrev pub pass_told : View → View → View
pass_told v n = Pass (record (pass_of v) { held = both_lists (note_of n) (pass_of v).held })

-- What a rec is told at its own page word, which is that of its whole log: the lists of its substream are beginnings of the log, the pages of it that were read are pages of the log, and no call has two entries there.
pub record IsConfirmed (r : RecKnows) : Type 0 where
  pub lists : AllOf r.sub (λ log. IsPrefix log r.log) r.held.logs
  pub reads : AllReadOf r.sub r.log r.held.reads
  pub once : IsOnce [] r.log
  pub short : length r.log ≤ 16777215

abbrev pub IsRecConfirmed : Step (Unit {0}) → Me (Unit {0}) View → ℕ → Me (Unit {0}) View → Type 0
IsRecConfirmed s me found after = IsConfirmed (rec_of me.0) × (after ≡ me)

-- the last call of a pass has its receipt

abbrev pub with_receipt : PassKnows → ℕ × ℕ → PassKnows
with_receipt p r = record p { receipts = p.receipts ++ r ∷ [] }

abbrev pub IsPassConfirmed : ℕ × ℕ → Step (Unit {0}) → Me (Unit {0}) View → ℕ → Me (Unit {0}) View → Type 0
IsPassConfirmed r s me found after = KnowsOwn (pass_of me.0) × (after ≡ (Pass (with_receipt (pass_of me.0) r), me.1))

-- the maker takes in a rec, and calls its roll

abbrev pub with_roll : View → View → View
with_roll v n = Maker (record (maker_of v) { roll = (rec_of n).sub ∷ (maker_of v).roll })

abbrev pub AllBelow : ℕ → List ℕ → Type 0
AllBelow n [] = Unit {0}
AllBelow n (j ∷ js) = (j < n) × AllBelow n js

-- each of the recs is there once
abbrev pub IsRollCalled : Step (Unit {0}) → Me (Unit {0}) View → ℕ → Me (Unit {0}) View → Type 0
IsRollCalled s me found after = Distinct (maker_of me.0).roll × AllBelow (maker_of me.0).recs (maker_of me.0).roll × (after ≡ me)

-- What the pass of a call knows once the call is answered. This project's own.
use Rattle.std.specs.Prelude.{◌≡◌, ℕ, true, List, [], ◌∷◌, ◌++◌, length, slice_get}
use Rattle.std.specs.declared.option.Option.TheVariants.{Some}
use mathlib.Core.List.{IsPrefix}
use Rattle.pcm_base.specs.declared.call.Call.TheVariants as call
use Rattle.pcm_base.specs.declared.call.Event.{Event}
use Rattle.pcm_base.specs.declared.config.CardModel.{CardModel}
use Rattle.pcm_base.specs.declared.reply.Reply.{Reply}
use Rattle.pcm_base.specs.declared.state.Dir.{Dir}
use Rattle.floor_rule.specs.Lists.{longest}
use Rattle.floor_rule.specs.Marks.{count_of, is_call}
use Rattle.floor_rule.specs.Steps.{HoldsMore}
use Rattle.floor_rule.specs.declared.entry.Entry.{Entry}
use Rattle.floor_rule.specs.declared.entry.Entry.TheVariants as entry
use Rattle.floor_rule.specs.declared.rule.Marked.{Marked}
use Rattle.floor_rule.specs.declared.rule.PassKnows.{PassKnows}
use Rattle.room_book.specs.Rooms.{Plays}
use Rattle.room_parts.specs.Passes.{PassView, asleep_on}
use Rattle.room_lock.specs.declared.recording.Receipt.{Receipt}

-- the entry is that of this event, answered so
abbrev pub IsEntryOf : Event → Reply → Entry → Type 0
IsEntryOf e r (entry.Own event bytes joints answer state) = (event ≡ e) × (answer ≡ r)
IsEntryOf e r (entry.Linkage client first second s t linked answer) = (e ≡ record { client = Some client; sub = first; call = call.Link second }) × (answer ≡ r)
IsEntryOf e r _ = ⊥

-- the log of the receipt, as far as the pass was told of it
abbrev pub told_log : Receipt → PassKnows → List Marked
told_log receipt p = longest receipt.sub.0 p.held.logs

-- The entry at the receipt: it tells of this event, answered so, under the next number of the caller, with the count of bytes handed in.
pub record HasEntry (e : Event) (count : ℕ) (reply : Reply) (receipt : Receipt) (p : PassKnows) (log : List Marked) : Type 0 where
  pub entry : Marked
  pub at : slice_get log receipt.index ≡ Some entry
  pub tells : IsEntryOf e reply entry.entry
  pub call : is_call p.number (length p.calls) entry.mark ≡ true
  pub count_is : count_of entry.mark ≡ count

-- The call is the pass's next, with this receipt, and is in progress where it was answered Asleep. The pass's list of the log there plays, goes on from the one that it had, and has the call's entry at the receipt; what stood in its lists stands there still.
pub record Knows (cards : List (CardModel × Dir)) (long_max : ℕ) (e : Event) (count : ℕ) (reply : Reply) (receipt : Receipt) (p q : PassView) : Type 0 where
  pub same : (q.caller ≡ p.caller) × (q.knows.number ≡ p.knows.number) × (q.knows.reads ≡ p.knows.reads)
  pub busy : q.busy ≡ asleep_on e.sub reply
  pub calls : q.knows.calls ≡ p.knows.calls ++ record { event = e; count = count } ∷ []
  pub receipts : q.knows.receipts ≡ p.knows.receipts ++ (receipt.sub.0, receipt.index) ∷ []
  pub plays : Plays cards long_max receipt.sub (told_log receipt q.knows)
  pub onward : IsPrefix (told_log receipt p.knows) (told_log receipt q.knows)
  pub held : HoldsMore p.knows.held q.knows.held
  pub has : HasEntry e count reply receipt p.knows (told_log receipt q.knows)

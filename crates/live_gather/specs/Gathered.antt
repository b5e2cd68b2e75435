-- What is gathered of a floor at rest. This project's own.
use Rattle.std.specs.Prelude.{◌≡◌, ◌⊎◌, ℕ, ◌<◌, true, List, length, slice_get}
use Rattle.std.specs.declared.option.Option.TheVariants.{Some}
use mathlib.Core.List.{IsPrefix}
use Rattle.pcm_base.specs.declared.call.Call.TheVariants as call
use Rattle.pcm_base.specs.declared.call.Event.{Event}
use Rattle.pcm_base.specs.declared.config.CardModel.{CardModel}
use Rattle.pcm_base.specs.declared.ids.SubId.{SubId}
use Rattle.pcm_base.specs.declared.state.Dir.{Dir}
use Rattle.floor_rule.specs.Causes.{At, Causes, Tells}
use Rattle.floor_rule.specs.Lists.{AllOf}
use Rattle.floor_rule.specs.Marks.{count_of, is_call}
use Rattle.floor_rule.specs.Pages.{AllReadOf}
use Rattle.floor_rule.specs.Rule.{Among, Distinct}
use Rattle.floor_rule.specs.declared.entry.Entry.{Entry}
use Rattle.floor_rule.specs.declared.entry.EntryMark.{EntryMark}
use Rattle.floor_rule.specs.declared.entry.EntryMark.TheVariants as mark
use Rattle.floor_rule.specs.declared.rule.Made.{Made}
use Rattle.floor_rule.specs.declared.rule.Marked.{Marked}
use Rattle.room_parts.specs.Passes.{PassView}
use Rattle.room_parts.specs.Recs.{entries_of}
use Rattle.live_gather.specs.Pieces.{HasPlayed, numbers_of}
use Rattle.live_gather.specs.declared.gathered.Gathered.{Gathered}

-- the event names substream j: as its own, or as the second of a link
abbrev pub IsNamed : ℕ → Event → Type 0
IsNamed j e = (e.sub.0 ≡ j) ⊎ ((second : SubId) × (e.call ≡ call.Link second) × (second.0 ≡ j))

-- At place i of log j stands the entry of this caller's call of this number: it tells of the event, with the count of bytes handed in.
pub record HasCall (logs : ℕ → List Marked) (caller number : ℕ) (m : Made) (j i : ℕ) : Type 0 where
  pub entry : Marked
  pub at : At logs j i entry
  pub call : is_call caller number entry.mark ≡ true
  pub tells : Tells j entry.entry m.event
  pub count : count_of entry.mark ≡ m.count

-- The entries of this caller are exactly its calls: each call has its entry in the log of each card that it names, each entry is that of the call of its number, and no other entry of its log is.
pub record AreCalls (cards : ℕ) (logs : ℕ → List Marked) (caller : ℕ) (calls : List Made) : Type 0 where
  pub named : (k j : ℕ) (m : Made) → slice_get calls k ≡ Some m → IsNamed j m.event → j < cards → (i : ℕ) × HasCall logs caller k m j i
  pub made : (j i k : ℕ) (e : Marked) → At logs j i e → is_call caller k e.mark ≡ true → (m : Made) × (slice_get calls k ≡ Some m) × HasCall logs caller k m j i
  pub once : (j h i k : ℕ) (d e : Marked) → At logs j h d → is_call caller k d.mark ≡ true → At logs j i e → is_call caller k e.mark ≡ true → h ≡ i

-- The logs agree with what a pass knows: each begins with every list that it holds of it, they have the pages that it read, each of its calls has its entry at its receipt, in the log of its own substream, and its caller's entries are exactly its calls.
pub record AgreesWith (cards : ℕ) (logs : ℕ → List Marked) (p : PassView) : Type 0 where
  pub begins : (j : ℕ) → j < cards → AllOf j (λ log. IsPrefix log (logs j)) p.knows.held.logs
  pub pages : (j : ℕ) → j < cards → AllReadOf j (logs j) p.knows.reads
  pub receipts : (k : ℕ) (m : Made) → slice_get p.knows.calls k ≡ Some m → (m.event.sub.0 < cards) × ((i : ℕ) × (slice_get p.knows.receipts k ≡ Some (m.event.sub.0, i)) × HasCall logs p.knows.number k m m.event.sub.0 i)
  pub calls : AreCalls cards logs p.knows.number p.knows.calls

-- an entry of log j tells of a call; or it is a joint or a move, which has its cause in the log of a card
abbrev pub HasCause : ℕ → (ℕ → List Marked) → ℕ → Entry → EntryMark → Type 0
HasCause cards logs j e (mark.Called state hw caller number count) = (event : Event) × Tells j e event
HasCause cards logs j e (mark.Caused state hw sub place) = (sub.0 < cards) × ((c : Marked) × At logs sub.0 place c × Causes c.entry e)

-- The log of substream j is this one, without its marks, and its stream stands for that to which the log plays.
pub record IsGatheredOf (cards : List (CardModel × Dir)) (long_max j : ℕ) (log : List Marked) (g : Gathered) : Type 0 where
  pub sub : g.log.sub ≡ record { 0 = j }
  pub entries : g.log.entries.items ≡ entries_of log
  pub played : HasPlayed cards long_max (j, log) g.stream

-- One entry for each card, in order. Each pass agrees with the logs, and each joint and each move has its cause.
pub record IsGathered (cards : List (CardModel × Dir)) (long_max : ℕ) (ps : List PassView) (gs : List Gathered) : Type 0 where
  pub logs : ℕ → List Marked
  pub size : length gs ≡ length cards
  pub each : (j : ℕ) (g : Gathered) → slice_get gs j ≡ Some g → IsGatheredOf cards long_max j (logs j) g
  pub passes : (i : ℕ) (p : PassView) → slice_get ps i ≡ Some p → AgreesWith (length cards) logs p
  pub caused : (j i : ℕ) (e : Marked) → At logs j i e → HasCause (length cards) logs j e.entry e.mark

-- What is gathered of these logs: each of them is that of the card of its number, and each card has one of them.
pub record IsGatheredFrom (cards : List (CardModel × Dir)) (long_max : ℕ) (ls : List (ℕ × List Marked)) (ps : List PassView) (gs : List Gathered) : Type 0 where
  pub gathered : IsGathered cards long_max ps gs
  pub from : (i : ℕ) (l : ℕ × List Marked) → slice_get ls i ≡ Some l → (l.0 < length cards) × (gathered.logs l.0 ≡ l.1)
  pub every : (j : ℕ) → j < length cards → Among j (numbers_of ls)
  pub once : Distinct (numbers_of ls)

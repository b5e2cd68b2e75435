-- What the next call of a pass leaves in the log of a rec. This project's own.
use Rattle.std.specs.Prelude.{◌≡◌, ℕ, List, [], ◌∷◌, ◌++◌, length, slice_get, slice_set}
use Rattle.std.specs.declared.option.Option.TheVariants.{Some}
use mathlib.Core.List.{IsPrefix}
use Rattle.pcm_base.specs.declared.call.Event.{Event}
use Rattle.pcm_base.specs.declared.state.State.{State}
use Rattle.pcm_base.specs.declared.reply.Reply.{Reply}
use Rattle.pcm_base.specs.declared.votes.Acted.{Acted}
use Rattle.pcm_base.specs.model.Group.{stream_of}
use Rattle.pcm_base.specs.model.Stream.{Member, shown}
use Rattle.floor_rule.specs.Lists.{longest}
use Rattle.floor_rule.specs.Steps.{HoldsMore}
use Rattle.floor_rule.specs.declared.entry.Entry.{Entry}
use Rattle.floor_rule.specs.declared.entry.Entry.TheVariants as entry
use Rattle.floor_rule.specs.declared.entry.EntryMark.TheVariants as mark
use Rattle.floor_rule.specs.declared.entry.Joint.{Joint}
use Rattle.floor_rule.specs.declared.rule.Marked.{Marked}
use Rattle.floor_rule.specs.declared.rule.PassKnows.{PassKnows}
use Rattle.room_parts.specs.Passes.{PassView, busy_after}
use Rattle.room_parts.specs.Recs.{RecView, sub_of}
use Rattle.room_lock.specs.Joined.{HasRoom, IsJoined}
use Rattle.room_lock.specs.Joints.{joints_at}
use Rattle.room_lock.specs.Shared.{SharedTo, shared_by}

-- the entry of the next call of a pass
abbrev pub called : PassKnows → ℕ → Entry → State → ℕ → Marked
called p count e t h = record { entry = e; mark = mark.Called t h p.number (length p.calls) count }

-- The pass has made a call that is told by this entry, which the log of sub has gained at its end, after so many others: the call has its receipt there, the pass's list of the log is then the whole log, and goes on from the one before; what stood in its lists stands there still.
pub record HasCalled (event : Event) (count : ℕ) (e : Entry) (sub : ℕ) (before log : List Marked) (p q : PassView) : Type 0 where
  pub number : q.knows.number ≡ p.knows.number
  pub caller : q.caller ≡ p.caller
  pub reads : q.knows.reads ≡ p.knows.reads
  pub calls : q.knows.calls ≡ p.knows.calls ++ record { event = event; count = count } ∷ []
  pub receipts : q.knows.receipts ≡ p.knows.receipts ++ (sub, length before) ∷ []
  pub busy : q.busy ≡ busy_after e
  pub list : longest sub q.knows.held.logs ≡ log
  pub onward : IsPrefix (longest sub p.knows.held.logs) (longest sub q.knows.held.logs)
  pub held : HoldsMore p.knows.held q.knows.held

-- The rec r at a place has gained the entry of the pass's next call.
pub record IsOwnRecorded (own : ℕ) (event : Event) (count : ℕ) (e : Entry) (t : State) (h : ℕ) (r : RecView) (old now : List RecView) (p q : PassView) : Type 0 where
  pub rec : RecView
  pub recs : now ≡ slice_set old own rec
  pub joined : IsJoined r rec (called p.knows count e t h ∷ [])
  pub called_by : HasCalled event count e r.knows.sub r.knows.log rec.knows.log p q

abbrev pub AllHaveRoom : List RecView → Type 0
AllHaveRoom rs = (i : ℕ) (r : RecView) → slice_get rs i ≡ Some r → HasRoom 3 r

-- the own entry of an event, where the members then stand for these
abbrev pub own_of : List Member → Event → List ℕ → List Joint → Reply → Entry
own_of xs event bytes joints r = entry.Own event bytes joints r (stream_of event.sub xs).state

-- An event of the rec r at a place: it has the own entry, and each other its joints.
pub record IsRecorded (xs : List Member) (own : ℕ) (event : Event) (count : ℕ) (bytes : List ℕ) (reply : Reply) (acts : List Acted) (number serial : ℕ) (r : RecView) (old now : List RecView) (p q : PassView) : Type 0 where
  pub mid : List RecView
  pub first : IsOwnRecorded own event count (own_of xs event bytes (joints_at own number serial acts) reply) (stream_of event.sub xs).state (shown (stream_of event.sub xs) (stream_of event.sub xs).at.hw) r old mid p q
  pub others : SharedTo (length mid) own (shared_by xs number serial acts (sub_of r) (length r.knows.log)) mid now
  pub own_same : slice_get now own ≡ slice_get mid own
  pub size : length now ≡ length mid

-- A link of two substreams as their rooms make it, and the move of a rec. This project's own.
use Rattle.std.specs.Prelude.{◌≡◌, ℕ, Bool, List, [], ◌∷◌, ◌++◌, length, slice_get, slice_set}
use Rattle.std.specs.declared.option.Option.TheVariants.{Some}
use Rattle.pcm_base.specs.declared.call.Call.{Call}
use Rattle.pcm_base.specs.declared.call.Call.TheVariants as call
use Rattle.pcm_base.specs.declared.call.Event.{Event}
use Rattle.pcm_base.specs.declared.ids.ClientId.{ClientId}
use Rattle.pcm_base.specs.declared.ids.SubId.{SubId}
use Rattle.pcm_base.specs.declared.reply.Page.{Page}
use Rattle.pcm_base.specs.declared.state.State.{State}
use Rattle.pcm_base.specs.model.Group.{stream_of}
use Rattle.pcm_base.specs.model.Stream.{Member}
use Rattle.floor_rule.specs.declared.entry.Entry.TheVariants as entry
use Rattle.floor_rule.specs.declared.entry.EntryMark.TheVariants as mark
use Rattle.floor_rule.specs.declared.rule.Marked.{Marked}
use Rattle.floor_rule.specs.declared.rule.PassKnows.{PassKnows}
use Rattle.room_book.specs.Logs.{link_reply}
use Rattle.room_parts.specs.Links.{link_entry, link_event}
use Rattle.room_parts.specs.Passes.{PassView}
use Rattle.room_parts.specs.Recs.{RecView, sub_of}
use Rattle.room_parts.specs.declared.calling.Linked.{Linked}
use Rattle.room_lock.specs.declared.recording.Receipt.{Receipt}
use Rattle.room_lock.specs.InGroup.{IsPageIn}
use Rattle.room_lock.specs.Joined.{IsJoined}
use Rattle.room_lock.specs.Recorded.{HasCalled}

-- a link of j to the group of k, which finds them in these states, and what it answers
abbrev pub link_of : ClientId → SubId → SubId → State → State → Bool → Linked
link_of c k j s t linked = record { client = c; first = k; second = j; first_state = s; second_state = t; second_linked = linked; reply = link_reply k.0 j.0 s t linked }

-- its event
abbrev pub link_by : ClientId → SubId → SubId → Event
link_by c k j = record { client = Some c; sub = k; call = call.Link j }

-- the second substream of a link
abbrev pub linked_to : Call → SubId
linked_to (call.Link j) = j
linked_to _ = record { 0 = 16 }

-- the entry of a link, as the next call of a pass, where this is the state of the log's substream and its shown hardware position
abbrev pub link_marked : Linked → State → ℕ → PassKnows → Marked
link_marked l s h p = record { entry = link_entry l; mark = mark.Called s h p.number (length p.calls) 0 }

-- the entry of a move to this room, which comes from the entry at the receipt
abbrev pub moved_to : ℕ → Page → Receipt → Marked
moved_to room p cause = record { entry = entry.Moved room; mark = mark.Caused p.state p.hw cause.sub cause.index }

-- The rec r has moved to this room: its log has the move at its end.
pub record HasMoved (r s : RecView) (room : ℕ) (p : Page) (cause : Receipt) : Type 0 where
  pub log : s.knows.log ≡ r.knows.log ++ moved_to room p cause ∷ []
  pub sub : s.knows.sub ≡ r.knows.sub
  pub place : s.knows.place ≡ room

-- The logs of the recs at two places have gained the entry of a link, where these pages show the states and the shown hardware positions of the two. The pass has made the call, with its receipt in the log of the first.
pub record IsLinkRecorded (own other : ℕ) (link : Linked) (a b : Page) (r q : RecView) (old now old2 now2 : List RecView) (before after : PassView) : Type 0 where
  pub first : RecView
  pub second : RecView
  pub recs : now ≡ slice_set old own first
  pub others : now2 ≡ slice_set old2 other second
  pub joined : IsJoined r first (link_marked link link.first_state a.hw before.knows ∷ [])
  pub joined_other : IsJoined q second (link_marked link link.second_state b.hw before.knows ∷ [])
  pub called_by : HasCalled (link_event link) 0 (link_entry link) r.knows.sub r.knows.log first.knows.log before after

-- The log of the rec at a place has gained it alone.
pub record IsLinkRecordedOnce (own : ℕ) (link : Linked) (a : Page) (r : RecView) (old now : List RecView) (before after : PassView) : Type 0 where
  pub first : RecView
  pub recs : now ≡ slice_set old own first
  pub joined : IsJoined r first (link_marked link link.first_state a.hw before.knows ∷ [])
  pub called_by : HasCalled (link_event link) 0 (link_entry link) r.knows.sub r.knows.log first.knows.log before after

-- The rec of k at a place has gained the entry of a link, whose mark shows the stream of k among these.
pub record IsToldAt (i : ℕ) (k : SubId) (link : Linked) (page : Page) (ms : List Member) (old now : List RecView) (p : PassKnows) : Type 0 where
  pub before : RecView
  pub after : RecView
  pub at : slice_get old i ≡ Some before
  pub sub : sub_of before ≡ k
  pub recs : now ≡ slice_set old i after
  pub joined : IsJoined before after (link_marked link page.state page.hw p ∷ [])
  pub shows : IsPageIn page (stream_of k ms)

-- The pass has made a link, with its receipt at the end of the log of the rec at a place.
abbrev pub HasLinked : ℕ → Linked → Receipt → List RecView → List RecView → PassView → PassView → Type 0
HasLinked i link receipt old now p q = (r s : RecView) → slice_get old i ≡ Some r → slice_get now i ≡ Some s
    → HasCalled (link_event link) 0 (link_entry link) r.knows.sub r.knows.log s.knows.log p q × (receipt.sub ≡ link.first) × (receipt.index ≡ length r.knows.log)

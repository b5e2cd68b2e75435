-- What a call that moves nobody leaves in its room: a link of a member to itself or to no card, and an unlink that is refused. This project's own.
use Rattle.std.specs.Prelude.{◌≡◌, ℕ, not, nat_eq, nat_le, ◌&&◌, List, [], ◌∷◌, ◌++◌, length, slice_get, if◌then◌else◌}
use Rattle.std.specs.declared.option.Option.TheVariants.{Some, None}
use Rattle.pcm_base.specs.declared.call.Call.TheVariants as call
use Rattle.pcm_base.specs.declared.call.Event.{Event}
use Rattle.pcm_base.specs.declared.ids.ClientId.{ClientId}
use Rattle.pcm_base.specs.declared.ids.SubId.{SubId}
use Rattle.pcm_base.specs.declared.reply.Page.{Page}
use Rattle.pcm_base.specs.declared.reply.Reply.{Reply}
use Rattle.pcm_base.specs.declared.state.Errno.TheVariants as errno
use Rattle.pcm_base.specs.declared.state.State.{State}
use Rattle.pcm_base.specs.declared.state.State.TheVariants as state
use Rattle.pcm_base.specs.model.Group.{stream_of}
use Rattle.pcm_base.specs.model.Stream.{Member, Stream, shown}
use Rattle.pcm_base.specs.model.Words.{when, ◌then◌, is_closed}
use Rattle.pcm_base.specs.model.World.{World, call_of, is_linked, state_in, step}
use Rattle.floor_rule.specs.declared.entry.Entry.TheVariants as entry
use Rattle.floor_rule.specs.declared.entry.EntryMark.TheVariants as mark
use Rattle.floor_rule.specs.declared.rule.Marked.{Marked}
use Rattle.floor_rule.specs.declared.rule.PassKnows.{PassKnows}
use Rattle.room_book.specs.Logs.{answered}
use Rattle.room_parts.specs.Passes.{PassView}
use Rattle.room_parts.specs.Recs.{RecView, sub_of}
use Rattle.room_parts.specs.declared.calling.Linked.{Linked}
use Rattle.room_lock.specs.declared.recording.Receipt.{Receipt}
use Rattle.room_lock.specs.Answers.{log_in}
use Rattle.room_lock.specs.InGroup.{IsPageIn}
use Rattle.room_lock.specs.InRoom.{RoomView}
use Rattle.room_lock.specs.Joining.{logs_linked}
use Rattle.room_lock.specs.Linked.{link_of}
use Rattle.room_lock.specs.Recorded.{IsOwnRecorded}
use Rattle.room_lock.specs.Turning.{logs_of}

-- a link of k, whose stream has this state in a room of this number, to itself, or to j, which is no card and so as one that is closed
abbrev pub lone_link : ClientId → SubId → SubId → State → ℕ → Linked
lone_link c k j s number = link_of c k j s (if nat_eq j.0 k.0 then s else state.Closed) (nat_eq j.0 k.0 && nat_le 16 number)

-- A link that names one member of the room has been refused: the log of that one has it.
pub record IsLinkRefused (l : Linked) (p : PassKnows) (v v' : RoomView) (xs : List Member) (reply : Reply) (mask : ℕ) : Type 0 where
  pub reply_is : reply ≡ l.reply
  pub logs : logs_of v'.recs ≡ logs_linked l.first l xs p v.recs
  pub book : v'.book ≡ v.book
  pub woken : mask ≡ 0

-- ---- an unlink

abbrev pub unlink_by : ClientId → SubId → Event
unlink_by c k = record { client = Some c; sub = k; call = call.Unlink }

-- what it answers, of a substream in this state in a room of this number
abbrev pub unlink_reply : State → ℕ → Reply
unlink_reply s number = answered (when (is_closed s) errno.Enxio then when (not (nat_le 16 number)) errno.Ealready)

-- that is the world's reply, to a client with no call in progress, where its substream is linked exactly in a group's room
abbrev pub UnlinkRepliesAgree : Type 0
UnlinkRepliesAgree = (c : ClientId) (k : SubId) (io : List ℕ) (number : ℕ) (w : World) → call_of c w.calls ≡ None → is_linked k w ≡ nat_le 16 number → unlink_reply (state_in k w) number ≡ (step w (unlink_by c k) io).reply

-- its entry, as the next call of a pass, where its substream has this stream
abbrev pub unlink_marked : Event → Reply → Stream → PassKnows → Marked
unlink_marked e r s p = record { entry = entry.Own e [] [] r s.state; mark = mark.Called s.state (shown s s.at.hw) p.number (length p.calls) 0 }

-- An unlink of a substream that stands alone has been refused: its log has it.
pub record IsUnlinkRefused (e : Event) (p : PassKnows) (v v' : RoomView) (xs : List Member) (reply : Reply) (mask : ℕ) : Type 0 where
  pub reply_is : reply ≡ unlink_reply (stream_of e.sub xs).state v.number
  pub logs : logs_of v'.recs ≡ (log_in e.sub v.recs ++ unlink_marked e reply (stream_of e.sub xs) p ∷ []) ∷ []
  pub book : v'.book ≡ v.book
  pub woken : mask ≡ 0

-- The rec at a place has gained the entry of an unlink, whose mark shows the stream of its substream among these.
pub record IsUnlinkTold (i : ℕ) (e : Event) (r : Reply) (page : Page) (ms : List Member) (old now : List RecView) (p q : PassView) (receipt : Receipt) : Type 0 where
  pub before : RecView
  pub at : slice_get old i ≡ Some before
  pub sub : sub_of before ≡ e.sub
  pub recorded : IsOwnRecorded i e 0 (entry.Own e [] [] r page.state) page.state page.hw before old now p q
  pub shows : IsPageIn page (stream_of e.sub ms)
  pub receipt_is : (receipt.sub ≡ e.sub) × (receipt.index ≡ length before.knows.log)

-- What an unlink leaves where the group of its substream has three or more members: that one goes home, the others stay linked. This project's own.
use Rattle.std.specs.Prelude.{◌≡◌, ℕ, List, [], ◌∷◌, ◌++◌, length}
use Rattle.pcm_base.specs.declared.call.Event.{Event}
use Rattle.pcm_base.specs.declared.ids.ClientId.{ClientId}
use Rattle.pcm_base.specs.declared.ids.SubId.{SubId}
use Rattle.pcm_base.specs.declared.reply.Reply.{Reply}
use Rattle.pcm_base.specs.model.Group.{stream_of}
use Rattle.pcm_base.specs.model.Sleep.{mask_of, wake, woken}
use Rattle.pcm_base.specs.model.Stream.{Member}
use Rattle.pcm_base.specs.model.World.{only_member, without_member}
use Rattle.floor_rule.specs.declared.rule.Marked.{Marked}
use Rattle.floor_rule.specs.declared.rule.PassKnows.{PassKnows}
use Rattle.room_book.specs.Rooms.{with_log, without_log}
use Rattle.room_book.specs.declared.book.BookEntry.TheVariants.{In, Out}
use Rattle.room_parts.specs.Recs.{RecView, subs_of}
use Rattle.room_lock.specs.Answers.{log_in}
use Rattle.room_lock.specs.InRoom.{RoomView}
use Rattle.room_lock.specs.Met.{ByReply, if_ok, move_of}
use Rattle.room_lock.specs.Staying.{unlink_marked, unlink_reply}
use Rattle.room_lock.specs.Turning.{logs_of}

-- the logs in these recs, that of the substream of an unlink with its entry at the end
abbrev pub logs_unlinked : Event → Reply → List Member → PassKnows → List RecView → List (List Marked)
logs_unlinked e r ms p rs = with_log e.sub (log_in e.sub rs ++ unlink_marked e r (stream_of e.sub ms) p ∷ []) (subs_of rs) (logs_of rs)

-- the log of that substream, with the unlink and its move to a room
abbrev pub log_gone : Event → Reply → List Member → PassKnows → List RecView → ℕ → List Marked
log_gone e r ms p rs room = log_in e.sub rs ++ unlink_marked e r (stream_of e.sub ms) p ∷ move_of room (stream_of e.sub ms) e.sub (length (log_in e.sub rs)) ∷ []

-- whom the wake checks mark awake where k leaves these: that of the group before, and of both after
abbrev pub woken_apart : SubId → List Member → List ClientId
woken_apart k xs = woken xs ++ woken (only_member k (wake xs)) ++ woken (without_member k (wake xs))

-- It has gone home from room v to a: its log has the unlink and the move, the others keep theirs, and the books tell who went out and came in.
pub record HasLeft (e : Event) (r : Reply) (p : PassKnows) (v v' a a' : RoomView) (xs : List Member) : Type 0 where
  pub own_log : logs_of a'.recs ≡ log_gone e r xs p v.recs a.number ∷ []
  pub other_logs : logs_of v'.recs ≡ without_log e.sub (subs_of v.recs) (logs_of v.recs)
  pub book : v'.book ≡ v.book ++ Out e.sub ∷ []
  pub own_book : a'.book ≡ a.book ++ In e.sub ∷ []

-- It stays: its log has the unlink, which was refused.
pub record StayTogether (e : Event) (r : Reply) (p : PassKnows) (v v' a a' : RoomView) (xs : List Member) : Type 0 where
  pub logs : logs_of v'.recs ≡ logs_unlinked e r xs p v.recs
  pub book : v'.book ≡ v.book
  pub same : a' ≡ a

-- What an unlink of a member of room v, whose own room is a, leaves: that, by its answer, and who is marked awake.
pub record IsLeaving (e : Event) (p : PassKnows) (v v' a a' : RoomView) (xs : List Member) (reply : Reply) (mask : ℕ) : Type 0 where
  pub reply_is : reply ≡ unlink_reply (stream_of e.sub xs).state v.number
  pub rooms : ByReply reply (HasLeft e reply p v v' a a' xs) (StayTogether e reply p v v' a a' xs)
  pub woken : mask ≡ mask_of (if_ok reply (woken_apart e.sub xs) [])

-- the members of the own room, and those of the group's

abbrev pub gone_home : Reply → SubId → List Member → List Member
gone_home r k xs = if_ok r (wake (only_member k (wake xs))) []

abbrev pub left_by : Reply → SubId → List Member → List Member
left_by r k xs = if_ok r (wake (without_member k (wake xs))) xs

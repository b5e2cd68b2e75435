-- What a link of two substreams that stand alone leaves in their rooms and in the group's. This project's own.
use Rattle.std.specs.Prelude.{◌≡◌, ℕ, List, [], ◌∷◌, ◌++◌, length, MatchBool, if◌then◌else◌}
use Rattle.pcm_base.specs.declared.ids.SubId.{SubId}
use Rattle.pcm_base.specs.declared.reply.Reply.{Reply}
use Rattle.pcm_base.specs.model.Group.{stream_of}
use Rattle.pcm_base.specs.model.Sleep.{mask_of, wake, woken}
use Rattle.pcm_base.specs.model.Stream.{Member, Stream, shown}
use Rattle.floor_rule.specs.declared.entry.Entry.TheVariants as entry
use Rattle.floor_rule.specs.declared.entry.EntryMark.TheVariants as mark
use Rattle.floor_rule.specs.declared.rule.Marked.{Marked}
use Rattle.floor_rule.specs.declared.rule.PassKnows.{PassKnows}
use Rattle.room_book.specs.Logs.{is_ok}
use Rattle.room_book.specs.declared.book.BookEntry.TheVariants.{In, Out}
use Rattle.room_parts.specs.declared.calling.Linked.{Linked}
use Rattle.room_lock.specs.Answers.{log_in}
use Rattle.room_lock.specs.InRoom.{RoomView}
use Rattle.room_lock.specs.Linked.{link_marked}
use Rattle.room_lock.specs.Turning.{logs_of}

-- one fact where the answer is Ok, another where it is an error
abbrev pub ByReply : Reply → Type 0 → Type 0 → Type 0
ByReply r P Q = MatchBool (is_ok r) P Q

-- one list where the answer is Ok, another where it is an error
abbrev pub if_ok : {A : Type 0} → Reply → List A → List A → List A
if_ok r xs ys = if is_ok r then xs else ys

-- the log of a substream with this stream, with the entry of a link
abbrev pub with_link : List Marked → Linked → Stream → PassKnows → List Marked
with_link log l s p = log ++ link_marked l s.state (shown s s.at.hw) p ∷ []

-- the entry of its move to a room, which comes from the entry at this place of the log of k
abbrev pub move_of : ℕ → Stream → SubId → ℕ → Marked
move_of room s k place = record { entry = entry.Moved room; mark = mark.Caused s.state (shown s s.at.hw) k place }

-- the log of one that has moved by a link
abbrev pub with_move : List Marked → Linked → Stream → PassKnows → ℕ → ℕ → List Marked
with_move log l s p room place = with_link log l s p ++ move_of room s l.first place ∷ []

-- Two that stood alone have moved to an empty room, the first before the second: their logs have the link and the move, and the books tell who went out and came in.
pub record HaveMet (l : Linked) (p : PassKnows) (v v' w w' u u' : RoomView) (s t : Stream) : Type 0 where
  pub logs : logs_of u'.recs ≡ with_move (log_in l.first v.recs) l s p u.number (length (log_in l.first v.recs)) ∷ with_move (log_in l.second w.recs) l t p u.number (length (log_in l.first v.recs)) ∷ []
  pub first_book : v'.book ≡ v.book ++ Out l.first ∷ []
  pub second_book : w'.book ≡ w.book ++ Out l.second ∷ []
  pub group_book : u'.book ≡ u.book ++ In l.first ∷ In l.second ∷ []

-- Two that stand alone stay so: their logs have the link, which was refused.
pub record StayAlone (l : Linked) (p : PassKnows) (v v' w w' u u' : RoomView) (s t : Stream) : Type 0 where
  pub first_log : logs_of v'.recs ≡ with_link (log_in l.first v.recs) l s p ∷ []
  pub second_log : logs_of w'.recs ≡ with_link (log_in l.second w.recs) l t p ∷ []
  pub books : (v'.book ≡ v.book) × (w'.book ≡ w.book)
  pub same : u' ≡ u

-- What a link of two that stand alone leaves, the first in room v, the second in room w, and the group's room u: that, by its answer; who is marked awake; and the members of the three rooms.
pub record IsMeeting (l : Linked) (p : PassKnows) (v v' w w' u u' : RoomView) (xs ys : List Member) (reply : Reply) (mask : ℕ) : Type 0 where
  pub reply_is : reply ≡ l.reply
  pub rooms : ByReply reply (HaveMet l p v v' w w' u u' (stream_of l.first xs) (stream_of l.second ys)) (StayAlone l p v v' w w' u u' (stream_of l.first xs) (stream_of l.second ys))
  pub woken : mask ≡ mask_of (if_ok reply (woken xs ++ woken ys ++ woken (wake xs ++ wake ys)) [])

-- the members of the two rooms, and those of the group's

abbrev pub stay : Reply → List Member → List Member
stay r xs = if_ok r [] xs

abbrev pub met : Reply → List Member → List Member → List Member
met r xs ys = if_ok r (wake (wake xs ++ wake ys)) []

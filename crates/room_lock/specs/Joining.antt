-- What a link leaves where the second substream joins the group of the first, or the two stay in their rooms. This project's own.
use Rattle.std.specs.Prelude.{◌≡◌, ℕ, List, [], ◌∷◌, ◌++◌, length}
use Rattle.pcm_base.specs.declared.ids.SubId.{SubId}
use Rattle.pcm_base.specs.declared.reply.Reply.{Reply}
use Rattle.pcm_base.specs.model.Group.{stream_of}
use Rattle.pcm_base.specs.model.Sleep.{mask_of, wake, woken}
use Rattle.pcm_base.specs.model.Stream.{Member}
use Rattle.floor_rule.specs.declared.rule.Marked.{Marked}
use Rattle.floor_rule.specs.declared.rule.PassKnows.{PassKnows}
use Rattle.room_book.specs.Rooms.{with_log}
use Rattle.room_book.specs.declared.book.BookEntry.TheVariants.{In, Out}
use Rattle.room_parts.specs.Recs.{RecView, subs_of}
use Rattle.room_parts.specs.declared.calling.Linked.{Linked}
use Rattle.room_lock.specs.Answers.{log_in}
use Rattle.room_lock.specs.InRoom.{RoomView}
use Rattle.room_lock.specs.Met.{ByReply, if_ok, with_link, with_move}
use Rattle.room_lock.specs.Turning.{logs_of}

-- the logs in these recs, that of k with the entry of a link at its end
abbrev pub logs_linked : SubId → Linked → List Member → PassKnows → List RecView → List (List Marked)
logs_linked k l ms p rs = with_log k (with_link (log_in k rs) l (stream_of k ms) p) (subs_of rs) (logs_of rs)

-- The second has moved into the room of the first, behind the members there: both logs have the link and its own the move, and the books tell who went out and came in.
pub record HasJoined (l : Linked) (p : PassKnows) (v v' w w' : RoomView) (xs ys : List Member) : Type 0 where
  pub logs : logs_of v'.recs ≡ logs_linked l.first l xs p v.recs ++ with_move (log_in l.second w.recs) l (stream_of l.second ys) p v.number (length (log_in l.first v.recs)) ∷ []
  pub first_book : v'.book ≡ v.book ++ In l.second ∷ []
  pub second_book : w'.book ≡ w.book ++ Out l.second ∷ []

-- The two stay in their rooms: both logs have the link, which was refused.
pub record StayApart (l : Linked) (p : PassKnows) (v v' w w' : RoomView) (xs ys : List Member) : Type 0 where
  pub first_logs : logs_of v'.recs ≡ logs_linked l.first l xs p v.recs
  pub second_logs : logs_of w'.recs ≡ logs_linked l.second l ys p w.recs
  pub books : (v'.book ≡ v.book) × (w'.book ≡ w.book)

-- What a link of the second, in room w, to the group of the first, in room v, leaves: that, by its answer, and who is marked awake.
pub record IsJoining (l : Linked) (p : PassKnows) (v v' w w' : RoomView) (xs ys : List Member) (reply : Reply) (mask : ℕ) : Type 0 where
  pub reply_is : reply ≡ l.reply
  pub rooms : ByReply reply (HasJoined l p v v' w w' xs ys) (StayApart l p v v' w w' xs ys)
  pub woken : mask ≡ mask_of (if_ok reply (woken xs ++ woken ys ++ woken (wake xs ++ wake ys)) [])

-- the members of the first's room
abbrev pub joined_by : Reply → List Member → List Member → List Member
joined_by r xs ys = if_ok r (wake (wake xs ++ wake ys)) xs

-- What a link of two members of one room leaves there. This project's own.
use Rattle.std.specs.Prelude.{◌≡◌, ℕ, List}
use Rattle.pcm_base.specs.declared.reply.Reply.{Reply}
use Rattle.pcm_base.specs.model.Group.{stream_of}
use Rattle.pcm_base.specs.model.Stream.{Member}
use Rattle.floor_rule.specs.declared.rule.Marked.{Marked}
use Rattle.floor_rule.specs.declared.rule.PassKnows.{PassKnows}
use Rattle.room_book.specs.Rooms.{with_log}
use Rattle.room_parts.specs.Recs.{RecView, subs_of}
use Rattle.room_parts.specs.declared.calling.Linked.{Linked}
use Rattle.room_lock.specs.Answers.{log_in}
use Rattle.room_lock.specs.InRoom.{RoomView}
use Rattle.room_lock.specs.Joining.{logs_linked}
use Rattle.room_lock.specs.Met.{with_link}
use Rattle.room_lock.specs.Turning.{logs_of}

-- the logs in these recs, those of the two that a link names with its entry at their ends
abbrev pub both_linked : Linked → List Member → PassKnows → List RecView → List (List Marked)
both_linked l ms p rs = with_log l.second (with_link (log_in l.second rs) l (stream_of l.second ms) p) (subs_of rs) (logs_linked l.first l ms p rs)

-- A link of two members of the room has been refused: the logs of both have it.
pub record IsLinkWithin (l : Linked) (p : PassKnows) (v v' : RoomView) (xs : List Member) (reply : Reply) (mask : ℕ) : Type 0 where
  pub reply_is : reply ≡ l.reply
  pub logs : logs_of v'.recs ≡ both_linked l xs p v.recs
  pub book : v'.book ≡ v.book
  pub woken : mask ≡ 0

-- What an unlink leaves where a group of two parts: both go home. This project's own.
use Rattle.std.specs.Prelude.{◌≡◌, ℕ, List, [], ◌∷◌, ◌++◌, length}
use Rattle.pcm_base.specs.declared.call.Event.{Event}
use Rattle.pcm_base.specs.declared.ids.SubId.{SubId}
use Rattle.pcm_base.specs.declared.reply.Reply.{Reply}
use Rattle.pcm_base.specs.model.Group.{stream_of}
use Rattle.pcm_base.specs.model.Sleep.{mask_of, wake}
use Rattle.pcm_base.specs.model.Stream.{Member}
use Rattle.pcm_base.specs.model.World.{without_member}
use Rattle.floor_rule.specs.declared.rule.PassKnows.{PassKnows}
use Rattle.room_book.specs.declared.book.BookEntry.TheVariants.{In, Out}
use Rattle.room_lock.specs.Answers.{log_in}
use Rattle.room_lock.specs.InRoom.{RoomView}
use Rattle.room_lock.specs.Leaving.{log_gone, logs_unlinked, woken_apart}
use Rattle.room_lock.specs.Met.{ByReply, if_ok, move_of}
use Rattle.room_lock.specs.Staying.{unlink_reply}
use Rattle.room_lock.specs.Turning.{logs_of}

-- the substream that has its own room here
abbrev pub at_home : RoomView → SubId
at_home v = record { 0 = v.number }

-- Both have gone home from room v, the first to a, the other to b: the log of the first has the unlink, both have the move, and the books tell who went out and came in.
pub record HaveParted (e : Event) (r : Reply) (p : PassKnows) (v v' a a' b b' : RoomView) (xs : List Member) : Type 0 where
  pub own_log : logs_of a'.recs ≡ log_gone e r xs p v.recs a.number ∷ []
  pub other_log : logs_of b'.recs ≡ (log_in (at_home b) v.recs ++ move_of b.number (stream_of (at_home b) xs) e.sub (length (log_in e.sub v.recs)) ∷ []) ∷ []
  pub book : v'.book ≡ v.book ++ Out e.sub ∷ Out (at_home b) ∷ []
  pub own_book : a'.book ≡ a.book ++ In e.sub ∷ []
  pub other_book : b'.book ≡ b.book ++ In (at_home b) ∷ []

-- Both stay: the log of the first has the unlink, which was refused.
pub record StayLinked (e : Event) (r : Reply) (p : PassKnows) (v v' a a' b b' : RoomView) (xs : List Member) : Type 0 where
  pub logs : logs_of v'.recs ≡ logs_unlinked e r xs p v.recs
  pub book : v'.book ≡ v.book
  pub same : (a' ≡ a) × (b' ≡ b)

-- What an unlink of one of the two in room v leaves, whose own room is a, and the other's b: that, by its answer, and who is marked awake.
pub record IsParting (e : Event) (p : PassKnows) (v v' a a' b b' : RoomView) (xs : List Member) (reply : Reply) (mask : ℕ) : Type 0 where
  pub reply_is : reply ≡ unlink_reply (stream_of e.sub xs).state v.number
  pub rooms : ByReply reply (HaveParted e reply p v v' a a' b b' xs) (StayLinked e reply p v v' a a' b b' xs)
  pub woken : mask ≡ mask_of (if_ok reply (woken_apart e.sub xs) [])

-- the members of the own room of the other
abbrev pub left_home : Reply → SubId → List Member → List Member
left_home r k xs = if_ok r (wake (without_member k (wake xs))) []

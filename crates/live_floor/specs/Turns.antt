-- What a call on a floor is: one turn of a room. This project's own.
use Rattle.std.specs.Prelude.{◌≡◌, ℕ, true, List, ◌++◌, length, map}
use Rattle.pcm_base.specs.declared.call.Event.{Event}
use Rattle.pcm_base.specs.declared.config.CardModel.{CardModel}
use Rattle.pcm_base.specs.declared.ids.SubId.{SubId}
use Rattle.pcm_base.specs.declared.reply.Reply.{Reply}
use Rattle.pcm_base.specs.declared.state.Dir.{Dir}
use Rattle.pcm_base.specs.model.Replay.{is_member}
use Rattle.pcm_base.specs.model.Sleep.{mask_of}
use Rattle.pcm_base.specs.model.Stream.{Member as ModelMember}
use Rattle.pcm_stream.specs.Members.{numbers_of}
use Rattle.floor_rule.specs.declared.rule.PassKnows.{PassKnows}
use Rattle.room_book.specs.Rooms.{fresh_streams}
use Rattle.room_book.specs.declared.book.BookEntry.TheVariants.{Act}
use Rattle.room_parts.specs.Passes.{PassView}
use Rattle.room_parts.specs.Recs.{RecView}
use Rattle.room_lock.specs.Answers.{log_in, logs_after, turn_of}
use Rattle.room_lock.specs.InRoom.{IsRoomOf, RoomView}
use Rattle.room_lock.specs.Known.{told_log}
use Rattle.room_lock.specs.Parts.{AreLeft, EntryHasMoved}
use Rattle.room_lock.specs.Ready.{IsFull}
use Rattle.room_lock.specs.Refused.{IsRefused}
use Rattle.room_lock.specs.Turning.{logs_of}
use Rattle.room_lock.specs.declared.recording.Receipt.{Receipt}

-- The room fits, its members stand for these streams, and the substream is one of them.
pub record IsRoomWith (cards : List (CardModel × Dir)) (long_max : ℕ) (sub : SubId) (v : RoomView) (xs : List ModelMember) : Type 0 where
  pub fits : IsRoomOf (fresh_streams cards long_max) (length cards) v xs
  pub here : is_member sub (numbers_of v.members) ≡ true

-- The event takes the room v to the room w: it is the model's step on the streams, with this reply and mask, no log is full before it, the logs and the book gain what the step makes, the pass's list of the substream's log is then that log, and the bytes of the call are as the step leaves them.
pub record IsTurn (cards : List (CardModel × Dir)) (long_max : ℕ) (e : Event) (io now : List ℕ) (p q : PassKnows) (reply : Reply) (receipt : Receipt) (woken : ℕ) (v w : RoomView) (xs : List ModelMember) : Type 0 where
  pub before : IsRoomWith cards long_max e.sub v xs
  pub none_full : (k : ℕ) → IsFull k v.recs → ⊥
  pub reply_is : reply ≡ (turn_of e io xs).answer.reply
  pub woken_is : woken ≡ mask_of (turn_of e io xs).woken
  pub index : receipt.index ≡ length (log_in e.sub v.recs)
  pub logs : logs_of w.recs ≡ logs_after e io xs v.number v.book p (logs_of v.recs)
  pub told : told_log receipt q ≡ log_in e.sub w.recs
  pub book : w.book ≡ v.book ++ map Act (turn_of e io xs).acts
  pub after : IsRoomOf (fresh_streams cards long_max) (length cards) w (turn_of e io xs).members
  pub bytes : AreLeft e io now xs
  pub moved : EntryHasMoved e io now xs

-- there was such a room
abbrev pub IsTurnOfRoom : List (CardModel × Dir) → ℕ → Event → List ℕ → List ℕ → PassKnows → PassKnows → Reply → Receipt → ℕ → Type 0
IsTurnOfRoom cards long_max e io now p q reply receipt woken = (v w : RoomView) × (xs : List ModelMember) × IsTurn cards long_max e io now p q reply receipt woken v w xs

-- there was a room with the substream, the first full log of which is that of sub, with this count: the pass has read its page
abbrev pub IsRefusedInRoom : List (CardModel × Dir) → ℕ → Event → PassView → PassView → SubId → ℕ → Type 0
IsRefusedInRoom cards long_max e p q sub count = (v : RoomView) × (xs : List ModelMember) × (now : List RecView) × (k : ℕ) × IsRoomWith cards long_max e.sub v xs × IsRefused k v.recs now p q sub count

-- What a call in a room is, from what the room tells of it.
use Rattle.std.proofs.Common.{◌≡◌, ℕ, List, ◌++◌, length, map}
use Rattle.pcm_base.specs.declared.call.Event.{Event}
use Rattle.pcm_base.specs.declared.config.CardModel.{CardModel}
use Rattle.pcm_base.specs.declared.state.Dir.{Dir}
use Rattle.pcm_base.specs.model.Sleep.{mask_of}
use Rattle.pcm_base.specs.model.Stream.{Member}
use Rattle.room_book.specs.Rooms.{fresh_streams}
use Rattle.room_book.specs.declared.book.BookEntry.TheVariants.{Act}
use Rattle.room_parts.specs.Passes.{PassView}
use Rattle.room_lock.specs.declared.answer.Answer.{Answer}
use Rattle.room_lock.specs.declared.answer.Answer.TheVariants.{Done, LogFull, Memory}
use Rattle.room_lock.specs.Answers.{OnDone, OnMemory, log_in, logs_after, turn_of}
use Rattle.room_lock.specs.InRoom.{IsRoomOf, RoomView}
use Rattle.room_lock.specs.Known.{told_log}
use Rattle.room_lock.specs.Parts.{AreLeft, EntryHasMoved}
use Rattle.room_lock.specs.Ready.{IsFull}
use Rattle.room_lock.specs.Turning.{logs_of}
use Rattle.live_floor.specs.Turns.{IsRoomWith, IsTurnOfRoom}

module _ (cards : List (CardModel × Dir)) (long_max : ℕ) (e : Event) (io now : List ℕ) (p q : PassView) (v w : RoomView) (xs : List Member) (here : IsRoomWith cards long_max e.sub v xs) where
  pub turn_in : (a : Answer)
      → ((k : ℕ) → IsFull k v.recs → OnDone a (λ reply receipt woken. ⊥) × OnMemory a ⊥)
      → OnDone a (λ reply receipt woken. IsRoomOf (fresh_streams cards long_max) (length cards) w (turn_of e io xs).members)
      → OnDone a (λ reply receipt woken. reply ≡ (turn_of e io xs).answer.reply)
      → OnDone a (λ reply receipt woken. woken ≡ mask_of (turn_of e io xs).woken)
      → OnDone a (λ reply receipt woken. w.book ≡ v.book ++ map Act (turn_of e io xs).acts)
      → OnDone a (λ reply receipt woken. logs_of w.recs ≡ logs_after e io xs v.number v.book p.knows (logs_of v.recs))
      → OnDone a (λ reply receipt woken. (receipt.sub ≡ e.sub) × (receipt.index ≡ length (log_in e.sub v.recs)))
      → OnDone a (λ reply receipt woken. told_log receipt q.knows ≡ log_in e.sub w.recs)
      → OnDone a (λ reply receipt woken. AreLeft e io now xs)
      → OnDone a (λ reply receipt woken. EntryHasMoved e io now xs)
      → OnDone a (λ reply receipt woken. IsTurnOfRoom cards long_max e io now p.knows q.knows reply receipt woken)
  turn_in (Done reply receipt woken) full after r m book logs index told bytes moved = (
    v,
    w,
    xs,
    record {
      before = here;
      none_full = λ k f. (full k f).0;
      reply_is = r;
      woken_is = m;
      index = index.1;
      logs = logs;
      told = told;
      book = book;
      after = after;
      bytes = bytes;
      moved = moved;
    },
  )
  turn_in (LogFull sub count) full after r m book logs index told bytes moved = tt
  turn_in Memory full after r m book logs index told bytes moved = tt

-- What an event leaves in the bytes of its call, and which of them its entry has. This project's own.
use Rattle.std.specs.Prelude.{◌≡◌, ℕ, List, length, drop}
use Rattle.std.specs.declared.option.Option.{Option}
use Rattle.pcm_base.specs.declared.call.Event.{Event}
use Rattle.pcm_base.specs.declared.config.Shape.{Shape}
use Rattle.pcm_base.specs.model.Frame.{bytes_of}
use Rattle.pcm_base.specs.model.Group.{stream_of}
use Rattle.pcm_base.specs.model.Program.{Answer}
use Rattle.pcm_base.specs.model.Replay.{layout_of}
use Rattle.pcm_base.specs.model.Stream.{Member}
use Rattle.pcm_group.specs.Turn.{frames_moved}
use Rattle.room_book.specs.Logs.{client_of}
use Rattle.room_lock.specs.Answers.{lent_of, turn_of}
use Rattle.room_lock.specs.Shaped.{HasShape, IsLeft}
use Rattle.room_lock.specs.Told.{told_bytes}
use Rattle.room_lock.specs.Turning.{bytes_in}

-- Of the bytes handed in, those that the event was lent are as the step leaves them, and those behind them are as before.
pub record AreLeft (e : Event) (io now : List ℕ) (xs : List Member) : Type 0 where
  pub front : IsLeft e.call (client_of e.client) (stream_of e.sub xs) (turn_of e io xs).answer (lent_of e xs io) (lent_of e xs now)
  pub rest : drop (length (lent_of e xs io)) now ≡ drop (length (lent_of e xs io)) io

-- the part of these bytes that the step moved: the frames that it tells, as they lie there once it is done; and what a card took in a movement
abbrev pub moved_of : Event → List ℕ → List ℕ → List Member → Option Shape → List ℕ
moved_of e io now xs shape =
    let a : Answer = (turn_of e io xs).answer in
    told_bytes e.call (layout_of e.call (client_of e.client) (stream_of e.sub xs)) shape a.reply a.first (frames_moved e.call (length a.frames)) (lent_of e xs now) (bytes_of a.frames)

-- The bytes of the own entry are the moved part.
abbrev pub EntryHasMoved : Event → List ℕ → List ℕ → List Member → Type 0
EntryHasMoved e io now xs = (shape : Option Shape) → HasShape (stream_of e.sub xs) shape → bytes_in e (lent_of e xs io) xs ≡ moved_of e io now xs shape

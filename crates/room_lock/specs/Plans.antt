-- What is looked at and taken before a step. This project's own.
use Rattle.std.specs.Prelude.{◌≡◌, ℕ, ◌≤◌, List, length, vec_capacity}
use Rattle.pcm_base.specs.declared.call.Call.TheVariants.{MoveBy}
use Rattle.pcm_base.specs.declared.call.Event.{Event}
use Rattle.pcm_base.specs.model.Frame.{bytes_of}
use Rattle.pcm_base.specs.model.Group.{stream_of}
use Rattle.pcm_base.specs.model.Movement.{move}
use Rattle.pcm_base.specs.model.Replay.{IsLent, layout_of, reading_length}
use Rattle.pcm_base.specs.model.Stream.{Member}
use Rattle.room_book.specs.Logs.{client_of}
use Rattle.room_lock.specs.declared.contents.Plan.{Plan}
use Rattle.room_lock.specs.Shaped.{HasShape}

-- Of so many bytes the event is lent these; the layout, the shape and the bytes that the card has taken are those of its stream, and what a movement takes has room.
pub record IsPlan (e : Event) (count : ℕ) (xs : List Member) (p : Plan) : Type 0 where
  pub lent : IsLent (reading_length e.call (client_of e.client) (stream_of e.sub xs)) count p.lent
  pub layout : p.layout ≡ layout_of e.call (client_of e.client) (stream_of e.sub xs)
  pub shape : HasShape (stream_of e.sub xs) p.shape
  pub taken : p.taken ≡ length (bytes_of (stream_of e.sub xs).card.taken)
  pub room : (n : ℕ) → e.call ≡ MoveBy n → length (bytes_of (move n (stream_of e.sub xs)).frames) ≤ vec_capacity p.bytes

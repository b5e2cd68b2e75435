-- What an event of a member leaves in the logs, the book and the caller's pass. This project's own.
use Rattle.std.specs.Prelude.{◌≡◌, ℕ, List, ◌++◌, length, map, slice_get}
use Rattle.std.specs.declared.option.Option.TheVariants.{Some}
use Rattle.pcm_base.specs.declared.call.Event.{Event}
use Rattle.pcm_base.specs.model.Group.{stream_of}
use Rattle.pcm_base.specs.model.Replay.{IsLent, reading_length}
use Rattle.pcm_base.specs.model.Sleep.{group_drains}
use Rattle.pcm_base.specs.model.Stream.{Member}
use Rattle.pcm_laws.specs.Waiting.{EachMayWait}
use Rattle.pcm_group.specs.Stepped.{IsTurn}
use Rattle.pcm_group.specs.declared.turn.Turn.{Turn}
use Rattle.room_book.specs.Laws.{step_of}
use Rattle.room_book.specs.Logs.{client_of}
use Rattle.room_book.specs.declared.book.BookEntry.{BookEntry}
use Rattle.room_book.specs.declared.book.BookEntry.TheVariants.{Act}
use Rattle.room_parts.specs.Passes.{PassView}
use Rattle.room_parts.specs.Recs.{RecView, sub_of}
use Rattle.room_lock.specs.declared.recording.Receipt.{Receipt}
use Rattle.room_lock.specs.Joined.{HoldsAt}
use Rattle.room_lock.specs.Recorded.{IsRecorded}
use Rattle.room_lock.specs.Turning.{bytes_in}

-- The group has made this event, which was lent these bytes of so many, and moved these.
pub record IsMade (e : Event) (io : List ℕ) (xs : List Member) (count : ℕ) (moved : List ℕ) (turn : Turn) : Type 0 where
  pub turn_is : IsTurn e.call (step_of e io xs) turn
  pub lent : IsLent (reading_length e.call (client_of e.client) (stream_of e.sub xs)) count (length io)
  pub bytes : moved ≡ bytes_in e io xs
  pub asleep : EachMayWait (group_drains (step_of e io xs).members) (step_of e io xs).members

-- Its entries are recorded, and the book has its acts.
pub record IsStepped (e : Event) (io : List ℕ) (xs : List Member) (own count number serial : ℕ) (old now : List RecView) (before after : List BookEntry) (p q : PassView) (receipt : Receipt) : Type 0 where
  pub receipt_is : HoldsAt (λ r. (receipt.sub ≡ sub_of r) × (receipt.index ≡ length r.knows.log)) own old
  pub recorded : (r : RecView) → slice_get old own ≡ Some r → IsRecorded (step_of e io xs).members own e count (bytes_in e io xs) (step_of e io xs).answer.reply (step_of e io xs).acts number serial r old now p q
  pub book : after ≡ before ++ map Act (step_of e io xs).acts

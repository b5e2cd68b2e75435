-- What an event of a member leaves in its room and its call's bytes. This project's own.
use Rattle.std.specs.Prelude.{◌≡◌, ℕ, ◌<◌, List, length, take, drop}
use Rattle.card_emul.specs.declared.any_card.AnyCard.{AnyCard}
use Rattle.card_emul.specs.contracts.any_card.AnyCardCard.TheImpl.{ghosts}
use Rattle.pcm_base.specs.declared.call.Event.{Event}
use Rattle.pcm_base.specs.declared.reply.Reply.{Reply}
use Rattle.pcm_base.specs.model.Group.{stream_of}
use Rattle.pcm_base.specs.model.Replay.{IsLent, reading_length}
use Rattle.pcm_base.specs.model.Sleep.{mask_of}
use Rattle.pcm_base.specs.model.Stream.{Member as ModelMember}
use Rattle.pcm_stream.specs.declared.members.Member.{Member}
use Rattle.pcm_stream.specs.MembersStand.{AllStandFor}
use Rattle.room_book.specs.Laws.{step_of}
use Rattle.room_book.specs.Logs.{client_of}
use Rattle.room_book.specs.declared.book.BookEntry.{BookEntry}
use Rattle.room_parts.specs.Passes.{PassView}
use Rattle.room_parts.specs.Recs.{RecView, sub_of}
use Rattle.room_lock.specs.declared.recording.Receipt.{Receipt}
use Rattle.room_book.specs.Rooms.{acts_in}
use Rattle.room_lock.specs.InRoom.{RoomView}
use Rattle.room_lock.specs.Joined.{HoldsAt}
use Rattle.room_lock.specs.Ready.{knows_of}
use Rattle.room_lock.specs.Shaped.{IsLeft}
use Rattle.room_lock.specs.Stepped.{IsStepped}

-- The members stand for those of the model's step on the front of the bytes that was lent, whose reply and mask these are; its entries are recorded, and it leaves the bytes so.
pub record IsTurned (e : Event) (io now : List ℕ) (lent : ℕ) (xs : List ModelMember) (own number serial : ℕ) (old new : List RecView) (before after : List BookEntry) (ms : List (Member AnyCard ghosts)) (p q : PassView) (reply : Reply) (receipt : Receipt) (woken : ℕ) : Type 0 where
  pub members : AllStandFor ms (step_of e (take lent io) xs).members
  pub reply_is : reply ≡ (step_of e (take lent io) xs).answer.reply
  pub woken_is : woken ≡ mask_of (step_of e (take lent io) xs).woken
  pub stepped : IsStepped e (take lent io) xs own (length io) number serial old new before after p q receipt
  pub left : IsLeft e.call (client_of e.client) (stream_of e.sub xs) (step_of e (take lent io) xs).answer (take lent io) (take lent now)
  pub rest : drop lent now ≡ drop lent io

-- From recs that know what the old ones do, the event of the member at some place has been made, whose front of the bytes has the length that its call is lent.
pub record HasTurned (e : Event) (io now : List ℕ) (xs : List ModelMember) (v w : RoomView) (p q : PassView) (reply : Reply) (receipt : Receipt) (woken : ℕ) : Type 0 where
  pub place : ℕ
  pub ready : List RecView
  pub lent : ℕ
  pub known : knows_of ready ≡ knows_of v.recs
  pub here : place < length ready
  pub own : HoldsAt (λ r. sub_of r ≡ e.sub) place ready
  pub lent_is : IsLent (reading_length e.call (client_of e.client) (stream_of e.sub xs)) (length io) lent
  pub turned : IsTurned e io now lent xs place v.number (acts_in v.book) ready w.recs v.book w.book w.members p q reply receipt woken

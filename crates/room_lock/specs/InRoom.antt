-- What is known of a room while its lock is free. This project's own.
use Rattle.std.specs.Prelude.{◌≡◌, ℕ, ◌<◌, List, slice_get}
use Rattle.std.specs.declared.option.Option.TheVariants.{Some}
use Rattle.card_emul.specs.declared.any_card.AnyCard.{AnyCard}
use Rattle.card_emul.specs.contracts.any_card.AnyCardCard.TheImpl.{ghosts}
use Rattle.pcm_base.specs.declared.ids.SubId.{SubId}
use Rattle.pcm_base.specs.model.Acts.{subs}
use Rattle.pcm_base.specs.model.Stream.{Stream, Member as ModelMember}
use Rattle.pcm_stream.specs.declared.members.Member.{Member}
use Rattle.pcm_stream.specs.MembersStand.{AllStandFor}
use Rattle.room_book.specs.Rooms.{RoomFits, acts_in}
use Rattle.room_book.specs.declared.book.BookEntry.{BookEntry}
use Rattle.room_parts.specs.Recs.{RecView, subs_of}
use Rattle.room_lock.specs.Turning.{logs_of}

-- what a contract sees of a room: its number, the members of its group, the rec of each, and its book
pub record RoomView : Type 0 where
  pub number : ℕ
  pub members : List (Member AnyCard ghosts)
  pub recs : List RecView
  pub book : List BookEntry

-- each rec has its place in this room, and its words
abbrev pub AllPlaced : ℕ → ℕ → List RecView → Type 0
AllPlaced number cards rs = (i : ℕ) (r : RecView) → slice_get rs i ≡ Some r → (r.knows.place ≡ number) × (r.knows.sub < cards)

-- These streams, to which the logs in the recs play, fit the book; each rec has its place in this room, and serial counts the acts of the book.
pub record FitsIn (origin : SubId → Stream) (cards serial number : ℕ) (xs : List ModelMember) (recs : List RecView) (book : List BookEntry) : Type 0 where
  pub recs_are : subs_of recs ≡ subs xs
  pub fits : RoomFits origin number xs (logs_of recs) book
  pub placed : AllPlaced number cards recs
  pub acts : serial ≡ acts_in book

-- The members stand for these streams, which fit in the room; serial counts its acts.
pub record IsIn (origin : SubId → Stream) (cards serial : ℕ) (v : RoomView) (xs : List ModelMember) : Type 0 where
  pub stand : AllStandFor v.members xs
  pub fits_in : FitsIn origin cards serial v.number xs v.recs v.book

-- The members stand for streams that fit in the room.
pub record InRoom (origin : SubId → Stream) (cards serial : ℕ) (v : RoomView) : Type 0 where
  pub streams : List ModelMember
  pub stand : AllStandFor v.members streams
  pub fits_in : FitsIn origin cards serial v.number streams v.recs v.book

-- The members stand for these streams, which fit in the room.
pub record IsRoomOf (origin : SubId → Stream) (cards : ℕ) (v : RoomView) (xs : List ModelMember) : Type 0 where
  pub stand : AllStandFor v.members xs
  pub fits_in : FitsIn origin cards (acts_in v.book) v.number xs v.recs v.book

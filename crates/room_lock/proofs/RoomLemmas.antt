-- What the call on a room tells, from what the call on its contents does.
use Rattle.std.proofs.Common.{◌≡◌, ℕ, List, length, sym, subst}
use Rattle.pcm_base.specs.declared.call.Event.{Event}
use Rattle.pcm_base.specs.declared.config.CardModel.{CardModel}
use Rattle.pcm_base.specs.declared.ids.SubId.{SubId}
use Rattle.pcm_base.specs.declared.reply.Reply.{Reply}
use Rattle.pcm_base.specs.declared.state.Dir.{Dir}
use Rattle.pcm_base.specs.model.Stream.{Member, Stream}
use Rattle.pcm_stream.specs.MembersStand.{AllStandFor}
use Rattle.room_book.specs.Rooms.{acts_in, fresh_streams}
use Rattle.room_book.specs.declared.book.BookEntry.{BookEntry}
use Rattle.room_parts.specs.Passes.{PassView}
use Rattle.room_parts.specs.Recs.{RecView}
use Rattle.room_lock.specs.declared.answer.Answer.{Answer}
use Rattle.room_lock.specs.declared.answer.Answer.TheVariants.{Done, LogFull, Memory}
use Rattle.room_lock.specs.declared.recording.Receipt.{Receipt}
use Rattle.room_lock.specs.Answers.{OnDone, OnFull, OnMemory}
use Rattle.room_lock.specs.InRoom.{FitsIn, InRoom, IsRoomOf, RoomView}
use Rattle.room_lock.specs.Turned.{HasTurned}

pub on_both : (a : Answer) (P Q R : Reply → Receipt → ℕ → Type 0) → ((reply : Reply) (receipt : Receipt) (woken : ℕ) → P reply receipt woken → Q reply receipt woken → R reply receipt woken) → OnDone a P → OnDone a Q → OnDone a R
on_both (Done reply receipt woken) P Q R f h k = f reply receipt woken h k
on_both (LogFull sub count) P Q R f h k = tt
on_both Memory P Q R f h k = tt

-- what holds whatever is answered
pub on_all : (a : Answer) (P : Type 0) → OnDone a (λ reply receipt woken. P) → OnFull a (λ sub count. P) → OnMemory a P → P
on_all (Done reply receipt woken) P d f m = d
on_all (LogFull sub count) P d f m = f
on_all Memory P d f m = m

pub full_of : (a : Answer) (P Q : SubId → ℕ → Type 0) → ((sub : SubId) (count : ℕ) → P sub count → Q sub count) → OnFull a P → OnFull a Q
full_of (Done reply receipt woken) P Q f h = tt
full_of (LogFull sub count) P Q f h = f sub count h
full_of Memory P Q f h = tt

pub memory_of : (a : Answer) (P Q : Type 0) → (P → Q) → OnMemory a P → OnMemory a Q
memory_of (Done reply receipt woken) P Q f h = tt
memory_of (LogFull sub count) P Q f h = tt
memory_of Memory P Q f h = f h

-- the count of acts is that of the book
pub acts_fit : (origin : SubId → Stream) (cards serial number : ℕ) (xs : List Member) (recs : List RecView) (book : List BookEntry) → FitsIn origin cards serial number xs recs book → FitsIn origin cards (acts_in book) number xs recs book
acts_fit origin cards serial number xs recs book h = subst (λ (n : ℕ). FitsIn origin cards n number xs recs book) h.acts h

-- the streams for which the members of a room are known to stand
pub room_of : (origin : SubId → Stream) (cards serial : ℕ) (u v : RoomView) (h : InRoom origin cards serial u) → u ≡ v → IsRoomOf origin cards v h.streams
room_of origin cards serial u v h is = subst (λ (z : RoomView). IsRoomOf origin cards z h.streams) is (record { stand = h.stand; fits_in = acts_fit origin cards serial u.number h.streams u.recs u.book h.fits_in })

pub done_of : (cs : List (CardModel × Dir)) (long_max : ℕ) (a : Answer) (e : Event) (io now : List ℕ) (serial : ℕ) (u v w : RoomView) (p q : PassView) → u ≡ v → serial ≡ acts_in u.book
    → ((xs : List Member) → FitsIn (fresh_streams cs long_max) (length cs) serial u.number xs u.recs u.book → AllStandFor u.members xs → OnDone a (λ reply receipt woken. HasTurned e io now xs u w p q reply receipt woken))
    → (xs : List Member) → IsRoomOf (fresh_streams cs long_max) (length cs) v xs → OnDone a (λ reply receipt woken. HasTurned e io now xs v w p q reply receipt woken)
done_of cs long_max a e io now serial u v w p q is acts h =
    subst (λ (z : RoomView). (xs : List Member) → IsRoomOf (fresh_streams cs long_max) (length cs) z xs → OnDone a (λ reply receipt woken. HasTurned e io now xs z w p q reply receipt woken)) is
    (λ xs room. h xs (subst (λ (n : ℕ). FitsIn (fresh_streams cs long_max) (length cs) n u.number xs u.recs u.book) (sym acts) room.fits_in) room.stand)

pub fit_of : (cs : List (CardModel × Dir)) (long_max : ℕ) (a : Answer) (serial : ℕ) (u v : RoomView) (P : List Member → Type 0) → u ≡ v → serial ≡ acts_in u.book
    → ((xs : List Member) → FitsIn (fresh_streams cs long_max) (length cs) serial u.number xs u.recs u.book → AllStandFor u.members xs → OnDone a (λ reply receipt woken. P xs))
    → (xs : List Member) → IsRoomOf (fresh_streams cs long_max) (length cs) v xs → OnDone a (λ reply receipt woken. P xs)
fit_of cs long_max a serial u v P is acts h =
    subst (λ (z : RoomView). (xs : List Member) → IsRoomOf (fresh_streams cs long_max) (length cs) z xs → OnDone a (λ reply receipt woken. P xs)) is
    (λ xs room. h xs (subst (λ (n : ℕ). FitsIn (fresh_streams cs long_max) (length cs) n u.number xs u.recs u.book) (sym acts) room.fits_in) room.stand)

-- An event on the contents of a room, from what is known before its step.
use Rattle.std.proofs.Common.{◌≡◌, ◌<◌, ℕ, List, length, slice_get, get_or, sym, ap, ◌∙◌, subst, arith}
use Rattle.std.proofs.lemmas.Option.{slice_get_within}
use Rattle.pcm_base.specs.declared.ids.SubId.{SubId}
use Rattle.pcm_base.specs.declared.reply.Reply.{Reply}
use Rattle.pcm_base.specs.model.Stream.{Member, Stream}
use Rattle.floor_rule.specs.declared.rule.Marked.{Marked}
use Rattle.room_book.specs.Rooms.{RoomFits}
use Rattle.room_book.specs.declared.book.BookEntry.{BookEntry}
use Rattle.room_parts.specs.Recs.{RecView, sub_of, subs_of}
use Rattle.room_lock.specs.declared.answer.Answer.{Answer}
use Rattle.room_lock.specs.declared.answer.Answer.TheVariants.{Done, LogFull, Memory}
use Rattle.room_lock.specs.declared.recording.Receipt.{Receipt}
use Rattle.room_lock.specs.Answers.{OnDone, OnFull, OnMemory}
use Rattle.room_lock.specs.InRoom.{FitsIn}
use Rattle.room_lock.specs.Ready.{IsFull, ShortTo, knows_of}
use Rattle.room_lock.specs.Refused.{places_of}
use Rattle.room_lock.specs.Turning.{logs_of}
use Rattle.room_lock.proofs.RecLemmas.{found, no_rec, some_one}
use Rattle.room_lock.proofs.Records.{get_map, length_map}

pub on_full : (a : Answer) (P : SubId → ℕ → Type 0) (Q : Type 0) → OnDone a (λ reply receipt woken. ⊥) × OnMemory a ⊥ → OnFull a P → ((sub : SubId) (count : ℕ) → P sub count → Q) → Q
on_full (Done reply receipt woken) P Q h p k = absurd h.0
on_full (LogFull sub count) P Q h p k = k sub count p
on_full Memory P Q h p k = absurd h.1

pub on_done : (a : Answer) (P Q : Reply → Receipt → ℕ → Type 0) → ((reply : Reply) (receipt : Receipt) (woken : ℕ) → P reply receipt woken → Q reply receipt woken) → OnDone a P → OnDone a Q
on_done (Done reply receipt woken) P Q f h = f reply receipt woken h
on_done (LogFull sub count) P Q f h = tt
on_done Memory P Q f h = tt

pub short_full : (rs : List RecView) (k : ℕ) → ShortTo (length rs) rs → IsFull k rs → ⊥
short_full rs k short f =
    let r = get_or rs k no_rec in
    let at = found rs k f.there in
    let a = short k r f.there at in
    let b = f.full r at in
    omega (arith, a, b)

pub size_known : (rs ts : List RecView) → knows_of ts ≡ knows_of rs → length ts ≡ length rs
size_known rs ts h =
    let a = length_map (λ (r : RecView). r.knows) ts in
    let b = length_map (λ (r : RecView). r.knows) rs in
    sym a ∙ ap length h ∙ b

-- the same logs fit as before
pub fits_refused : (origin : SubId → Stream) (cards serial number : ℕ) (xs : List Member) (rs ts : List RecView) (book : List BookEntry) → logs_of ts ≡ logs_of rs → subs_of ts ≡ subs_of rs → places_of ts ≡ places_of rs
    → FitsIn origin cards serial number xs rs book → FitsIn origin cards serial number xs ts book
fits_refused origin cards serial number xs rs ts book logs subs_ places_ room = record {
  recs_are = subs_ ∙ room.recs_are;
  fits = subst (λ (ls : List (List Marked)). RoomFits origin number xs ls book) (sym logs) room.fits;
  placed = λ i t at.
      let a = length_map sub_of ts in
      let b = length_map sub_of rs in
      let e = ap length subs_ in
      let here = slice_get_within ts i t at in
      let lt : i < length rs = omega (arith, a, b, e, here) in
      let r = get_or rs i no_rec in
      let there = found rs i lt in
      let placed = room.placed i r there in
      let same_place = some_one r.knows.place t.knows.place (sym (get_map (λ (x : RecView). x.knows.place) rs i r there) ∙ ap (λ (l : List ℕ). slice_get l i) (sym places_) ∙ get_map (λ (x : RecView). x.knows.place) ts i t at) in
      let same_sub = some_one (sub_of r) (sub_of t) (sym (get_map sub_of rs i r there) ∙ ap (λ (l : List SubId). slice_get l i) (sym subs_) ∙ get_map sub_of ts i t at) in
      (sym same_place ∙ placed.0, subst (λ (k : SubId). k.0 < cards) same_sub placed.1);
  acts = room.acts;
}

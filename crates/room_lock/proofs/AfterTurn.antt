-- The recs of a room after an event.
use Rattle.std.proofs.Common.{◌≡◌, ◌≢◌, ◌≤◌, ◌<◌, ◌+◌, ℕ, Bool, true, false, nat_eq, List, [], ◌∷◌, ◌++◌, length, length-set, map, slice_get, get_or, Some, refl, sym, ap, ◌∙◌, subst, arith}
use Rattle.std.proofs.lemmas.Bool.Decides.{nat_tests}
use Rattle.std.proofs.lemmas.Option.{slice_get_within}
use Rattle.pcm_base.specs.declared.call.Call.{Call}
use Rattle.pcm_base.specs.declared.call.Call.TheVariants as call
use Rattle.pcm_base.specs.declared.call.Event.{Event}
use Rattle.pcm_base.specs.declared.ids.SubId.{SubId}
use Rattle.pcm_base.specs.declared.reply.Reply.{Reply}
use Rattle.pcm_base.specs.declared.votes.Acted.{Acted}
use Rattle.pcm_base.specs.model.Acts.{subs}
use Rattle.pcm_base.specs.model.Replay.{is_link, is_member}
use Rattle.pcm_base.specs.model.Stream.{Member}
use Rattle.room_book.specs.Logs.{due_own, nothing}
use Rattle.room_book.specs.Rooms.{acts_in}
use Rattle.room_book.specs.declared.book.BookEntry.{BookEntry}
use Rattle.room_book.specs.declared.book.BookEntry.TheVariants.{In, Out, Act}
use Rattle.room_parts.specs.Passes.{PassView}
use Rattle.room_parts.specs.Recs.{RecView, sub_of, subs_of}
use Rattle.room_lock.specs.InRoom.{AllPlaced}
use Rattle.room_lock.specs.Recorded.{IsRecorded}
use Rattle.pcm_group.specs.Turn.{is_group_call}
use Rattle.room_lock.proofs.RecLemmas.{found, get_other, get_set, no_rec, some_one}
use Rattle.room_lock.proofs.SharedLemmas.{member_at}
use Rattle.room_lock.proofs.Records.{get_map, length_map, same_list}

-- what a rec keeps
record IsKept (r s : RecView) : Type 0 where
  sub : s.knows.sub ≡ r.knows.sub
  place : s.knows.place ≡ r.knows.place

recorded_at : (ys : List Member) (own : ℕ) (e : Event) (count : ℕ) (bytes : List ℕ) (reply : Reply) (acts : List Acted) (number n : ℕ) (r : RecView) (old now : List RecView) (p q : PassView) → slice_get old own ≡ Some r
    → IsRecorded ys own e count bytes reply acts number n r old now p q → (i : ℕ) (r0 : RecView) → slice_get old i ≡ Some r0 → (s : RecView) × (slice_get now i ≡ Some s) × IsKept r0 s
recorded_at ys own e count bytes reply acts number n r old now p q at did i r0 at0 = by (nat_eq i own) refl
  where
    by : (b : Bool) → nat_eq i own ≡ b → (s : RecView) × (slice_get now i ≡ Some s) × IsKept r0 s
    by true f =
        let here : i ≡ own = grind (arith, nat_tests, f) in
        let same : r ≡ r0 = some_one r r0 (sym at ∙ ap (slice_get old) (sym here) ∙ at0) in
        let first = did.first in
        (first.rec, ap (slice_get now) here ∙ did.own_same ∙ ap (λ (l : List RecView). slice_get l own) first.recs ∙ get_set old own first.rec (slice_get_within old own r at), record { sub = first.joined.sub ∙ ap (λ (x : RecView). x.knows.sub) same; place = first.joined.place ∙ ap (λ (x : RecView). x.knows.place) same })
    by false f =
        let other : i ≢ own = grind (arith, nat_tests, f) in
        let first = did.first in
        let in_mid : slice_get (did.mid) i ≡ Some r0 = ap (λ (l : List RecView). slice_get l i) first.recs ∙ get_other old own i first.rec other ∙ at0 in
        let got = did.others i r0 (slice_get_within did.mid i r0 in_mid) other in_mid in
        (got.0, got.1, record { sub = got.2.sub; place = got.2.place })

size_recorded : (ys : List Member) (own : ℕ) (e : Event) (count : ℕ) (bytes : List ℕ) (reply : Reply) (acts : List Acted) (number n : ℕ) (r : RecView) (old now : List RecView) (p q : PassView) → IsRecorded ys own e count bytes reply acts number n r old now p q → length now ≡ length old
size_recorded ys own e count bytes reply acts number n r old now p q did = did.size ∙ ap length did.first.recs ∙ length-set old own did.first.rec

pub subs_recorded : (ys : List Member) (own : ℕ) (e : Event) (count : ℕ) (bytes : List ℕ) (reply : Reply) (acts : List Acted) (number n : ℕ) (r : RecView) (old now : List RecView) (p q : PassView) → slice_get old own ≡ Some r
    → IsRecorded ys own e count bytes reply acts number n r old now p q → subs_of now ≡ subs_of old
subs_recorded ys own e count bytes reply acts number n r old now p q at did =
    let size = size_recorded ys own e count bytes reply acts number n r old now p q did in
    let a : length (subs_of now) ≡ length now = length_map sub_of now in
    let b : length (subs_of old) ≡ length old = length_map sub_of old in
    same_list (subs_of now) (subs_of old) (a ∙ size ∙ sym b)
    (λ i lt.
    let r0 = get_or old i no_rec in
    let at0 = found old i (omega (arith, lt, a, size)) in
    let got = recorded_at ys own e count bytes reply acts number n r old now p q at did i r0 at0 in
    get_map sub_of now i got.0 got.1 ∙ ap (λ m. (let j : SubId = record { 0 = m } in Some j)) got.2.sub ∙ sym (get_map sub_of old i r0 at0))

pub placed_recorded : (room cards : ℕ) (ys : List Member) (own : ℕ) (e : Event) (count : ℕ) (bytes : List ℕ) (reply : Reply) (acts : List Acted) (number n : ℕ) (r : RecView) (old now : List RecView) (p q : PassView) → slice_get old own ≡ Some r
    → IsRecorded ys own e count bytes reply acts number n r old now p q → AllPlaced room cards old → AllPlaced room cards now
placed_recorded room cards ys own e count bytes reply acts number n r old now p q at did placed i s there =
    let size = size_recorded ys own e count bytes reply acts number n r old now p q did in
    let lt : i < length now = slice_get_within now i s there in
    let r0 = get_or old i no_rec in
    let at0 = found old i (omega (arith, lt, size)) in
    let got = recorded_at ys own e count bytes reply acts number n r old now p q at did i r0 at0 in
    let same : got.0 ≡ s = some_one got.0 s (sym got.1 ∙ there) in
    let before = placed i r0 at0 in
    (ap (λ (x : RecView). x.knows.place) (sym same) ∙ got.2.place ∙ before.0, subst (λ (k : ℕ). k < cards) (sym got.2.sub ∙ ap (λ (x : RecView). x.knows.sub) same) before.1)

pub acts_both : (book : List BookEntry) (acts : List Acted) → acts_in (book ++ map Act acts) ≡ acts_in book + length acts
acts_both [] [] = refl
acts_both [] (a ∷ acts) = let e = acts_both [] acts in omega (arith, e)
acts_both (In x ∷ book) acts = acts_both book acts
acts_both (Out x ∷ book) acts = acts_both book acts
acts_both (Act a ∷ book) acts = let e = acts_both book acts in omega (arith, e)

pub no_link : (e : Call) → is_group_call e ≡ true → is_link e ≡ false
no_link (call.Link j) h = absurd (cc)
no_link _ h = refl

pub none_due : (e : Call) (r : Reply) → is_group_call e ≡ true → due_own e r ≡ nothing
none_due call.Unlink r h = absurd (cc)
none_due _ r h = refl

-- a book has no more acts than lines
pub acts_few : (book : List BookEntry) → acts_in book ≤ length book
acts_few [] = omega arith
acts_few (In x ∷ book) = let h = acts_few book in omega (arith, h)
acts_few (Out x ∷ book) = let h = acts_few book in omega (arith, h)
acts_few (Act a ∷ book) = let h = acts_few book in omega (arith, h)

-- the member of a rec is one of the room's
pub own_is_member : (rs : List RecView) (xs : List Member) (own : ℕ) (r : RecView) (k : SubId) → subs_of rs ≡ subs xs → slice_get rs own ≡ Some r → sub_of r ≡ k → is_member k (subs xs) ≡ true
own_is_member rs xs own r k here at is = ap (λ (z : SubId × List SubId). is_member z.0 z.1) (λ j. (sym is j, sym here j)) ∙ member_at rs own r at

-- Room for more entries.
use Rattle.std.proofs.Common.{◌≡◌, ◌≢◌, ◌≤◌, ◌<◌, ◌+◌, ℕ, zero, suc, Bool, true, false, nat_eq, List, [], ◌∷◌, length, slice_get, slice_set, Some, refl, sym, ap, ◌∙◌, subst, arith}
use Rattle.std.proofs.lemmas.Bool.Decides.{nat_tests}
use Rattle.std.proofs.Common.{drop}
use Rattle.pcm_base.specs.model.Stream.{Member, Stream}
use Rattle.floor_rule.specs.declared.rule.Marked.{Marked}
use Rattle.room_book.specs.Rooms.{RoomFits}
use Rattle.room_book.specs.declared.book.BookEntry.{BookEntry}
use Rattle.room_lock.specs.InRoom.{FitsIn}
use Rattle.room_lock.specs.Turning.{logs_of}
use Rattle.std.specs.Prelude.{◌||◌}
use Rattle.pcm_base.specs.declared.ids.SubId.{SubId}
use Rattle.pcm_base.specs.model.Replay.{is_member}
use Rattle.floor_rule.specs.declared.rule.RecKnows.{RecKnows}
use Rattle.room_parts.specs.Recs.{RecView, sub_of, subs_of}
use Rattle.room_lock.specs.Ready.{SpareTo, knows_of}
use Rattle.room_lock.proofs.RecLemmas.{get_other, get_set, some_one}

pub knows_set : (rs : List RecView) (i : ℕ) (r s : RecView) → slice_get rs i ≡ Some r → s.knows ≡ r.knows → knows_of (slice_set rs i s) ≡ knows_of rs
knows_set [] i r s at is = refl
knows_set (x ∷ rs) zero r s at is =
    let e : x ≡ r = cc in
    let same : s.knows ≡ x.knows = is ∙ ap (λ (y : RecView). y.knows) (sym e) in ap (λ (k : RecKnows). k ∷ knows_of rs) same
knows_set (x ∷ rs) (suc i) r s at is = ap (λ l. x.knows ∷ l) (knows_set rs i r s at is)

pub spare_on : (rs : List RecView) (i : ℕ) (s : RecView) → i < length rs → 3 ≤ s.spare → SpareTo i rs → SpareTo (i + 1) (slice_set rs i s)
spare_on rs i s here room before k r lt at = by (nat_eq k i) refl
  where
    by : (b : Bool) → nat_eq k i ≡ b → 3 ≤ r.spare
    by true e =
        let is : k ≡ i = grind (arith, nat_tests, e) in
        let same : s ≡ r = some_one s r (sym (get_set rs i s here) ∙ ap (slice_get (slice_set rs i s)) (sym is) ∙ at) in
        subst (λ (x : RecView). 3 ≤ x.spare) same room
    by false e =
        let other : k ≢ i = grind (arith, nat_tests, e) in
        before k r (omega (arith, lt, other)) (sym (get_other rs i k s other) ∙ at)

-- recs that know the same

pub subs_known : (rs ts : List RecView) → knows_of ts ≡ knows_of rs → subs_of ts ≡ subs_of rs
subs_known [] [] h = refl
subs_known [] (y ∷ ts) h = absurd (cc)
subs_known (x ∷ rs) [] h = absurd (cc)
subs_known (x ∷ rs) (y ∷ ts) h =
    let one : y.knows ≡ x.knows = cc in
    let rest : knows_of ts ≡ knows_of rs = cc in
    ap (λ (z : SubId × List SubId). z.0 ∷ z.1) (λ i. (ap (λ (k : RecKnows). let j : SubId = record { 0 = k.sub } in j) one i, subs_known rs ts rest i))

pub known_at : (rs ts : List RecView) (i : ℕ) (t : RecView) → knows_of ts ≡ knows_of rs → slice_get ts i ≡ Some t → (r : RecView) × (slice_get rs i ≡ Some r) × (t.knows ≡ r.knows)
known_at rs [] i t h at = absurd (cc)
known_at [] (y ∷ ts) i t h at = absurd (cc)
known_at (x ∷ rs) (y ∷ ts) zero t h at = let e : y ≡ t = cc in let one : y.knows ≡ x.knows = cc in (x, refl, ap (λ (v : RecView). v.knows) (sym e) ∙ one)
known_at (x ∷ rs) (y ∷ ts) (suc i) t h at = let rest : knows_of ts ≡ knows_of rs = cc in known_at rs ts i t rest at

-- the last of a list of numbers
pub is_last : (rs : List RecView) (i : ℕ) (a : RecView) (k : SubId) → slice_get rs i ≡ Some a → length rs ≤ i + 1 → is_member k (subs_of (drop i rs)) ≡ true → sub_of a ≡ k
is_last [] i a k at le h = absurd (cc)
is_last (x ∷ []) zero a k at le h =
    let e : x ≡ a = cc in
    ap sub_of (sym e) ∙ by (nat_eq x.knows.sub k.0) refl h
  where
    by : (b : Bool) → nat_eq x.knows.sub k.0 ≡ b → (b || false) ≡ true → sub_of x ≡ k
    by true f m = let n : x.knows.sub ≡ k.0 = grind (arith, nat_tests, f) in ap (λ n. let j : SubId = record { 0 = n } in j) n
    by false f m = absurd (let no : ⊥ = cc in no)
is_last (x ∷ y ∷ rs) zero a k at le h = absurd (omega (arith, le))
is_last (x ∷ rs) (suc i) a k at le h = is_last rs i a k at (omega (arith, le)) h

pub logs_known : (rs ts : List RecView) → knows_of ts ≡ knows_of rs → logs_of ts ≡ logs_of rs
logs_known [] [] h = refl
logs_known [] (y ∷ ts) h = absurd (cc)
logs_known (x ∷ rs) [] h = absurd (cc)
logs_known (x ∷ rs) (y ∷ ts) h =
    let one : y.knows ≡ x.knows = cc in
    let rest : knows_of ts ≡ knows_of rs = cc in
    ap (λ (z : List Marked × List (List Marked)). z.0 ∷ z.1) (λ i. (ap (λ (k : RecKnows). k.log) one i, logs_known rs ts rest i))

-- a room is as good with recs that know the same
pub fits_known : (origin : SubId → Stream) (cards serial number : ℕ) (xs : List Member) (rs ts : List RecView) (book : List BookEntry) → knows_of ts ≡ knows_of rs → FitsIn origin cards serial number xs rs book → FitsIn origin cards serial number xs ts book
fits_known origin cards serial number xs rs ts book h room = record {
  recs_are = subs_known rs ts h ∙ room.recs_are;
  fits = subst (λ (ls : List (List Marked)). RoomFits origin number xs ls book) (sym (logs_known rs ts h)) room.fits;
  placed = λ i t at.
      let r = known_at rs ts i t h at in
      let old = room.placed i r.0 r.1 in
      (ap (λ (k : RecKnows). k.place) r.2 ∙ old.0, subst (λ (k : RecKnows). k.sub < cards) (sym r.2) old.1);
  acts = room.acts;
}

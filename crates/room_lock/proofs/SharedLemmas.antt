-- The recs of a room, each of which but one gains entries.
use Rattle.std.proofs.Common.{◌≡◌, ◌≢◌, ◌≤◌, ◌<◌, ◌+◌, ℕ, zero, suc, Bool, true, false, nat_eq, List, [], ◌∷◌, ◌++◌, length, length-set, map, slice_get, slice_set, Some, refl, sym, ap, ◌∙◌, subst, arith}
use Rattle.std.specs.Prelude.{◌||◌}
use Rattle.std.proofs.lemmas.Bool.Decides.{nat_tests}
use Rattle.pcm_base.specs.declared.ids.SubId.{SubId}
use Rattle.pcm_base.specs.model.Replay.{is_member}
use Rattle.floor_rule.specs.declared.rule.Marked.{Marked}
use Rattle.room_parts.specs.Recs.{RecView, sub_of, subs_of}
use Rattle.room_lock.specs.Joined.{Gains, IsJoined}
use Rattle.room_lock.specs.Shared.{SharedTo, Untouched}
use Rattle.room_lock.proofs.RecLemmas.{get_other, get_set, some_one}

pub member_at : (rs : List RecView) (i : ℕ) (r : RecView) → slice_get rs i ≡ Some r → is_member (sub_of r) (subs_of rs) ≡ true
member_at [] i r h = absurd (cc)
member_at (x ∷ rs) zero r h =
    let e : x ≡ r = cc in
    let same : nat_eq x.knows.sub x.knows.sub ≡ true = grind (arith, nat_tests) in
    subst (λ (y : RecView). is_member (sub_of y) (subs_of (x ∷ rs)) ≡ true) e (ap (λ b. b || is_member (sub_of x) (subs_of rs)) same)
member_at (x ∷ rs) (suc i) r h = by (nat_eq x.knows.sub r.knows.sub) (member_at rs i r h)
  where
    by : (b : Bool) → is_member (sub_of r) (subs_of rs) ≡ true → (b || is_member (sub_of r) (subs_of rs)) ≡ true
    by true e = refl
    by false e = e

pub untouched_on : (i own : ℕ) (old cur now : List RecView) (s : RecView) → Untouched i own old cur → i ≢ own → now ≡ slice_set cur i s → Untouched (i + 1) own old now
untouched_on i own old cur now s u ne is = record {
  own_same = ap (λ (l : List RecView). slice_get l own) is ∙ get_other cur i own s (λ e. ne (sym e)) ∙ u.own_same;
  after = λ k le. ap (λ (l : List RecView). slice_get l k) is ∙ get_other cur i k s (λ e. omega (arith, le, e)) ∙ u.after k (omega (arith, le));
  size = ap length is ∙ length-set cur i s ∙ u.size;
}

pub untouched_own : (i own : ℕ) (old cur : List RecView) → Untouched i own old cur → Untouched (i + 1) own old cur
untouched_own i own old cur u = record { own_same = u.own_same; after = λ k le. u.after k (omega (arith, le)); size = u.size }

pub shared_on : (i own : ℕ) (gain : ℕ → RecView → List Marked) (old cur now : List RecView) (r : RecView) → SharedTo i own gain old cur → Untouched i own old cur → i < length old
    → slice_get old i ≡ Some r → Gains cur now i (gain i r) → SharedTo (i + 1) own gain old now
shared_on i own gain old cur now r shared u here at gains k q lt ne there = by (nat_eq k i) refl
  where
    got : (s : RecView) × (now ≡ slice_set cur i s) × IsJoined r s (gain i r)
    got = let le : i ≤ i = omega arith in gains r (u.after i le ∙ at)

    by : (b : Bool) → nat_eq k i ≡ b → (s : RecView) × (slice_get now k ≡ Some s) × IsJoined q s (gain k q)
    by true e =
        let is : k ≡ i = grind (arith, nat_tests, e) in
        let size = u.size in
        let same : r ≡ q = some_one r q (sym at ∙ ap (slice_get old) (sym is) ∙ there) in (
          got.0,
          ap (slice_get now) is ∙ ap (λ (l : List RecView). slice_get l i) got.1 ∙ get_set cur i got.0 (omega (arith, size, here)),
          subst (λ (z : ℕ × RecView). IsJoined z.1 got.0 (gain z.0 z.1)) (λ j. (sym is j, same j)) got.2,
        )
    by false e =
        let other : k ≢ i = grind (arith, nat_tests, e) in
        let before = shared k q (omega (arith, lt, other)) ne there in
        (before.0, ap (λ (l : List RecView). slice_get l k) got.1 ∙ get_other cur i k got.0 other ∙ before.1, before.2)

pub shared_own : (i own : ℕ) (gain : ℕ → RecView → List Marked) (old cur : List RecView) → SharedTo i own gain old cur → i ≡ own → SharedTo (i + 1) own gain old cur
shared_own i own gain old cur shared is k q lt ne there = shared k q (omega (arith, lt, ne, is)) ne there

pub subs_set : (rs : List RecView) (i : ℕ) (r s : RecView) → slice_get rs i ≡ Some r → s.knows.sub ≡ r.knows.sub → subs_of (slice_set rs i s) ≡ subs_of rs
subs_set [] i r s at is = refl
subs_set (x ∷ rs) zero r s at is =
    let e : x ≡ r = cc in
    let same : s.knows.sub ≡ x.knows.sub = is ∙ ap (λ (y : RecView). y.knows.sub) (sym e) in ap (λ n. (let k : SubId = record { 0 = n } in k) ∷ subs_of rs) same
subs_set (x ∷ rs) (suc i) r s at is = ap (λ l. sub_of x ∷ l) (subs_set rs i r s at is)

pub get_last : {A : Type 0} (xs : List A) (x : A) → slice_get (xs ++ x ∷ []) (length xs) ≡ Some x
get_last [] x = refl
get_last (y ∷ xs) x = get_last xs x

pub map_set : {B : Type 0} (f : RecView → B) (rs : List RecView) (i : ℕ) (r s : RecView) → slice_get rs i ≡ Some r → f s ≡ f r → map f (slice_set rs i s) ≡ map f rs
map_set f [] i r s at is = refl
map_set {B} f (x ∷ rs) zero r s at is = (let e : x ≡ r = cc in let same : f s ≡ f x = is ∙ ap f (sym e) in ap (λ (b : B). b ∷ map f rs) same)
map_set {B} f (x ∷ rs) (suc i) r s at is = ap (λ (l : List B). f x ∷ l) (map_set f rs i r s at is)

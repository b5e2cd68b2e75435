-- The recs of a room, of which one gains entries.
use Rattle.std.proofs.Common.{◌≡◌, ◌≢◌, inl, inr, ◌≤◌, ◌<◌, ◌+◌, ℕ, zero, suc, List, [], ◌∷◌, ◌++◌, length, drop, slice_get, slice_set, get_or, Some, refl, sym, ap, append_assoc, append-nil, length-append, ◌∙◌, subst, arith}
use Rattle.std.proofs.lemmas.List.{get_or-set_same, length-set}
use Rattle.std.proofs.lemmas.Option.{slice_get-get_or}
use Rattle.pcm_base.specs.declared.state.State.{State}
use Rattle.pcm_base.specs.declared.ids.SubId.{SubId}
use Rattle.pcm_base.specs.declared.votes.Acted.{Acted}
use Rattle.floor_rule.specs.Causes.{Causes, HasJoint}
use Rattle.floor_rule.specs.Views.{no_lists}
use Rattle.floor_rule.specs.declared.entry.Entry.{Entry}
use Rattle.floor_rule.specs.declared.entry.Entry.TheVariants as entry
use Rattle.floor_rule.specs.declared.entry.EntryMark.TheVariants as mark
use Rattle.floor_rule.specs.declared.entry.Joint.{Joint}
use Rattle.floor_rule.specs.declared.rule.Marked.{Marked}
use Rattle.room_parts.specs.Recs.{RecView}
use Rattle.room_lock.specs.Joined.{GainedSoFar, Gains, HasRoom, IsJoined, IsOwnWith}
use Rattle.room_lock.specs.Joints.{joint_at, joints_at, shared_at, state_after}
use Rattle.room_lock.proofs.JointLemmas.{drop_at}

pub no_rec : RecView
no_rec = record { knows = record { sub = 0; log = []; place = 0; held = no_lists }; spare = 0 }

pub some_one : {A : Type 0} (a b : A) → Some a ≡ Some b → a ≡ b
some_one a b h = cc

-- a list with another element at a place
pub get_set : {A : Type 0} (xs : List A) (i : ℕ) (a : A) → i < length xs → slice_get (slice_set xs i a) i ≡ Some a
get_set xs i a h = let size : i < length (slice_set xs i a) = subst (λ n. i < n) (sym (length-set xs i a)) h in slice_get-get_or (slice_set xs i a) i a size ∙ ap Some (get_or-set_same xs i a a h)

pub get_other : {A : Type 0} (xs : List A) (i j : ℕ) (a : A) → j ≢ i → slice_get (slice_set xs i a) j ≡ slice_get xs j
get_other [] i j a h = refl
get_other (x ∷ xs) zero zero a h = absurd (h refl)
get_other (x ∷ xs) zero (suc j) a h = refl
get_other (x ∷ xs) (suc i) zero a h = refl
get_other (x ∷ xs) (suc i) (suc j) a h = get_other xs i j a (λ e. h (ap suc e))

pub set_twice : {A : Type 0} (xs : List A) (i : ℕ) (a b : A) → slice_set (slice_set xs i a) i b ≡ slice_set xs i b
set_twice [] i a b = refl
set_twice (x ∷ xs) zero a b = refl
set_twice (x ∷ xs) (suc i) a b = ap (λ l. x ∷ l) (set_twice xs i a b)

pub set_same : {A : Type 0} (xs : List A) (i : ℕ) (a : A) → slice_get xs i ≡ Some a → slice_set xs i a ≡ xs
set_same [] i a h = absurd (cc)
set_same (x ∷ xs) zero a h = let e : x ≡ a = cc in ap (λ y. y ∷ xs) (sym e)
set_same (x ∷ xs) (suc i) a h = ap (λ l. x ∷ l) (set_same xs i a h)

-- the rec at a place
pub found : (xs : List RecView) (i : ℕ) → i < length xs → slice_get xs i ≡ Some (get_or xs i no_rec)
found xs i h = slice_get-get_or xs i no_rec h

-- one entry more
pub joined_on : (r s t : RecView) (so : List Marked) (e : Marked) → IsJoined r s so → IsJoined s t (e ∷ []) → IsJoined r t (so ++ e ∷ [])
joined_on r s t so e h k =
    let one = k.spare in
    let size : length (so ++ e ∷ []) ≡ length so + 1 = length-append so (e ∷ []) in
    record {
      log = k.log ∙ ap (λ l. l ++ e ∷ []) h.log ∙ append_assoc r.knows.log so (e ∷ []);
      sub = k.sub ∙ h.sub;
      place = k.place ∙ h.place;
      spare = let two = h.spare in omega (arith, one, two, size);
    }

pub shared_next : (place room n : ℕ) (acts : List Acted) (i : ℕ) (a : Acted) (t : State) (h : ℕ) (sub : SubId) (at : ℕ) → slice_get acts i ≡ Some a
    → shared_at place room (n + i) (drop i acts) t h sub at
    ≡ record { entry = entry.Shared (joint_at place room (n + i) a); mark = mark.Caused (state_after (drop (i + 1) acts) t) h sub at } ∷ shared_at place room (n + (i + 1)) (drop (i + 1) acts) t h sub at
shared_next place room n acts i a t h sub at is =
    let e : n + i + 1 ≡ n + (i + 1) = omega arith in
    let one : Marked = record { entry = entry.Shared (joint_at place room (n + i) a); mark = mark.Caused (state_after (drop (i + 1) acts) t) h sub at } in
    ap (λ (l : List Acted). shared_at place room (n + i) l t h sub at) (drop_at acts i a is) ∙ ap (λ (m : ℕ). one ∷ shared_at place room m (drop (i + 1) acts) t h sub at) e

pub shared_end : (place room n : ℕ) (acts : List Acted) (i : ℕ) (t : State) (h : ℕ) (sub : SubId) (at : ℕ) → length acts ≤ i → shared_at place room n (drop i acts) t h sub at ≡ []
shared_end place room n [] zero t h sub at le = refl
shared_end place room n [] (suc i) t h sub at le = refl
shared_end place room n (a ∷ acts) zero t h sub at le = absurd (omega (arith, le))
shared_end place room n (a ∷ acts) (suc i) t h sub at le = shared_end place room n acts i t h sub at (omega (arith, le))

-- causes

pub own_causes : (e : Entry) (js : List Joint) (j : Joint) → IsOwnWith js e → HasJoint js j → Causes e (entry.Shared j)
own_causes (entry.Own event bytes joints r s) js j is has = subst (λ l. HasJoint l j) (sym is) has
own_causes (entry.Shared x) js j is has = absurd is
own_causes (entry.Linkage client first second s t linked r) js j is has = absurd is
own_causes (entry.Moved room) js j is has = absurd is

pub has_joint : (p q room n : ℕ) (acts : List Acted) (i : ℕ) (a : Acted) → slice_get acts i ≡ Some a → HasJoint (joints_at p room n acts) (joint_at q room (n + i) a)
has_joint p q room n [] i a h = absurd (cc)
has_joint p q room n (x ∷ acts) zero a h = let e : x ≡ a = cc in let m : n ≡ n + 0 = omega arith in inl (ap (λ (d : Acted). d.act) e, refl, m, ap (λ (d : Acted). d.outcome) e)
has_joint p q room n (x ∷ acts) (suc i) a h = let m : n + 1 + i ≡ n + suc i = omega arith in inr (subst (λ (k : ℕ). HasJoint (joints_at p room (n + 1) acts) (joint_at q room k a)) m (has_joint p q room (n + 1) acts i a h))

pub room_left : (r s : RecView) (so : List Marked) (n : ℕ) → IsJoined r s so → length so ≡ n → n < 3 → HasRoom 3 r → HasRoom 1 s
room_left r s so n h count few room =
    let spare = h.spare in
    let three = room.0 in
    let bound = room.1 in
    let size : length s.knows.log ≡ length r.knows.log + length so = ap length h.log ∙ length-append r.knows.log so in (
      omega (arith, spare, three, count, few),
      omega (arith, size, bound, count, few),
    )

-- the entry of one more act
pub gained_on : (old now then_ : List RecView) (i : ℕ) (r : RecView) (n : ℕ) (e d : Marked) (rest after all : List Marked) → i < length old → e ≡ d → rest ≡ d ∷ after
    → Gains now then_ i (e ∷ []) → GainedSoFar old now i n rest all r → GainedSoFar old then_ i (n + 1) after all r
gained_on old now then_ i r n e d rest after all here is next gains g =
    let got = gains g.rec (ap (λ (l : List RecView). slice_get l i) g.items ∙ get_set old i g.rec here) in
    let count = g.count in
    let size : length (g.gained ++ e ∷ []) ≡ length g.gained + 1 = length-append g.gained (e ∷ []) in
    record {
      rec = got.0;
      gained = g.gained ++ e ∷ [];
      items = got.1 ∙ ap (λ (l : List RecView). slice_set l i got.0) g.items ∙ set_twice old i g.rec got.0;
      joined = joined_on r g.rec got.0 g.gained e g.joined got.2;
      told = append_assoc g.gained (e ∷ []) after ∙ ap (λ (m : Marked). g.gained ++ m ∷ after) is ∙ sym (ap (λ (l : List Marked). g.gained ++ l) next) ∙ g.told;
      count = omega (arith, size, count);
    }

-- all of them
pub gained_all : (old now : List RecView) (i : ℕ) (r : RecView) (n : ℕ) (rest all : List Marked) → rest ≡ [] → GainedSoFar old now i n rest all r → (s : RecView) × (now ≡ slice_set old i s) × IsJoined r s all
gained_all old now i r n rest all none g =
    let is : g.gained ≡ all = sym (append-nil g.gained) ∙ sym (ap (λ (l : List Marked). g.gained ++ l) none) ∙ g.told in
    (g.rec, g.items, subst (IsJoined r g.rec) is g.joined)

-- none of them
pub gained_none : (old : List RecView) (i : ℕ) (r : RecView) (rest all : List Marked) → slice_get old i ≡ Some r → rest ≡ all → GainedSoFar old old i 0 rest all r
gained_none old i r rest all at is = record {
  rec = r;
  gained = [];
  items = sym (set_same old i r at);
  joined = record { log = sym (append-nil r.knows.log); sub = refl; place = refl; spare = omega arith };
  told = is;
  count = refl;
}

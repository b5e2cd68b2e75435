-- The member at a place, and the members with another stream there.
use Rattle.std.proofs.Common.{◌≡◌, ℕ, zero, suc, ◌≤◌, Bool, true, false, cond, not, ◌||◌, ◌&&◌, nat_eq, List, [], ◌∷◌, length, drop, map, set, Some, refl, sym, ap, ◌∙◌, subst, arith}
use Rattle.std.proofs.Math.Path.{ap₂}
use Rattle.std.proofs.lemmas.Bool.Decides.{nat_tests}
use Rattle.std.specs.List.{slice_get}
use Rattle.pcm_base.specs.declared.act.Act.{Act}
use Rattle.pcm_base.specs.declared.act.Outcome.{Outcome}
use Rattle.pcm_base.specs.declared.act.Vote.{Vote}
use Rattle.pcm_base.specs.declared.card.Card.{Ghosts}
use Rattle.pcm_base.specs.declared.ids.SubId.{SubId}
use Rattle.pcm_base.specs.declared.sleeper.Sleeper.{Sleeper}
use Rattle.pcm_base.specs.declared.votes.Acted.{Acted}
use Rattle.pcm_base.specs.model.Acts.{after_all, members_after, subs}
use Rattle.pcm_base.specs.model.Group.{put_stream, stream_of}
use Rattle.pcm_base.specs.model.Replay.{Distinct, is_member}
use Rattle.pcm_base.specs.model.Stream.{Stream, Member as ModelMember}
use Rattle.pcm_laws.proofs.Decomposition.{left_of, right_of, same, subs-put_stream}
use Rattle.pcm_stream.specs.declared.members.Member.{Member}
use Rattle.pcm_stream.specs.declared.substream.Substream.{Substream}
use Rattle.pcm_stream.specs.Members.{Fixed, all_differ, all_fixed, numbers_of}
use Rattle.pcm_stream.specs.MembersStand.{AllStandFor, IsMember, MemberStandsFor}
use Rattle.pcm_stream.specs.StandsFor.{StandsFor, tells_plan}
use Rattle.group_trigger.specs.Votes.{all_tell}
use Rattle.pcm_group.specs.Ended.{IsAt, KeepsCalls}
use Rattle.pcm_group.proofs.FaultLemmas.{map-at}
use Rattle.pcm_group.specs.Waiting.{calls_of}

-- ---- numbers

pub nat_eq-self : (n : ℕ) → nat_eq n n ≡ true
nat_eq-self n = grind (arith, nat_tests)

pub is_member-at : (ks : List SubId) (i : ℕ) (k : SubId) → slice_get ks i ≡ Some k → is_member k ks ≡ true
is_member-at [] i k h = absurd (let no : ⊥ = cc in no)
is_member-at (j ∷ ks) zero k h =
    let e : j ≡ k = cc in
    ap (λ (x : SubId). nat_eq x.0 k.0 || is_member k ks) e ∙ ap (λ (b : Bool). b || is_member k ks) (nat_eq-self k.0)
is_member-at (j ∷ ks) (suc i) k h = later (nat_eq j.0 k.0) (is_member k ks) (is_member-at ks i k h)
  where
    later : (a b : Bool) → b ≡ true → (a || b) ≡ true
    later true b h = refl
    later false b h = h

-- a number that stands behind another, distinct one
pub other_number : (j k : SubId) (ks : List SubId) → is_member j ks ≡ false → is_member k ks ≡ true → nat_eq j.0 k.0 ≡ false
other_number j k ks absent present = by (nat_eq j.0 k.0) refl
  where
    by : (b : Bool) → nat_eq j.0 k.0 ≡ b → b ≡ false
    by true h = let never : false ≡ true = sym absent ∙ ap (λ x. is_member x ks) (same j k h) ∙ present in cc
    by false h = refl

-- ---- putting a stream

pub put_absent : (k : SubId) (s : Stream) (xs : List ModelMember) → is_member k (subs xs) ≡ false → put_stream k s xs ≡ xs
put_absent k s [] h = refl
put_absent k s (x ∷ xs) h =
    ap₂ (λ b l. record x { stream = cond b s x.stream } ∷ l) (left_of (nat_eq x.sub.0 k.0) (is_member k (subs xs)) h) (put_absent k s xs (right_of (nat_eq x.sub.0 k.0) (is_member k (subs xs)) h))

twice : (b : Bool) (s t u : Stream) → cond b s (cond b t u) ≡ cond b s u
twice true s t u = refl
twice false s t u = refl

pub put_stream-twice : (k : SubId) (s t : Stream) (xs : List ModelMember) → put_stream k s (put_stream k t xs) ≡ put_stream k s xs
put_stream-twice k s t [] = refl
put_stream-twice k s t (x ∷ xs) = ap₂ (λ u l. record x { stream = u } ∷ l) (twice (nat_eq x.sub.0 k.0) s t x.stream) (put_stream-twice k s t xs)

-- ---- the member at a place

-- the member of the model that the code's stands for, and its stream
pub record IsThere {C : Type 0} {g : Ghosts C} (m : Member C g) (k : SubId) (xs : List ModelMember) : Type 0 where
  pub member : ModelMember
  pub stands : MemberStandsFor m member
  pub number : member.sub ≡ k
  pub stream : member.stream ≡ stream_of k xs

pub there : {C : Type 0} {g : Ghosts C} (ms : List (Member C g)) (i : ℕ) (m : Member C g) (k : SubId) (xs : List ModelMember) → AllStandFor ms xs → Distinct (subs xs) → slice_get (subs xs) i ≡ Some k → slice_get ms i ≡ Some m
    → IsThere m k xs
there [] i m k xs h d n at = absurd (let no : ⊥ = cc in no)
there (y ∷ ms) i m k [] h d n at = absurd h
there {C = C} {g = g} (y ∷ ms) zero m k (x ∷ xs) h d n at =
    let e : y ≡ m = cc in
    let f : x.sub ≡ k = cc in
    record {
      member = x;
      stands = subst (λ (z : Member C g). MemberStandsFor z x) e h.0;
      number = f;
      stream = sym (ap (λ (b : Bool). cond b x.stream (stream_of k xs)) (ap (λ (j : SubId). nat_eq j.0 k.0) f ∙ nat_eq-self k.0));
    }
there (y ∷ ms) (suc i) m k (x ∷ xs) h d n at =
    let r = there ms i m k xs h.1 d.1 n at in
    let other = other_number x.sub k (subs xs) d.0 (is_member-at (subs xs) i k n) in
    record {
      member = r.member;
      stands = r.stands;
      number = r.number;
      stream = r.stream ∙ sym (ap (λ (b : Bool). cond b x.stream (stream_of k xs)) other);
    }

-- ---- another stream at the place

pub IsMember-keeping : (sub : SubId) (calls : List Sleeper) (x : ModelMember) (t : Stream) → KeepsCalls x.stream t → IsMember sub calls x → IsMember sub calls (record x { stream = t })
IsMember-keeping sub calls x t k h = record {
  number = h.number;
  apart = h.apart;
  calls = h.calls ∙ sym k.same;
  marks = h.marks;
  fit = k.fit h.fit;
}

pub put_stands : {C : Type 0} {g : Ghosts C} (ms : List (Member C g)) (i : ℕ) (m : Member C g) (t : Substream C g) (k : SubId) (s : Stream) (xs : List ModelMember)
    → AllStandFor ms xs → Distinct (subs xs) → slice_get (subs xs) i ≡ Some k → slice_get ms i ≡ Some m → KeepsCalls (stream_of k xs) s → StandsFor t s
    → AllStandFor (set ms i (record m { stream = t })) (put_stream k s xs)
put_stands [] i m t k s xs h d n at keeps stands = absurd (let no : ⊥ = cc in no)
put_stands (y ∷ ms) i m t k s [] h d n at keeps stands = absurd h
put_stands {C = C} {g = g} (y ∷ ms) zero m t k s (x ∷ xs) h d n at keeps stands =
    let e : y ≡ m = cc in
    let f : x.sub ≡ k = cc in
    let here : nat_eq x.sub.0 k.0 ≡ true = ap (λ (j : SubId). nat_eq j.0 k.0) f ∙ nat_eq-self k.0 in
    let absent : is_member k (subs xs) ≡ false = ap (λ (j : SubId). is_member j (subs xs)) (sym f) ∙ d.0 in
    let held = subst (λ (z : Member C g). IsMember z.sub z.sleepers x) e h.0.member in
    let kept : KeepsCalls x.stream s = subst (λ (u : Stream). KeepsCalls u s) (ap (λ (b : Bool). cond b x.stream (stream_of k xs)) here) keeps in
    let first : MemberStandsFor (record m { stream = t }) (record x { stream = s }) = record { member = IsMember-keeping m.sub m.sleepers x s kept held; stream = stands } in (
      subst (λ (b : Bool). MemberStandsFor (record m { stream = t }) (record x { stream = cond b s x.stream })) (sym here) first,
      subst (λ (l : List ModelMember). AllStandFor ms l) (sym (put_absent k s xs absent)) h.1,
    )
put_stands (y ∷ ms) (suc i) m t k s (x ∷ xs) h d n at keeps stands =
    let other = other_number x.sub k (subs xs) d.0 (is_member-at (subs xs) i k n) in (
      subst (λ (b : Bool). MemberStandsFor y (record x { stream = cond b s x.stream })) (sym other) h.0,
      put_stands ms i m t k s xs h.1 d.1 n at (subst (λ (u : Stream). KeepsCalls u s) (ap (λ (b : Bool). cond b x.stream (stream_of k xs)) other) keeps) stands,
    )

-- ---- what all members keep

tells-listed : {C : Type 0} {g : Ghosts C} (ms : List (Member C g)) → all_tell ms ≡ map (λ (f : Fixed). f.tells) (all_fixed ms)
tells-listed [] = refl
tells-listed (m ∷ ms) = ap (λ (l : List Bool). tells_plan m.stream ∷ l) (tells-listed ms)

pub tells-fixed : {C : Type 0} {g : Ghosts C} (ms ns : List (Member C g)) → all_fixed ns ≡ all_fixed ms → all_tell ns ≡ all_tell ms
tells-fixed ms ns e = tells-listed ns ∙ ap (map (λ (f : Fixed). f.tells)) e ∙ sym (tells-listed ms)

numbers-listed : {C : Type 0} {g : Ghosts C} (ms : List (Member C g)) → numbers_of ms ≡ map (λ (f : Fixed). f.sub) (all_fixed ms)
numbers-listed [] = refl
numbers-listed (m ∷ ms) = ap (λ (l : List SubId). m.sub ∷ l) (numbers-listed ms)

pub numbers-fixed : {C : Type 0} {g : Ghosts C} (ms ns : List (Member C g)) → all_fixed ns ≡ all_fixed ms → numbers_of ns ≡ numbers_of ms
numbers-fixed ms ns e = numbers-listed ns ∙ ap (map (λ (f : Fixed). f.sub)) e ∙ sym (numbers-listed ms)

calls-listed : {C : Type 0} {g : Ghosts C} (ms : List (Member C g)) → calls_of ms ≡ map (λ (f : Fixed). f.sleepers) (all_fixed ms)
calls-listed [] = refl
calls-listed (m ∷ ms) = ap (λ (l : List (List Sleeper)). m.sleepers ∷ l) (calls-listed ms)

pub calls-fixed : {C : Type 0} {g : Ghosts C} (ms ns : List (Member C g)) → all_fixed ns ≡ all_fixed ms → calls_of ns ≡ calls_of ms
calls-fixed ms ns e = calls-listed ns ∙ ap (map (λ (f : Fixed). f.sleepers)) e ∙ sym (calls-listed ms)

-- an act leaves the numbers
pub subs-after : (a : Act) (o : Outcome) (vs : List Vote) (xs : List ModelMember) → subs (after_all a o vs xs) ≡ subs xs
subs-after a o [] xs = refl
subs-after a o (v ∷ vs) [] = refl
subs-after a o (v ∷ vs) (x ∷ xs) = ap (λ (l : List SubId). x.sub ∷ l) (subs-after a o vs xs)

pub subs-members_after : (d : Acted) (xs : List ModelMember) → subs (members_after d xs) ≡ subs xs
subs-members_after d xs = subs-after d.act d.outcome d.votes xs

-- a member of other calls
pub IsAt-by : {C : Type 0} {g : Ghosts C} (ms ns : List (Member C g)) (i : ℕ) (k : SubId) (tells : List Bool) (xs ys : List ModelMember) → IsAt ms i k tells xs → AllStandFor ns ys → subs ys ≡ subs xs → all_tell ns ≡ all_tell ms
    → IsAt ns i k tells ys
IsAt-by ms ns i k tells xs ys h stands numbers told = record {
  stands = stands;
  distinct = subst Distinct (sym numbers) h.distinct;
  number = ap (λ (l : List SubId). slice_get l i) numbers ∙ h.number;
  told = told ∙ h.told;
}

-- another stream at the place
pub IsAt-put : {C : Type 0} {g : Ghosts C} (ms : List (Member C g)) (i : ℕ) (m : Member C g) (t : Substream C g) (k : SubId) (tells : List Bool) (s : Stream) (xs : List ModelMember)
    → IsAt ms i k tells xs → slice_get ms i ≡ Some m → KeepsCalls (stream_of k xs) s → StandsFor t s → tells_plan t ≡ tells_plan m.stream
    → IsAt (set ms i (record m { stream = t })) i k tells (put_stream k s xs)
IsAt-put {C = C} {g = g} ms i m t k tells s xs h at keeps stands told =
    IsAt-by ms (set ms i (record m { stream = t })) i k tells xs (put_stream k s xs) h (put_stands ms i m t k s xs h.stands h.distinct h.number at keeps stands) (subs-put_stream k s xs)
    (map-at (λ (n : Member C g). tells_plan n.stream) ms i m (record m { stream = t }) at told)

-- ---- the place of a number

pub number_at : {C : Type 0} {g : Ghosts C} (ms : List (Member C g)) (i : ℕ) (m : Member C g) (k : SubId) → slice_get ms i ≡ Some m → m.sub.0 ≡ k.0 → slice_get (numbers_of ms) i ≡ Some k
number_at [] i m k at e = absurd (let no : ⊥ = cc in no)
number_at {C = C} {g = g} (x ∷ ms) zero m k at e =
    let f : x ≡ m = cc in
    ap (λ (z : Member C g). Some z.sub) f ∙ ap (λ (n : ℕ). let j : SubId = record { 0 = n } in Some j) e
number_at (x ∷ ms) (suc i) m k at e = number_at ms i m k at e

pub drop_at : {C : Type 0} {g : Ghosts C} (ms : List (Member C g)) (i : ℕ) (m : Member C g) → slice_get ms i ≡ Some m → drop i (numbers_of ms) ≡ m.sub ∷ drop (suc i) (numbers_of ms)
drop_at [] i m at = absurd (let no : ⊥ = cc in no)
drop_at {C = C} {g = g} (x ∷ ms) zero m at = let e : x ≡ m = cc in ap (λ (z : Member C g). z.sub ∷ numbers_of ms) e
drop_at (x ∷ ms) (suc i) m at = drop_at ms i m at

pub member_later : (k j : SubId) (js : List SubId) → (j.0 ≡ k.0 → ⊥) → is_member k (j ∷ js) ≡ true → is_member k js ≡ true
member_later k j js ne h = by (nat_eq j.0 k.0) refl h
  where
    by : (b : Bool) → nat_eq j.0 k.0 ≡ b → (b || is_member k js) ≡ true → is_member k js ≡ true
    by true e m = absurd (ne (grind (arith, nat_tests, e)))
    by false e m = m

pub member_alone : (k j : SubId) → is_member k (j ∷ []) ≡ true → j.0 ≡ k.0
member_alone k j h = by (nat_eq j.0 k.0) refl h
  where
    by : (b : Bool) → nat_eq j.0 k.0 ≡ b → (b || false) ≡ true → j.0 ≡ k.0
    by true e m = grind (arith, nat_tests, e)
    by false e m = absurd (let no : ⊥ = cc in no)

pub drop_last : {A : Type 0} (xs : List A) (i : ℕ) → length xs ≤ i → drop i xs ≡ []
drop_last [] zero le = refl
drop_last [] (suc i) le = refl
drop_last (x ∷ xs) zero le = absurd (let no : ⊥ = omega (arith, le) in no)
drop_last (x ∷ xs) (suc i) le = drop_last xs i (omega (arith, le))

pub numbers-length : {C : Type 0} {g : Ghosts C} (ms : List (Member C g)) → length (numbers_of ms) ≡ length ms
numbers-length [] = refl
numbers-length (m ∷ ms) = ap suc (numbers-length ms)

-- another member at the place, that stands for all that the old one stood for
pub set_stands : {C : Type 0} {g : Ghosts C} (ms : List (Member C g)) (i : ℕ) (m n : Member C g) (xs : List ModelMember) → AllStandFor ms xs → slice_get ms i ≡ Some m → ((x : ModelMember) → MemberStandsFor m x → MemberStandsFor n x)
    → AllStandFor (set ms i n) xs
set_stands [] i m n xs h at f = absurd (let no : ⊥ = cc in no)
set_stands (y ∷ ms) i m n [] h at f = absurd h
set_stands {C = C} {g = g} (y ∷ ms) zero m n (x ∷ xs) h at f = let e : y ≡ m = cc in (f x (subst (λ (z : Member C g). MemberStandsFor z x) e h.0), h.1)
set_stands (y ∷ ms) (suc i) m n (x ∷ xs) h at f = (h.0, set_stands ms i m n xs h.1 at f)

-- ---- what a group knows of its members

pub numbers-subs : {C : Type 0} {g : Ghosts C} (ms : List (Member C g)) (xs : List ModelMember) → AllStandFor ms xs → numbers_of ms ≡ subs xs
numbers-subs [] [] h = refl
numbers-subs [] (x ∷ xs) h = absurd h
numbers-subs (m ∷ ms) [] h = absurd h
numbers-subs (m ∷ ms) (x ∷ xs) h = λ i. h.0.member.number i ∷ numbers-subs ms xs h.1 i

pub both_true : (a b : Bool) → (not a && b) ≡ true → (a ≡ false) × (b ≡ true)
both_true true b h = absurd (let no : ⊥ = cc in no)
both_true false b h = (refl, h)

pub distinct_of : (ks : List SubId) → all_differ ks ≡ true → Distinct ks
distinct_of [] h = tt
distinct_of (k ∷ ks) h = let p = both_true (is_member k ks) (all_differ ks) h in (p.0, distinct_of ks p.1)

pub IsAt-of : {C : Type 0} {g : Ghosts C} (ms : List (Member C g)) (i : ℕ) (k : SubId) (xs : List ModelMember) → all_differ (numbers_of ms) ≡ true → slice_get (numbers_of ms) i ≡ Some k → AllStandFor ms xs → IsAt ms i k (all_tell ms) xs
IsAt-of ms i k xs differ number h =
    let e = numbers-subs ms xs h in
    record {
      stands = h;
      distinct = subst Distinct e (distinct_of (numbers_of ms) differ);
      number = ap (λ (l : List SubId). slice_get l i) (sym e) ∙ number;
      told = refl;
    }

pub member_not_here : (k j : SubId) (js : List SubId) → (j.0 ≡ k.0 → ⊥) → is_member k (j ∷ js) ≡ is_member k js
member_not_here k j js ne = by (nat_eq j.0 k.0) refl
  where
    by : (b : Bool) → nat_eq j.0 k.0 ≡ b → (b || is_member k js) ≡ is_member k js
    by true e = absurd (ne (grind (arith, nat_tests, e)))
    by false e = refl

-- a number stands at one place alone
pub one_place : (ks : List SubId) (i j : ℕ) (k : SubId) → Distinct ks → slice_get ks i ≡ Some k → slice_get ks j ≡ Some k → i ≡ j
one_place [] i j k d a b = absurd (let no : ⊥ = cc in no)
one_place (x ∷ ks) zero zero k d a b = refl
one_place (x ∷ ks) zero (suc j) k d a b =
    let e : x ≡ k = cc in
    let here : is_member x ks ≡ true = ap (λ (y : SubId). is_member y ks) e ∙ is_member-at ks j k b in
    absurd (let never : false ≡ true = sym d.0 ∙ here in cc)
one_place (x ∷ ks) (suc i) zero k d a b =
    let e : x ≡ k = cc in
    let here : is_member x ks ≡ true = ap (λ (y : SubId). is_member y ks) e ∙ is_member-at ks i k a in
    absurd (let never : false ≡ true = sym d.0 ∙ here in cc)
one_place (x ∷ ks) (suc i) (suc j) k d a b = ap suc (one_place ks i j k d.1 a b)

pub one_member : {C : Type 0} {g : Ghosts C} (ms : List (Member C g)) (i j : ℕ) (m n : Member C g) → i ≡ j → slice_get ms i ≡ Some m → slice_get ms j ≡ Some n → n ≡ m
one_member {C = C} {g = g} ms i j m n e a b = let both : Some n ≡ Some m = sym b ∙ sym (ap (λ (l : ℕ). slice_get ms l) e) ∙ a in cc

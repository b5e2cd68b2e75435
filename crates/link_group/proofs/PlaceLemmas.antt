-- Lists of members that grow at the end, and from which one is taken out.
use Rattle.std.proofs.Common.{◌≡◌, ℕ, zero, suc, ◌+◌, ◌-◌, ◌<◌, ◌≤◌, Bool, true, false, cond, not, ◌||◌, ◌&&◌, nat_eq, List, [], ◌∷◌, ◌++◌, length, map, drop, remove, Option, Some, None, refl, sym, ap, ◌∙◌, subst, arith}
use Rattle.std.proofs.lemmas.Bool.Decides.{nat_tests}
use Rattle.std.specs.List.{slice_get}
use Rattle.pcm_base.specs.declared.card.Card.{Ghosts}
use Rattle.pcm_base.specs.declared.ids.SubId.{SubId}
use Rattle.pcm_base.specs.model.Replay.{is_member}
use Rattle.pcm_base.specs.model.Stream.{Member as ModelMember}
use Rattle.pcm_base.specs.model.World.{only_member, without_member}
use Rattle.pcm_stream.specs.declared.members.Member.{Member}
use Rattle.pcm_stream.specs.Members.{all_differ, numbers_of}
use Rattle.pcm_stream.specs.MembersStand.{AllStandFor}
use Rattle.link_group.specs.Numbers.{first_of}

pub AllStandFor-append : {C : Type 0} {g : Ghosts C} (ms ns : List (Member C g)) (a b : List ModelMember) → AllStandFor ms a → AllStandFor ns b → AllStandFor (ms ++ ns) (a ++ b)
AllStandFor-append [] ns [] b h k = k
AllStandFor-append [] ns (x ∷ a) b h k = absurd h
AllStandFor-append (m ∷ ms) ns [] b h k = absurd h
AllStandFor-append (m ∷ ms) ns (x ∷ a) b h k = (h.0, AllStandFor-append ms ns a b h.1 k)

-- a list of one
pub only : {A : Type 0} (xs : List A) (x : A) → length xs ≡ 1 → slice_get xs 0 ≡ Some x → xs ≡ x ∷ []
only [] x one at = absurd (let no : ⊥ = cc in no)
only (y ∷ []) x one at = let e : y ≡ x = cc in ap (λ z. z ∷ []) e
only (y ∷ z ∷ xs) x one at = absurd (let no : ⊥ = omega (arith, one) in no)

pub only-gone : {A : Type 0} (xs : List A) → length xs ≡ 1 → remove xs 0 ≡ []
only-gone [] one = absurd (let no : ⊥ = cc in no)
only-gone (y ∷ []) one = refl
only-gone (y ∷ z ∷ xs) one = absurd (let no : ⊥ = omega (arith, one) in no)

-- ---- numbers

pub numbers_append : {C : Type 0} {g : Ghosts C} (ms ns : List (Member C g)) → numbers_of (ms ++ ns) ≡ numbers_of ms ++ numbers_of ns
numbers_append [] ns = refl
numbers_append (m ∷ ms) ns = ap (λ (l : List SubId). m.sub ∷ l) (numbers_append ms ns)

or_false : (a b : Bool) → (a || b) ≡ false → (a ≡ false) × (b ≡ false)
or_false true b h = absurd (let no : ⊥ = cc in no)
or_false false b h = (refl, h)

and_true : (a b : Bool) → (not a && b) ≡ true → (a ≡ false) × (b ≡ true)
and_true true b h = absurd (let no : ⊥ = cc in no)
and_true false b h = (refl, h)

swap : (j k : ℕ) → nat_eq j k ≡ false → nat_eq k j ≡ false
swap j k h = grind (arith, nat_tests, h)

absent-append : (j : SubId) (ks : List SubId) (k : SubId) → is_member j ks ≡ false → nat_eq k.0 j.0 ≡ false → is_member j (ks ++ k ∷ []) ≡ false
absent-append j [] k h n = ap (λ (b : Bool). b || false) n
absent-append j (i ∷ ks) k h n =
    let p = or_false (nat_eq i.0 j.0) (is_member j ks) h in
    ap (λ (b : Bool). b || is_member j (ks ++ k ∷ [])) p.0 ∙ absent-append j ks k p.1 n

pub differ-append : (ks : List SubId) (k : SubId) → is_member k ks ≡ false → all_differ ks ≡ true → all_differ (ks ++ k ∷ []) ≡ true
differ-append [] k h d = refl
differ-append (j ∷ ks) k h d =
    let p = or_false (nat_eq j.0 k.0) (is_member k ks) h in
    let q = and_true (is_member j ks) (all_differ ks) d in
    ap (λ (b : Bool). not b && all_differ (ks ++ k ∷ [])) (absent-append j ks k q.0 (swap j.0 k.0 p.0)) ∙ differ-append ks k p.1 q.1

pub differ-joined : {C : Type 0} {g : Ghosts C} (ms ns : List (Member C g)) (k : SubId) → numbers_of ns ≡ k ∷ [] → is_member k (numbers_of ms) ≡ false → all_differ (numbers_of ms) ≡ true → all_differ (numbers_of (ms ++ ns)) ≡ true
differ-joined ms ns k one new d =
    ap (λ (l : List SubId). all_differ l) (numbers_append ms ns ∙ ap (λ (l : List SubId). numbers_of ms ++ l) one) ∙ differ-append (numbers_of ms) k new d

-- ---- the place of a number

pub drop_at : {C : Type 0} {g : Ghosts C} (ms : List (Member C g)) (i : ℕ) (m : Member C g) → slice_get ms i ≡ Some m → drop i (numbers_of ms) ≡ m.sub ∷ drop (suc i) (numbers_of ms)
drop_at [] i m at = absurd (let no : ⊥ = cc in no)
drop_at {C = C} {g = g} (x ∷ ms) zero m at = let e : x ≡ m = cc in ap (λ (z : Member C g). z.sub ∷ numbers_of ms) e
drop_at (x ∷ ms) (suc i) m at = drop_at ms i m at

pub first_here : (k j : SubId) (js : List SubId) → j.0 ≡ k.0 → first_of k (j ∷ js) ≡ 0
first_here k j js e = let is : nat_eq j.0 k.0 ≡ true = grind (arith, nat_tests, e) in ap (λ (b : Bool). cond b 0 (first_of k js + 1)) is

pub first_later : (k j : SubId) (js : List SubId) → (j.0 ≡ k.0 → ⊥) → first_of k (j ∷ js) ≡ first_of k js + 1
first_later k j js ne = let is : nat_eq j.0 k.0 ≡ false = other (nat_eq j.0 k.0) refl in ap (λ (b : Bool). cond b 0 (first_of k js + 1)) is
  where
    other : (b : Bool) → nat_eq j.0 k.0 ≡ b → b ≡ false
    other true h = absurd (ne (grind (arith, nat_tests, h)))
    other false h = refl

pub member_later : (k j : SubId) (js : List SubId) → (j.0 ≡ k.0 → ⊥) → is_member k (j ∷ js) ≡ true → is_member k js ≡ true
member_later k j js ne h = by (nat_eq j.0 k.0) refl h
  where
    by : (b : Bool) → nat_eq j.0 k.0 ≡ b → (b || is_member k js) ≡ true → is_member k js ≡ true
    by true e m = absurd (ne (grind (arith, nat_tests, e)))
    by false e m = m

pub member_alone : (k j : SubId) → is_member k (j ∷ []) ≡ true → j.0 ≡ k.0
member_alone k j h = by (nat_eq j.0 k.0) refl h
  where
    by : (b : Bool) → nat_eq j.0 k.0 ≡ b → (b || false) ≡ true → j.0 ≡ k.0
    by true e m = grind (arith, nat_tests, e)
    by false e m = absurd (let no : ⊥ = cc in no)

pub present : {A : Type 0} (xs : List A) (k : ℕ) → k < length xs → (x : A) × (slice_get xs k ≡ Some x)
present [] k lt = absurd (let no : ⊥ = omega arith in no)
present (x ∷ xs) zero lt = (x, refl)
present (x ∷ xs) (suc k) lt = present xs k (omega (arith, lt))

pub drop_last : {A : Type 0} (xs : List A) (i : ℕ) → length xs ≤ i → drop i xs ≡ []
drop_last [] zero le = refl
drop_last [] (suc i) le = refl
drop_last (x ∷ xs) zero le = absurd (let no : ⊥ = omega (arith, le) in no)
drop_last (x ∷ xs) (suc i) le = drop_last xs i (omega (arith, le))

pub numbers-length : {C : Type 0} {g : Ghosts C} (ms : List (Member C g)) → length (numbers_of ms) ≡ length ms
numbers-length [] = refl
numbers-length (m ∷ ms) = ap suc (numbers-length ms)

-- ---- one is taken out

pub record IsApart {C : Type 0} {g : Ghosts C} (k : SubId) (m : Member C g) (others : List (Member C g)) (xs : List ModelMember) : Type 0 where
  pub one : AllStandFor (m ∷ []) (only_member k xs)
  pub rest : AllStandFor others (without_member k xs)

apart_at : {C : Type 0} {g : Ghosts C} (k : SubId) (m y : Member C g) (ms : List (Member C g)) (x : ModelMember) (xs : List ModelMember) (b : Bool) (n : ℕ) → nat_eq y.sub.0 k.0 ≡ b → y.sub ≡ x.sub → AllStandFor (y ∷ ms) (x ∷ xs)
    → slice_get (y ∷ ms) (cond b 0 (n + 1)) ≡ Some m → (b ≡ false → slice_get ms n ≡ Some m → IsApart k m (remove ms n) xs) → IsApart k m (remove (y ∷ ms) (cond b 0 (n + 1))) (x ∷ xs)
apart_at {C = C} {g = g} k m y ms x xs true n test same h at next =
    let here : nat_eq x.sub.0 k.0 ≡ true = ap (λ (j : SubId). nat_eq j.0 k.0) (sym same) ∙ test in
    let e : y ≡ m = cc in
    record {
      one = subst (λ (b : Bool). AllStandFor (m ∷ []) (cond b (x ∷ []) (only_member k xs))) (sym here) (subst (λ (z : Member C g). AllStandFor (z ∷ []) (x ∷ [])) e (h.0, tt));
      rest = subst (λ (b : Bool). AllStandFor ms (cond b xs (x ∷ without_member k xs))) (sym here) h.1;
    }
apart_at {C = C} {g = g} k m y ms x xs false n test same h at next =
    let here : nat_eq x.sub.0 k.0 ≡ false = ap (λ (j : SubId). nat_eq j.0 k.0) (sym same) ∙ test in
    let place : n + 1 ≡ suc n = omega arith in
    let r = next refl (ap (λ (i : ℕ). slice_get (y ∷ ms) i) (sym place) ∙ at) in
    subst (λ (i : ℕ). IsApart k m (remove (y ∷ ms) i) (x ∷ xs)) (sym place) (record {
      one = subst (λ (b : Bool). AllStandFor (m ∷ []) (cond b (x ∷ []) (only_member k xs))) (sym here) r.one;
      rest = subst (λ (b : Bool). AllStandFor (y ∷ remove ms n) (cond b xs (x ∷ without_member k xs))) (sym here) (h.0, r.rest);
    })

pub apart : {C : Type 0} {g : Ghosts C} (k : SubId) (m : Member C g) (ms : List (Member C g)) (xs : List ModelMember) → AllStandFor ms xs → slice_get ms (first_of k (numbers_of ms)) ≡ Some m → IsApart k m (remove ms (first_of k (numbers_of ms))) xs
apart k m [] xs h at = absurd (let no : ⊥ = cc in no)
apart k m (y ∷ ms) [] h at = absurd h
apart k m (y ∷ ms) (x ∷ xs) h at =
    apart_at k m y ms x xs (nat_eq y.sub.0 k.0) (first_of k (numbers_of ms)) refl h.0.member.number h at (λ e at'. apart k m ms xs h.1 at')

-- numbers stay distinct

absent-remove : {C : Type 0} {g : Ghosts C} (j : SubId) (ms : List (Member C g)) (i : ℕ) → is_member j (numbers_of ms) ≡ false → is_member j (numbers_of (remove ms i)) ≡ false
absent-remove j [] zero h = h
absent-remove j [] (suc i) h = h
absent-remove j (m ∷ ms) zero h = (or_false (nat_eq m.sub.0 j.0) (is_member j (numbers_of ms)) h).1
absent-remove j (m ∷ ms) (suc i) h =
    let p = or_false (nat_eq m.sub.0 j.0) (is_member j (numbers_of ms)) h in
    ap (λ (b : Bool). b || is_member j (numbers_of (remove ms i))) p.0 ∙ absent-remove j ms i p.1

pub differ-remove : {C : Type 0} {g : Ghosts C} (ms : List (Member C g)) (i : ℕ) → all_differ (numbers_of ms) ≡ true → all_differ (numbers_of (remove ms i)) ≡ true
differ-remove [] zero d = d
differ-remove [] (suc i) d = d
differ-remove (m ∷ ms) zero d = (and_true (is_member m.sub (numbers_of ms)) (all_differ (numbers_of ms)) d).1
differ-remove (m ∷ ms) (suc i) d =
    let q = and_true (is_member m.sub (numbers_of ms)) (all_differ (numbers_of ms)) d in
    ap (λ (b : Bool). not b && all_differ (numbers_of (remove ms i))) (absent-remove m.sub ms i q.0) ∙ differ-remove ms i q.1

-- Groups of a list that are taken out and put in, as a link and an unlink do.
use Rattle.std.proofs.Common.{◌≡◌, ℕ, zero, suc, ◌+◌, ◌<◌, ◌≤◌, Bool, true, false, cond, ◌||◌, nat_eq, List, [], ◌∷◌, ◌++◌, length, set, Some, refl, sym, ap, ◌∙◌, subst, arith}
use Rattle.std.proofs.lemmas.Bool.Decides.{nat_tests}
use Rattle.std.proofs.lemmas.List.Edits.{length-insert, length-remove}
use Rattle.std.specs.List.{slice_get, insert, remove}
use Rattle.pcm_base.specs.declared.card.Card.{Ghosts}
use Rattle.pcm_base.specs.declared.ids.SubId.{SubId}
use Rattle.pcm_base.specs.model.Replay.{is_member}
use Rattle.pcm_base.specs.model.Sleep.{wake}
use Rattle.pcm_base.specs.model.Stream.{Member as ModelMember}
use Rattle.pcm_base.specs.model.World.{apart, group_of, holds, without_group}
use Rattle.pcm_stream.specs.declared.members.Member.{Member}
use Rattle.pcm_stream.specs.Members.{all_differ, numbers_of}
use Rattle.pcm_stream.specs.MembersStand.{AllStandFor}
use Rattle.pcm_group.specs.declared.group.Group.{Group}
use Rattle.pcm_group.specs.Inside.{members_in}
use Rattle.pcm_world.specs.Groups.{AreNumbers, AreReadyToLink, GroupsStand, IsLinked, all_numbers, both, linked, numbers_at, numbers_in, place_from, place_in}
use Rattle.pcm_world.proofs.CountLemmas.{at_most_once, differ_from, few_among, is_none_times, numbers_moved, times, times-append, times-insert, times-remove, times_head, times_one}
use Rattle.pcm_world.proofs.GroupLemmas.{group_there, groups_then, held_there, holds_as, place_least, place_within}

pub there : {A : Type 0} (xs : List A) (i : ℕ) → i < length xs → (x : A) × (slice_get xs i ≡ Some x)
there [] i b = absurd (let no : ⊥ = omega (arith, b) in no)
there (x ∷ xs) zero b = (x, refl)
there (x ∷ xs) (suc i) b = there xs i (omega (arith, b))

pub put_back : {A : Type 0} (xs : List A) (i : ℕ) (y : A) → i < length xs → insert (remove xs i) i y ≡ set xs i y
put_back [] i y b = absurd (let no : ⊥ = omega (arith, b) in no)
put_back (x ∷ xs) zero y b = refl
put_back {A = A} (x ∷ xs) (suc i) y b = ap (λ (l : List A). x ∷ l) (put_back xs i y (omega (arith, b)))

-- ---- the numbers at a place

pub place_declared : (n : ℕ) (k : SubId) (kss : List (List SubId)) → is_member k (numbers_at k kss) ≡ true → (p : ℕ) × (place_from n k kss ≡ Some p)
place_declared n k [] h = absurd (let no : ⊥ = cc in no)
place_declared n k (ks ∷ kss) h = by (is_member k ks) h (place_declared (n + 1) k kss)
  where
    by : (b : Bool) → is_member k (cond b ks (numbers_at k kss)) ≡ true → (is_member k (numbers_at k kss) ≡ true → (p : ℕ) × (place_from (n + 1) k kss ≡ Some p)) → (p : ℕ) × (cond b (Some n) (place_from (n + 1) k kss) ≡ Some p)
    by true f r = (n, refl)
    by false f r = r f

numbers_there_from : {C : Type 0} {g : Ghosts C} (gs : List (Group C g)) (n i : ℕ) (k : SubId) (x : Group C g) → place_from n k (numbers_in gs) ≡ Some (n + i) → slice_get gs i ≡ Some x → numbers_at k (numbers_in gs) ≡ numbers_of (members_in x)
numbers_there_from [] n i k x e at = absurd (let no : ⊥ = cc in no)
numbers_there_from {C = C} {g = g} (y ∷ gs) n zero k x e at = by (is_member k (numbers_of (members_in y))) e
  where
    here : y ≡ x
    here = let same : y ≡ x = cc in same

    by : (b : Bool) → cond b (Some n) (place_from (n + 1) k (numbers_in gs)) ≡ Some (n + 0) → cond b (numbers_of (members_in y)) (numbers_at k (numbers_in gs)) ≡ numbers_of (members_in x)
    by true f = ap (λ (q : Group C g). numbers_of (members_in q)) here
    by false f = absurd (let l : n + 1 ≤ n + 0 = place_least (n + 1) (n + 0) k (numbers_in gs) f in let no : ⊥ = omega (arith, l) in no)
numbers_there_from (y ∷ gs) n (suc i) k x e at = by (is_member k (numbers_of (members_in y))) e (λ f. numbers_there_from gs (n + 1) i k x f at)
  where
    by : (b : Bool) → cond b (Some n) (place_from (n + 1) k (numbers_in gs)) ≡ Some (n + suc i)
        → (place_from (n + 1) k (numbers_in gs) ≡ Some (n + 1 + i) → numbers_at k (numbers_in gs) ≡ numbers_of (members_in x)) → cond b (numbers_of (members_in y)) (numbers_at k (numbers_in gs)) ≡ numbers_of (members_in x)
    by true f r = absurd (let same : n ≡ n + suc i = cc in let no : ⊥ = omega (arith, same) in no)
    by false f r = let more : n + suc i ≡ n + 1 + i = omega arith in r (f ∙ ap (λ (p : ℕ). Some p) more)

pub numbers_there : {C : Type 0} {g : Ghosts C} (gs : List (Group C g)) (i : ℕ) (k : SubId) (x : Group C g) → place_in k (numbers_in gs) ≡ Some i → slice_get gs i ≡ Some x → numbers_at k (numbers_in gs) ≡ numbers_of (members_in x)
numbers_there gs i k x e at = let z : i ≡ 0 + i = omega arith in numbers_there_from gs 0 i k x (e ∙ ap (λ (p : ℕ). Some p) z) at

-- another group is taken out
pub numbers_elsewhere : {C : Type 0} {g : Ghosts C} (gs : List (Group C g)) (i : ℕ) (k : SubId) (x : Group C g) → slice_get gs i ≡ Some x → is_member k (numbers_of (members_in x)) ≡ false → numbers_at k (numbers_in (remove gs i)) ≡ numbers_at k (numbers_in gs)
numbers_elsewhere [] i k x at h = absurd (let no : ⊥ = cc in no)
numbers_elsewhere {C = C} {g = g} (y ∷ gs) zero k x at h =
    let same : y ≡ x = cc in
    sym (ap (λ (b : Bool). cond b (numbers_of (members_in y)) (numbers_at k (numbers_in gs))) (ap (λ (q : Group C g). is_member k (numbers_of (members_in q))) same ∙ h))
numbers_elsewhere (y ∷ gs) (suc i) k x at h = ap (λ (l : List SubId). cond (is_member k (numbers_of (members_in y))) (numbers_of (members_in y)) l) (numbers_elsewhere gs i k x at h)

pub only_number : (ks : List SubId) (j : SubId) → length ks ≡ 1 → is_member j ks ≡ true → ks ≡ j ∷ []
only_number [] j one h = absurd (let no : ⊥ = cc in no)
only_number (i ∷ []) j one h = by (nat_eq i.0 j.0) refl h
  where
    by : (b : Bool) → nat_eq i.0 j.0 ≡ b → (b || false) ≡ true → i ∷ [] ≡ j ∷ []
    by true e f = let same : i.0 ≡ j.0 = grind (arith, nat_tests, e) in ap (λ (n : ℕ). record { 0 = n } ∷ []) same
    by false e f = absurd (let no : ⊥ = cc in no)
only_number (i ∷ l ∷ ks) j one h = absurd (let no : ⊥ = omega (arith, one) in no)

pub not_only : (k j : SubId) → (k.0 ≡ j.0 → ⊥) → is_member k (j ∷ []) ≡ false
not_only k j ne = by (nat_eq j.0 k.0) refl
  where
    by : (b : Bool) → nat_eq j.0 k.0 ≡ b → (b || false) ≡ false
    by true e = absurd (let same : k.0 ≡ j.0 = grind (arith, nat_tests, e) in ne same)
    by false e = refl

pub numbers-length : {C : Type 0} {g : Ghosts C} (ms : List (Member C g)) → length (numbers_of ms) ≡ length ms
numbers-length [] = refl
numbers-length (m ∷ ms) = ap suc (numbers-length ms)

pub numbers_of-append : {C : Type 0} {g : Ghosts C} (ms ns : List (Member C g)) → numbers_of (ms ++ ns) ≡ numbers_of ms ++ numbers_of ns
numbers_of-append [] ns = refl
numbers_of-append (m ∷ ms) ns = ap (λ (l : List SubId). m.sub ∷ l) (numbers_of-append ms ns)

-- ---- what the groups stand for

pub group_stays : (k j : SubId) (xs : List (List ModelMember)) → holds k (group_of j xs) ≡ false → group_of k (without_group j xs) ≡ group_of k xs
group_stays k j [] h = refl
group_stays k j (ms ∷ xs) h = by (holds j ms) h (λ f. group_stays k j xs f)
  where
    by : (b : Bool) → holds k (cond b ms (group_of j xs)) ≡ false → (holds k (group_of j xs) ≡ false → group_of k (without_group j xs) ≡ group_of k xs)
        → group_of k (cond b xs (ms ∷ without_group j xs)) ≡ cond (holds k ms) ms (group_of k xs)
    by true f r = sym (ap (λ (b : Bool). cond b ms (group_of k xs)) f)
    by false f r = ap (λ (l : List ModelMember). cond (holds k ms) ms l) (r f)

groups_without_from : {C : Type 0} {g : Ghosts C} (gs : List (Group C g)) (xs : List (List ModelMember)) (n i : ℕ) (k : SubId) → GroupsStand gs xs → place_from n k (numbers_in gs) ≡ Some (n + i) → GroupsStand (remove gs i) (without_group k xs)
groups_without_from [] xs n i k h e = absurd (let no : ⊥ = cc in no)
groups_without_from (z ∷ gs) [] n i k h e = absurd h
groups_without_from (z ∷ gs) (ms ∷ xs) n zero k h e = by (is_member k (numbers_of (members_in z))) refl e
  where
    held : holds k ms ≡ is_member k (numbers_of (members_in z))
    held = holds_as k (members_in z) ms h.0

    by : (b : Bool) → is_member k (numbers_of (members_in z)) ≡ b → cond b (Some n) (place_from (n + 1) k (numbers_in gs)) ≡ Some (n + 0) → GroupsStand gs (without_group k (ms ∷ xs))
    by true t f = subst (λ (l : List (List ModelMember)). GroupsStand gs l) (sym (ap (λ (b : Bool). cond b xs (ms ∷ without_group k xs)) (held ∙ t))) h.1
    by false t f = absurd (let l : n + 1 ≤ n + 0 = place_least (n + 1) (n + 0) k (numbers_in gs) f in let no : ⊥ = omega (arith, l) in no)
groups_without_from (z ∷ gs) (ms ∷ xs) n (suc i) k h e = by (is_member k (numbers_of (members_in z))) refl e (λ f. groups_without_from gs xs (n + 1) i k h.1 f)
  where
    held : holds k ms ≡ is_member k (numbers_of (members_in z))
    held = holds_as k (members_in z) ms h.0

    by : (b : Bool) → is_member k (numbers_of (members_in z)) ≡ b → cond b (Some n) (place_from (n + 1) k (numbers_in gs)) ≡ Some (n + suc i)
        → (place_from (n + 1) k (numbers_in gs) ≡ Some (n + 1 + i) → GroupsStand (remove gs i) (without_group k xs)) → GroupsStand (z ∷ remove gs i) (without_group k (ms ∷ xs))
    by true t f r = absurd (let same : n ≡ n + suc i = cc in let no : ⊥ = omega (arith, same) in no)
    by false t f r =
        let more : n + suc i ≡ n + 1 + i = omega arith in
        subst (λ (l : List (List ModelMember)). GroupsStand (z ∷ remove gs i) l) (sym (ap (λ (b : Bool). cond b xs (ms ∷ without_group k xs)) (held ∙ t))) (h.0, r (f ∙ ap (λ (p : ℕ). Some p) more))

groups_apart_from : {C : Type 0} {g : Ghosts C} (gs : List (Group C g)) (xs : List (List ModelMember)) (n i : ℕ) (k : SubId) (y w : Group C g) (one others : List ModelMember)
    → GroupsStand gs xs → place_from n k (numbers_in gs) ≡ Some (n + i) → AllStandFor (members_in y) one → AllStandFor (members_in w) others → GroupsStand (insert (insert (remove gs i) i w) i y) (apart k one others xs)
groups_apart_from [] xs n i k y w one others h e s t = absurd (let no : ⊥ = cc in no)
groups_apart_from (z ∷ gs) [] n i k y w one others h e s t = absurd h
groups_apart_from (z ∷ gs) (ms ∷ xs) n zero k y w one others h e s t = by (is_member k (numbers_of (members_in z))) refl e
  where
    held : holds k ms ≡ is_member k (numbers_of (members_in z))
    held = holds_as k (members_in z) ms h.0

    by : (b : Bool) → is_member k (numbers_of (members_in z)) ≡ b → cond b (Some n) (place_from (n + 1) k (numbers_in gs)) ≡ Some (n + 0) → GroupsStand (y ∷ w ∷ gs) (apart k one others (ms ∷ xs))
    by true q f = subst (λ (l : List (List ModelMember)). GroupsStand (y ∷ w ∷ gs) l) (sym (ap (λ (b : Bool). cond b (one ∷ others ∷ xs) (ms ∷ apart k one others xs)) (held ∙ q))) (s, (t, h.1))
    by false q f = absurd (let l : n + 1 ≤ n + 0 = place_least (n + 1) (n + 0) k (numbers_in gs) f in let no : ⊥ = omega (arith, l) in no)
groups_apart_from (z ∷ gs) (ms ∷ xs) n (suc i) k y w one others h e s t = by (is_member k (numbers_of (members_in z))) refl e (λ f. groups_apart_from gs xs (n + 1) i k y w one others h.1 f s t)
  where
    held : holds k ms ≡ is_member k (numbers_of (members_in z))
    held = holds_as k (members_in z) ms h.0

    by : (b : Bool) → is_member k (numbers_of (members_in z)) ≡ b → cond b (Some n) (place_from (n + 1) k (numbers_in gs)) ≡ Some (n + suc i)
        → (place_from (n + 1) k (numbers_in gs) ≡ Some (n + 1 + i) → GroupsStand (insert (insert (remove gs i) i w) i y) (apart k one others xs)) → GroupsStand (z ∷ insert (insert (remove gs i) i w) i y) (apart k one others (ms ∷ xs))
    by true q f r = absurd (let same : n ≡ n + suc i = cc in let no : ⊥ = omega (arith, same) in no)
    by false q f r =
        let more : n + suc i ≡ n + 1 + i = omega arith in
        subst (λ (l : List (List ModelMember)). GroupsStand (z ∷ insert (insert (remove gs i) i w) i y) l) (sym (ap (λ (b : Bool). cond b (one ∷ others ∷ xs) (ms ∷ apart k one others xs)) (held ∙ q))) (h.0, r (f ∙ ap (λ (p : ℕ). Some p) more))

pub groups_apart : {C : Type 0} {g : Ghosts C} (gs : List (Group C g)) (xs : List (List ModelMember)) (i : ℕ) (k : SubId) (y w : Group C g) (one others : List ModelMember)
    → GroupsStand gs xs → place_in k (numbers_in gs) ≡ Some i → AllStandFor (members_in y) one → AllStandFor (members_in w) others → GroupsStand (insert (insert (remove gs i) i w) i y) (apart k one others xs)
groups_apart gs xs i k y w one others h e s t = let z : i ≡ 0 + i = omega arith in groups_apart_from gs xs 0 i k y w one others h (e ∙ ap (λ (p : ℕ). Some p) z) s t

-- ---- a link

-- The lone group of j stands at the place i, and once it is taken out, the group of k at the place p.
pub record ArePlaced {C : Type 0} {g : Ghosts C} (k j : SubId) (gs : List (Group C g)) (i p : ℕ) (x y : Group C g) : Type 0 where
  pub lone_place : place_in j (numbers_in gs) ≡ Some i
  pub lone : slice_get gs i ≡ Some x
  pub lone_number : numbers_of (members_in x) ≡ j ∷ []
  pub other : k.0 ≡ j.0 → ⊥
  pub place : place_in k (numbers_in (remove gs i)) ≡ Some p
  pub group : slice_get (remove gs i) p ≡ Some y

pub absent_first : {C : Type 0} {g : Ghosts C} (k j : SubId) (x : Group C g) → numbers_of (members_in x) ≡ j ∷ [] → (k.0 ≡ j.0 → ⊥) → is_member k (numbers_of (members_in x)) ≡ false
absent_first k j x e ne = ap (λ (l : List SubId). is_member k l) e ∙ not_only k j ne

rest_stands : {C : Type 0} {g : Ghosts C} (k j : SubId) (gs : List (Group C g)) (xs : List (List ModelMember)) (i p : ℕ) (x y : Group C g) → ArePlaced k j gs i p x y → GroupsStand gs xs → GroupsStand (remove gs i) (without_group j xs)
rest_stands k j gs xs i p x y h s = let z : i ≡ 0 + i = omega arith in groups_without_from gs xs 0 i j s (h.lone_place ∙ ap (λ (q : ℕ). Some q) z)

pub lone_stands : {C : Type 0} {g : Ghosts C} (k j : SubId) (gs : List (Group C g)) (xs : List (List ModelMember)) (i p : ℕ) (x y : Group C g) → ArePlaced k j gs i p x y → GroupsStand gs xs → AllStandFor (members_in x) (group_of j xs)
lone_stands k j gs xs i p x y h s = (group_there gs xs i j x s h.lone_place h.lone).stands

pub first_stands : {C : Type 0} {g : Ghosts C} (k j : SubId) (gs : List (Group C g)) (xs : List (List ModelMember)) (i p : ℕ) (x y : Group C g) → ArePlaced k j gs i p x y → GroupsStand gs xs → AllStandFor (members_in y) (group_of k xs)
first_stands k j gs xs i p x y h s =
    let absent : holds k (group_of j xs) ≡ false = holds_as k (members_in x) (group_of j xs) (lone_stands k j gs xs i p x y h s) ∙ absent_first k j x h.lone_number h.other in
    let found = group_there (remove gs i) (without_group j xs) p k y (rest_stands k j gs xs i p x y h s) h.place h.group in
    subst (λ (l : List ModelMember). AllStandFor (members_in y) l) (group_stays k j xs absent) found.stands

pub link_stands : {C : Type 0} {g : Ghosts C} (k j : SubId) (gs : List (Group C g)) (xs : List (List ModelMember)) (i p : ℕ) (x y z : Group C g) → ArePlaced k j gs i p x y → GroupsStand gs xs
    → AllStandFor (members_in z) (wake (both k j xs)) → GroupsStand (insert (remove (remove gs i) p) p z) (linked k j xs)
link_stands {C = C} {g = g} k j gs xs i p x y z h s now =
    subst (λ (l : List (Group C g)). GroupsStand l (linked k j xs)) (sym (put_back (remove gs i) p z (place_within (remove gs i) p k h.place)))
    (groups_then (remove gs i) (without_group j xs) p k z (wake (both k j xs)) (rest_stands k j gs xs i p x y h s) h.place now)

-- how often a number stands in all groups
pub counted : {C : Type 0} {g : Ghosts C} (l k j : SubId) (gs : List (Group C g)) (i p : ℕ) (x y : Group C g) → ArePlaced k j gs i p x y
    → times l (all_numbers (numbers_in gs)) ≡ times l (numbers_of (members_in x)) + (times l (numbers_of (members_in y)) + times l (all_numbers (numbers_in (remove (remove gs i) p))))
counted l k j gs i p x y h =
    times-remove l gs i x h.lone ∙ ap (λ (n : ℕ). times l (numbers_of (members_in x)) + n) (times-remove l (remove gs i) p y h.group)

pub least : {A : Type 0} (xs : List A) (p : ℕ) → p < length xs → p ≤ length (remove xs p)
least xs p b = omega (arith, length-remove xs p b)

counted_then : {C : Type 0} {g : Ghosts C} (l k j : SubId) (gs : List (Group C g)) (i p : ℕ) (x y z : Group C g) → ArePlaced k j gs i p x y → numbers_of (members_in z) ≡ numbers_of (members_in y) ++ numbers_of (members_in x)
    → times l (all_numbers (numbers_in (insert (remove (remove gs i) p) p z))) ≡ times l (all_numbers (numbers_in gs))
counted_then l k j gs i p x y z h e =
    let b : p < length (remove gs i) = place_within (remove gs i) p k h.place in
    let new = times-insert l (remove (remove gs i) p) p z (least (remove gs i) p b) in
    let both_there : times l (numbers_of (members_in z)) ≡ times l (numbers_of (members_in y)) + times l (numbers_of (members_in x)) =
    ap (λ (ks : List SubId). times l ks) e ∙ times-append l (numbers_of (members_in y)) (numbers_of (members_in x)) in
    let old = counted l k j gs i p x y h in
    omega (arith, new, both_there, old)

pub link_numbers : {C : Type 0} {g : Ghosts C} (k j : SubId) (gs : List (Group C g)) (i p : ℕ) (x y z : Group C g) → ArePlaced k j gs i p x y → numbers_of (members_in z) ≡ numbers_of (members_in y) ++ numbers_of (members_in x)
    → AreNumbers (numbers_in gs) → AreNumbers (numbers_in (insert (remove (remove gs i) p) p z))
link_numbers k j gs i p x y z h e n = numbers_moved (numbers_in gs) (numbers_in (insert (remove (remove gs i) p) p z)) (λ l. counted_then l k j gs i p x y z h e) n

-- the second is no member of the first group, which has room for it
pub absent_second : {C : Type 0} {g : Ghosts C} (k j : SubId) (gs : List (Group C g)) (i p : ℕ) (x y : Group C g) → ArePlaced k j gs i p x y → AreNumbers (numbers_in gs) → is_member j (numbers_of (members_in y)) ≡ false
absent_second k j gs i p x y h n =
    let once : times j (all_numbers (numbers_in gs)) ≤ 1 = at_most_once (all_numbers (numbers_in gs)) n.distinct j in
    let here : times j (numbers_of (members_in x)) ≡ 1 = ap (λ (ks : List SubId). times j ks) h.lone_number ∙ times_one j in
    is_none_times j (numbers_of (members_in y)) (omega (arith, once, here, counted j k j gs i p x y h))

pub room_for_second : {C : Type 0} {g : Ghosts C} (k j : SubId) (gs : List (Group C g)) (i p : ℕ) (x y : Group C g) → ArePlaced k j gs i p x y → AreNumbers (numbers_in gs) → length (members_in y) < 16
room_for_second k j gs i p x y h n =
    let all : length (j ∷ numbers_of (members_in y)) ≤ 16 =
    few_among (numbers_in gs) (j ∷ numbers_of (members_in y)) n (λ l.
    let here : times l (numbers_of (members_in x)) ≡ times l (j ∷ []) = ap (λ (ks : List SubId). times l ks) h.lone_number in
    let head : times l (j ∷ numbers_of (members_in y)) ≡ times l (j ∷ []) + times l (numbers_of (members_in y)) = times_head l j (numbers_of (members_in y)) in
    omega (arith, here, head, counted l k j gs i p x y h)) in
    omega (arith, all, numbers-length (members_in y))

-- what there is to link, where these places were found
pub record AreThere {C : Type 0} {g : Ghosts C} (k j : SubId) (gs : List (Group C g)) (i p : ℕ) : Type 0 where
  pub lone : Group C g
  pub group : Group C g
  pub placed : ArePlaced k j gs i p lone group

pub place_seen : {C : Type 0} {g : Ghosts C} (gs seen : List (Group C g)) (k : SubId) (i : ℕ) → seen ≡ gs → place_in k (numbers_in seen) ≡ Some i → place_in k (numbers_in gs) ≡ Some i
place_seen {C = C} {g = g} gs seen k i same e = ap (λ (l : List (Group C g)). place_in k (numbers_in l)) (sym same) ∙ e

lone_number : {C : Type 0} {g : Ghosts C} (k j : SubId) (gs : List (Group C g)) (i : ℕ) (x : Group C g) → AreReadyToLink k j (numbers_in gs) → place_in j (numbers_in gs) ≡ Some i → slice_get gs i ≡ Some x → numbers_of (members_in x) ≡ j ∷ []
lone_number k j gs i x r e at = only_number (numbers_of (members_in x)) j (sym (ap length (numbers_there gs i j x e at)) ∙ r.alone) (held_there gs i j x e at)

pub first_declared : {C : Type 0} {g : Ghosts C} (k j : SubId) (gs : List (Group C g)) (i : ℕ) → AreReadyToLink k j (numbers_in gs) → (k.0 ≡ j.0 → ⊥) → place_in j (numbers_in gs) ≡ Some i → is_member k (numbers_at k (numbers_in (remove gs i))) ≡ true
first_declared k j gs i r ne e =
    let x = there gs i (place_within gs i j e) in
    ap (λ (ks : List SubId). is_member k ks) (numbers_elsewhere gs i k x.0 x.1 (absent_first k j x.0 (lone_number k j gs i x.0 r e x.1) ne)) ∙ r.first

pub are_there : {C : Type 0} {g : Ghosts C} (k j : SubId) (gs seen rest again : List (Group C g)) (i p : ℕ) → AreReadyToLink k j (numbers_in gs) → (k.0 ≡ j.0 → ⊥)
    → seen ≡ gs → place_in j (numbers_in seen) ≡ Some i → rest ≡ remove gs i → again ≡ rest → place_in k (numbers_in again) ≡ Some p → AreThere k j gs i p
are_there k j gs seen rest again i p r ne same e left then f =
    let at_lone = place_seen gs seen j i same e in
    let at_first = place_seen (remove gs i) again k p (then ∙ left) f in
    let x = there gs i (place_within gs i j at_lone) in
    let y = there (remove gs i) p (place_within (remove gs i) p k at_first) in
    record {
      lone = x.0;
      group = y.0;
      placed = record { lone_place = at_lone; lone = x.1; lone_number = lone_number k j gs i x.0 r at_lone x.1; other = ne; place = at_first; group = y.1 };
    }

-- ---- an unlink

pub times-take : {C : Type 0} {g : Ghosts C} (l : SubId) (ms : List (Member C g)) (q : ℕ) (m : Member C g) → slice_get ms q ≡ Some m → times l (numbers_of ms) ≡ times l (m.sub ∷ []) + times l (numbers_of (remove ms q))
times-take l [] q m at = absurd (let no : ⊥ = cc in no)
times-take {C = C} {g = g} l (n ∷ ms) zero m at =
    let same : n ≡ m = cc in
    times_head l n.sub (numbers_of ms) ∙ ap (λ (w : Member C g). times l (w.sub ∷ []) + times l (numbers_of ms)) same
times-take l (n ∷ ms) (suc q) m at =
    let first = times_head l n.sub (numbers_of ms) in
    let rest = times-take l ms q m at in
    let then = times_head l n.sub (numbers_of (remove ms q)) in
    omega (arith, first, rest, then)

pub differ_without : {C : Type 0} {g : Ghosts C} (ms : List (Member C g)) (q : ℕ) (m : Member C g) → slice_get ms q ≡ Some m → all_differ (numbers_of ms) ≡ true → all_differ (numbers_of (remove ms q)) ≡ true
differ_without ms q m at d = differ_from (numbers_of (remove ms q)) (λ l. omega (arith, at_most_once (numbers_of ms) d l, times-take l ms q m at))

-- The group x at the place i parts: y has the member that stood at q in it, and w the others.
pub record ArePart {C : Type 0} {g : Ghosts C} (gs : List (Group C g)) (i q : ℕ) (x y w : Group C g) (m : Member C g) : Type 0 where
  pub group : slice_get gs i ≡ Some x
  pub within : i < length gs
  pub gone : slice_get (members_in x) q ≡ Some m
  pub one : numbers_of (members_in y) ≡ m.sub ∷ []
  pub others : numbers_of (members_in w) ≡ numbers_of (remove (members_in x) q)

pub parted : {C : Type 0} {g : Ghosts C} (l : SubId) (gs : List (Group C g)) (i q : ℕ) (x y w : Group C g) (m : Member C g) → ArePart gs i q x y w m
    → times l (numbers_of (members_in x)) ≡ times l (numbers_of (members_in y)) + times l (numbers_of (members_in w))
parted l gs i q x y w m h =
    let here : times l (numbers_of (members_in y)) ≡ times l (m.sub ∷ []) = ap (λ (ks : List SubId). times l ks) h.one in
    let rest : times l (numbers_of (members_in w)) ≡ times l (numbers_of (remove (members_in x) q)) = ap (λ (ks : List SubId). times l ks) h.others in
    omega (arith, here, rest, times-take l (members_in x) q m h.gone)

pub parted_all : {C : Type 0} {g : Ghosts C} (l : SubId) (gs : List (Group C g)) (i q : ℕ) (x y w : Group C g) (m : Member C g) → ArePart gs i q x y w m
    → times l (all_numbers (numbers_in (insert (insert (remove gs i) i w) i y))) ≡ times l (all_numbers (numbers_in gs))
parted_all l gs i q x y w m h =
    let fits : i ≤ length (remove gs i) = least gs i h.within in
    let one_more = length-insert (remove gs i) i w fits in
    let fits_then : i ≤ length (insert (remove gs i) i w) = omega (arith, fits, one_more) in
    let inner = times-insert l (remove gs i) i w fits in
    let outer = times-insert l (insert (remove gs i) i w) i y fits_then in
    omega (arith, inner, outer, times-remove l gs i x h.group, parted l gs i q x y w m h)

pub unlink_numbers : {C : Type 0} {g : Ghosts C} (gs : List (Group C g)) (i q : ℕ) (x y w : Group C g) (m : Member C g) → ArePart gs i q x y w m → AreNumbers (numbers_in gs) → AreNumbers (numbers_in (insert (insert (remove gs i) i w) i y))
unlink_numbers gs i q x y w m h n = numbers_moved (numbers_in gs) (numbers_in (insert (insert (remove gs i) i w) i y)) (λ l. parted_all l gs i q x y w m h) n

-- the group that a member leaves, where this place was found
pub record IsThereToPart {C : Type 0} {g : Ghosts C} (k : SubId) (gs : List (Group C g)) (i : ℕ) : Type 0 where
  pub group : Group C g
  pub place : place_in k (numbers_in gs) ≡ Some i
  pub within : i < length gs
  pub at : slice_get gs i ≡ Some group
  pub member : is_member k (numbers_of (members_in group)) ≡ true
  pub two : 2 ≤ length (members_in group)

pub there_to_part : {C : Type 0} {g : Ghosts C} (k : SubId) (gs seen : List (Group C g)) (i : ℕ) → IsLinked k (numbers_in gs) → seen ≡ gs → place_in k (numbers_in seen) ≡ Some i → IsThereToPart k gs i
there_to_part k gs seen i h same e =
    let found = place_seen gs seen k i same e in
    let b = place_within gs i k found in
    let x = there gs i b in
    record {
      group = x.0;
      place = found;
      within = b;
      at = x.1;
      member = held_there gs i k x.0 found x.1;
      two = let same_length : length (numbers_at k (numbers_in gs)) ≡ length (numbers_of (members_in x.0)) = ap length (numbers_there gs i k x.0 found x.1) in
          omega (arith, h.1, same_length, numbers-length (members_in x.0));
    }

-- How often a number stands in a list: none comes twice exactly where each comes at most once.
use Rattle.std.proofs.Common.{◌≡◌, ℕ, zero, suc, ◌+◌, ◌<◌, ◌≤◌, Bool, true, false, not, ◌||◌, ◌&&◌, nat_eq, nat_lt, List, [], ◌∷◌, ◌++◌, length, Some, refl, sym, ap, ◌∙◌, arith}
use Rattle.std.proofs.lemmas.Bool.Decides.{nat_tests}
use Rattle.std.specs.List.{slice_get, insert, remove}
use Rattle.pcm_base.specs.declared.card.Card.{Ghosts}
use Rattle.pcm_base.specs.declared.ids.SubId.{SubId}
use Rattle.pcm_base.specs.model.Replay.{is_member}
use Rattle.pcm_stream.specs.Members.{all_differ, numbers_of}
use Rattle.pcm_group.specs.declared.group.Group.{Group}
use Rattle.pcm_group.specs.Inside.{members_in}
use Rattle.pcm_world.specs.Groups.{AreNumbers, all_numbers, are_below, numbers_in}

one_or_none : Bool → ℕ
one_or_none true = 1
one_or_none false = 0

-- how often k comes
pub times : SubId → List SubId → ℕ
times k [] = 0
times k (j ∷ js) = one_or_none (nat_eq j.0 k.0) + times k js

plus_assoc : (a b c : ℕ) → a + (b + c) ≡ a + b + c
plus_assoc a b c = omega arith

pub times_none : (k : SubId) → times k [] ≡ 0
unfolding times one_or_none
times_none k = refl

pub times-append : (k : SubId) (a b : List SubId) → times k (a ++ b) ≡ times k a + times k b
unfolding times one_or_none
times-append k [] b = omega arith
times-append k (j ∷ a) b = ap (λ (n : ℕ). one_or_none (nat_eq j.0 k.0) + n) (times-append k a b) ∙ plus_assoc (one_or_none (nat_eq j.0 k.0)) (times k a) (times k b)

pub times_head : (k j : SubId) (js : List SubId) → times k (j ∷ js) ≡ times k (j ∷ []) + times k js
times_head k j js = times-append k (j ∷ []) js

pub times_one : (k : SubId) → times k (k ∷ []) ≡ 1
unfolding times one_or_none
times_one k = let same : nat_eq k.0 k.0 ≡ true = grind (arith, nat_tests) in let one : one_or_none (nat_eq k.0 k.0) ≡ 1 = ap one_or_none same in omega arith

pub some_times : (k : SubId) (js : List SubId) → is_member k js ≡ true → 1 ≤ times k js
unfolding times one_or_none
some_times k [] h = absurd (let no : ⊥ = cc in no)
some_times k (j ∷ js) h = by (nat_eq j.0 k.0) h (some_times k js)
  where
    by : (b : Bool) → (b || is_member k js) ≡ true → (is_member k js ≡ true → 1 ≤ times k js) → 1 ≤ one_or_none b + times k js
    by true f r = omega arith
    by false f r = let l : 1 ≤ times k js = r f in omega arith

pub no_times : (k : SubId) (js : List SubId) → is_member k js ≡ false → times k js ≡ 0
unfolding times one_or_none
no_times k [] h = refl
no_times k (j ∷ js) h = by (nat_eq j.0 k.0) h (no_times k js)
  where
    by : (b : Bool) → (b || is_member k js) ≡ false → (is_member k js ≡ false → times k js ≡ 0) → one_or_none b + times k js ≡ 0
    by true f r = absurd (let no : ⊥ = cc in no)
    by false f r = let l : times k js ≡ 0 = r f in omega arith

pub is_none_times : (k : SubId) (js : List SubId) → times k js ≡ 0 → is_member k js ≡ false
is_none_times k js h = by (is_member k js) refl
  where
    by : (b : Bool) → is_member k js ≡ b → b ≡ false
    by true e = absurd (let l : 1 ≤ times k js = some_times k js e in let no : ⊥ = omega (arith, l, h) in no)
    by false e = refl

same_number : (j k : SubId) → nat_eq j.0 k.0 ≡ true → j ≡ k
same_number j k h = let e : j.0 ≡ k.0 = grind (arith, nat_tests, h) in ap (λ (n : ℕ). record { 0 = n }) e

both : (a b : Bool) → (not a && b) ≡ true → (a ≡ false) × (b ≡ true)
both true b h = absurd (let no : ⊥ = cc in no)
both false b h = (refl, h)

pub at_most_once : (js : List SubId) → all_differ js ≡ true → (k : SubId) → times k js ≤ 1
unfolding times one_or_none
at_most_once [] h k = omega arith
at_most_once (j ∷ js) h k = by (nat_eq j.0 k.0) refl (at_most_once js parts.1 k)
  where
    parts : (is_member j js ≡ false) × (all_differ js ≡ true)
    parts = both (is_member j js) (all_differ js) h

    by : (b : Bool) → nat_eq j.0 k.0 ≡ b → times k js ≤ 1 → one_or_none b + times k js ≤ 1
    by true e r = let none : times k js ≡ 0 = no_times k js (ap (λ (i : SubId). is_member i js) (sym (same_number j k e)) ∙ parts.0) in omega (arith, none)
    by false e r = omega (arith, r)

pub differ_from : (js : List SubId) → ((k : SubId) → times k js ≤ 1) → all_differ js ≡ true
unfolding times one_or_none
differ_from [] h = refl
differ_from (j ∷ js) h = ap (λ (b : Bool). not b && all_differ js) absent ∙ differ_from js rest
  where
    absent : is_member j js ≡ false
    absent = let one : one_or_none (nat_eq j.0 j.0) ≡ 1 = ap one_or_none (let same : nat_eq j.0 j.0 ≡ true = grind (arith, nat_tests) in same) in
        let l : one_or_none (nat_eq j.0 j.0) + times j js ≤ 1 = h j in
        is_none_times j js (omega (arith, one, l))

    rest : (k : SubId) → times k js ≤ 1
    rest k = let l : one_or_none (nat_eq j.0 k.0) + times k js ≤ 1 = h k in omega (arith, l)

parts_below : (a b : Bool) → (a && b) ≡ true → (a ≡ true) × (b ≡ true)
parts_below true b h = (refl, h)
parts_below false b h = absurd (let no : ⊥ = cc in no)

pub below_at : (js : List SubId) → are_below js ≡ true → (k : SubId) → 1 ≤ times k js → k.0 < 16
unfolding times one_or_none
below_at [] h k l = absurd (let no : ⊥ = omega (arith, l) in no)
below_at (j ∷ js) h k l = by (nat_eq j.0 k.0) refl l (below_at js parts.1 k)
  where
    parts : (nat_lt j.0 16 ≡ true) × (are_below js ≡ true)
    parts = parts_below (nat_lt j.0 16) (are_below js) h

    by : (b : Bool) → nat_eq j.0 k.0 ≡ b → 1 ≤ one_or_none b + times k js → (1 ≤ times k js → k.0 < 16) → k.0 < 16
    by true e f r = let same : j.0 ≡ k.0 = grind (arith, nat_tests, e) in let low : j.0 < 16 = grind (arith, nat_tests, parts.0) in omega (arith, same, low)
    by false e f r = r (omega (arith, f))

pub below_from : (js : List SubId) → ((k : SubId) → 1 ≤ times k js → k.0 < 16) → are_below js ≡ true
unfolding times one_or_none
below_from [] h = refl
below_from (j ∷ js) h = ap (λ (b : Bool). b && are_below js) low ∙ below_from js rest
  where
    low : nat_lt j.0 16 ≡ true
    low = let one : one_or_none (nat_eq j.0 j.0) ≡ 1 = ap one_or_none (let same : nat_eq j.0 j.0 ≡ true = grind (arith, nat_tests) in same) in
        let l : 1 ≤ one_or_none (nat_eq j.0 j.0) + times j js = omega (arith, one) in
        let b : j.0 < 16 = h j l in
        grind (arith, nat_tests, b)

    rest : (k : SubId) → 1 ≤ times k js → k.0 < 16
    rest k l = h k (omega (arith, l))

-- the same numbers, in whatever order and groups
pub numbers_moved : (kss iss : List (List SubId)) → ((k : SubId) → times k (all_numbers iss) ≡ times k (all_numbers kss)) → AreNumbers kss → AreNumbers iss
numbers_moved kss iss e h = record {
  distinct = differ_from (all_numbers iss) (λ k. let l : times k (all_numbers kss) ≤ 1 = at_most_once (all_numbers kss) h.distinct k in omega (arith, l, e k));
  below = below_from (all_numbers iss) (λ k l. below_at (all_numbers kss) h.below k (omega (arith, l, e k)));
}

-- ---- no more than sixteen numbers are below sixteen

total : ℕ → List SubId → ℕ
total zero js = 0
total (suc n) js = times (record { 0 = n }) js + total n js

total_grows : (n : ℕ) (j : SubId) (js : List SubId) → total n js ≤ total n (j ∷ js)
unfolding total times one_or_none
total_grows zero j js = omega arith
total_grows (suc n) j js = let l : total n js ≤ total n (j ∷ js) = total_grows n j js in omega (arith, l)

total_counts : (n : ℕ) (j : SubId) (js : List SubId) → j.0 < n → suc (total n js) ≤ total n (j ∷ js)
unfolding total times one_or_none
total_counts zero j js b = absurd (let no : ⊥ = omega (arith, b) in no)
total_counts (suc n) j js b = by (nat_eq j.0 n) refl (total_counts n j js)
  where
    by : (t : Bool) → nat_eq j.0 n ≡ t → (j.0 < n → suc (total n js) ≤ total n (j ∷ js)) → suc (times (record { 0 = n }) js + total n js) ≤ one_or_none t + times (record { 0 = n }) js + total n (j ∷ js)
    by true e r = let l : total n js ≤ total n (j ∷ js) = total_grows n j js in omega (arith, l)
    by false e r =
        let low : j.0 < n = grind (arith, nat_tests, e, b) in
        let l : suc (total n js) ≤ total n (j ∷ js) = r low in
        omega (arith, l)

all_counted : (js : List SubId) → are_below js ≡ true → length js ≤ total 16 js
all_counted [] h = omega arith
all_counted (j ∷ js) h =
    let parts = parts_below (nat_lt j.0 16) (are_below js) h in
    let low : j.0 < 16 = grind (arith, nat_tests, parts.0) in
    let here : suc (total 16 js) ≤ total 16 (j ∷ js) = total_counts 16 j js low in
    let rest : length js ≤ total 16 js = all_counted js parts.1 in
    omega (arith, here, rest)

total_few : (n : ℕ) (js : List SubId) → ((k : SubId) → times k js ≤ 1) → total n js ≤ n
unfolding total
total_few zero js h = omega arith
total_few (suc n) js h =
    let here : times (record { 0 = n }) js ≤ 1 = h (record { 0 = n }) in
    let rest : total n js ≤ n = total_few n js h in
    omega (arith, here, rest)

-- so there are no more than sixteen in a list whose numbers are all among these
pub few_among : (kss : List (List SubId)) (js : List SubId) → AreNumbers kss → ((k : SubId) → times k js ≤ times k (all_numbers kss)) → length js ≤ 16
few_among kss js h f =
    let once : (k : SubId) → times k js ≤ 1 = λ k. (let l : times k (all_numbers kss) ≤ 1 = at_most_once (all_numbers kss) h.distinct k in omega (arith, l, f k)) in
    let low : are_below js ≡ true = below_from js (λ k l. below_at (all_numbers kss) h.below k (omega (arith, l, f k))) in
    let all : length js ≤ total 16 js = all_counted js low in
    let few : total 16 js ≤ 16 = total_few 16 js once in
    omega (arith, all, few)

-- ---- a group that is taken out or put in

pub swap_sums : (a b c : ℕ) → a + (b + c) ≡ b + (a + c)
swap_sums a b c = omega arith

pub times-remove : {C : Type 0} {g : Ghosts C} (k : SubId) (gs : List (Group C g)) (i : ℕ) (x : Group C g) → slice_get gs i ≡ Some x
    → times k (all_numbers (numbers_in gs)) ≡ times k (numbers_of (members_in x)) + times k (all_numbers (numbers_in (remove gs i)))
times-remove k [] i x at = absurd (let no : ⊥ = cc in no)
times-remove {C = C} {g = g} k (y ∷ gs) zero x at =
    let same : y ≡ x = cc in
    times-append k (numbers_of (members_in y)) (all_numbers (numbers_in gs))
    ∙ ap (λ (q : Group C g). times k (numbers_of (members_in q)) + times k (all_numbers (numbers_in gs))) same
times-remove k (y ∷ gs) (suc i) x at =
    times-append k (numbers_of (members_in y)) (all_numbers (numbers_in gs))
    ∙ ap (λ (n : ℕ). times k (numbers_of (members_in y)) + n) (times-remove k gs i x at)
    ∙ swap_sums (times k (numbers_of (members_in y))) (times k (numbers_of (members_in x))) (times k (all_numbers (numbers_in (remove gs i))))
    ∙ ap (λ (n : ℕ). times k (numbers_of (members_in x)) + n) (sym (times-append k (numbers_of (members_in y)) (all_numbers (numbers_in (remove gs i)))))

pub times-insert : {C : Type 0} {g : Ghosts C} (k : SubId) (gs : List (Group C g)) (i : ℕ) (x : Group C g) → i ≤ length gs
    → times k (all_numbers (numbers_in (insert gs i x))) ≡ times k (numbers_of (members_in x)) + times k (all_numbers (numbers_in gs))
times-insert k gs zero x le = times-append k (numbers_of (members_in x)) (all_numbers (numbers_in gs))
times-insert k [] (suc i) x le = absurd (let no : ⊥ = omega (arith, le) in no)
times-insert k (y ∷ gs) (suc i) x le =
    times-append k (numbers_of (members_in y)) (all_numbers (numbers_in (insert gs i x)))
    ∙ ap (λ (n : ℕ). times k (numbers_of (members_in y)) + n) (times-insert k gs i x (omega (arith, le)))
    ∙ swap_sums (times k (numbers_of (members_in y))) (times k (numbers_of (members_in x))) (times k (all_numbers (numbers_in gs)))
    ∙ ap (λ (n : ℕ). times k (numbers_of (members_in x)) + n) (sym (times-append k (numbers_of (members_in y)) (all_numbers (numbers_in gs))))

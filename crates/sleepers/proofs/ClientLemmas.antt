-- Lists of calls in progress, none of whose clients has two.
use Rattle.std.proofs.Common.{◌≡◌, ℕ, suc, Bool, true, false, not, cond, ◌||◌, ◌+◌, ◌<◌, ◌≤◌, List, [], ◌∷◌, ◌++◌, map, filter, length, length-append, get_or, refl, sym, ◌∙◌, ap, subst, arith, eqb, nat_eq, eqb-true, eq-eqb, nat_lt, ltb-true, ltb-false}
use Rattle.std.specs.List.{list_any, position, position_or_len, find, remove, IsDistinct, AllByRecursion}
use Rattle.std.proofs.lemmas.Map.Steps.{length-le_from_distinct_below}
use Rattle.std.specs.declared.option.Option.{Option}
use Rattle.std.specs.declared.option.Option.TheVariants.{Some, None}
use Rattle.pcm_base.specs.declared.ids.ClientId.{ClientId}
use Rattle.pcm_base.specs.declared.sleeper.Sleeper.{Sleeper}
use Rattle.sleepers.specs.Clients.{is_of, has_client, others_than, sleeper_of, AreApart}

get_or-next : {X : Type 0} (x : X) (xs : List X) (i k : ℕ) (d : X) → i ≡ suc k → get_or xs k d ≡ get_or (x ∷ xs) i d
get_or-next x xs i k d e = subst (λ n. get_or xs k d ≡ get_or (x ∷ xs) n d) (sym e) refl

module _ {X : Type 0} (p : X → Bool) where
  -- where no place passes, no element does
  pub list_any-beyond : (xs : List X) → length xs ≤ position_or_len p xs → list_any p xs ≡ false
  list_any-beyond [] = λ h. refl
  list_any-beyond (x ∷ xs) =
      elim (p x) as (λ b. suc (length xs) ≤ cond (not b) (1 + position_or_len p xs) 0 → b || list_any p xs ≡ false) [
        | true ↦ λ h. absurd (omega arith)
        | false ↦ λ h. list_any-beyond xs (omega arith)
      ]

  -- where one does, an element passes
  pub list_any-at : (xs : List X) → position_or_len p xs < length xs → list_any p xs ≡ true
  list_any-at [] = λ h. absurd (omega arith)
  list_any-at (x ∷ xs) =
      elim (p x) as (λ b. cond (not b) (1 + position_or_len p xs) 0 < suc (length xs) → b || list_any p xs ≡ true) [
        | true ↦ λ h. refl
        | false ↦ λ h. list_any-at xs (omega arith)
      ]

  -- what a position says
  pub position-Some : (xs : List X) (i : ℕ) → Some i ≡ position p xs → (i ≡ position_or_len p xs) × (i < length xs)
  position-Some xs i h =
      elim (nat_lt (position_or_len p xs) (length xs)) as (λ b. b ≡ nat_lt (position_or_len p xs) (length xs)
      → Some i ≡ cond b (Some (position_or_len p xs)) None → (i ≡ position_or_len p xs) × (i < length xs)) [
        | true ↦ λ is e.
            let same : i ≡ position_or_len p xs = cc in
            let within : position_or_len p xs < length xs = ltb-true _ _ (sym is) in
            (same, omega arith)
        | false ↦ λ is e. absurd (cc)
      ] refl h

  pub position-None : (xs : List X) → None ≡ position p xs → length xs ≤ position_or_len p xs
  position-None xs h =
      elim (nat_lt (position_or_len p xs) (length xs)) as (λ b. b ≡ nat_lt (position_or_len p xs) (length xs)
      → None ≡ cond b (Some (position_or_len p xs)) None → length xs ≤ position_or_len p xs) [
        | true ↦ λ is e. absurd (cc)
        | false ↦ λ is e. ltb-false _ _ (sym is)
      ] refl h

  -- where no element passes, all are the others
  pub filter-none : (xs : List X) → list_any p xs ≡ false → filter (λ x. not (p x)) xs ≡ xs
  filter-none [] = λ h. refl
  filter-none (x ∷ xs) =
      elim (p x) as (λ b. b || list_any p xs ≡ false → cond (not b) (x ∷ filter (λ x. not (p x)) xs) (filter (λ x. not (p x)) xs) ≡ x ∷ xs) [
        | true ↦ λ h. absurd (cc)
        | false ↦ λ h. ap (λ (ys : List X). x ∷ ys) (filter-none xs h)
      ]

  -- none of the others passes
  pub list_any-others : (xs : List X) → list_any p (filter (λ x. not (p x)) xs) ≡ false
  list_any-others [] = refl
  list_any-others (x ∷ xs) =
      elim (p x) as (λ b. b ≡ p x → list_any p (cond (not b) (x ∷ filter (λ y. not (p y)) xs) (filter (λ y. not (p y)) xs)) ≡ false) [
        | true ↦ λ is. list_any-others xs
        | false ↦ λ is. ap (λ b. b || list_any p (filter (λ y. not (p y)) xs)) (sym is) ∙ list_any-others xs
      ] refl

  pub find-none : (xs : List X) → list_any p xs ≡ false → find p xs ≡ None
  find-none [] = λ h. refl
  find-none (x ∷ xs) =
      elim (p x) as (λ b. b || list_any p xs ≡ false → cond b (Some x) (find p xs) ≡ None) [
        | true ↦ λ h. absurd (cc)
        | false ↦ λ h. find-none xs h
      ]

  -- what is found first stands at the position
  pub find-position : (xs : List X) (d : X) → position_or_len p xs < length xs → find p xs ≡ Some (get_or xs (position_or_len p xs) d)
  find-position [] d = λ h. absurd (omega arith)
  find-position (x ∷ xs) d =
      elim (p x) as (λ b. cond (not b) (1 + position_or_len p xs) 0 < suc (length xs)
      → cond b (Some x) (find p xs) ≡ Some (get_or (x ∷ xs) (cond (not b) (1 + position_or_len p xs) 0) d)) [
        | true ↦ λ h. refl
        | false ↦ λ h. find-position xs d (omega arith) ∙ ap (λ v. Some v) (get_or-next x xs _ _ d (omega arith))
      ]

  pub list_any-append_one : (xs : List X) (y : X) → list_any p xs ≡ false → p y ≡ false → list_any p (xs ++ y ∷ []) ≡ false
  list_any-append_one [] y = λ h g. ap (λ b. b || false) g
  list_any-append_one (x ∷ xs) y =
      elim (p x) as (λ b. b || list_any p xs ≡ false → p y ≡ false → b || list_any p (xs ++ y ∷ []) ≡ false) [
        | true ↦ λ h g. absurd (cc)
        | false ↦ λ h g. list_any-append_one xs y h g
      ]

  pub list_any-filter : (q : X → Bool) (xs : List X) → list_any p xs ≡ false → list_any p (filter q xs) ≡ false
  list_any-filter q [] = λ h. refl
  list_any-filter q (x ∷ xs) =
      elim (p x) as (λ b. b ≡ p x → b || list_any p xs ≡ false → list_any p (cond (q x) (x ∷ filter q xs) (filter q xs)) ≡ false) [
        | true ↦ λ is h. absurd (cc)
        | false ↦ λ is h. elim (q x) as (λ c. list_any p (cond c (x ∷ filter q xs) (filter q xs)) ≡ false) [
          | true ↦ rw (← is) (list_any-filter q xs h)
          | false ↦ list_any-filter q xs h
        ]
      ] refl

-- of two tests of which none holds, neither does
pub or-false_left : (a b : Bool) → a || b ≡ false → a ≡ false
or-false_left a b h = elim a as (λ v. v || b ≡ false → v ≡ false) [ true ↦ λ g. g | false ↦ λ g. refl ] h

pub or-false_right : (a b : Bool) → a || b ≡ false → b ≡ false
or-false_right a b h = elim a as (λ v. v || b ≡ false → b ≡ false) [ true ↦ λ g. absurd (cc) | false ↦ λ g. g ] h

pub eqb-sym_false : (m n : ℕ) → eqb m n ≡ false → eqb n m ≡ false
eqb-sym_false m n h =
    elim (eqb n m) as (λ b. b ≡ eqb n m → b ≡ false) [
      | true ↦ λ is. let e : eqb m n ≡ true = eq-eqb m n (sym (eqb-true n m (sym is))) in absurd (cc)
      | false ↦ λ is. refl
    ] refl

pub eqb-same : (n : ℕ) → eqb n n ≡ true
eqb-same n = eq-eqb n n refl

remove-cons : (x : Sleeper) (xs : List Sleeper) (i k : ℕ) → i ≡ suc k → remove (x ∷ xs) i ≡ x ∷ remove xs k
remove-cons x xs i k e = subst (λ n. remove (x ∷ xs) n ≡ x ∷ remove xs k) (sym e) refl

-- a client of the same number has none either
pub has_client-same : (xs : List Sleeper) (c d : ClientId) → nat_eq c.0 d.0 ≡ true → has_client c xs ≡ false → has_client d xs ≡ false
has_client-same xs c d same h =
    subst (λ n. list_any (λ x. nat_eq x.client.0 n) xs ≡ false) (eqb-true c.0 d.0 same) h

-- without the first call of a client, there are those of the others
pub remove-position : (c : ClientId) (xs : List Sleeper) → AreApart xs
    → position_or_len (is_of c) xs < length xs → remove xs (position_or_len (is_of c) xs) ≡ others_than c xs
remove-position c [] apart = λ h. absurd (omega arith)
remove-position c (x ∷ xs) apart =
    elim (is_of c x) as (λ b. b ≡ is_of c x
    → cond (not b) (1 + position_or_len (is_of c) xs) 0 < suc (length xs)
    → remove (x ∷ xs) (cond (not b) (1 + position_or_len (is_of c) xs) 0) ≡ cond (not b) (x ∷ others_than c xs) (others_than c xs)) [
      | true ↦ λ is h. sym (filter-none (is_of c) xs (has_client-same xs x.client c (sym is) apart.1))
      | false ↦ λ is h. remove-cons x xs _ (position_or_len (is_of c) xs) (omega arith)
          ∙ ap (λ (ys : List Sleeper). x ∷ ys) (remove-position c xs apart.2 (omega arith))
    ] refl

pub AreApart-filter : (q : Sleeper → Bool) (xs : List Sleeper) → AreApart xs → AreApart (filter q xs)
AreApart-filter q [] h = tt
AreApart-filter q (x ∷ xs) h =
    elim (q x) as (λ b. AreApart (cond b (x ∷ filter q xs) (filter q xs))) [
      | true ↦ (h.0, list_any-filter (is_of x.client) q xs h.1, AreApart-filter q xs h.2)
      | false ↦ AreApart-filter q xs h.2
    ]

-- another client's call behind the others
pub AreApart-append_one : (xs : List Sleeper) (y : Sleeper) → AreApart xs → has_client y.client xs ≡ false
    → y.client.0 < 16 → AreApart (xs ++ y ∷ [])
AreApart-append_one [] y apart none below = (below, refl, tt)
AreApart-append_one (x ∷ xs) y apart none below =
    let other : nat_eq x.client.0 y.client.0 ≡ false = or-false_left (nat_eq x.client.0 y.client.0) (has_client y.client xs) none in (
      apart.0,
      list_any-append_one (is_of x.client) xs y apart.1 (eqb-sym_false x.client.0 y.client.0 other),
      AreApart-append_one xs y apart.2 (or-false_right (nat_eq x.client.0 y.client.0) (has_client y.client xs) none) below,
    )

pub AreApart-below : (xs : List Sleeper) → AreApart xs → AllByRecursion (λ x. x.client.0 < 16) xs
AreApart-below [] apart = tt
AreApart-below (x ∷ xs) apart = (apart.0, AreApart-below xs apart.2)

-- each client's number, none of which stands twice
numbers : List Sleeper → List ℕ
numbers xs = map (λ x. x.client.0) xs

later-differ : (n : ℕ) (xs : List Sleeper) → list_any (λ x. nat_eq x.client.0 n) xs ≡ false → AllByRecursion (λ m. eqb n m ≡ false) (numbers xs)
unfolding numbers
later-differ n [] h = tt
later-differ n (x ∷ xs) h =
    (eqb-sym_false x.client.0 n (or-false_left (nat_eq x.client.0 n) (list_any (λ y. nat_eq y.client.0 n) xs) h), later-differ n xs (or-false_right (nat_eq x.client.0 n) (list_any (λ y. nat_eq y.client.0 n) xs) h))

numbers-distinct : (xs : List Sleeper) → AreApart xs → IsDistinct eqb (numbers xs)
unfolding numbers IsDistinct
numbers-distinct [] apart = tt
numbers-distinct (x ∷ xs) apart = (later-differ x.client.0 xs apart.1, numbers-distinct xs apart.2)

length-map-numbers : (xs : List Sleeper) → length (numbers xs) ≡ length xs
unfolding numbers
length-map-numbers [] = refl
length-map-numbers (x ∷ xs) = ap suc (length-map-numbers xs)

numbers-below : (xs : List Sleeper) → AreApart xs → (q : ℕ) → list_any (eqb q) (numbers xs) ≡ true → q < 16
unfolding numbers
numbers-below [] apart q = λ h. absurd (cc)
numbers-below (x ∷ xs) apart q =
    elim (eqb q x.client.0) as (λ b. b ≡ eqb q x.client.0 → b || list_any (eqb q) (numbers xs) ≡ true → q < 16) [
      | true ↦ λ is h. let e : q ≡ x.client.0 = eqb-true q x.client.0 (sym is) in let below : x.client.0 < 16 = apart.0 in omega arith
      | false ↦ λ is h. numbers-below xs apart.2 q h
    ] refl

-- sixteen clients at most
pub length-AreApart : (xs : List Sleeper) → AreApart xs → length xs ≤ 16
length-AreApart xs apart =
    omega (arith, length-map-numbers xs, length-le_from_distinct_below (numbers xs) 16 (numbers-distinct xs apart) (numbers-below xs apart))

-- another client has room
pub room : (xs : List Sleeper) (y : Sleeper) → AreApart xs → has_client y.client xs ≡ false → y.client.0 ≤ 15 → length xs < 16
room xs y apart none below =
    omega (arith, length-append xs (y ∷ []), length-AreApart (xs ++ y ∷ []) (AreApart-append_one xs y apart none (omega arith)))

-- what the position of a client's call says
pub record IsTaken (c : ClientId) (xs : List Sleeper) (i : ℕ) : Type 0 where
  pub here : has_client c xs ≡ true
  pub found : (d : Sleeper) → sleeper_of c xs ≡ Some (get_or xs i d)
  pub others : remove xs i ≡ others_than c xs

pub taken-at : (c : ClientId) (xs ys : List Sleeper) (r : Option ℕ) (i : ℕ) → AreApart xs
    → r ≡ Some i → r ≡ position (is_of c) ys → ys ≡ xs → IsTaken c xs i
taken-at c xs ys r i apart is found same =
    let e : Some i ≡ position (is_of c) xs = sym is ∙ found ∙ ap (position (is_of c)) same in
    let at = position-Some (is_of c) xs i e in
    let within : position_or_len (is_of c) xs < length xs = omega (arith, at.0, at.1) in
    record {
      here = list_any-at (is_of c) xs within;
      found = λ d. find-position (is_of c) xs d within ∙ ap (λ k. Some (get_or xs k d)) (sym at.0);
      others = ap (remove xs) at.0 ∙ remove-position c xs apart within;
    }

-- and what it says that there is none
pub record IsAbsent (c : ClientId) (xs : List Sleeper) : Type 0 where
  pub none : has_client c xs ≡ false
  pub found : sleeper_of c xs ≡ None
  pub others : others_than c xs ≡ xs

pub absent-from : (c : ClientId) (xs ys : List Sleeper) (r : Option ℕ)
    → r ≡ None → r ≡ position (is_of c) ys → ys ≡ xs → IsAbsent c xs
absent-from c xs ys r is found same =
    let e : None ≡ position (is_of c) xs = sym is ∙ found ∙ ap (position (is_of c)) same in
    let none = list_any-beyond (is_of c) xs (position-None (is_of c) xs e) in
    record { none = none; found = find-none (is_of c) xs none; others = filter-none (is_of c) xs none }

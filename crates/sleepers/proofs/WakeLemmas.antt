-- A check of the calls in progress, as far as a loop has come, and the mask of those that it wakes.
use Rattle.std.proofs.Common.{◌≡◌, ◌≢◌, ℕ, zero, suc, Bool, true, false, not, cond, ◌&&◌, ◌||◌, ◌*◌, ◌^◌, ◌<◌, max, List, [], ◌∷◌, ◌++◌, ◌↔◌, map, filter, length, take, drop, get_or, refl, sym, ◌∙◌, ap, subst, arith, eqb, nat_eq, eqb-true, eq-eqb, add-one, append-nil, zero-mul, pow_pos, IsTrue}
use Rattle.std.proofs.Math.ListN.{set}
use Rattle.std.specs.Int.{bit_at, IsBitSet}
use Rattle.std.specs.Int.RustNames.{bit_or}
use Rattle.std.specs.List.{list_any, All, Any}
use Rattle.std.proofs.lemmas.List.Elements.{All-map, filter_more}
use Rattle.std.proofs.lemmas.List.Folds.{Any-from_list_any, list_any-from_Any}
use Rattle.std.proofs.lemmas.Nat.{or_comm}
use Rattle.std.proofs.lemmas.Nat.Bits.{bit_at_or, bit_at-zero, bit_at-pow_same, bit_at-pow_other, bit_at-lt, and_pow, same_from_bits}
use Rattle.pcm_base.specs.declared.ids.ClientId.{ClientId}
use Rattle.pcm_base.specs.declared.sleeper.Sleeper.{Sleeper}
use Rattle.pcm_base.specs.declared.state.State.{State}
use Rattle.pcm_base.specs.model.Sleep.{mask_of}
use Rattle.sleepers.specs.Clients.{is_of, has_client, AreApart}
use Rattle.sleepers.specs.Wake.{may_wait_on, wakes, woken_sleepers, checked, after_check, clients_of}

-- a list whose elements before an index are changed
module _ {X : Type 0} (f : X → X) where
  pub get_or-done : (xs : List X) (i : ℕ) (d : X) → i < length xs
      → get_or (map f (take i xs) ++ drop i xs) i d ≡ get_or xs i d
  get_or-done [] i d h = absurd (omega arith)
  get_or-done (x ∷ xs) zero d h = refl
  get_or-done (x ∷ xs) (suc i) d h = get_or-done xs i d (omega arith)

  pub done-set : (xs : List X) (i : ℕ) (d y : X) → i < length xs → y ≡ f (get_or xs i d)
      → set (map f (take i xs) ++ drop i xs) i y ≡ map f (take (suc i) xs) ++ drop (suc i) xs
  done-set [] i d y h e = absurd (omega arith)
  done-set (x ∷ xs) zero d y h e = ap (λ (z : X). z ∷ xs) e
  done-set (x ∷ xs) (suc i) d y h e = ap (λ (zs : List X). f x ∷ zs) (done-set xs i d y (omega arith) e)

  pub done-kept : (xs : List X) (i : ℕ) (d : X) → i < length xs → get_or xs i d ≡ f (get_or xs i d)
      → map f (take i xs) ++ drop i xs ≡ map f (take (suc i) xs) ++ drop (suc i) xs
  done-kept [] i d h e = absurd (omega arith)
  done-kept (x ∷ xs) zero d h e = ap (λ (z : X). z ∷ xs) e
  done-kept (x ∷ xs) (suc i) d h e = ap (λ (zs : List X). f x ∷ zs) (done-kept xs i d (omega arith) e)

or_assoc : (a b c : ℕ) → bit_or a (bit_or b c) ≡ bit_or (bit_or a b) c
or_assoc a b c =
    same_from_bits _ _ (λ i.
    let left : bit_at (bit_or a (bit_or b c)) i ≡ max (bit_at a i) (max (bit_at b i) (bit_at c i)) =
    bit_at_or a (bit_or b c) i ∙ ap (max (bit_at a i)) (bit_at_or b c i) in
    let right : bit_at (bit_or (bit_or a b) c) i ≡ max (max (bit_at a i) (bit_at b i)) (bit_at c i) =
    bit_at_or (bit_or a b) c i ∙ ap (λ n. max n (bit_at c i)) (bit_at_or a b i) in
    omega arith)

eqb-differs : (m n : ℕ) → eqb m n ≡ false → m ≢ n
eqb-differs m n h e = let same : eqb m n ≡ true = eq-eqb m n e in absurd (cc)

-- what of a mark is left by a check
stays-false : (a b : Bool) → a && not b ≡ true → false ≡ a && b
stays-false a b = elim a as (λ v. v && not b ≡ true → false ≡ v && b) [
  | true ↦ elim b as (λ w. not w ≡ true → false ≡ w) [ true ↦ λ h. h | false ↦ λ h. refl ]
  | false ↦ λ h. refl
]

stays : (a b : Bool) → a && not b ≡ false → a ≡ a && b
stays a b = elim a as (λ v. v && not b ≡ false → v ≡ v && b) [
  | true ↦ elim b as (λ w. not w ≡ false → true ≡ w) [ true ↦ λ h. refl | false ↦ λ h. h ]
  | false ↦ λ h. refl
]

both-right : (a b : Bool) → IsTrue (a && b) → IsTrue b
both-right a b = elim a as (λ v. IsTrue (v && b) → IsTrue b) [ true ↦ λ h. h | false ↦ λ h. absurd (cc) ]

-- one client more
pub mask_of-append_one : (cs : List ClientId) (c : ClientId) → mask_of (cs ++ c ∷ []) ≡ bit_or (mask_of cs) (2 ^ c.0)
mask_of-append_one [] c = or_comm (2 ^ c.0) 0
mask_of-append_one (d ∷ cs) c =
    ap (bit_or (2 ^ d.0)) (mask_of-append_one cs c) ∙ or_assoc (2 ^ d.0) (mask_of cs) (2 ^ c.0)

clients_of-append_one : (xs : List Sleeper) (x : Sleeper) → clients_of (xs ++ x ∷ []) ≡ clients_of xs ++ x.client ∷ []
clients_of-append_one [] x = refl
clients_of-append_one (y ∷ xs) x = ap (λ (cs : List ClientId). y.client ∷ cs) (clients_of-append_one xs x)

-- bit i of the mask, where a client is number i or none is
pub bit_at-mask_of : (xs : List Sleeper) (i : ℕ)
    → bit_at (mask_of (clients_of xs)) i ≡ cond (list_any (λ x. nat_eq x.client.0 i) xs) 1 0
bit_at-mask_of [] i = bit_at-zero i
bit_at-mask_of (x ∷ xs) i =
    bit_at_or (2 ^ x.client.0) (mask_of (clients_of xs)) i
    ∙ elim (nat_eq x.client.0 i) as (λ b. b ≡ nat_eq x.client.0 i
    → max (bit_at (2 ^ x.client.0) i) (bit_at (mask_of (clients_of xs)) i) ≡ cond (b || list_any (λ y. nat_eq y.client.0 i) xs) 1 0) [
      | true ↦ λ is.
          let same : x.client.0 ≡ i = eqb-true x.client.0 i (sym is) in
          let one : bit_at (2 ^ x.client.0) i ≡ 1 = subst (λ n. bit_at (2 ^ n) i ≡ 1) (sym same) (bit_at-pow_same i) in
          omega (arith, bit_at-lt (mask_of (clients_of xs)) i)
      | false ↦ λ is.
          let none : bit_at (2 ^ x.client.0) i ≡ 0 = bit_at-pow_other x.client.0 i (λ e. eqb-differs x.client.0 i (sym is) (sym e)) in
          omega (arith, bit_at-mask_of xs i)
    ] refl

IsBitSet-from_bit : (n i : ℕ) → bit_at n i ≡ 1 → IsBitSet n i
IsBitSet-from_bit n i one none =
    let e : 1 * 2 ^ i ≡ 0 = ap (λ b. b * 2 ^ i) (sym one) ∙ sym (and_pow n i) ∙ none in
    absurd (omega (arith, pow_pos i))

bit-from_IsBitSet : (n i : ℕ) → IsBitSet n i → bit_at n i ≡ 1
bit-from_IsBitSet n i set =
    elim (eqb (bit_at n i) 0) as (λ b. b ≡ eqb (bit_at n i) 0 → bit_at n i ≡ 1) [
      | true ↦ λ is. absurd (set (and_pow n i ∙ ap (λ b. b * 2 ^ i) (eqb-true _ _ (sym is)) ∙ zero-mul (2 ^ i)))
      | false ↦ λ is. let some : bit_at n i ≢ 0 = eqb-differs (bit_at n i) 0 (sym is) in omega (arith, bit_at-lt n i)
    ] refl

cond-one : (b : Bool) → ◌≡◌ {A = ℕ} (cond b 1 0) 1 → b ≡ true
cond-one b = elim b as (λ v. ◌≡◌ {A = ℕ} (cond v 1 0) 1 → v ≡ true) [ true ↦ λ h. refl | false ↦ λ h. absurd (cc) ]

-- the mask tells exactly the clients
pub IsBitSet-mask_of : (xs : List Sleeper) (i : ℕ) → IsBitSet (mask_of (clients_of xs)) i ↔ Any (λ x. x.client.0 ≡ i) xs
IsBitSet-mask_of xs i = (
  (λ set.
      let hit = cond-one _ (sym (bit_at-mask_of xs i) ∙ bit-from_IsBitSet (mask_of (clients_of xs)) i set) in
      let found = Any-from_list_any (λ x. nat_eq x.client.0 i) xs hit in
      (found.0, found.1, found.2, found.3, eqb-true _ _ found.4)),
  (λ found.
      let hit = list_any-from_Any (λ x. nat_eq x.client.0 i) xs (found.0, found.1, found.2, found.3, eq-eqb _ _ found.4) in
      IsBitSet-from_bit (mask_of (clients_of xs)) i (bit_at-mask_of xs i ∙ ap (λ b. cond b 1 0) hit)),
)

module _ (s : State) (available : ℕ) (group_drains : Bool) where
  -- the places of a loop that has come to index i
  abbrev pub done : ℕ → List Sleeper → List Sleeper
  done i xs = after_check s available group_drains (take i xs) ++ drop i xs

  abbrev pub mask_at : ℕ → List Sleeper → ℕ
  mask_at i xs = mask_of (clients_of (woken_sleepers s available group_drains (take i xs)))

  pub has_client-checked : (c : ClientId) (xs : List Sleeper) → has_client c (after_check s available group_drains xs) ≡ has_client c xs
  has_client-checked c [] = refl
  has_client-checked c (x ∷ xs) = ap (λ b. is_of c x || b) (has_client-checked c xs)

  -- a check changes no client
  pub AreApart-checked : (xs : List Sleeper) → AreApart xs → AreApart (after_check s available group_drains xs)
  AreApart-checked [] apart = tt
  AreApart-checked (x ∷ xs) apart = (apart.0, has_client-checked x.client xs ∙ apart.1, AreApart-checked xs apart.2)

  pub length-checked : (xs : List Sleeper) → length (after_check s available group_drains xs) ≡ length xs
  length-checked [] = refl
  length-checked (x ∷ xs) = ap suc (length-checked xs)

  -- what is still asleep may wait
  pub asleep-checked : (xs : List Sleeper) → All (λ x. IsTrue x.asleep → IsTrue (may_wait_on s available group_drains x.task)) (after_check s available group_drains xs)
  asleep-checked xs =
      All-map (λ x. IsTrue x.asleep → IsTrue (may_wait_on s available group_drains x.task)) (checked s available group_drains) xs
      (λ k d within. both-right (get_or xs k d).asleep (may_wait_on s available group_drains (get_or xs k d).task))

  woken-checked : (x : Sleeper) → wakes s available group_drains x ≡ true → record x { asleep = false } ≡ checked s available group_drains x
  woken-checked x h = ap (λ (b : Bool). record x { asleep = b }) (stays-false x.asleep (may_wait_on s available group_drains x.task) h)

  kept-checked : (x : Sleeper) → wakes s available group_drains x ≡ false → x ≡ checked s available group_drains x
  kept-checked x h = ap (λ (b : Bool). record x { asleep = b }) (stays x.asleep (may_wait_on s available group_drains x.task) h)

  -- the place at the index is still as it was
  pub item-done : (xs ys : List Sleeper) (i : ℕ) (x : Sleeper) → i < length xs → ys ≡ done i xs → x ≡ get_or ys i x → x ≡ get_or xs i x
  item-done xs ys i x h is item =
      item ∙ ap (λ (zs : List Sleeper). get_or zs i x) is ∙ get_or-done (checked s available group_drains) xs i x h

  pub step-woken : (xs ys : List Sleeper) (i : ℕ) (x : Sleeper) → i < length xs → ys ≡ done i xs → x ≡ get_or xs i x
      → wakes s available group_drains x ≡ true → set ys i (record x { asleep = false }) ≡ done (suc i) xs
  step-woken xs ys i x h is item woken =
      ap (λ (zs : List Sleeper). set zs i (record x { asleep = false })) is
      ∙ done-set (checked s available group_drains) xs i x _ h (woken-checked x woken ∙ ap (checked s available group_drains) item)

  pub step-kept : (xs ys : List Sleeper) (i : ℕ) (x : Sleeper) → i < length xs → ys ≡ done i xs → x ≡ get_or xs i x
      → wakes s available group_drains x ≡ false → ys ≡ done (suc i) xs
  step-kept xs ys i x h is item kept =
      is ∙ done-kept (checked s available group_drains) xs i x h (subst (λ (z : Sleeper). z ≡ checked s available group_drains z) item (kept-checked x kept))

  woken-more : (xs : List Sleeper) (i : ℕ) (x : Sleeper) → i < length xs → x ≡ get_or xs i x
      → woken_sleepers s available group_drains (take (suc i) xs)
      ≡ woken_sleepers s available group_drains (take i xs) ++ cond (wakes s available group_drains x) (x ∷ []) []
  woken-more xs i x h item =
      let test = wakes s available group_drains in
      let more : filter test (take (suc i) xs) ≡ filter test (take i xs) ++ cond (test (get_or xs i x)) (get_or xs i x ∷ []) [] =
      subst (λ n. filter test (take n xs) ≡ filter test (take i xs) ++ cond (test (get_or xs i x)) (get_or xs i x ∷ []) [])
      (add-one i) (filter_more test xs i x h) in
      subst (λ (z : Sleeper). filter test (take (suc i) xs) ≡ filter test (take i xs) ++ cond (test z) (z ∷ []) []) (sym item) more

  pub mask-woken : (xs : List Sleeper) (i : ℕ) (x : Sleeper) → i < length xs → x ≡ get_or xs i x
      → wakes s available group_drains x ≡ true → bit_or (mask_at i xs) (2 ^ x.client.0) ≡ mask_at (suc i) xs
  mask-woken xs i x h item woken =
      let before = woken_sleepers s available group_drains (take i xs) in
      let more : woken_sleepers s available group_drains (take (suc i) xs) ≡ before ++ x ∷ [] =
      woken-more xs i x h item ∙ ap (λ b. before ++ cond b (x ∷ []) []) woken in
      sym (ap (λ (ys : List Sleeper). mask_of (clients_of ys)) more
      ∙ ap mask_of (clients_of-append_one before x) ∙ mask_of-append_one (clients_of before) x.client)

  pub mask-kept : (xs : List Sleeper) (i : ℕ) (x : Sleeper) → i < length xs → x ≡ get_or xs i x
      → wakes s available group_drains x ≡ false → mask_at i xs ≡ mask_at (suc i) xs
  mask-kept xs i x h item kept =
      let before = woken_sleepers s available group_drains (take i xs) in
      let more : woken_sleepers s available group_drains (take (suc i) xs) ≡ before =
      woken-more xs i x h item ∙ ap (λ b. before ++ cond b (x ∷ []) []) kept ∙ append-nil before in
      sym (ap (λ (ys : List Sleeper). mask_of (clients_of ys)) more)

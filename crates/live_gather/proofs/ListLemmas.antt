-- Facts of each of a list, and of its first so many.
use Rattle.std.proofs.Common.{◌≡◌, ◌≤◌, ◌<◌, ◌+◌, ℕ, zero, suc, List, [], ◌∷◌, ◌++◌, length, slice_get, slice_set, Some, refl, sym, ap, ◌∙◌, subst, arith}
use Rattle.std.specs.List.{remove}
use Rattle.std.proofs.lemmas.List.Edits.{get_or-remove_below}
use Rattle.std.proofs.lemmas.Option.{get_or_from_slice_get, same_Some, slice_get_read, slice_get_within}
use mathlib.Core.Logic.{dite}
use native.Mathlib.Decide.{ℕ_discrete}
use Rattle.live_gather.specs.Told.{Each, HoldsAt}

-- a fact of each of the first n
abbrev pub Below : {A : Type 0} → ℕ → (A → Type 0) → List A → Type 0
Below n P xs = (i : ℕ) → i < n → HoldsAt P i xs

pub none_below : {A : Type 0} (P : A → Type 0) (xs : List A) → Below 0 P xs
none_below P xs i lt = absurd (omega (arith, lt))

pub one_more : {A : Type 0} (P : A → Type 0) (xs : List A) (n : ℕ) → Below n P xs → HoldsAt P n xs → Below (n + 1) P xs
one_more P xs n h here i lt = dite (ℕ_discrete i n) (λ e. subst (λ k. HoldsAt P k xs) (sym e) here) (λ ne. h i (omega (arith, lt, ne)))

pub all_of : {A : Type 0} (P : A → Type 0) (xs : List A) (n : ℕ) → length xs ≤ n → Below n P xs → Each P xs
all_of P xs n le h i a at = h i (omega (arith, le, slice_get_within xs i a at)) a at

-- the same list with the element at a place put there again
pub set_same : {A : Type 0} (xs : List A) (i : ℕ) (a : A) → slice_get xs i ≡ Some a → slice_set xs i a ≡ xs
set_same [] i a h = absurd (cc)
set_same (x ∷ xs) zero a h = let e : x ≡ a = cc in ap (λ y. y ∷ xs) (sym e)
set_same (x ∷ xs) (suc i) a h = ap (λ l. x ∷ l) (set_same xs i a h)

pub holds_here : {A : Type 0} (P : A → Type 0) (xs : List A) (i : ℕ) (a : A) → slice_get xs i ≡ Some a → P a → HoldsAt P i xs
holds_here P xs i a at h b there = subst P (same_Some a b (sym at ∙ there)) h

pub get_front : {A : Type 0} (xs r : List A) (k : ℕ) (a : A) → slice_get xs k ≡ Some a → slice_get (xs ++ r) k ≡ Some a
get_front [] r k a h = absurd (cc)
get_front (x ∷ xs) r zero a h = h
get_front (x ∷ xs) r (suc k) a h = get_front xs r k a h

pub get_last : {A : Type 0} (xs : List A) (a : A) (r : List A) → slice_get (xs ++ a ∷ r) (length xs) ≡ Some a
get_last [] a r = refl
get_last (x ∷ xs) a r = get_last xs a r

-- one is among the first of two lists or among the second
pub of_both : {A : Type 0} (P : A → Type 0) (xs ys : List A) → Each P xs → Each P ys → Each P (xs ++ ys)
of_both P [] ys f g i a at = g i a at
of_both P (x ∷ xs) ys f g zero a at = f 0 a at
of_both P (x ∷ xs) ys f g (suc i) a at = of_both P xs ys (λ k. f (suc k)) g i a at

-- one in front of the others, and none left in front of them

pub one_before : {A : Type 0} (P : A → Type 0) (a : A) (xs : List A) → P a → Each P xs → Each P (a ∷ xs)
one_before P a xs h hs zero b at = subst P (same_Some a b at) h
one_before P a xs h hs (suc i) b at = hs i b at

pub no_more : {A : Type 0} (xs done all : List A) → length xs ≡ 0 → xs ++ done ≡ all → done ≡ all
no_more [] done all none h = h
no_more (x ∷ xs) done all none h = absurd (omega (arith, none))

pub no_items : {A : Type 0} (xs : List A) → length xs ≡ 0 → xs ≡ []
no_items [] none = refl
no_items (x ∷ xs) none = absurd (omega (arith, none))

-- what stands before one that is taken out stays where it is
pub before_removed : {A : Type 0} (xs : List A) (i k : ℕ) (a : A) → k < i → i < length xs → slice_get (remove xs i) k ≡ Some a → slice_get xs k ≡ Some a
before_removed xs i k a below lt at = slice_get_read xs (length xs) k a refl (omega (arith, below, lt)) (sym (get_or_from_slice_get (remove xs i) k a a at) ∙ get_or-remove_below xs i a k below lt)

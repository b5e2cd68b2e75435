-- A list whose elements stand in another at the same places is a beginning of it.
use Rattle.std.proofs.Common.{◌≡◌, ◌≤◌, ℕ, zero, suc, List, [], ◌∷◌, ◌++◌, length, slice_get, take, Some, refl, sym, ap, ◌∙◌, subst}
use Rattle.std.proofs.lemmas.List.{take-append-le}
use Rattle.std.proofs.lemmas.Option.{same_Some}
use mathlib.Core.List.{IsPrefix}

pub prefix_of : {A : Type 0} (xs ys : List A) → ((i : ℕ) (a : A) → slice_get xs i ≡ Some a → slice_get ys i ≡ Some a) → IsPrefix xs ys
prefix_of [] ys h = (ys, refl)
prefix_of (x ∷ xs) [] h = let e = h 0 x refl in absurd (cc)
prefix_of (x ∷ xs) (y ∷ ys) h =
    let same = same_Some y x (h 0 x refl) in
    let rest = prefix_of xs ys (λ i a at. h (suc i) a at) in
    (rest.0, λ i. sym same i ∷ rest.1 i)

-- an element of a list whose beginning this is
pub prefix_at : {A : Type 0} (xs ys : List A) (i : ℕ) (a : A) → IsPrefix xs ys → slice_get xs i ≡ Some a → slice_get ys i ≡ Some a
prefix_at [] ys i a p at = absurd (cc)
prefix_at (x ∷ xs) ys zero a p at = subst (λ (l : List _). slice_get l 0 ≡ Some a) p.1 at
prefix_at (x ∷ xs) ys (suc i) a p at =
    subst (λ (l : List _). slice_get l (suc i) ≡ Some a) p.1 (prefix_at xs (xs ++ p.0) i a (p.0, refl) at)

pub prefix_take : {A : Type 0} (xs ys : List A) (n : ℕ) → IsPrefix xs ys → n ≤ length xs → take n xs ≡ take n ys
prefix_take xs ys n p le = sym (take-append-le n xs p.0 le) ∙ ap (λ l. take n l) p.1

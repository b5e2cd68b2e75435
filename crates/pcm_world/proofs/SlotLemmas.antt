-- What stands in the places of a list of which one was set.
use Rattle.std.proofs.Common.{◌≡◌, ℕ, zero, suc, ◌<◌, List, [], ◌∷◌, length, set, slice_get, Some, refl, ap, arith}

pub set-here : {A : Type 0} (xs : List A) (i : ℕ) (y : A) → i < length xs → slice_get (set xs i y) i ≡ Some y
set-here [] i y b = absurd (let no : ⊥ = omega (arith, b) in no)
set-here (x ∷ xs) zero y b = refl
set-here (x ∷ xs) (suc i) y b = set-here xs i y (omega (arith, b))

pub set-elsewhere : {A : Type 0} (xs : List A) (i k : ℕ) (y : A) → (k ≡ i → ⊥) → slice_get (set xs i y) k ≡ slice_get xs k
set-elsewhere [] i k y n = refl
set-elsewhere (x ∷ xs) zero zero y n = absurd (n refl)
set-elsewhere (x ∷ xs) zero (suc k) y n = refl
set-elsewhere (x ∷ xs) (suc i) zero y n = refl
set-elsewhere (x ∷ xs) (suc i) (suc k) y n = set-elsewhere xs i k y (λ e. n (ap suc e))

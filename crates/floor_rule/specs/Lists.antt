-- Lists that a seat is told: each with the number of the list of which it is a beginning. This project's own.
use Rattle.std.specs.Prelude.{◌≡◌, ◌⊎◌, ℕ, leb, nat_eq, List, [], ◌∷◌, length, slice_get, Some, if◌then◌else◌}
use mathlib.Core.List.{IsPrefix}

-- each of these lists is a beginning of the whole one
abbrev pub AllBegin : {A : Type 0} → (ℕ → List A) → List (ℕ × List A) → Type 0
AllBegin f [] = Unit {0}
AllBegin f (p ∷ ps) = IsPrefix p.1 (f p.0) × AllBegin f ps

-- each list of j has this property
abbrev pub AllOf : {A : Type 0} → ℕ → (List A → Type 0) → List (ℕ × List A) → Type 0
AllOf j P [] = Unit {0}
AllOf j P (p ∷ ps) = (p.0 ≡ j → P p.1) × AllOf j P ps

-- a stands at place i of a list of j
abbrev pub Stands : {A : Type 0} → List (ℕ × List A) → ℕ → ℕ → A → Type 0
Stands [] j i a = ⊥
Stands (p ∷ ps) j i a = ((p.0 ≡ j) × (slice_get p.1 i ≡ Some a)) ⊎ Stands ps j i a

abbrev pub longer : {A : Type 0} → List A → List A → List A
longer xs ys = if leb (length xs) (length ys) then ys else xs

-- the longest list of j
abbrev pub longest : {A : Type 0} → ℕ → List (ℕ × List A) → List A
longest j [] = []
longest j (p ∷ ps) = if nat_eq p.0 j then longer p.1 (longest j ps) else longest j ps

-- the lists of each number are beginnings of the longest of them
abbrev pub Agree : {A : Type 0} → List (ℕ × List A) → Type 0
Agree ps = AllBegin (λ j. longest j ps) ps

-- Members in a list of which one is set, and what a list of members keeps.
use Rattle.std.proofs.Common.{◌≡◌, ℕ, zero, suc, ◌+◌, ◌-◌, ◌<◌, ◌≤◌, ◌⊎◌, inl, inr, Bool, List, [], ◌∷◌, length, map, set, Option, Some, None, Result, Ok, Err, OnOk, OnErr, IfSome, is_err, true, false, refl, sym, ap, ◌∙◌, subst, arith}
use Rattle.std.proofs.lemmas.Bool.{cases_lt}
use Rattle.std.specs.List.{slice_get}
use Rattle.pcm_base.specs.declared.card.Card.{Ghosts}
use Rattle.pcm_base.specs.Causes.{Rose}
use Rattle.pcm_stream.specs.declared.members.Member.{Member}
use Rattle.pcm_stream.specs.declared.substream.Substream.{Substream}
use Rattle.pcm_stream.specs.Members.{Fixed, all_faults, all_fixed, fixed_of}
use Rattle.pcm_stream.specs.StandsFor.{faults_of, shape_in, tells_plan}
use Rattle.group_trigger.specs.Phases.{AllBefore, HoldsAt, RoseAt}

-- a member that is set and has what the old one had
pub map-set : {A B : Type 0} (f : A → B) (xs : List A) (i : ℕ) (x y : A) → slice_get xs i ≡ Some x → f y ≡ f x → map f (set xs i y) ≡ map f xs
map-set f [] i x y at same = refl
map-set f (z ∷ xs) zero x y at same =
    let e : z ≡ x = cc in
    ap (λ w. w ∷ map f xs) (same ∙ ap f (sym e))
map-set f (z ∷ xs) (suc i) x y at same = ap (λ ws. f z ∷ ws) (map-set f xs i x y at same)

-- what stands in other places stays
pub slice_get-set_other : {A : Type 0} (xs : List A) (i j : ℕ) (y : A) → (j ≡ i → ⊥) → slice_get (set xs i y) j ≡ slice_get xs j
slice_get-set_other [] i j y ne = refl
slice_get-set_other (x ∷ xs) zero zero y ne = absurd (ne refl)
slice_get-set_other (x ∷ xs) zero (suc j) y ne = refl
slice_get-set_other (x ∷ xs) (suc i) zero y ne = refl
slice_get-set_other (x ∷ xs) (suc i) (suc j) y ne = slice_get-set_other xs i j y (λ e. ne (ap suc e))

below_or_at : (i k : ℕ) → i < k + 1 → (i < k) ⊎ (i ≡ k)
below_or_at i k lt = elim (cases_lt i k) [ inl below ↦ inl below | inr above ↦ inr (omega arith) ]

-- facts of one place more
pub AllBefore-next : {M : Type 0} (P : M → Type 0) (k : ℕ) (xs : List M) → AllBefore P k xs → HoldsAt P k xs → AllBefore P (k + 1) xs
AllBefore-next P k xs h at i m lt is =
    elim (below_or_at i k lt) [
      | inl below ↦ h i m below is
      | inr same ↦ at m (subst (λ j. slice_get xs j ≡ Some m) same is)
    ]

-- of no place, and of the places behind the first
pub AllBefore-none : {M : Type 0} (P : M → Type 0) (xs : List M) → AllBefore P 0 xs
AllBefore-none P xs i m lt is = absurd (let no : ⊥ = omega arith in no)

pub AllBefore-rest : {M : Type 0} (P : M → Type 0) (k : ℕ) (x : M) (xs : List M) → AllBefore P (suc k) (x ∷ xs) → AllBefore P k xs
AllBefore-rest P k x xs h i m lt is = h (suc i) m (omega arith) is

-- the count of faults of one that is set rises
pub RoseAt-set : {C : Type 0} {g : Ghosts C} (ms : List (Member C g)) (i : ℕ) (m : Member C g) (t : Substream C g) → slice_get ms i ≡ Some m
    → faults_of m.stream ≤ faults_of t → Rose (faults_of m.stream) (faults_of t)
    → RoseAt i (map (λ (n : Member C g). faults_of n.stream) ms) (map (λ (n : Member C g). faults_of n.stream) (set ms i (record m { stream = t })))
RoseAt-set [] i m t at later rose = absurd (let no : ⊥ = cc in no)
RoseAt-set {C = C} {g = g} (x ∷ ms) zero m t at later rose =
    let e : m ≡ x = cc in
    (subst (λ (y : Member C g). faults_of y.stream ≤ faults_of t) e later, subst (λ (y : Member C g). Rose (faults_of y.stream) (faults_of t)) e rose, refl)
RoseAt-set (x ∷ ms) (suc i) m t at later rose = (refl, RoseAt-set ms i m t at later rose)

-- a member whose stream keeps its sizes, and whose card still tells its plan or not
pub fixed-same : {C : Type 0} {g : Ghosts C} (m : Member C g) (t : Substream C g) → shape_in t ≡ shape_in m.stream → tells_plan t ≡ tells_plan m.stream → fixed_of (record m { stream = t }) ≡ fixed_of m
fixed-same m t shape tells = λ i. record { sub = m.sub; sleepers = m.sleepers; shape = shape i; tells = tells i }

-- what a call promises of its result
pub of_err : {T E : Type 0} (P : Type 0) (r : Result T E) → is_err r ≡ true → OnErr r P → P
of_err P (Ok u) e h = absurd (let no : ⊥ = cc in no)
of_err P (Err x) e h = h

pub of_ok : {T E : Type 0} (P : Type 0) (r : Result T E) → is_err r ≡ false → OnOk r P → P
of_ok P (Ok u) e h = h
of_ok P (Err x) e h = absurd (let no : ⊥ = cc in no)

pub of_some : {A : Type 0} (P : A → Type 0) (o : Option A) (a : A) → o ≡ Some a → IfSome o P → P a
of_some P None a e h = absurd (let no : ⊥ = cc in no)
of_some P (Some b) a e h = let same : b ≡ a = cc in subst P same h

-- what stands at a place within the list
pub present : {A : Type 0} (xs : List A) (k : ℕ) → k < length xs → (x : A) × (slice_get xs k ≡ Some x)
present [] k lt = absurd (let no : ⊥ = omega arith in no)
present (x ∷ xs) zero lt = (x, refl)
present (x ∷ xs) (suc k) lt = present xs k (omega (arith, lt))

-- members that kept what no act changes
pub fixed_at : {C : Type 0} {g : Ghosts C} (ms ns : List (Member C g)) (k : ℕ) (m : Member C g) → all_fixed ns ≡ all_fixed ms → slice_get ms k ≡ Some m → (n : Member C g) × (slice_get ns k ≡ Some n) × (n.sub ≡ m.sub)
fixed_at [] ns k m e at = absurd (let no : ⊥ = cc in no)
fixed_at (x ∷ ms) [] k m e at = absurd (let no : ⊥ = cc in no)
fixed_at {C = C} {g = g} (x ∷ ms) (y ∷ ns) zero m e at =
    let f : fixed_of y ≡ fixed_of x = cc in
    let same : x ≡ m = cc in
    (y, refl, ap (λ (d : Fixed). d.sub) f ∙ ap (λ (z : Member C g). z.sub) same)
fixed_at (x ∷ ms) (y ∷ ns) (suc k) m e at = let f : all_fixed ns ≡ all_fixed ms = cc in fixed_at ms ns k m f at

pub fixed_length : {C : Type 0} {g : Ghosts C} (ms ns : List (Member C g)) → all_fixed ns ≡ all_fixed ms → length ns ≡ length ms
fixed_length [] [] e = refl
fixed_length [] (y ∷ ns) e = absurd (let no : ⊥ = cc in no)
fixed_length (x ∷ ms) [] e = absurd (let no : ⊥ = cc in no)
fixed_length (x ∷ ms) (y ∷ ns) e = let f : all_fixed ns ≡ all_fixed ms = cc in ap suc (fixed_length ms ns f)

pub faults_length : {C : Type 0} {g : Ghosts C} (ms : List (Member C g)) → length ms ≡ length (all_faults ms)
faults_length [] = refl
faults_length (m ∷ ms) = ap suc (faults_length ms)

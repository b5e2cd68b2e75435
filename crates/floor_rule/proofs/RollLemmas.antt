-- As many numbers below n as n, none twice, are all of them.
use Rattle.std.proofs.Common.{◌≡◌, ◌⊎◌, inl, inr, ⊎_elim, ℕ, ◌<◌, ◌≤◌, Bool, true, false, ◌||◌, eqb, eqb-true, ne_eqb, List, [], ◌∷◌, length, refl, sym, subst, arith}
use Rattle.std.specs.List.{list_any, AllByRecursion, IsDistinct}
use Rattle.std.proofs.lemmas.Map.Steps.{length-le_from_distinct_below}
use mathlib.Core.Logic.{dite}
use native.Mathlib.Decide.{ℕ_discrete}
use Rattle.floor_rule.specs.Laws.{RollIsWhole}
use Rattle.floor_rule.specs.Rule.{Among, Distinct, IsNone}
use Rattle.floor_rule.specs.Steps.{AllBelow}

none_or_among : (j : ℕ) (js : List ℕ) → IsNone j js ⊎ Among j js
none_or_among j [] = inl tt
none_or_among j (i ∷ is) =
    dite (ℕ_discrete i j)
    (λ e. inr (inl e))
    (λ ne. ⊎_elim (λ (h : IsNone j is). inl (ne, h)) (λ (h : Among j is). inr (inr h)) (none_or_among j is))

apart : (j : ℕ) (js : List ℕ) → IsNone j js → AllByRecursion (λ y. eqb j y ≡ false) js
apart j [] h = tt
apart j (i ∷ is) h = (ne_eqb j i (λ e. h.0 (sym e)), apart j is h.1)

distinct : (js : List ℕ) → Distinct js → IsDistinct eqb js
unfolding IsDistinct
distinct [] h = tt
distinct (j ∷ js) h = (apart j js h.0, distinct js h.1)

below : (n : ℕ) (js : List ℕ) → AllBelow n js → (q : ℕ) → list_any (eqb q) js ≡ true → q < n
below n [] h q any = absurd (cc)
below n (i ∷ is) h q any = by (eqb q i) refl any (below n is h.1 q)
  where
    by : (b : Bool) → eqb q i ≡ b → (b || list_any (eqb q) is) ≡ true → (list_any (eqb q) is ≡ true → q < n) → q < n
    by true e t rest = subst (λ k. k < n) (sym (eqb-true q i e)) h.0
    by false e t rest = rest t

pub roll_is_whole : RollIsWhole
roll_is_whole n js once low all j lt =
    ⊎_elim
    (λ (none : IsNone j js).
    let few : length (j ∷ js) ≤ n = length-le_from_distinct_below (j ∷ js) n (distinct (j ∷ js) (none, once)) (below n (j ∷ js) (lt, low)) in
    absurd (omega (arith, few, all)))
    (λ (h : Among j js). h)
    (none_or_among j js)

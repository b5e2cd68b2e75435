use Rattle.std.proofs.Common.{◌≡◌, ◌++◌, ◌∷◌, [], List, Bool, false, length, take, drop, refl, ap, zero, suc, ℕ, arith}
use Rattle.std.proofs.Math.ListN.{set}
use Rattle.pcm_base.specs.CardFacts.{moved_on}
use Rattle.card_emul.proofs.fault_plan.FaultPlan.take_first.Goals as goal

-- a write to the last place replaces it
set_last : (xs : List Bool) (x y : Bool) (n : ℕ) → length xs ≡ n → set (xs ++ x ∷ []) n y ≡ xs ++ y ∷ []
set_last [] x y zero e = refl
set_last [] x y (suc n) e = absurd (omega arith)
set_last (z ∷ xs) x y zero e = absurd (omega arith)
set_last (z ∷ xs) x y (suc n) e = ap (λ (l : List Bool). z ∷ l) (set_last xs x y n (omega arith))

-- a rotation whose last entry is unset
rotated : (plan : List Bool) → length plan ≡ 64 → set (drop 1 plan ++ take 1 plan) 63 false ≡ moved_on plan
rotated [] e = absurd (omega arith)
rotated (x ∷ xs) e = set_last xs x false 63 (omega arith)

pub returns-clause-after : goal.returns-clause-after
returns-clause-after c = rw (c.rotate_left.ensures.after, ← c.self.view_is) (rotated c.self.inside.entries c.self.invariant)

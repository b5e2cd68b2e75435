-- Differences of positions, computed from their remainders.
use Rattle.std.proofs.Common.{ℕ, ◌≡◌, ◌+◌, ◌-◌, ◌%◌, ◌≤◌, ◌<◌, sym, ap, ◌∙◌, arith}
use Rattle.std.proofs.lemmas.Grind.{common_steps}
use Rattle.std.proofs.Math.Nat.{add-mod-mod, mod-add-mod, add-mod_right}

-- a number of frames before x, from the remainder of x
pub mod-sub : (l x n : ℕ) → n < l → (x % l + l - n) % l ≡ (x + l - n) % l
mod-sub l x n h =
    let here : x % l + l - n ≡ x % l + (l - n) = omega arith in
    let there : x + (l - n) ≡ x + l - n = omega arith in
    ap (λ k. k % l) here ∙ (mod-add-mod x l (l - n) ∙ ap (λ k. k % l) there)

pub mod-sub_le : (l x n : ℕ) → n < l → n ≤ x → (x % l + l - n) % l ≡ (x - n) % l
mod-sub_le l x n h k =
    let there : x + l - n ≡ x - n + l = omega arith in
    mod-sub l x n h ∙ (ap (λ m. m % l) there ∙ add-mod_right (x - n) l)

-- two numbers below l that lead from x to the same remainder are one
other_place : (l x i j : ℕ) → i < j → j < i + l → (x + i) % l ≡ (x + j) % l → ⊥
other_place l x i j h k e = grind (arith, common_steps)

same_place : (l x i j : ℕ) → i < l → j < l → (x + i) % l ≡ (x + j) % l → i ≡ j
same_place l x i j h k e = grind (arith, other_place l x i j, other_place l x j i)

-- the difference of the remainders leads from y to x
leads : (l x y : ℕ) → 0 < l → (y + (x % l + l - y % l) % l) % l ≡ x % l
leads l x y z =
    let d : ℕ = x % l + l - y % l in
    let there : y % l + (x % l + l - y % l) ≡ x % l + l = omega arith in
    add-mod-mod y d l
    ∙ (sym (mod-add-mod y l d)
    ∙ (ap (λ n. n % l) there ∙ (add-mod_right (x % l) l ∙ grind arith)))

-- a distance below l, from the remainders of its ends
pub distance_shown : (l x y : ℕ) → y ≤ x → x - y < l → (x % l + l - y % l) % l ≡ x - y
distance_shown l x y h k =
    let there : x ≡ y + (x - y) = omega arith in
    same_place l y ((x % l + l - y % l) % l) (x - y) (omega arith) k (leads l x y (omega arith) ∙ ap (λ n. n % l) there)

-- The loop that doubles a buffer gives its boundary.
use Rattle.std.proofs.Common.{ℕ, zero, suc, ◌≡◌, ◌-◌, ◌*◌, ◌^◌, ◌<◌, ◌≤◌, true, false, nat_le, refl, sym, ◌∙◌, ap, subst, arith}
use Rattle.std.proofs.lemmas.Bool.Decides.{nat_tests}
use Rattle.std.proofs.Math.Nat.{mul-le-mul_right, two-pow-succ}
use Rattle.pcm_base.specs.Boundary.{doubled, boundary_of}

-- b is the buffer doubled so many times, and doubling it as long as there is room gives the boundary
pub record Doubling (buffer long_max b : ℕ) : Type 0 where
  pub left : ℕ
  pub times : ℕ
  pub enough : long_max - buffer < b * 2 ^ left
  pub rest : doubled left buffer long_max b ≡ boundary_of buffer long_max
  pub doublings : b ≡ buffer * 2 ^ times
  pub room : 2 * buffer ≤ long_max → b ≤ long_max - buffer

below-power : (n : ℕ) → n < 2 ^ n
below-power zero = omega arith
below-power (suc n) = omega (arith, below-power n, two-pow-succ n)

start-enough : (buffer long_max : ℕ) → 1 ≤ buffer → long_max - buffer < buffer * 2 ^ long_max
start-enough buffer long_max some =
    let least : 1 * 2 ^ long_max ≤ buffer * 2 ^ long_max = mul-le-mul_right (2 ^ long_max) some in
    omega (arith, below-power long_max, least)

pub Doubling-start : (buffer long_max : ℕ) → 1 ≤ buffer → Doubling buffer long_max buffer
Doubling-start buffer long_max some = record {
  left = long_max;
  times = 0;
  enough = start-enough buffer long_max some;
  rest = refl;
  doublings = omega arith;
  room = λ h. omega arith;
}

doubled-more : (n buffer long_max b : ℕ) → b * 2 ≤ long_max - buffer → doubled (suc n) buffer long_max b ≡ doubled n buffer long_max (b * 2)
doubled-more n buffer long_max b h =
    let e : nat_le (b * 2) (long_max - buffer) ≡ true = grind (arith, nat_tests, h) in
    ap (λ t. elim t as (λ _. ℕ) [ true ↦ doubled n buffer long_max (b * 2) | false ↦ b ]) e

doubled-done : (n buffer long_max b : ℕ) → long_max - buffer < b * 2 → doubled n buffer long_max b ≡ b
doubled-done zero buffer long_max b h = refl
doubled-done (suc n) buffer long_max b h =
    let e : nat_le (b * 2) (long_max - buffer) ≡ false = grind (arith, nat_tests, h) in
    ap (λ t. elim t as (λ _. ℕ) [ true ↦ doubled n buffer long_max (b * 2) | false ↦ b ]) e

twice-power : (b n : ℕ) → b * 2 ^ suc n ≡ b * 2 * 2 ^ n
twice-power b n = grind arith

more-doublings : (n k buffer long_max b : ℕ) → long_max - buffer < b * 2 ^ n → doubled n buffer long_max b ≡ boundary_of buffer long_max → b ≡ buffer * 2 ^ k
    → b * 2 ≤ long_max - buffer → Doubling buffer long_max (b * 2)
more-doublings zero k buffer long_max b enough rest times h = absurd (omega arith)
more-doublings (suc n) k buffer long_max b enough rest times h = record {
  left = n;
  times = suc k;
  enough = subst (λ x. long_max - buffer < x) (twice-power b n) enough;
  rest = sym (doubled-more n buffer long_max b h) ∙ rest;
  doublings = ap (λ x. x * 2) times ∙ sym (twice-power' buffer k);
  room = λ _. h;
}
  where
    twice-power' : (b n : ℕ) → b * 2 ^ suc n ≡ b * 2 ^ n * 2
    twice-power' b n = grind arith

pub Doubling-more : (buffer long_max b : ℕ) → Doubling buffer long_max b → b * 2 ≤ long_max - buffer → Doubling buffer long_max (b * 2)
Doubling-more buffer long_max b d h = more-doublings d.left d.times buffer long_max b d.enough d.rest d.doublings h

pub Doubling-done : (buffer long_max b : ℕ) → Doubling buffer long_max b → long_max - buffer < b * 2 → b ≡ boundary_of buffer long_max
Doubling-done buffer long_max b d h = sym (doubled-done d.left buffer long_max b h) ∙ d.rest

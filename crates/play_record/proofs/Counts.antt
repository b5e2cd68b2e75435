-- Counts of periods that are written and played.
use Rattle.std.proofs.Common.{ℕ, zero, suc, ◌≡◌, ◌+◌, ◌-◌, ◌*◌, ◌/◌, ◌%◌, ◌<◌, ◌≤◌, sym, ap, ◌∙◌, arith}
use Rattle.std.proofs.Math.Nat.{add-mul, mod-add-div', mul_comm, mul-le-mul_left, mul-le-mul_right}

-- i periods of n frames are written, of which the first i - p are played

next_written : (i n : ℕ) → (i + 1) * n ≡ i * n + n
next_written i n = add-mul i 1 n ∙ (let e : 1 * n ≡ n = omega arith in ap (λ x. i * n + x) e)

pub written-next : (i n : ℕ) → i * n + n ≡ (i + 1) * n
written-next i n = sym (next_written i n)

pub played-next : (i p n : ℕ) → p ≤ i → (i - p) * n + n ≡ (i + 1 - p) * n
played-next i p n h = written-next (i - p) n ∙ (let e : i - p + 1 ≡ i + 1 - p = omega (arith, h) in ap (λ x. x * n) e)

pub none-played : (i p n : ℕ) → i < p → (i - p) * n ≡ (i + 1 - p) * n
none-played i p n h = let e : i - p ≡ i + 1 - p = omega (arith, h) in ap (λ x. x * n) e

-- what is written and not played is a buffer
pub ahead-full : (i p n : ℕ) → p ≤ i → i * n ≡ (i - p) * n + n * p
ahead-full i p n h =
    let e : i ≡ i - p + p = omega (arith, h) in
    ap (λ x. x * n) e ∙ (add-mul (i - p) p n ∙ ap (λ x. (i - p) * n + x) (mul_comm p n))

-- and at least two periods more than one
pub ahead-more : (i p n : ℕ) → p ≤ i → 2 ≤ p → 1 ≤ n → (i - p) * n + n < i * n
ahead-more i p n h two some =
    let full : i * n ≡ (i - p) * n + n * p = ahead-full i p n h in
    let least : n * 2 ≤ n * p = mul-le-mul_left n two in
    omega (arith, full, least, some)

pub behind : (i p n : ℕ) → 1 ≤ i → 2 ≤ p → 1 ≤ n → (i + 1 - p) * n < i * n
behind i p n h two some =
    let fewer : (i + 1 - p + 1) * n ≤ i * n = mul-le-mul_right n (omega (arith, h, two)) in
    omega (arith, next_written (i + 1 - p) n, fewer, some)

pub room : (i p n : ℕ) → i * n + n ≤ (i + 1 - p) * n + n * p
room i p n =
    let more : (i + 1) * n ≤ (i + 1 - p + p) * n = mul-le-mul_right n (omega arith) in
    let parts : (i + 1 - p + p) * n ≡ (i + 1 - p) * n + n * p = add-mul (i + 1 - p) p n ∙ ap (λ x. (i + 1 - p) * n + x) (mul_comm p n) in
    omega (arith, next_written i n, more, parts)

-- fewer frames have fewer bytes
pub fewer-bytes : (a b w m : ℕ) → a ≤ b → b * w ≤ m → a * w ≤ m
fewer-bytes a b w m less most = let h : a * w ≤ b * w = mul-le-mul_right w less in omega (arith, h, most)

pub below : (i count : ℕ) → i < count → i ≤ count
below i count less = omega (arith, less)

pub ahead-one : (i count n : ℕ) → i + 1 < count → 1 ≤ n → i * n + n < count * n
ahead-one i count n less some =
    let more : (i + 1 + 1) * n ≤ count * n = mul-le-mul_right n (omega (arith, less)) in
    omega (arith, next_written i n, next_written (i + 1) n, more, some)

pub within : (i count n p : ℕ) → count ≤ i + p → count * n ≤ i * n + n * p
within i count n p near =
    let more : count * n ≤ (i + p) * n = mul-le-mul_right n near in
    omega (arith, more, add-mul i p n, mul_comm p n)

-- all frames and silence up to a whole period: no fewer than the frames
pub whole-least : (n N : ℕ) → 1 ≤ n → N ≤ (N + (n - 1)) / n * n
whole-least n N some =
    let x : ℕ = N + (n - 1) in
    let parts : x % n + x / n * n ≡ x = mod-add-div' x n in
    let rest : x % n < n = omega (arith, some) in
    omega (arith, parts, rest, some)

-- period i of so many is the last or not
pub data Ends (i count : ℕ) : Type 0 where
  More : i + 1 < count → Ends i count
  Last : i + 1 ≡ count → Ends i count

by_order : (i count d : ℕ) → count ≡ i + 1 + d → Ends i count
by_order i count zero is = Ends.Last (omega (arith, is))
by_order i count (suc d) is = Ends.More (omega (arith, is))

pub ends_or : (i count : ℕ) → i < count → Ends i count
ends_or i count less = by_order i count (count - (i + 1)) (omega (arith, less))

pub reached : (i count : ℕ) → i ≤ count → count ≤ i → i ≡ count
reached i count h e = omega (arith, h, e)

pub less_than : (x count p : ℕ) → x ≡ count - p → x ≤ count
less_than x count p is = omega (arith, is)

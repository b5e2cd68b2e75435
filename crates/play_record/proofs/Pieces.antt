-- The pieces of a sound, and silence behind its end.
use Rattle.std.proofs.Common.{ℕ, zero, suc, ◌≡◌, ◌+◌, ◌-◌, ◌*◌, ◌/◌, ◌<◌, ◌≤◌, List, [], ◌∷◌, ◌++◌, length, take, drop, min, replicate, refl, sym, ap, ◌∙◌, arith, length-append, length-take}
use Rattle.std.proofs.Math.Nat.{div-mul-le_self, mul-le-mul_right}
use Rattle.std.proofs.lemmas.List.{drop-append-le, length-replicate, take-replicate}

-- the first p of the rest and silence
pub filled : (rest : List ℕ) (p k s : ℕ) → p ≤ length rest + k → take (min (length rest) p) rest ++ replicate (p - min (length rest) p) s ≡ take p (rest ++ replicate k s)
filled [] p k s h =
    let none : min 0 p ≡ 0 = omega arith in
    let all : p - 0 ≡ p = omega arith in
    ap (λ i. take i [] ++ replicate (p - i) s) none ∙ (ap (λ i. replicate i s) all ∙ sym (take-replicate p k s (omega (arith, h))))
filled (x ∷ rest) zero k s h =
    let none : min (suc (length rest)) 0 ≡ 0 = omega arith in
    ap (λ i. take i (x ∷ rest) ++ replicate (0 - i) s) none
filled (x ∷ rest) (suc p) k s h =
    let more : min (suc (length rest)) (suc p) ≡ suc (min (length rest) p) = omega arith in
    let fewer : suc p - suc (min (length rest) p) ≡ p - min (length rest) p = omega arith in
    ap (λ i. take i (x ∷ rest) ++ replicate (suc p - i) s) more
    ∙ (ap (λ i. x ∷ (take (min (length rest) p) rest ++ replicate i s)) fewer ∙ ap (λ l. x ∷ l) (filled rest p k s (omega (arith, h))))

-- a piece of the whole
pub piece_from : (frames : List ℕ) (start p k s : ℕ) → start ≤ length frames → p ≤ length (drop start frames) + k
    → take (min (length (drop start frames)) p) (drop start frames) ++ replicate (p - min (length (drop start frames)) p) s ≡ take p (drop start (frames ++ replicate k s))
piece_from frames start p k s inside h = filled (drop start frames) p k s h ∙ ap (take p) (sym (drop-append-le start frames (replicate k s) inside))

-- the start of a piece before the last one's end lies within the sound: n frames in all in pieces of p
pub starts_inside : (count number n p : ℕ) → number < count → count * p ≡ (n + (p - 1)) / p * p → 1 ≤ p → number * p ≤ n
starts_inside count number n p less whole some =
    let most : (n + (p - 1)) / p * p ≤ n + (p - 1) = div-mul-le_self (n + (p - 1)) p in
    let next : (number + 1) * p ≤ count * p = mul-le-mul_right p (omega (arith, less)) in
    omega (arith, most, next, whole, some)

-- what a vector has after all of it was lent
pub lent_length : (len : ℕ) (new old : List ℕ) → length new ≡ len → length old ≡ len → length (take len (new ++ drop (length new) old)) ≡ len
lent_length len new old is was =
    length-take len (new ++ drop (length new) old) ∙ (let all : length (new ++ drop (length new) old) ≡ length new + length (drop (length new) old) = length-append new (drop (length new) old) in omega (arith, all, is))

-- a list of no bytes, and one that is all taken
pub none_left : (l : List ℕ) → length l ≡ 0 → [] ≡ l
none_left [] h = refl
none_left (x ∷ l) h = absurd (omega (arith, h))

-- frames and silence are so many bytes
pub length-padded_bytes : (frames : List ℕ) (most s : ℕ) → length frames ≤ most → length (frames ++ replicate (most - length frames) s) ≡ most
length-padded_bytes frames most s h =
    length-append frames (replicate (most - length frames) s) ∙ (let rest : length (replicate (most - length frames) s) ≡ most - length frames = length-replicate (most - length frames) s in omega (arith, rest, h))

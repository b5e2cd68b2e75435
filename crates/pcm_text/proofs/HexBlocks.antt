-- Sixteen bytes at a time.
use Rattle.std.proofs.Common.{◌≡◌, ℕ, zero, suc, ◌+◌, ◌*◌, ◌/◌, ◌%◌, ◌^◌, ◌<◌, ◌≤◌, List, [], ◌∷◌, ◌++◌, map, length, get_or, take, drop, replicate, bit_and, refl, sym, ap, ◌∙◌, arith, w8, Fits, append_assoc}
use Rattle.std.proofs.lemmas.List.{get_or-map, length-map, ext_get_or}
use Rattle.std.proofs.lemmas.Nat.{and_le_r, and_mask}
use Rattle.std.proofs.lemmas.Simd.{Each1-all, Each1-weaker, Each1-zip2, Each2-splat, below_from_Fits, length-zip2, zip2_splat, swz_l, SwzOk, SwzOk-from_below, length-swz_l, get_or-swz_l_below}
use Rattle.std.proofs.lemmas.List.{take-append-drop, take-take, drop-take, take_more, take_all}
use lib.Lanes.{zip2, Each1, pick_l}
use Rattle.pcm_text.specs.Hex.{hex_digit, hex_pairs}

abbrev pub IsBlock : List ℕ → Type 0
IsBlock v = (length v ≡ 16) × Each1 (Fits w8) v

abbrev pub down : ℕ → ℕ → ℕ
down a b = a / 2 ^ b

pub high_ok : (v : List ℕ) → IsBlock v → SwzOk w8 16 16 0 (zip2 down v (replicate 16 4))
high_ok v fits =
    let small = Each1-weaker (λ a. a < 256) (λ a. a / 16 < 16) (λ a h. omega arith) v (below_from_Fits w8 v fits.1) in
    SwzOk-from_below w8 16 1 16 0 (zip2 down v (replicate 16 4)) refl (omega (arith, length-zip2 down v (replicate 16 4) fits.0))
    (Each1-zip2 down (λ j. j < 16) v (replicate 16 4) (Each2-splat (λ a b. down a b < 16) v 16 4 small))

pub low_ok : (v : List ℕ) → IsBlock v → SwzOk w8 16 16 0 (zip2 bit_and v (replicate 16 15))
low_ok v fits =
    let small = Each1-all (λ a. bit_and a 15 < 16) (λ a. omega (arith, and_le_r a 15)) v in
    SwzOk-from_below w8 16 1 16 0 (zip2 bit_and v (replicate 16 15)) refl (omega (arith, length-zip2 bit_and v (replicate 16 15) fits.0))
    (Each1-zip2 bit_and (λ j. j < 16) v (replicate 16 15) (Each2-splat (λ a b. bit_and a b < 16) v 16 15 small))

lane_fits : (v : List ℕ) (i : ℕ) → Each1 (Fits w8) v → get_or v i 0 < 256
lane_fits [] i h = omega arith
lane_fits (x ∷ xs) zero h = h.0.fits
lane_fits (x ∷ xs) (suc i) h = lane_fits xs i h.1

-- a table of sixteen, read at places g x below 16
looked_up : (t : List ℕ) (g : ℕ → ℕ) (v js : List ℕ) → IsBlock v → js ≡ map g v → ((x : ℕ) → x < 256 → g x < 16) → swz_l w8 16 t 0 js ≡ map (λ x. get_or t (g x) 0) v
looked_up t g v js fits e small =
    let long : length js ≡ 16 = ap length e ∙ length-map v g ∙ fits.0 in
    ext_get_or 0 _ _ (length-swz_l w8 16 t 0 js ∙ long ∙ sym (length-map v (λ x. get_or t (g x) 0) ∙ fits.0)) (λ i h.
    let lt : i < 16 = omega (arith, length-swz_l w8 16 t 0 js) in
    let within : i < length v = omega (arith, fits.0) in
    let is : get_or js i 0 ≡ g (get_or v i 0) = ap (λ l. get_or l i 0) e ∙ get_or-map g v i 0 0 within in
    let below : get_or js i 0 < 16 = omega (arith, small (get_or v i 0) (lane_fits v i fits.1)) in
    let place : 16 * ((0 + i) / 16) + get_or js i 0 ≡ get_or js i 0 = omega arith in
    get_or-swz_l_below w8 16 t 0 js i (omega arith) below ∙ ap (λ k. get_or t k 0) (place ∙ is) ∙ sym (get_or-map (λ x. get_or t (g x) 0) v i 0 0 within))

pub highs : (t v : List ℕ) → IsBlock v → swz_l w8 16 t 0 (zip2 down v (replicate 16 4)) ≡ map (λ b. get_or t (b / 16) 0) v
highs t v fits = looked_up t (λ x. x / 16) v _ fits (zip2_splat down v 16 4 fits.0) (λ x h. omega arith)

low-is : (v : List ℕ) → map (λ x. bit_and x 15) v ≡ map (λ x. x % 16) v
low-is [] = refl
low-is (x ∷ xs) = let e : bit_and x 15 ≡ x % 16 = and_mask x 4 in let r = low-is xs in rw (e, r) refl

pub lows : (t v : List ℕ) → IsBlock v → swz_l w8 16 t 0 (zip2 bit_and v (replicate 16 15)) ≡ map (λ b. get_or t (b % 16) 0) v
lows t v fits = looked_up t (λ x. x % 16) v _ fits (zip2_splat bit_and v 16 15 fits.0 ∙ low-is v) (λ x h. omega arith)

abbrev pub places : List ℕ
places = 0 ∷ 16 ∷ 1 ∷ 17 ∷ 2 ∷ 18 ∷ 3 ∷ 19 ∷ 4 ∷ 20 ∷ 5 ∷ 21 ∷ 6 ∷ 22 ∷ 7 ∷ 23 ∷ 8 ∷ 24 ∷ 9 ∷ 25 ∷ 10 ∷ 26 ∷ 11 ∷ 27 ∷ 12 ∷ 28 ∷ 13 ∷ 29 ∷ 14 ∷ 30 ∷ 15 ∷ 31 ∷ []

pub woven : (v : List ℕ) → length v ≡ 16 → pick_l 0 (map (λ b. hex_digit (b / 16)) v ++ map (λ b. hex_digit (b % 16)) v) places ≡ hex_pairs v
woven [] e = absurd (omega arith)
woven (a0 ∷ []) e = absurd (omega arith)
woven (a0 ∷ a1 ∷ []) e = absurd (omega arith)
woven (a0 ∷ a1 ∷ a2 ∷ []) e = absurd (omega arith)
woven (a0 ∷ a1 ∷ a2 ∷ a3 ∷ []) e = absurd (omega arith)
woven (a0 ∷ a1 ∷ a2 ∷ a3 ∷ a4 ∷ []) e = absurd (omega arith)
woven (a0 ∷ a1 ∷ a2 ∷ a3 ∷ a4 ∷ a5 ∷ []) e = absurd (omega arith)
woven (a0 ∷ a1 ∷ a2 ∷ a3 ∷ a4 ∷ a5 ∷ a6 ∷ []) e = absurd (omega arith)
woven (a0 ∷ a1 ∷ a2 ∷ a3 ∷ a4 ∷ a5 ∷ a6 ∷ a7 ∷ []) e = absurd (omega arith)
woven (a0 ∷ a1 ∷ a2 ∷ a3 ∷ a4 ∷ a5 ∷ a6 ∷ a7 ∷ a8 ∷ []) e = absurd (omega arith)
woven (a0 ∷ a1 ∷ a2 ∷ a3 ∷ a4 ∷ a5 ∷ a6 ∷ a7 ∷ a8 ∷ a9 ∷ []) e = absurd (omega arith)
woven (a0 ∷ a1 ∷ a2 ∷ a3 ∷ a4 ∷ a5 ∷ a6 ∷ a7 ∷ a8 ∷ a9 ∷ a10 ∷ []) e = absurd (omega arith)
woven (a0 ∷ a1 ∷ a2 ∷ a3 ∷ a4 ∷ a5 ∷ a6 ∷ a7 ∷ a8 ∷ a9 ∷ a10 ∷ a11 ∷ []) e = absurd (omega arith)
woven (a0 ∷ a1 ∷ a2 ∷ a3 ∷ a4 ∷ a5 ∷ a6 ∷ a7 ∷ a8 ∷ a9 ∷ a10 ∷ a11 ∷ a12 ∷ []) e = absurd (omega arith)
woven (a0 ∷ a1 ∷ a2 ∷ a3 ∷ a4 ∷ a5 ∷ a6 ∷ a7 ∷ a8 ∷ a9 ∷ a10 ∷ a11 ∷ a12 ∷ a13 ∷ []) e = absurd (omega arith)
woven (a0 ∷ a1 ∷ a2 ∷ a3 ∷ a4 ∷ a5 ∷ a6 ∷ a7 ∷ a8 ∷ a9 ∷ a10 ∷ a11 ∷ a12 ∷ a13 ∷ a14 ∷ []) e = absurd (omega arith)
woven (a0 ∷ a1 ∷ a2 ∷ a3 ∷ a4 ∷ a5 ∷ a6 ∷ a7 ∷ a8 ∷ a9 ∷ a10 ∷ a11 ∷ a12 ∷ a13 ∷ a14 ∷ a15 ∷ []) e = refl
woven (a0 ∷ a1 ∷ a2 ∷ a3 ∷ a4 ∷ a5 ∷ a6 ∷ a7 ∷ a8 ∷ a9 ∷ a10 ∷ a11 ∷ a12 ∷ a13 ∷ a14 ∷ a15 ∷ a16 ∷ more) e = absurd (omega arith)

pairs-append : (xs ys : List ℕ) → hex_pairs (xs ++ ys) ≡ hex_pairs xs ++ hex_pairs ys
pairs-append [] ys = refl
pairs-append (x ∷ xs) ys = ap (λ t. hex_digit (x / 16) ∷ hex_digit (x % 16) ∷ t) (pairs-append xs ys)

take_sum : (n m : ℕ) (xs : List ℕ) → take (n + m) xs ≡ take n xs ++ take m (drop n xs)
take_sum n m xs =
    sym (take-append-drop n (take (n + m) xs)) ∙ ap (λ t. t ++ drop n (take (n + m) xs)) (take-take n (n + m) xs (omega arith)) ∙ ap (λ t. take n xs ++ t) (drop-take n m xs)

joined : (old before now front more whole : List ℕ) → before ≡ old ++ hex_pairs front → now ≡ before ++ hex_pairs more → whole ≡ front ++ more → now ≡ old ++ hex_pairs whole
joined old before now front more whole stood put is =
    put
    ∙ ap (λ t. t ++ hex_pairs more) stood
    ∙ append_assoc old (hex_pairs front) (hex_pairs more)
    ∙ ap (λ t. old ++ t) (sym (ap (λ l. hex_pairs l) is ∙ pairs-append front more))

-- one more block
pub one_more : (old before now bytes : List ℕ) (i : ℕ) → before ≡ old ++ hex_pairs (take (16 * i) bytes) → now ≡ before ++ hex_pairs (take 16 (drop (16 * i) bytes))
    → now ≡ old ++ hex_pairs (take (16 * (i + 1)) bytes)
one_more old before now bytes i stood put =
    let next : 16 * (i + 1) ≡ 16 * i + 16 = omega arith in
    joined old before now (take (16 * i) bytes) (take 16 (drop (16 * i) bytes)) (take (16 * (i + 1)) bytes) stood put (ap (λ n. take n bytes) next ∙ take_sum (16 * i) 16 bytes)

-- one more byte
pub one_byte : (old before now bytes : List ℕ) (i : ℕ) → i < length bytes → before ≡ old ++ hex_pairs (take i bytes) → now ≡ before ++ hex_pairs (get_or bytes i 0 ∷ [])
    → now ≡ old ++ hex_pairs (take (i + 1) bytes)
one_byte old before now bytes i lt stood put = joined old before now (take i bytes) (get_or bytes i 0 ∷ []) (take (i + 1) bytes) stood put (take_more bytes i 0 lt)

-- behind the last block
pub arrived : (old now bytes : List ℕ) (i n : ℕ) → i ≡ n → now ≡ old ++ hex_pairs (take (16 * i) bytes) → now ≡ old ++ hex_pairs (take (16 * n) bytes)
arrived old now bytes i n e here = here ∙ ap (λ k. old ++ hex_pairs (take (16 * k) bytes)) e

-- behind the last byte
pub whole : (old now bytes : List ℕ) (i : ℕ) → length bytes ≤ i → now ≡ old ++ hex_pairs (take i bytes) → now ≡ old ++ hex_pairs bytes
whole old now bytes i le here = here ∙ ap (λ l. old ++ hex_pairs l) (take_all i bytes le)

-- Frames in bytes, one of which are written over others.
use Rattle.std.proofs.Common.{ℕ, zero, suc, ◌≡◌, ◌+◌, ◌-◌, ◌*◌, ◌/◌, ◌%◌, ◌≤◌, ◌<◌, List, [], ◌∷◌, ◌++◌, length, take, drop, get_or, replicate, refl, sym, ap, ◌∙◌, arith, length-append, length-take, length-drop}
use Rattle.std.proofs.Math.Nat.{mul-le-mul_right, mul-add-div_right, mul-add-mod_self_right}
use Rattle.std.proofs.lemmas.List.{take-append-le, drop-append-le, drop-drop, take-take, drop-take, nil_from_length, take-replicate, drop-replicate}
use Rattle.std.proofs.lemmas.Nat.{div-add-mod'}
use borrow.Rule.Slice.PartMut.{put_mid}
use Rattle.pcm_base.specs.model.Frame.{frames_of}

-- ys with xs written over it from a place on
abbrev pub over : {A : Type 0} → ℕ → List A → List A → List A
over at xs ys = take at ys ++ (xs ++ drop (at + length xs) ys)

-- a part of a memory that was written is the memory with that part over it
pub put_mid-over : (at k : ℕ) (xs ys : List ℕ) → length ys ≡ k → put_mid at (at + k - at) xs ys ≡ over at ys xs
put_mid-over at k xs ys e =
    let there : at + (at + k - at) ≡ at + length ys = omega arith in
    ap (λ zs. take at xs ++ (ys ++ zs)) (drop-drop (at + k - at) at xs ∙ ap (λ m. drop m xs) there)

pub length-frames_of : (n w : ℕ) (xs : List ℕ) → length (frames_of n w xs) ≡ n
length-frames_of zero w xs = refl
length-frames_of (suc n) w xs = ap suc (length-frames_of n w (drop w xs))

-- the frames of bytes that are cut between two frames
pub frames_of-append : (a b w : ℕ) (xs ys : List ℕ) → length xs ≡ a * w → frames_of (a + b) w (xs ++ ys) ≡ frames_of a w xs ++ frames_of b w ys
frames_of-append zero b w xs ys e =
    let same : 0 + b ≡ b = omega arith in
    let none : xs ≡ [] = nil_from_length xs (omega arith) in
    ap (λ n. frames_of n w (xs ++ ys)) same ∙ ap (λ zs. frames_of b w (zs ++ ys)) none
frames_of-append (suc a) b w xs ys e =
    let next : suc a + b ≡ suc (a + b) = omega arith in
    let within : w ≤ length xs = omega arith in
    let rest : length (drop w xs) ≡ a * w = omega (arith, length-drop w xs) in
    ap (λ n. frames_of n w (xs ++ ys)) next
    ∙ (ap (λ f. f ∷ frames_of (a + b) w (drop w (xs ++ ys))) (take-append-le w xs ys within)
    ∙ (ap (λ zs. take w xs ∷ frames_of (a + b) w zs) (drop-append-le w xs ys within)
    ∙ ap (λ fs. take w xs ∷ fs) (frames_of-append a b w (drop w xs) ys rest)))

frames_of-take : (a k w : ℕ) (xs : List ℕ) → a * w ≤ k → frames_of a w (take k xs) ≡ frames_of a w xs
frames_of-take zero k w xs h = refl
frames_of-take (suc a) k w xs h =
    let split : k ≡ w + (k - w) = omega arith in
    ap (λ f. f ∷ frames_of a w (drop w (take k xs))) (take-take w k xs (omega arith))
    ∙ (ap (λ n. take w xs ∷ frames_of a w (drop w (take n xs))) split
    ∙ (ap (λ zs. take w xs ∷ frames_of a w zs) (drop-take w (k - w) xs)
    ∙ ap (λ fs. take w xs ∷ fs) (frames_of-take a (k - w) w (drop w xs) (omega arith))))

take-frames_of : (a n w : ℕ) (xs : List ℕ) → a ≤ n → take a (frames_of n w xs) ≡ frames_of a w xs
take-frames_of zero n w xs h = refl
take-frames_of (suc a) zero w xs h = absurd (omega arith)
take-frames_of (suc a) (suc n) w xs h = ap (λ fs. take w xs ∷ fs) (take-frames_of a n w (drop w xs) (omega arith))

drop-frames_of : (a n w : ℕ) (xs : List ℕ) → drop a (frames_of n w xs) ≡ frames_of (n - a) w (drop (a * w) xs)
drop-frames_of zero n w xs =
    let same : n ≡ n - 0 = omega arith in
    let none : 0 ≡ 0 * w = omega arith in
    ap (λ m. frames_of m w xs) same ∙ ap (λ k. frames_of (n - 0) w (drop k xs)) none
drop-frames_of (suc a) zero w xs =
    let none : 0 ≡ 0 - suc a = omega arith in
    ap (λ m. frames_of m w (drop (suc a * w) xs)) none
drop-frames_of (suc a) (suc n) w xs =
    let less : n - a ≡ suc n - suc a = omega arith in
    let more : w + a * w ≡ suc a * w = omega arith in
    drop-frames_of a n w (drop w xs)
    ∙ (ap (λ zs. frames_of (n - a) w zs) (drop-drop (a * w) w xs)
    ∙ (ap (λ m. frames_of m w (drop (w + a * w) xs)) less ∙ ap (λ k. frames_of (suc n - suc a) w (drop k xs)) more))

-- frames written over others
pub frames_of-over : (s n b w : ℕ) (new ring : List ℕ) → length new ≡ n * w → b * w ≤ length ring → s + n ≤ b
    → frames_of b w (over (s * w) new ring) ≡ over s (frames_of n w new) (frames_of b w ring)
frames_of-over s n b w new ring en er h =
    let rest : ℕ = b - (s + n) in
    let whole : b ≡ s + (n + rest) = omega arith in
    let bound : s * w ≤ b * w = mul-le-mul_right w (omega arith) in
    let front : length (take (s * w) ring) ≡ s * w = omega (arith, length-take (s * w) ring) in
    let behind : ℕ = s * w + length new in
    let there : behind ≡ (s + n) * w = omega arith in
    let count : s + n ≡ s + length (frames_of n w new) = omega (arith, length-frames_of n w new) in
    let first : frames_of s w (take (s * w) ring) ≡ take s (frames_of b w ring) = frames_of-take s (s * w) w ring (omega arith) ∙ sym (take-frames_of s b w ring (omega arith)) in
    let last : frames_of rest w (drop behind ring) ≡ drop (s + length (frames_of n w new)) (frames_of b w ring) =
    ap (λ k. frames_of rest w (drop k ring)) there ∙ (sym (drop-frames_of (s + n) b w ring) ∙ ap (λ k. drop k (frames_of b w ring)) count) in
    ap (λ m. frames_of m w (over (s * w) new ring)) whole
    ∙ (frames_of-append s (n + rest) w (take (s * w) ring) (new ++ drop behind ring) front
    ∙ (ap (λ fs. frames_of s w (take (s * w) ring) ++ fs) (frames_of-append n rest w new (drop behind ring) en)
    ∙ (ap (λ fs. fs ++ (frames_of n w new ++ frames_of rest w (drop behind ring))) first
    ∙ ap (λ fs. take s (frames_of b w ring) ++ (frames_of n w new ++ fs)) last)))

-- one frame
pub frames_of-get : (n w k : ℕ) (xs : List ℕ) → k < n → get_or (frames_of n w xs) k [] ≡ take w (drop (k * w) xs)
frames_of-get zero w k xs h = absurd (omega arith)
frames_of-get (suc n) w zero xs h =
    let none : 0 ≡ 0 * w = omega arith in
    ap (λ m. take w (drop m xs)) none
frames_of-get (suc n) w (suc k) xs h =
    let more : w + k * w ≡ suc k * w = omega arith in
    frames_of-get n w k (drop w xs) (omega arith) ∙ (ap (take w) (drop-drop (k * w) w xs) ∙ ap (λ m. take w (drop m xs)) more)

-- zero frames
pub frames_of-replicate : (n w m v : ℕ) → n * w ≤ m → frames_of n w (replicate m v) ≡ replicate n (replicate w v)
frames_of-replicate zero w m v h = refl
frames_of-replicate (suc n) w m v h =
    ap (λ f. f ∷ frames_of n w (drop w (replicate m v))) (take-replicate w m v (omega arith))
    ∙ (ap (λ xs. replicate w v ∷ frames_of n w xs) (drop-replicate w m v)
    ∙ ap (λ fs. replicate w v ∷ fs) (frames_of-replicate n w (m - w) v (omega arith)))

-- whole frames, counted
pub whole_frames : (n w : ℕ) → n % w ≡ 0 → n ≡ n / w * w
whole_frames n w e = omega (arith, div-add-mod' n w)

pub count-add : (m n w : ℕ) → 1 ≤ w → m % w ≡ 0 → (m + n) / w ≡ m / w + n / w
count-add m n w some whole =
    let pos : 0 < w = omega arith in
    ap (λ k. (k + n) / w) (whole_frames m w whole) ∙ mul-add-div_right pos (m / w) n

pub rest_whole : (m n w : ℕ) → m % w ≡ 0 → (m + n) % w ≡ n % w
rest_whole m n w whole = ap (λ k. (k + n) % w) (whole_frames m w whole) ∙ mul-add-mod_self_right (m / w) w n

-- the frames in two lists of bytes, of which the first has whole frames
pub frames-append : (w : ℕ) (xs ys : List ℕ) → 1 ≤ w → length xs % w ≡ 0 → frames_of (length (xs ++ ys) / w) w (xs ++ ys) ≡ frames_of (length xs / w) w xs ++ frames_of (length ys / w) w ys
frames-append w xs ys some whole =
    let count : length (xs ++ ys) / w ≡ length xs / w + length ys / w = ap (λ n. n / w) (length-append xs ys) ∙ count-add (length xs) (length ys) w some whole in
    ap (λ n. frames_of n w (xs ++ ys)) count ∙ frames_of-append (length xs / w) (length ys / w) w xs ys (whole_frames (length xs) w whole)

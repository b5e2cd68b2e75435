-- Frames in bytes, and writes and reads in a round of either.
use Rattle.std.proofs.Common.{ℕ, zero, suc, ◌≡◌, ◌+◌, ◌-◌, ◌*◌, ◌/◌, ◌%◌, ◌≤◌, ◌<◌, ◌⊎◌, inl, inr, List, [], ◌∷◌, ◌++◌, length, take, drop, replicate, refl, sym, ap, ◌∙◌, arith, append_assoc, length-take, length-drop}
use Rattle.std.proofs.lemmas.Bool.{cases_lt}
use Rattle.std.proofs.lemmas.List.{take_all, drop_all, take-append-le, drop-append-le, drop-drop, take-take, drop-take, nil_from_length, take-replicate, drop-replicate}
use Rattle.std.proofs.lemmas.Nat.{div-add-mod', div_below}
use Rattle.std.proofs.Math.Nat.{mul-le-mul_right}
use Rattle.std.proofs.Math.Seq.{take-add}
use Rattle.pcm_base.specs.model.Frame.{Frame, frames_of, bytes_of}
use Rattle.ring_memory.specs.Round.{over, written_round, read_round}
use Rattle.ring_memory.proofs.RoundLemmas.{length-over}

pub length-frames_of : (n w : ℕ) (xs : List ℕ) → length (frames_of n w xs) ≡ n
length-frames_of zero w xs = refl
length-frames_of (suc n) w xs = ap suc (length-frames_of n w (drop w xs))

-- the frames of bytes that are cut between two frames
frames_of-append : (a b w : ℕ) (xs ys : List ℕ) → length xs ≡ a * w → frames_of (a + b) w (xs ++ ys) ≡ frames_of a w xs ++ frames_of b w ys
frames_of-append zero b w xs ys e =
    let same : 0 + b ≡ b = omega arith in
    let none : xs ≡ [] = nil_from_length xs (omega arith) in
    ap (λ n. frames_of n w (xs ++ ys)) same ∙ ap (λ zs. frames_of b w (zs ++ ys)) none
frames_of-append (suc a) b w xs ys e =
    let next : suc a + b ≡ suc (a + b) = omega arith in
    let within : w ≤ length xs = omega arith in
    let rest : length (drop w xs) ≡ a * w = omega (arith, length-drop w xs) in
    ap (λ n. frames_of n w (xs ++ ys)) next
    ∙ (ap (λ f. f ∷ frames_of (a + b) w (drop w (xs ++ ys))) (take-append-le w xs ys within)
    ∙ (ap (λ zs. take w xs ∷ frames_of (a + b) w zs) (drop-append-le w xs ys within)
    ∙ ap (λ fs. take w xs ∷ fs) (frames_of-append a b w (drop w xs) ys rest)))

frames_of-take : (a k w : ℕ) (xs : List ℕ) → a * w ≤ k → frames_of a w (take k xs) ≡ frames_of a w xs
frames_of-take zero k w xs h = refl
frames_of-take (suc a) k w xs h =
    let split : k ≡ w + (k - w) = omega arith in
    ap (λ f. f ∷ frames_of a w (drop w (take k xs))) (take-take w k xs (omega arith))
    ∙ (ap (λ n. take w xs ∷ frames_of a w (drop w (take n xs))) split
    ∙ (ap (λ zs. take w xs ∷ frames_of a w zs) (drop-take w (k - w) xs)
    ∙ ap (λ fs. take w xs ∷ fs) (frames_of-take a (k - w) w (drop w xs) (omega arith))))

pub take-frames_of : (a n w : ℕ) (xs : List ℕ) → a ≤ n → take a (frames_of n w xs) ≡ frames_of a w xs
take-frames_of zero n w xs h = refl
take-frames_of (suc a) zero w xs h = absurd (omega arith)
take-frames_of (suc a) (suc n) w xs h = ap (λ fs. take w xs ∷ fs) (take-frames_of a n w (drop w xs) (omega arith))

pub drop-frames_of : (a n w : ℕ) (xs : List ℕ) → drop a (frames_of n w xs) ≡ frames_of (n - a) w (drop (a * w) xs)
drop-frames_of zero n w xs =
    let same : n ≡ n - 0 = omega arith in
    let none : 0 ≡ 0 * w = omega arith in
    ap (λ m. frames_of m w xs) same ∙ ap (λ k. frames_of (n - 0) w (drop k xs)) none
drop-frames_of (suc a) zero w xs =
    let none : 0 ≡ 0 - suc a = omega arith in
    ap (λ m. frames_of m w (drop (suc a * w) xs)) none
drop-frames_of (suc a) (suc n) w xs =
    let less : n - a ≡ suc n - suc a = omega arith in
    let more : w + a * w ≡ suc a * w = omega arith in
    drop-frames_of a n w (drop w xs)
    ∙ (ap (λ zs. frames_of (n - a) w zs) (drop-drop (a * w) w xs)
    ∙ (ap (λ m. frames_of m w (drop (w + a * w) xs)) less ∙ ap (λ k. frames_of (suc n - suc a) w (drop k xs)) more))

pub bytes_of-append : (fs gs : List Frame) → bytes_of (fs ++ gs) ≡ bytes_of fs ++ bytes_of gs
bytes_of-append [] gs = refl
bytes_of-append (f ∷ fs) gs = ap (λ xs. f ++ xs) (bytes_of-append fs gs) ∙ sym (append_assoc f (bytes_of fs) (bytes_of gs))

pub bytes_of-frames_of : (n w : ℕ) (xs : List ℕ) → bytes_of (frames_of n w xs) ≡ take (n * w) xs
bytes_of-frames_of zero w xs =
    let none : 0 ≡ 0 * w = omega arith in
    ap (λ k. take k xs) none
bytes_of-frames_of (suc n) w xs =
    let more : w + n * w ≡ suc n * w = omega arith in
    ap (λ zs. take w xs ++ zs) (bytes_of-frames_of n w (drop w xs)) ∙ (sym (take-add w (n * w) xs) ∙ ap (λ k. take k xs) more)

-- frames written over others, in one piece
pub frames_of-over : (s n b w : ℕ) (new ring : List ℕ) → length new ≡ n * w → length ring ≡ b * w → s + n ≤ b
    → frames_of b w (over (s * w) new ring) ≡ over s (frames_of n w new) (frames_of b w ring)
frames_of-over s n b w new ring en er h =
    let rest : ℕ = b - (s + n) in
    let whole : b ≡ s + (n + rest) = omega arith in
    let bound : s * w ≤ b * w = mul-le-mul_right w (omega arith) in
    let front : length (take (s * w) ring) ≡ s * w = omega (arith, length-take (s * w) ring) in
    let behind : ℕ = s * w + length new in
    let there : behind ≡ (s + n) * w = omega arith in
    let count : s + n ≡ s + length (frames_of n w new) = omega (arith, length-frames_of n w new) in
    let first : frames_of s w (take (s * w) ring) ≡ take s (frames_of b w ring) = frames_of-take s (s * w) w ring (omega arith) ∙ sym (take-frames_of s b w ring (omega arith)) in
    let last : frames_of rest w (drop behind ring) ≡ drop (s + length (frames_of n w new)) (frames_of b w ring) =
    ap (λ k. frames_of rest w (drop k ring)) there ∙ (sym (drop-frames_of (s + n) b w ring) ∙ ap (λ k. drop k (frames_of b w ring)) count) in
    ap (λ m. frames_of m w (over (s * w) new ring)) whole
    ∙ (frames_of-append s (n + rest) w (take (s * w) ring) (new ++ drop behind ring) front
    ∙ (ap (λ fs. frames_of s w (take (s * w) ring) ++ fs) (frames_of-append n rest w new (drop behind ring) en)
    ∙ (ap (λ fs. fs ++ (frames_of n w new ++ frames_of rest w (drop behind ring))) first
    ∙ ap (λ fs. take s (frames_of b w ring) ++ (frames_of n w new ++ fs)) last)))

-- in a round: the first m frames, and the others from the front on
frames_of-pieces : (m s n b w : ℕ) (new ring : List ℕ) → length new ≡ n * w → length ring ≡ b * w → m ≤ n → s + m ≤ b → n ≤ b
    → frames_of b w (over 0 (drop (m * w) new) (over (s * w) (take (m * w) new) ring)) ≡ over 0 (drop m (frames_of n w new)) (over s (take m (frames_of n w new)) (frames_of b w ring))
frames_of-pieces m s n b w new ring en er h k l =
    let bound : m * w ≤ n * w = mul-le-mul_right w h in
    let cut : n ≡ m + (n - m) = omega arith in
    let cuts : n * w ≡ (m + (n - m)) * w = ap (λ i. i * w) cut in
    let size : (s + m) * w ≤ b * w = mul-le-mul_right w k in
    let near : length (take (m * w) new) ≡ m * w = omega (arith, length-take (m * w) new) in
    let far : length (drop (m * w) new) ≡ (n - m) * w = omega (arith, length-drop (m * w) new) in
    let once : List ℕ = over (s * w) (take (m * w) new) ring in
    let same : length once ≡ b * w = length-over (s * w) (take (m * w) new) ring (omega arith) ∙ er in
    let none : 0 ≡ 0 * w = omega arith in
    ap (λ i. frames_of b w (over i (drop (m * w) new) once)) none
    ∙ (frames_of-over 0 (n - m) b w (drop (m * w) new) once far same (omega arith)
    ∙ (ap (λ fs. over 0 fs (frames_of b w once)) (sym (drop-frames_of m n w new))
    ∙ (ap (λ fs. over 0 (drop m (frames_of n w new)) fs) (frames_of-over s m b w (take (m * w) new) ring near er k)
    ∙ ap (λ fs. over 0 (drop m (frames_of n w new)) (over s fs (frames_of b w ring))) (frames_of-take m (m * w) w new (omega arith) ∙ sym (take-frames_of m n w new h)))))

pub frames_of-written_round : (s n b w : ℕ) (new ring : List ℕ) → length new ≡ n * w → length ring ≡ b * w → s ≤ b → n ≤ b
    → frames_of b w (written_round (s * w) new ring) ≡ written_round s (frames_of n w new) (frames_of b w ring)
frames_of-written_round s n b w new ring en er h l = by_place (cases_lt (b - s) n)
  where
    frames : List Frame
    frames = frames_of n w new

    slots : List Frame
    slots = frames_of b w ring

    by_place : (b - s < n) ⊎ (n ≤ b - s) → frames_of b w (written_round (s * w) new ring) ≡ written_round s (frames_of n w new) (frames_of b w ring)
    by_place (inl k) =
        let cut : b ≡ s + (b - s) = omega arith in
        let cuts : b * w ≡ (s + (b - s)) * w = ap (λ i. i * w) cut in
        let room : length ring - s * w ≡ (b - s) * w = omega arith in
        let rooms : b - s ≡ length (frames_of b w ring) - s = omega (arith, length-frames_of b w ring) in
        ap (λ i. frames_of b w (over 0 (drop i new) (over (s * w) (take i new) ring))) room
        ∙ (frames_of-pieces (b - s) s n b w new ring en er (omega arith) (omega arith) l
        ∙ ap (λ i. over 0 (drop i (frames_of n w new)) (over s (take i (frames_of n w new)) (frames_of b w ring))) rooms)
    by_place (inr k) =
        let bound : (s + n) * w ≤ b * w = mul-le-mul_right w (omega arith) in
        let count : length (frames_of n w new) ≡ n = length-frames_of n w new in
        let front : take (length ring - s * w) new ≡ take (n * w) new = take_all _ new (omega arith) ∙ sym (take_all (n * w) new (omega arith)) in
        let rest : drop (length ring - s * w) new ≡ drop (n * w) new = drop_all _ new (omega arith) ∙ sym (drop_all (n * w) new (omega arith)) in
        let fronts : take n (frames_of n w new) ≡ take (length (frames_of b w ring) - s) (frames_of n w new) = take_all n (frames_of n w new) (omega arith) ∙ sym (take_all _ (frames_of n w new) (omega (arith, length-frames_of b w ring))) in
        let rests : drop n (frames_of n w new) ≡ drop (length (frames_of b w ring) - s) (frames_of n w new) = drop_all n (frames_of n w new) (omega arith) ∙ sym (drop_all _ (frames_of n w new) (omega (arith, length-frames_of b w ring))) in
        ap (λ xs. frames_of b w (over 0 (drop (length ring - s * w) new) (over (s * w) xs ring))) front
        ∙ (ap (λ xs. frames_of b w (over 0 xs (over (s * w) (take (n * w) new) ring))) rest
        ∙ (frames_of-pieces n s n b w new ring en er (omega arith) (omega arith) l
        ∙ (ap (λ xs. over 0 xs (over s (take n (frames_of n w new)) (frames_of b w ring))) rests
        ∙ ap (λ xs. over 0 (drop (length (frames_of b w ring) - s) (frames_of n w new)) (over s xs (frames_of b w ring))) fronts)))

-- the bytes of the first frames
bytes_of-take : (n b w : ℕ) (xs : List ℕ) → length xs ≡ b * w → bytes_of (take n (frames_of b w xs)) ≡ take (n * w) xs
bytes_of-take n b w xs e = by_place (cases_lt b n)
  where
    by_place : (b < n) ⊎ (n ≤ b) → bytes_of (take n (frames_of b w xs)) ≡ take (n * w) xs
    by_place (inl h) =
        let bound : b * w ≤ n * w = mul-le-mul_right w (omega arith) in
        ap bytes_of (take_all n (frames_of b w xs) (omega (arith, length-frames_of b w xs)))
        ∙ (bytes_of-frames_of b w xs ∙ (take_all (b * w) xs (omega arith) ∙ sym (take_all (n * w) xs (omega arith))))
    by_place (inr h) = ap bytes_of (take-frames_of n b w xs h) ∙ bytes_of-frames_of n w xs

-- a read in a round
pub bytes_of-read_round : (s n b w : ℕ) (ring : List ℕ) → length ring ≡ b * w → s ≤ b → bytes_of (read_round s n (frames_of b w ring)) ≡ read_round (s * w) (n * w) ring
bytes_of-read_round s n b w ring e h =
    let cut : b ≡ s + (b - s) = omega arith in
    let cuts : b * w ≡ (s + (b - s)) * w = ap (λ i. i * w) cut in
    let behind : length (drop (s * w) ring) ≡ (b - s) * w = omega (arith, length-drop (s * w) ring) in
    let slots : List Frame = frames_of b w ring in
    bytes_of-append (take n (drop s (frames_of b w ring))) (take (n - (length (frames_of b w ring) - s)) (frames_of b w ring))
    ∙ (ap (λ fs. bytes_of (take n fs) ++ bytes_of (take (n - (length (frames_of b w ring) - s)) (frames_of b w ring))) (drop-frames_of s b w ring)
    ∙ (ap (λ xs. xs ++ bytes_of (take (n - (length (frames_of b w ring) - s)) (frames_of b w ring))) (bytes_of-take n (b - s) w (drop (s * w) ring) behind)
    ∙ (ap (λ xs. take (n * w) (drop (s * w) ring) ++ xs) (bytes_of-take (n - (length (frames_of b w ring) - s)) b w ring e)
    ∙ ap (λ k. take (n * w) (drop (s * w) ring) ++ take k ring) (rest_is (cases_lt (b - s) n)))))
  where
    rest_is : (b - s < n) ⊎ (n ≤ b - s) → (n - (length (frames_of b w ring) - s)) * w ≡ n * w - (length ring - s * w)
    rest_is (inl k) =
        let some : n - (length (frames_of b w ring) - s) ≡ n - (b - s) = omega (arith, length-frames_of b w ring) in
        let cut : b ≡ s + (b - s) = omega arith in
        let cuts : b * w ≡ (s + (b - s)) * w = ap (λ i. i * w) cut in
        let part : n ≡ (b - s) + (n - (b - s)) = omega arith in
        let parts : n * w ≡ ((b - s) + (n - (b - s))) * w = ap (λ i. i * w) part in
        ap (λ i. i * w) some ∙ omega arith
    rest_is (inr k) =
        let none : n - (length (frames_of b w ring) - s) ≡ 0 = omega (arith, length-frames_of b w ring) in
        let bound : (s + n) * w ≤ b * w = mul-le-mul_right w (omega arith) in
        ap (λ i. i * w) none ∙ omega arith

-- whole frames, counted
pub whole_frames : (n w : ℕ) → n % w ≡ 0 → n ≡ n / w * w
whole_frames n w e = omega (arith, div-add-mod' n w)

pub frames_fit : (n w b : ℕ) → 0 < w → n ≤ b * w → n / w ≤ b
frames_fit n w b pos h =
    let less : n < suc b * w = omega arith in
    let below : n / w < suc b = div_below n w (suc b) pos less in
    omega arith

-- silent frames
pub frames_of-replicate : (n w v : ℕ) → frames_of n w (replicate (n * w) v) ≡ replicate n (replicate w v)
frames_of-replicate zero w v = refl
frames_of-replicate (suc n) w v =
    let more : suc n * w ≡ w + n * w = omega arith in
    let less : w + n * w - w ≡ n * w = omega arith in
    ap (λ k. take w (replicate k v) ∷ frames_of n w (drop w (replicate k v))) more
    ∙ (ap (λ f. f ∷ frames_of n w (drop w (replicate (w + n * w) v))) (take-replicate w (w + n * w) v (omega arith))
    ∙ (ap (λ xs. replicate w v ∷ frames_of n w xs) (drop-replicate w (w + n * w) v ∙ ap (λ k. replicate k v) less)
    ∙ ap (λ fs. replicate w v ∷ fs) (frames_of-replicate n w v)))

-- Frames in planar and interleaved bytes: bytes of frames give those frames, and the first frames lie at the fronts of the channels' areas.
use Rattle.std.proofs.Common.{◌≡◌, ℕ, zero, suc, ◌+◌, ◌*◌, ◌≤◌, List, [], ◌∷◌, ◌++◌, length, take, drop, map, refl, sym, ap, ◌∙◌, arith, length-take, length-drop, length-append}
use Rattle.std.proofs.lemmas.List.{length-map}
use Rattle.std.proofs.Math.Path.{ap₂}
use Rattle.std.proofs.Math.Seq.{take-add}
use Rattle.pcm_base.specs.model.Frame.{Frame, bytes_across, bytes_of, frames_across, frames_of, planar_frames}
use Rattle.pcm_stream.specs.Wide.{AreWide}
use Rattle.pcm_stream.proofs.LayoutLemmas.{take-frames_of}
use Rattle.pcm_stream.proofs.SlotLemmas.{length-bytes_of}
use Rattle.pcm_world.specs.Bytes.{fronts}

take-front : (n : ℕ) (xs ys : List ℕ) → length xs ≡ n → take n (xs ++ ys) ≡ xs
take-front zero [] ys e = refl
take-front zero (x ∷ xs) ys e = absurd (let no : ⊥ = omega (arith, e) in no)
take-front (suc n) [] ys e = absurd (let no : ⊥ = omega (arith, e) in no)
take-front (suc n) (x ∷ xs) ys e = ap (λ (zs : List ℕ). x ∷ zs) (take-front n xs ys (omega (arith, e)))

drop-front : (n : ℕ) (xs ys : List ℕ) → length xs ≡ n → drop n (xs ++ ys) ≡ ys
drop-front zero [] ys e = refl
drop-front zero (x ∷ xs) ys e = absurd (let no : ⊥ = omega (arith, e) in no)
drop-front (suc n) [] ys e = absurd (let no : ⊥ = omega (arith, e) in no)
drop-front (suc n) (x ∷ xs) ys e = drop-front n xs ys (omega (arith, e))

-- ---- frame after frame

pub frames_of-bytes_of : (w : ℕ) (fs : List Frame) → AreWide w fs → frames_of (length fs) w (bytes_of fs) ≡ fs
frames_of-bytes_of w [] h = refl
frames_of-bytes_of w (f ∷ fs) h =
    ap₂ (λ (x : Frame) (xs : List Frame). x ∷ xs) (take-front w f (bytes_of fs) h.0)
    (ap (λ (xs : List ℕ). frames_of (length fs) w xs) (drop-front w f (bytes_of fs) h.0) ∙ frames_of-bytes_of w fs h.1)

pub bytes_of-frames_of : (n w : ℕ) (xs : List ℕ) → bytes_of (frames_of n w xs) ≡ take (n * w) xs
bytes_of-frames_of zero w xs = let e : 0 ≡ 0 * w = omega arith in ap (λ (k : ℕ). take k xs) e
bytes_of-frames_of (suc n) w xs =
    let e : w + n * w ≡ suc n * w = omega arith in
    ap (λ (ys : List ℕ). take w xs ++ ys) (bytes_of-frames_of n w (drop w xs)) ∙ sym (take-add w (n * w) xs) ∙ ap (λ (k : ℕ). take k xs) e

-- ---- channel after channel

-- the area of each channel
areas : ℕ → ℕ → List Frame → List (List ℕ)
areas zero w fs = []
areas (suc c) w fs = bytes_of (map (take w) fs) ∷ areas c w (map (drop w) fs)

wide-heads : (v w : ℕ) (fs : List Frame) → w ≤ v → AreWide v fs → AreWide w (map (take w) fs)
wide-heads v w [] le h = tt
wide-heads v w (f ∷ fs) le h = (omega (arith, length-take w f, h.0, le), wide-heads v w fs le h.1)

wide-tails : (v w u : ℕ) (fs : List Frame) → v ≡ w + u → AreWide v fs → AreWide u (map (drop w) fs)
wide-tails v w u [] e h = tt
wide-tails v w u (f ∷ fs) e h = (omega (arith, length-drop w f, h.0, e), wide-tails v w u fs e h.1)

areas-of : (c w n : ℕ) (fs : List Frame) → length fs ≡ n → AreWide (c * w) fs → frames_of c (n * w) (bytes_across c w fs) ≡ areas c w fs
unfolding areas
areas-of zero w n fs e h = refl
areas-of (suc c) w n fs e h =
    let more : suc c * w ≡ w + c * w = omega arith in
    let heads : AreWide w (map (take w) fs) = wide-heads (suc c * w) w fs (omega (arith, more)) h in
    let size : length (bytes_of (map (take w) fs)) ≡ n * w = length-bytes_of w (map (take w) fs) heads ∙ ap (λ (k : ℕ). k * w) (length-map fs (take w) ∙ e) in
    let rest : AreWide (c * w) (map (drop w) fs) = wide-tails (suc c * w) w (c * w) fs more h in
    ap₂ (λ (x : List ℕ) (xs : List (List ℕ)). x ∷ xs) (take-front (n * w) (bytes_of (map (take w) fs)) (bytes_across c w (map (drop w) fs)) size)
    (ap (λ (xs : List ℕ). frames_of c (n * w) xs) (drop-front (n * w) (bytes_of (map (take w) fs)) (bytes_across c w (map (drop w) fs)) size)
    ∙ areas-of c w n (map (drop w) fs) (length-map fs (drop w) ∙ e) rest)

-- the first frame in them, and the others
areas-head : (c w : ℕ) (f : Frame) (fs : List Frame) → length f ≡ c * w → bytes_of (map (take w) (areas c w (f ∷ fs))) ≡ f
unfolding areas
areas-head zero w [] fs e = refl
areas-head zero w (x ∷ f) fs e = absurd (let no : ⊥ = omega (arith, e) in no)
areas-head (suc c) w f fs e =
    let more : suc c * w ≡ w + c * w = omega arith in
    let first : length (take w f) ≡ w = omega (arith, length-take w f, e, more) in
    ap₂ (λ (x y : List ℕ). x ++ y) (take-front w (take w f) (bytes_of (map (take w) fs)) first) (areas-head c w (drop w f) (map (drop w) fs) (omega (arith, length-drop w f, e, more)))
    ∙ both w f
  where
    both : (n : ℕ) (xs : List ℕ) → take n xs ++ drop n xs ≡ xs
    both zero xs = refl
    both (suc n) [] = refl
    both (suc n) (x ∷ xs) = ap (λ (zs : List ℕ). x ∷ zs) (both n xs)

areas-tail : (c w : ℕ) (f : Frame) (fs : List Frame) → length f ≡ c * w → map (drop w) (areas c w (f ∷ fs)) ≡ areas c w fs
unfolding areas
areas-tail zero w f fs e = refl
areas-tail (suc c) w f fs e =
    let more : suc c * w ≡ w + c * w = omega arith in
    let first : length (take w f) ≡ w = omega (arith, length-take w f, e, more) in
    ap₂ (λ (x : List ℕ) (xs : List (List ℕ)). x ∷ xs) (drop-front w (take w f) (bytes_of (map (take w) fs)) first) (areas-tail c w (drop w f) (map (drop w) fs) (omega (arith, length-drop w f, e, more)))

across-areas : (c w : ℕ) (fs : List Frame) → AreWide (c * w) fs → frames_across (length fs) w (areas c w fs) ≡ fs
across-areas c w [] h = refl
across-areas c w (f ∷ fs) h =
    ap₂ (λ (x : Frame) (xs : List Frame). x ∷ xs) (areas-head c w f fs h.0)
    (ap (λ (xs : List (List ℕ)). frames_across (length fs) w xs) (areas-tail c w f fs h.0) ∙ across-areas c w fs h.1)

pub planar_frames-bytes_across : (c w : ℕ) (fs : List Frame) → AreWide (c * w) fs → planar_frames (length fs) c w (bytes_across c w fs) ≡ fs
planar_frames-bytes_across c w fs h = ap (λ (xs : List (List ℕ)). frames_across (length fs) w xs) (areas-of c w (length fs) fs refl h) ∙ across-areas c w fs h

pub length-bytes_across : (c w : ℕ) (fs : List Frame) → AreWide (c * w) fs → length (bytes_across c w fs) ≡ c * (length fs * w)
length-bytes_across zero w fs h = omega arith
length-bytes_across (suc c) w fs h =
    let more : suc c * w ≡ w + c * w = omega arith in
    let heads : AreWide w (map (take w) fs) = wide-heads (suc c * w) w fs (omega (arith, more)) h in
    let size : length (bytes_of (map (take w) fs)) ≡ length fs * w = length-bytes_of w (map (take w) fs) heads ∙ ap (λ (k : ℕ). k * w) (length-map fs (take w)) in
    let rest : length (bytes_across c w (map (drop w) fs)) ≡ c * (length fs * w) = length-bytes_across c w (map (drop w) fs) (wide-tails (suc c * w) w (c * w) fs more h) ∙ ap (λ (k : ℕ). c * (k * w)) (length-map fs (drop w)) in
    omega (arith, length-append (bytes_of (map (take w) fs)) (bytes_across c w (map (drop w) fs)), size, rest)

-- ---- the first frames

take-across : (n m w : ℕ) (xs : List (List ℕ)) → n ≤ m → take n (frames_across m w xs) ≡ frames_across n w xs
take-across zero m w xs le = refl
take-across (suc n) zero w xs le = absurd (let no : ⊥ = omega (arith, le) in no)
take-across (suc n) (suc m) w xs le = ap (λ (fs : List Frame). bytes_of (map (take w) xs) ∷ fs) (take-across n m w (map (drop w) xs) (omega (arith, le)))

-- each of these has at least so many bytes
AreLong : ℕ → List (List ℕ) → Type 0
AreLong n [] = Unit {0}
AreLong n (x ∷ xs) = (n ≤ length x) × AreLong n xs

firsts : (n w : ℕ) (x : List ℕ) (xs : List (List ℕ)) → n * w ≤ length x → map (take w) (frames_across n w (x ∷ xs)) ≡ frames_of n w x
firsts zero w x xs le = refl
firsts (suc n) w x xs le =
    let more : suc n * w ≡ w + n * w = omega arith in
    ap₂ (λ (y : Frame) (ys : List Frame). y ∷ ys) (take-front w (take w x) (bytes_of (map (take w) xs)) (omega (arith, length-take w x, le, more)))
    (firsts n w (drop w x) (map (drop w) xs) (omega (arith, length-drop w x, le, more)))

others : (n w : ℕ) (x : List ℕ) (xs : List (List ℕ)) → n * w ≤ length x → map (drop w) (frames_across n w (x ∷ xs)) ≡ frames_across n w xs
others zero w x xs le = refl
others (suc n) w x xs le =
    let more : suc n * w ≡ w + n * w = omega arith in
    ap₂ (λ (y : Frame) (ys : List Frame). y ∷ ys) (drop-front w (take w x) (bytes_of (map (take w) xs)) (omega (arith, length-take w x, le, more)))
    (others n w (drop w x) (map (drop w) xs) (omega (arith, length-drop w x, le, more)))

across-fronts : (n w : ℕ) (xs : List (List ℕ)) → AreLong (n * w) xs → bytes_across (length xs) w (frames_across n w xs) ≡ bytes_of (map (take (n * w)) xs)
unfolding AreLong
across-fronts n w [] h = refl
across-fronts n w (x ∷ xs) h =
    ap₂ (λ (y z : List ℕ). y ++ z) (ap bytes_of (firsts n w x xs h.0) ∙ bytes_of-frames_of n w x)
    (ap (bytes_across (length xs) w) (others n w x xs h.0) ∙ across-fronts n w xs h.1)

length-frames : (c a : ℕ) (bytes : List ℕ) → length (frames_of c a bytes) ≡ c
length-frames zero a bytes = refl
length-frames (suc c) a bytes = ap suc (length-frames c a (drop a bytes))

long-areas : (c a n : ℕ) (bytes : List ℕ) → n ≤ a → c * a ≤ length bytes → AreLong n (frames_of c a bytes)
unfolding AreLong
long-areas zero a n bytes le h = tt
long-areas (suc c) a n bytes le h =
    let more : suc c * a ≡ a + c * a = omega arith in
    (omega (arith, length-take a bytes, le, h, more), long-areas c a n (drop a bytes) le (omega (arith, length-drop a bytes, h, more)))

pub first-planar : (n m c w : ℕ) (bytes : List ℕ) → n ≤ m → c * (m * w) ≤ length bytes → bytes_across c w (take n (planar_frames m c w bytes)) ≡ fronts c (m * w) (n * w) bytes
first-planar n m c w bytes le h =
    let few : n * w ≤ m * w = grind (arith, le) in
    ap (bytes_across c w) (take-across n m w (frames_of c (m * w) bytes) le)
    ∙ ap (λ (k : ℕ). bytes_across k w (frames_across n w (frames_of c (m * w) bytes))) (sym (length-frames c (m * w) bytes))
    ∙ across-fronts n w (frames_of c (m * w) bytes) (long-areas c (m * w) (n * w) bytes few h)

pub first-interleaved : (n m w : ℕ) (bytes : List ℕ) → n ≤ m → bytes_of (take n (frames_of m w bytes)) ≡ take (n * w) bytes
first-interleaved n m w bytes le = ap bytes_of (take-frames_of n m w bytes le) ∙ bytes_of-frames_of n w bytes

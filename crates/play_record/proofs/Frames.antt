-- Frames of bytes, in parts.
use Rattle.std.proofs.Common.{ℕ, zero, suc, ◌≡◌, ◌+◌, ◌-◌, ◌*◌, ◌/◌, ◌<◌, ◌≤◌, List, [], ◌∷◌, ◌++◌, length, take, drop, min, replicate, refl, sym, ap, ◌∙◌, arith, append_assoc, length-take, length-drop, length-append}
use Rattle.std.proofs.Math.Path.{ap₂}
use Rattle.std.proofs.Math.Seq.{take-add}
use Rattle.std.proofs.lemmas.List.{take-append-le}
use Rattle.pcm_base.specs.model.Frame.{Frame, frames_of, bytes_of}
use Rattle.pcm_base.specs.model.Movement.{padded}

drop_none : (n : ℕ) → drop {A = ℕ} n [] ≡ []
drop_none zero = refl
drop_none (suc n) = refl

pub drop-drop : (a b : ℕ) (l : List ℕ) → drop b (drop a l) ≡ drop (a + b) l
drop-drop zero b l = let e : b ≡ 0 + b = omega arith in ap (λ i. drop i l) e
drop-drop (suc a) b [] = drop_none b ∙ sym (drop_none (suc a + b))
drop-drop (suc a) b (x ∷ l) = drop-drop a b l ∙ (let e : suc (a + b) ≡ suc a + b = omega arith in ap (λ i. drop i (x ∷ l)) e)

pub length-frames_of : (n w : ℕ) (bytes : List ℕ) → length (frames_of n w bytes) ≡ n
length-frames_of zero w bytes = refl
length-frames_of (suc n) w bytes = ap suc (length-frames_of n w (drop w bytes))

-- the frames of two parts
pub frames_of-add : (a b w : ℕ) (bytes : List ℕ) → frames_of (a + b) w bytes ≡ frames_of a w bytes ++ frames_of b w (drop (a * w) bytes)
frames_of-add zero b w bytes =
    let e : 0 + b ≡ b = omega arith in
    let f : 0 ≡ 0 * w = omega arith in
    ap (λ n. frames_of n w bytes) e ∙ ap (λ i. frames_of b w (drop i bytes)) f
frames_of-add (suc a) b w bytes =
    let e : suc a + b ≡ suc (a + b) = omega arith in
    let f : w + a * w ≡ suc a * w = omega arith in
    ap (λ n. frames_of n w bytes) e
    ∙ ap (λ l. take w bytes ∷ l) (frames_of-add a b w (drop w bytes) ∙ ap (λ l. frames_of a w (drop w bytes) ++ frames_of b w l) (drop-drop w (a * w) bytes ∙ ap (λ i. drop i bytes) f))

-- the bytes of whole frames
pub bytes_of-frames_of : (n w : ℕ) (bytes : List ℕ) → bytes_of (frames_of n w bytes) ≡ take (n * w) bytes
bytes_of-frames_of zero w bytes = let e : 0 ≡ 0 * w = omega arith in ap (λ i. take i bytes) e
bytes_of-frames_of (suc n) w bytes =
    let e : w + n * w ≡ suc n * w = omega arith in
    ap (λ l. take w bytes ++ l) (bytes_of-frames_of n w (drop w bytes)) ∙ (sym (take-add w (n * w) bytes) ∙ ap (λ i. take i bytes) e)

take-take : (a b : ℕ) (l : List ℕ) → a ≤ b → take a (take b l) ≡ take a l
take-take zero b l h = refl
take-take (suc a) zero l h = absurd (omega (arith, h))
take-take (suc a) (suc b) [] h = refl
take-take (suc a) (suc b) (x ∷ l) h = ap (λ t. x ∷ t) (take-take a b l (omega (arith, h)))

drop-take-more : (a b : ℕ) (l : List ℕ) → drop a (take (a + b) l) ≡ take b (drop a l)
drop-take-more zero b l = let e : 0 + b ≡ b = omega arith in ap (λ i. take i l) e
drop-take-more (suc a) b [] = let e : suc a + b ≡ suc (a + b) = omega arith in ap (λ i. drop (suc a) (take {A = ℕ} i [])) e ∙ none b
  where
    none : (i : ℕ) → [] ≡ take {A = ℕ} i []
    none zero = refl
    none (suc i) = refl
drop-take-more (suc a) b (x ∷ l) = let e : suc a + b ≡ suc (a + b) = omega arith in ap (λ i. drop (suc a) (take i (x ∷ l))) e ∙ drop-take-more a b l

-- the first bytes are enough
pub frames_of-take : (n w : ℕ) (bytes : List ℕ) → frames_of n w (take (n * w) bytes) ≡ frames_of n w bytes
frames_of-take zero w bytes = refl
frames_of-take (suc n) w bytes =
    let e : suc n * w ≡ w + n * w = omega arith in
    ap (λ i. frames_of (suc n) w (take i bytes)) e
    ∙ ap₂ (λ f l. f ∷ l) (take-take w (w + n * w) bytes (omega arith))
    (ap (frames_of n w) (drop-take-more w (n * w) bytes) ∙ frames_of-take n w (drop w bytes))

-- ---- padded frames

-- the first n of frames that go on with z for ever
abbrev first : ℕ → List Frame → Frame → List Frame
first zero fs z = []
first (suc n) [] z = z ∷ first n [] z
first (suc n) (f ∷ fs) z = f ∷ first n fs z

first_is : (n : ℕ) (fs : List Frame) (z : Frame) → first n fs z ≡ padded n fs z
first_is zero [] z = refl
first_is zero (f ∷ fs) z = let e : 0 ≡ 0 - suc (length fs) = omega arith in ap (λ i. replicate i z) e
first_is (suc n) [] z = all (suc n)
  where
    all : (i : ℕ) → first i [] z ≡ padded i [] z
    all zero = refl
    all (suc i) =
        let e : i - 0 ≡ i = omega arith in
        let f : suc i ≡ suc i - 0 = omega arith in
        ap (λ l. z ∷ l) (all i ∙ (none i ∙ ap (λ j. replicate j z) e)) ∙ ap (λ j. replicate j z) f
      where
        none : (j : ℕ) → padded j [] z ≡ replicate (j - 0) z
        none zero = refl
        none (suc j) = refl
first_is (suc n) (f ∷ fs) z = let e : n - length fs ≡ suc n - suc (length fs) = omega arith in ap (λ l. f ∷ l) (first_is n fs z) ∙ ap (λ i. f ∷ (take n fs ++ replicate i z)) e

first-add : (a b : ℕ) (fs : List Frame) (z : Frame) → first (a + b) fs z ≡ first a fs z ++ first b (drop a fs) z
first-add zero b fs z = let e : 0 + b ≡ b = omega arith in ap (λ i. first i fs z) e
first-add (suc a) b [] z =
    let e : suc a + b ≡ suc (a + b) = omega arith in
    ap (λ i. first i [] z) e ∙ (ap (λ l. z ∷ l) (first-add a b [] z ∙ ap (λ l. first a [] z ++ first b l z) (none a)))
  where
    none : (i : ℕ) → drop {A = Frame} i [] ≡ []
    none zero = refl
    none (suc i) = refl
first-add (suc a) b (f ∷ fs) z =
    let e : suc a + b ≡ suc (a + b) = omega arith in
    ap (λ i. first i (f ∷ fs) z) e ∙ ap (λ l. f ∷ l) (first-add a b fs z)

length-first : (n : ℕ) (fs : List Frame) (z : Frame) → length (first n fs z) ≡ n
length-first zero fs z = refl
length-first (suc n) [] z = ap suc (length-first n [] z)
length-first (suc n) (f ∷ fs) z = ap suc (length-first n fs z)

-- padded frames in two parts
pub padded-add : (a b : ℕ) (fs : List Frame) (z : Frame) → padded (a + b) fs z ≡ padded a fs z ++ padded b (drop a fs) z
padded-add a b fs z = sym (first_is (a + b) fs z) ∙ (first-add a b fs z ∙ ap₂ (λ l r. l ++ r) (first_is a fs z) (first_is b (drop a fs) z))

pub length-padded : (n : ℕ) (fs : List Frame) (z : Frame) → length (padded n fs z) ≡ n
length-padded n fs z = ap length (sym (first_is n fs z)) ∙ length-first n fs z

pub drop-drop_frames : (a b : ℕ) (l : List Frame) → drop b (drop a l) ≡ drop (a + b) l
drop-drop_frames zero b l = let e : b ≡ 0 + b = omega arith in ap (λ i. drop i l) e
drop-drop_frames (suc a) b [] = none b ∙ sym (none (suc a + b))
  where
    none : (i : ℕ) → drop {A = Frame} i [] ≡ []
    none zero = refl
    none (suc i) = refl
drop-drop_frames (suc a) b (x ∷ l) = drop-drop_frames a b l ∙ (let e : suc (a + b) ≡ suc a + b = omega arith in ap (λ i. drop i (x ∷ l)) e)

-- the first frames, and zero frames behind them, as bytes
pub bytes_of-replicate : (n w : ℕ) → bytes_of (replicate n (replicate w 0)) ≡ replicate {A = ℕ} (n * w) 0
bytes_of-replicate zero w = let e : 0 ≡ 0 * w = omega arith in ap (λ i. replicate {A = ℕ} i 0) e
bytes_of-replicate (suc n) w =
    let e : w + n * w ≡ suc n * w = omega arith in
    ap (λ l. replicate w 0 ++ l) (bytes_of-replicate n w) ∙ (sym (more w (n * w)) ∙ ap (λ i. replicate {A = ℕ} i 0) e)
  where
    more : (a b : ℕ) → replicate {A = ℕ} (a + b) 0 ≡ replicate a 0 ++ replicate b 0
    more zero b = let e : 0 + b ≡ b = omega arith in ap (λ i. replicate {A = ℕ} i 0) e
    more (suc a) b = let e : suc a + b ≡ suc (a + b) = omega arith in ap (λ i. replicate {A = ℕ} i 0) e ∙ ap (λ l. 0 ∷ l) (more a b)

pub bytes_of-append : (fs gs : List Frame) → bytes_of (fs ++ gs) ≡ bytes_of fs ++ bytes_of gs
bytes_of-append [] gs = refl
bytes_of-append (f ∷ fs) gs = ap (λ l. f ++ l) (bytes_of-append fs gs) ∙ sym (append_assoc f (bytes_of fs) (bytes_of gs))

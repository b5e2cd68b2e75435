-- Where the frames of a transfer lie in its bytes.
use Rattle.std.proofs.Common.{◌≡◌, ℕ, zero, suc, ◌+◌, ◌-◌, ◌*◌, ◌/◌, ◌%◌, ◌<◌, ◌≤◌, List, [], ◌∷◌, ◌++◌, length, take, drop, map, refl, sym, ap, ◌∙◌, subst, arith, append_assoc, append-nil, length-take, length-drop, length-append}
use Rattle.std.proofs.Math.Nat.{mul-div_cancel_left}
use Rattle.std.proofs.Math.Path.{ap₂}
use Rattle.std.proofs.Math.Seq.{take-add}
use Rattle.std.proofs.lemmas.List.{length-map, map-append, take-append-drop}
use Rattle.std.proofs.lemmas.Nat.{div-add-mod'}
use Rattle.pcm_base.specs.declared.call.Layout.{Layout}
use Rattle.pcm_base.specs.declared.call.Layout.TheVariants as layout
use Rattle.pcm_base.specs.declared.config.Shape.{Shape}
use Rattle.pcm_base.specs.model.Frame.{Frame, bytes_across, bytes_of, frames_across, frames_of, planar_frames}
use Rattle.pcm_base.specs.model.Replay.{bytes_by}
use Rattle.pcm_base.specs.model.Stream.{Stream}
use Rattle.pcm_base.specs.model.Transfer.{channels_of, frames_by}
use Rattle.ring_memory.specs.Round.{over, part}
use Rattle.room_lock.specs.Moved.{part_by, parts}
use Rattle.room_lock.specs.Shaped.{IsSized}

-- ---- lists

take-front : {A : Type 0} (n : ℕ) (xs ys : List A) → length xs ≡ n → take n (xs ++ ys) ≡ xs
take-front zero [] ys e = refl
take-front zero (x ∷ xs) ys e = absurd (let no : ⊥ = omega (arith, e) in no)
take-front (suc n) [] ys e = absurd (let no : ⊥ = omega (arith, e) in no)
take-front {A} (suc n) (x ∷ xs) ys e = ap (λ (zs : List A). x ∷ zs) (take-front n xs ys (omega (arith, e)))

drop-front : {A : Type 0} (n : ℕ) (xs ys : List A) → length xs ≡ n → drop n (xs ++ ys) ≡ ys
drop-front zero [] ys e = refl
drop-front zero (x ∷ xs) ys e = absurd (let no : ⊥ = omega (arith, e) in no)
drop-front (suc n) [] ys e = absurd (let no : ⊥ = omega (arith, e) in no)
drop-front (suc n) (x ∷ xs) ys e = drop-front n xs ys (omega (arith, e))

drop-none : {A : Type 0} (n : ℕ) → drop {A = A} n [] ≡ []
drop-none zero = refl
drop-none (suc n) = refl

drop-more : {A : Type 0} (n k : ℕ) (xs : List A) → drop k (drop n xs) ≡ drop (n + k) xs
drop-more zero k xs = let e : k ≡ 0 + k = omega arith in ap (λ (i : ℕ). drop i xs) e
drop-more (suc n) k [] = drop-none k ∙ sym (drop-none (suc n + k))
drop-more (suc n) k (x ∷ xs) = let e : suc (n + k) ≡ suc n + k = omega arith in drop-more n k xs ∙ ap (λ (i : ℕ). drop i (x ∷ xs)) e

pub bytes-both : (fs gs : List Frame) → bytes_of (fs ++ gs) ≡ bytes_of fs ++ bytes_of gs
bytes-both [] gs = refl
bytes-both (f ∷ fs) gs = ap (λ (l : List ℕ). f ++ l) (bytes-both fs gs) ∙ sym (append_assoc f (bytes_of fs) (bytes_of gs))

-- ---- frame after frame

bytes-frames : (n w : ℕ) (xs : List ℕ) → bytes_of (frames_of n w xs) ≡ take (n * w) xs
bytes-frames zero w xs = let e : 0 ≡ 0 * w = omega arith in ap (λ (k : ℕ). take k xs) e
bytes-frames (suc n) w xs =
    let e : w + n * w ≡ suc n * w = omega arith in
    ap (λ (ys : List ℕ). take w xs ++ ys) (bytes-frames n w (drop w xs)) ∙ sym (take-add w (n * w) xs) ∙ ap (λ (k : ℕ). take k xs) e

drop-frames : (f m b : ℕ) (io : List ℕ) → drop f (frames_of (f + m) b io) ≡ frames_of m b (drop (f * b) io)
drop-frames zero m b io = let e : 0 + m ≡ m = omega arith in let z : 0 ≡ 0 * b = omega arith in ap (λ (k : ℕ). frames_of k b io) e ∙ ap (λ (k : ℕ). frames_of m b (drop k io)) z
drop-frames (suc f) m b io =
    let e : suc f + m ≡ suc (f + m) = omega arith in
    let z : b + f * b ≡ suc f * b = omega arith in
    ap (λ (k : ℕ). drop (suc f) (frames_of k b io)) e ∙ drop-frames f m b (drop b io) ∙ ap (frames_of m b) (drop-more b (f * b) io ∙ ap (λ (k : ℕ). drop k io) z)

take-frames : (n m b : ℕ) (io : List ℕ) → take n (frames_of (n + m) b io) ≡ frames_of n b io
take-frames zero m b io = refl
take-frames (suc n) m b io = let e : suc n + m ≡ suc (n + m) = omega arith in ap (λ (k : ℕ). take (suc n) (frames_of k b io)) e ∙ ap (λ (l : List Frame). take b io ∷ l) (take-frames n m b (drop b io))

-- the bytes of the n frames from the f-th on, of f + (n + k)
middle-frames : (f n k b : ℕ) (io : List ℕ) → bytes_of (take n (drop f (frames_of (f + (n + k)) b io))) ≡ part (f * b) (n * b) io
middle-frames f n k b io =
    ap (λ (l : List Frame). bytes_of (take n l)) (drop-frames f (n + k) b io) ∙ ap bytes_of (take-frames n k b (drop (f * b) io)) ∙ bytes-frames n b (drop (f * b) io)

-- n bytes behind p others
part-middle : (p q : ℕ) (xs ys zs : List ℕ) → length xs ≡ p → length ys ≡ q → part p q (xs ++ (ys ++ zs)) ≡ ys
part-middle p q xs ys zs e f = ap (take q) (drop-front p xs (ys ++ zs) e) ∙ take-front q ys zs f

pub split : (f n k b : ℕ) → (f + (n + k)) * b ≡ f * b + (n * b + k * b)
split f n k b = grind arith

middle-over : (f k b : ℕ) (fs : List Frame) (io : List ℕ) → length io ≡ (f + (length fs + k)) * b → length (bytes_of (over f fs (frames_of (f + (length fs + k)) b io))) ≡ length io
    → part (f * b) (length fs * b) (bytes_of (over f fs (frames_of (f + (length fs + k)) b io))) ≡ bytes_of fs
middle-over f k b fs io size same =
    let n : ℕ = length fs in
    let ys : List Frame = frames_of (f + (n + k)) b io in
    let first : bytes_of (take f ys) ≡ take (f * b) io = ap bytes_of (take-frames f (n + k) b io) ∙ bytes-frames f b io in
    let again : f + (n + k) ≡ (f + n) + k = omega arith in
    let last : bytes_of (drop (f + n) ys) ≡ take (k * b) (drop ((f + n) * b) io) = ap (λ (j : ℕ). bytes_of (drop (f + n) (frames_of j b io))) again ∙ ap bytes_of (drop-frames (f + n) k b io) ∙ bytes-frames k b (drop ((f + n) * b) io) in
    let is : bytes_of (over f fs ys) ≡ bytes_of (take f ys) ++ (bytes_of fs ++ bytes_of (drop (f + n) ys)) = bytes-both (take f ys) (fs ++ drop (f + n) ys) ∙ ap (λ (l : List ℕ). bytes_of (take f ys) ++ l) (bytes-both fs (drop (f + n) ys)) in
    let sum : (f + (n + k)) * b ≡ f * b + (n * b + k * b) = split f n k b in
    let front : (f + n) * b ≡ f * b + n * b = grind arith in
    let one : length (bytes_of (take f ys)) ≡ f * b = (let t = length-take (f * b) io in let a = ap length first in omega (arith, t, a, size, sum)) in
    let three : length (bytes_of (drop (f + n) ys)) ≡ k * b = (let t = length-take (k * b) (drop ((f + n) * b) io) in let d = length-drop ((f + n) * b) io in let a = ap length last in omega (arith, t, d, a, size, sum, front)) in
    let whole = ap length is ∙ length-append (bytes_of (take f ys)) (bytes_of fs ++ bytes_of (drop (f + n) ys)) in
    let rest = length-append (bytes_of fs) (bytes_of (drop (f + n) ys)) in
    let two : length (bytes_of fs) ≡ n * b = omega (arith, whole, rest, one, three, size, sum, same) in
    ap (part (f * b) (n * b)) is ∙ part-middle (f * b) (n * b) (bytes_of (take f ys)) (bytes_of fs) (bytes_of (drop (f + n) ys)) one two

-- ---- channel after channel

heads-size : (w : ℕ) (gs : List Frame) → length (bytes_of (map (take w) gs)) ≤ length gs * w
heads-size w [] = omega arith
heads-size w (g ∷ gs) =
    let t = length-take w g in
    let r = heads-size w gs in
    let a = length-append (take w g) (bytes_of (map (take w) gs)) in
    let m : suc (length gs) * w ≡ w + length gs * w = omega arith in
    omega (arith, t, r, a, m)

across-size : (c w : ℕ) (gs : List Frame) → length (bytes_across c w gs) ≤ c * (length gs * w)
across-size zero w gs = omega arith
across-size (suc c) w gs =
    let h = heads-size w gs in
    let r = across-size c w (map (drop w) gs) in
    let n = length-map gs (drop w) in
    let e : c * (length (map (drop w) gs) * w) ≡ c * (length gs * w) = ap (λ (k : ℕ). c * (k * w)) n in
    let a = length-append (bytes_of (map (take w) gs)) (bytes_across c w (map (drop w) gs)) in
    let m : suc c * (length gs * w) ≡ length gs * w + c * (length gs * w) = omega arith in
    omega (arith, h, r, e, a, m)

pub parts-across : (c w a b k : ℕ) (us vs ws : List Frame) → length us ≡ a → length vs ≡ b → length ws ≡ k → length (bytes_across c w (us ++ (vs ++ ws))) ≡ c * ((a + (b + k)) * w)
    → parts c ((a + (b + k)) * w) (a * w) (b * w) (bytes_across c w (us ++ (vs ++ ws))) ≡ bytes_across c w vs
parts-across zero w a b k us vs ws ea eb ek size = refl
parts-across (suc c) w a b k us vs ws ea eb ek size =
    let heads : List Frame → List ℕ = λ fs. bytes_of (map (take w) fs) in
    let tails : List Frame → List Frame = map (drop w) in
    let all : List Frame = us ++ (vs ++ ws) in
    let total : ℕ = (a + (b + k)) * w in
    let is : heads all ≡ heads us ++ (heads vs ++ heads ws) =
    ap bytes_of (map-append (take w) us (vs ++ ws) ∙ ap (λ (l : List Frame). map (take w) us ++ l) (map-append (take w) vs ws))
    ∙ bytes-both (map (take w) us) (map (take w) vs ++ map (take w) ws) ∙ ap (λ (l : List ℕ). heads us ++ l) (bytes-both (map (take w) vs) (map (take w) ws)) in
    let on : tails all ≡ tails us ++ (tails vs ++ tails ws) = map-append (drop w) us (vs ++ ws) ∙ ap (λ (l : List Frame). tails us ++ l) (map-append (drop w) vs ws) in
    let sa : length (heads us) ≤ a * w = subst (λ (n : ℕ). length (heads us) ≤ n * w) ea (heads-size w us) in
    let sb : length (heads vs) ≤ b * w = subst (λ (n : ℕ). length (heads vs) ≤ n * w) eb (heads-size w vs) in
    let sk : length (heads ws) ≤ k * w = subst (λ (n : ℕ). length (heads ws) ≤ n * w) ek (heads-size w ws) in
    let many : length (tails all) ≡ a + (b + k) = length-map all (drop w) ∙ (let p = length-append us (vs ++ ws) in let q = length-append vs ws in omega (arith, p, q, ea, eb, ek)) in
    let sr : length (bytes_across c w (tails all)) ≤ c * total = subst (λ (n : ℕ). length (bytes_across c w (tails all)) ≤ c * (n * w)) many (across-size c w (tails all)) in
    let sum : total ≡ a * w + (b * w + k * w) = split a b k w in
    let p = length-append (heads all) (bytes_across c w (tails all)) in
    let q = ap length is ∙ length-append (heads us) (heads vs ++ heads ws) in
    let r = length-append (heads vs) (heads ws) in
    let m : suc c * total ≡ total + c * total = omega arith in
    let xa : length (heads us) ≡ a * w = omega (arith, sa, sb, sk, sr, sum, p, q, r, m, size) in
    let xb : length (heads vs) ≡ b * w = omega (arith, sa, sb, sk, sr, sum, p, q, r, m, size) in
    let xh : length (heads all) ≡ total = omega (arith, sa, sb, sk, sr, sum, p, q, r, m, size) in
    let xr : length (bytes_across c w (tails all)) ≡ c * total = omega (arith, sa, sb, sk, sr, sum, p, q, r, m, size) in
    let first : part (a * w) (b * w) (heads all ++ bytes_across c w (tails all)) ≡ heads vs =
    ap (λ (l : List ℕ). part (a * w) (b * w) (l ++ bytes_across c w (tails all))) is
    ∙ ap (part (a * w) (b * w)) (append_assoc (heads us) (heads vs ++ heads ws) (bytes_across c w (tails all)) ∙ ap (λ (l : List ℕ). heads us ++ l) (append_assoc (heads vs) (heads ws) (bytes_across c w (tails all))))
    ∙ part-middle (a * w) (b * w) (heads us) (heads vs) (heads ws ++ bytes_across c w (tails all)) xa xb in
    let next : parts c total (a * w) (b * w) (drop total (heads all ++ bytes_across c w (tails all))) ≡ bytes_across c w (tails vs) =
    ap (parts c total (a * w) (b * w)) (drop-front total (heads all) (bytes_across c w (tails all)) xh ∙ ap (bytes_across c w) on)
    ∙ parts-across c w a b k (tails us) (tails vs) (tails ws) (length-map us (drop w) ∙ ea) (length-map vs (drop w) ∙ eb) (length-map ws (drop w) ∙ ek) (ap (λ (l : List Frame). length (bytes_across c w l)) (sym on) ∙ xr) in
    ap₂ (λ (x y : List ℕ). x ++ y) first next

-- planar bytes are those of their frames

firsts : (n w : ℕ) (x : List ℕ) (xs : List (List ℕ)) → n * w ≤ length x → map (take w) (frames_across n w (x ∷ xs)) ≡ frames_of n w x
firsts zero w x xs le = refl
firsts (suc n) w x xs le =
    let more : suc n * w ≡ w + n * w = omega arith in
    ap₂ (λ (y : Frame) (ys : List Frame). y ∷ ys) (take-front w (take w x) (bytes_of (map (take w) xs)) (omega (arith, length-take w x, le, more)))
    (firsts n w (drop w x) (map (drop w) xs) (omega (arith, length-drop w x, le, more)))

others : (n w : ℕ) (x : List ℕ) (xs : List (List ℕ)) → n * w ≤ length x → map (drop w) (frames_across n w (x ∷ xs)) ≡ frames_across n w xs
others zero w x xs le = refl
others (suc n) w x xs le =
    let more : suc n * w ≡ w + n * w = omega arith in
    ap₂ (λ (y : Frame) (ys : List Frame). y ∷ ys) (drop-front w (take w x) (bytes_of (map (take w) xs)) (omega (arith, length-take w x, le, more)))
    (others n w (drop w x) (map (drop w) xs) (omega (arith, length-drop w x, le, more)))

across-back : (c m w : ℕ) (io : List ℕ) → length io ≡ c * (m * w) → bytes_across c w (frames_across m w (frames_of c (m * w) io)) ≡ io
across-back zero m w [] size = refl
across-back zero m w (x ∷ io) size = absurd (let no : ⊥ = omega (arith, size) in no)
across-back (suc c) m w io size =
    let area : List ℕ = take (m * w) io in
    let rest : List (List ℕ) = frames_of c (m * w) (drop (m * w) io) in
    let more : suc c * (m * w) ≡ m * w + c * (m * w) = omega arith in
    let t = length-take (m * w) io in
    let long : m * w ≤ length area = omega (arith, t, size, more) in
    let d = length-drop (m * w) io in
    let left : length (drop (m * w) io) ≡ c * (m * w) = omega (arith, d, size, more) in
    let whole : take (m * w) area ≡ area = (let z : length area ≡ m * w = omega (arith, t, size, more) in ap (take (m * w)) (sym (append-nil area)) ∙ take-front (m * w) area [] z) in
    ap₂ (λ (x y : List ℕ). x ++ y) (ap bytes_of (firsts m w area rest long) ∙ bytes-frames m w area ∙ whole) (ap (bytes_across c w) (others m w area rest long) ∙ across-back c m w (drop (m * w) io) left)
    ∙ take-append-drop (m * w) io

-- ---- both layouts

-- the frames of whole bytes, f of them, then n and k more
pub record AreSplit (h : Shape) (f n : ℕ) (io : List ℕ) : Type 0 where
  pub k : ℕ
  pub count : length io / h.frame_bytes ≡ f + (n + k)
  pub size : length io ≡ (f + (n + k)) * h.frame_bytes
  pub planar : length io ≡ h.channels * ((f + (n + k)) * (h.frame_bytes / h.channels))
  pub area : length io / h.channels ≡ (f + (n + k)) * (h.frame_bytes / h.channels)

pub split-of : (h : Shape) (f n : ℕ) (io : List ℕ) → h.frame_bytes % h.channels ≡ 0 → 0 < h.channels → length io % h.frame_bytes ≡ 0 → f + n ≤ length io / h.frame_bytes → AreSplit h f n io
split-of h f n io samples one whole le =
    let b : ℕ = h.frame_bytes in
    let c : ℕ = h.channels in
    let w : ℕ = b / c in
    let m : ℕ = length io / b in
    let k : ℕ = m - (f + n) in
    let count : m ≡ f + (n + k) = omega (arith, le) in
    let size : length io ≡ m * b = omega (arith, div-add-mod' (length io) b, whole) in
    let sample : w * c ≡ b = omega (arith, div-add-mod' b c, samples) in
    let swap : m * (w * c) ≡ c * (m * w) = grind arith in
    let planar : length io ≡ c * (m * w) = size ∙ ap (λ (x : ℕ). m * x) (sym sample) ∙ swap in
    let area : length io / c ≡ m * w = ap (λ (x : ℕ). x / c) planar ∙ mul-div_cancel_left (m * w) one in
    record {
      k = k;
      count = count;
      size = size ∙ ap (λ (x : ℕ). x * b) count;
      planar = planar ∙ ap (λ (x : ℕ). c * (x * w)) count;
      area = area ∙ ap (λ (x : ℕ). x * w) count;
    }

count-frames : (n w : ℕ) (bytes : List ℕ) → length (frames_of n w bytes) ≡ n
count-frames zero w bytes = refl
count-frames (suc n) w bytes = ap suc (count-frames n w (drop w bytes))

count-planar : (n w : ℕ) (areas : List (List ℕ)) → length (frames_across n w areas) ≡ n
count-planar zero w areas = refl
count-planar (suc n) w areas = ap suc (count-planar n w (map (drop w) areas))

-- the frames of these bytes with others over some of them, in three parts
three : {A : Type 0} (f n k : ℕ) (gs : List A) → length gs ≡ f + (n + k) → (length (take f gs) ≡ f) × (length (take n (drop f gs)) ≡ n) × (length (drop (f + n) gs) ≡ k)
three f n k gs e =
    let a = length-take f gs in
    let b = length-take n (drop f gs) in
    let d = length-drop f gs in
    let g = length-drop (f + n) gs in
    (omega (arith, a, e), omega (arith, b, d, e), omega (arith, g, e))

whole-again : {A : Type 0} (f n : ℕ) (gs : List A) → take f gs ++ (take n (drop f gs) ++ drop (f + n) gs) ≡ gs
whole-again {A} f n gs =
    ap (λ (l : List A). take f gs ++ (take n (drop f gs) ++ l)) (sym (drop-more f n gs)) ∙ ap (λ (l : List A). take f gs ++ l) (take-append-drop n (drop f gs)) ∙ take-append-drop f gs

-- n frames of whole bytes from the f-th on lie in them at that place
pub part-written : (l : Layout) (s : Stream) (h : Shape) (f n : ℕ) (io : List ℕ) → IsSized s h → length io % h.frame_bytes ≡ 0 → f + n ≤ length io / h.frame_bytes
    → bytes_by l s (take n (drop f (frames_by l s io))) ≡ part_by l h f n io
part-written layout.Interleaved s h f n io z whole le =
    let t = split-of h f n io z.samples z.one whole le in
    let b : ℕ = h.frame_bytes in
    ap (λ (x : ℕ). bytes_of (take n (drop f (frames_of (length io / x) x io)))) z.frame
    ∙ ap (λ (x : ℕ). bytes_of (take n (drop f (frames_of x b io)))) t.count
    ∙ middle-frames f n t.k b io
part-written layout.Planar s h f n io z whole le =
    let t = split-of h f n io z.samples z.one whole le in
    let b : ℕ = h.frame_bytes in
    let c : ℕ = h.channels in
    let w : ℕ = b / c in
    let m : ℕ = f + (n + t.k) in
    let gs : List Frame = planar_frames m c w io in
    let e = three f n t.k gs (count-planar m w (frames_of c (m * w) io)) in
    let back : bytes_across c w gs ≡ io = across-back c m w io t.planar in
    let again = whole-again f n gs in
    let size : length (bytes_across c w (take f gs ++ (take n (drop f gs) ++ drop (f + n) gs))) ≡ c * (m * w) = ap (λ (x : List Frame). length (bytes_across c w x)) again ∙ ap length back ∙ t.planar in
    ap (λ (x : ℕ). bytes_across (channels_of s.setup.config) (x / channels_of s.setup.config) (take n (drop f (planar_frames (length io / x) (channels_of s.setup.config) (x / channels_of s.setup.config) io)))) z.frame
    ∙ ap (λ (x : ℕ). bytes_across x (b / x) (take n (drop f (planar_frames (length io / b) x (b / x) io)))) z.channels
    ∙ ap (λ (x : ℕ). bytes_across c w (take n (drop f (planar_frames x c w io)))) t.count
    ∙ sym (parts-across c w f n t.k (take f gs) (take n (drop f gs)) (drop (f + n) gs) e.0 e.1 e.2 size)
    ∙ ap (λ (x : List Frame). parts c (m * w) (f * w) (n * w) (bytes_across c w x)) again
    ∙ ap (parts c (m * w) (f * w) (n * w)) back
    ∙ ap (λ (x : ℕ). parts c x (f * w) (n * w) io) (sym t.area)

-- frames that were written over those of whole bytes from the f-th on lie there at that place
pub part-read : (l : Layout) (s : Stream) (h : Shape) (f : ℕ) (fs : List Frame) (io out : List ℕ) → IsSized s h → length io % h.frame_bytes ≡ 0 → f + length fs ≤ length io / h.frame_bytes
    → out ≡ bytes_by l s (over f fs (frames_by l s io)) → length out ≡ length io → bytes_by l s fs ≡ part_by l h f (length fs) out
part-read layout.Interleaved s h f fs io out z whole le is same =
    let n : ℕ = length fs in
    let t = split-of h f n io z.samples z.one whole le in
    let b : ℕ = h.frame_bytes in
    let m : ℕ = f + (n + t.k) in
    let now : out ≡ bytes_of (over f fs (frames_of m b io)) =
    is ∙ ap (λ (x : ℕ). bytes_of (over f fs (frames_of (length io / x) x io))) z.frame ∙ ap (λ (x : ℕ). bytes_of (over f fs (frames_of x b io))) t.count in
    sym (ap (part (f * b) (n * b)) now ∙ middle-over f t.k b fs io t.size (ap length (sym now) ∙ same))
part-read layout.Planar s h f fs io out z whole le is same =
    let n : ℕ = length fs in
    let t = split-of h f n io z.samples z.one whole le in
    let b : ℕ = h.frame_bytes in
    let c : ℕ = h.channels in
    let w : ℕ = b / c in
    let m : ℕ = f + (n + t.k) in
    let gs : List Frame = planar_frames m c w io in
    let e = three f n t.k gs (count-planar m w (frames_of c (m * w) io)) in
    let now : out ≡ bytes_across c w (over f fs gs) =
    is ∙ ap (λ (x : ℕ). bytes_across (channels_of s.setup.config) (x / channels_of s.setup.config) (over f fs (planar_frames (length io / x) (channels_of s.setup.config) (x / channels_of s.setup.config) io))) z.frame
    ∙ ap (λ (x : ℕ). bytes_across x (b / x) (over f fs (planar_frames (length io / b) x (b / x) io))) z.channels
    ∙ ap (λ (x : ℕ). bytes_across c w (over f fs (planar_frames x c w io))) t.count in
    let area : length out / c ≡ m * w = ap (λ (x : ℕ). x / c) same ∙ t.area in
    let size : length (bytes_across c w (take f gs ++ (fs ++ drop (f + n) gs))) ≡ c * (m * w) = ap length (sym now) ∙ same ∙ t.planar in
    ap (λ (x : ℕ). bytes_across (channels_of s.setup.config) (x / channels_of s.setup.config) fs) z.frame
    ∙ ap (λ (x : ℕ). bytes_across x (b / x) fs) z.channels
    ∙ sym (parts-across c w f n t.k (take f gs) fs (drop (f + n) gs) e.0 refl e.2 size)
    ∙ ap (parts c (m * w) (f * w) (n * w)) (sym now)
    ∙ ap (λ (x : ℕ). parts c x (f * w) (n * w) out) (sym area)

-- ---- room

pub parts-step : (n area from size : ℕ) (bytes : List ℕ) → 0 < n → parts n area from size bytes ≡ part from size bytes ++ parts (n - 1) area from size (drop area bytes)
parts-step zero area from size bytes h = absurd (let no : ⊥ = omega (arith, h) in no)
parts-step (suc n) area from size bytes h = let e : n ≡ suc n - 1 = omega arith in ap (λ (k : ℕ). part from size bytes ++ parts k area from size (drop area bytes)) e

pub one-less : (n a : ℕ) → 0 < n → n * a ≡ a + (n - 1) * a
one-less zero a h = absurd (let no : ⊥ = omega (arith, h) in no)
one-less (suc n) a h = let e : suc n - 1 ≡ n = omega arith in let m : suc n * a ≡ a + n * a = omega arith in m ∙ ap (λ (k : ℕ). a + k * a) (sym e)

pub fits-interleaved : (f n b size : ℕ) → f + n ≤ size / b → f * b + n * b ≤ size
fits-interleaved f n b size le =
    let m : ℕ = size / b in
    let k : ℕ = m - (f + n) in
    let count : m ≡ f + (n + k) = omega (arith, le) in
    let e : m * b ≡ f * b + (n * b + k * b) = ap (λ (x : ℕ). x * b) count ∙ split f n k b in
    let whole = div-add-mod' size b in
    omega (arith, e, whole)

pub fits-planar : (h : Shape) (f n : ℕ) (io : List ℕ) → h.frame_bytes % h.channels ≡ 0 → 0 < h.channels → length io % h.frame_bytes ≡ 0 → f + n ≤ length io / h.frame_bytes
    → f * (h.frame_bytes / h.channels) + n * (h.frame_bytes / h.channels) ≤ length io / h.channels
fits-planar h f n io samples one whole le =
    let t = split-of h f n io samples one whole le in
    let e = split f n t.k (h.frame_bytes / h.channels) in
    let a = t.area in
    omega (arith, e, a)

pub room-planar : (h : Shape) (f n : ℕ) (io : List ℕ) → h.frame_bytes % h.channels ≡ 0 → 0 < h.channels → length io % h.frame_bytes ≡ 0 → f + n ≤ length io / h.frame_bytes
    → h.channels * (n * (h.frame_bytes / h.channels)) ≤ length io
room-planar h f n io samples one whole le =
    let t = split-of h f n io samples one whole le in
    let w : ℕ = h.frame_bytes / h.channels in
    let c : ℕ = h.channels in
    let e : c * ((f + (n + t.k)) * w) ≡ c * (f * w) + (c * (n * w) + c * (t.k * w)) = (let k : ℕ = t.k in let z : c * ((f + (n + k)) * w) ≡ c * (f * w) + (c * (n * w) + c * (k * w)) = grind arith in z) in
    let a = t.planar in
    omega (arith, e, a)

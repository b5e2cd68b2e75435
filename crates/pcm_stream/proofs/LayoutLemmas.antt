-- The frames in a transfer's bytes, by how they lie there.
use Rattle.std.proofs.Common.{ℕ, zero, suc, ◌≡◌, ◌+◌, ◌-◌, ◌*◌, ◌/◌, ◌<◌, ◌≤◌, List, [], ◌∷◌, length, take, drop, map, refl, sym, ap, ◌∙◌, subst, arith, length-take, length-drop}
use Rattle.std.proofs.lemmas.List.{take-take, drop-take, drop-drop, length-map}
use Rattle.std.proofs.lemmas.Nat.{div-add-mod'}
use Rattle.std.proofs.Math.Nat.{div-mul-le_self, mul-div_cancel, mul-le-mul_right}
use Rattle.pcm_base.specs.declared.call.Layout.{Layout}
use Rattle.pcm_base.specs.declared.call.Layout.TheVariants as layout
use Rattle.pcm_base.specs.declared.config.Shape.{Shape}
use Rattle.pcm_base.specs.model.Frame.{Frame, frames_of, frames_across, planar_frames}
use Rattle.pcm_base.specs.model.Stream.{Stream}
use Rattle.pcm_base.specs.model.Transfer.{channels_of, frames_by}
use Rattle.ring_memory.specs.Ring.{frames_across_in, frames_in}
use Rattle.pcm_stream.specs.declared.runtime.Runtime.{Runtime}
use Rattle.pcm_stream.specs.Runs.{RunsFor}
use Rattle.pcm_stream.specs.Wide.{AreWide}
use Rattle.pcm_stream.proofs.MoveLemmas.{AreWide-take, AreWide-drop}
use Rattle.pcm_stream.proofs.RunsLemmas.{AreWide-frames_of, length-frames_of}
use Rattle.pcm_stream.proofs.SlotLemmas.{length-bytes_of}

-- ---- frame after frame

pub frames_of-take : (a k w : ℕ) (xs : List ℕ) → a * w ≤ k → frames_of a w (take k xs) ≡ frames_of a w xs
frames_of-take zero k w xs h = refl
frames_of-take (suc a) k w xs h =
    let split : k ≡ w + (k - w) = omega arith in
    ap (λ f. f ∷ frames_of a w (drop w (take k xs))) (take-take w k xs (omega arith))
    ∙ (ap (λ n. take w xs ∷ frames_of a w (drop w (take n xs))) split
    ∙ (ap (λ zs. take w xs ∷ frames_of a w zs) (drop-take w (k - w) xs)
    ∙ ap (λ fs. take w xs ∷ fs) (frames_of-take a (k - w) w (drop w xs) (omega arith))))

pub take-frames_of : (a n w : ℕ) (xs : List ℕ) → a ≤ n → take a (frames_of n w xs) ≡ frames_of a w xs
take-frames_of zero n w xs h = refl
take-frames_of (suc a) zero w xs h = absurd (omega arith)
take-frames_of (suc a) (suc n) w xs h = ap (λ fs. take w xs ∷ fs) (take-frames_of a n w (drop w xs) (omega arith))

pub drop-frames_of : (a n w : ℕ) (xs : List ℕ) → drop a (frames_of n w xs) ≡ frames_of (n - a) w (drop (a * w) xs)
drop-frames_of zero n w xs =
    let same : n ≡ n - 0 = omega arith in
    let none : 0 ≡ 0 * w = omega arith in
    ap (λ m. frames_of m w xs) same ∙ ap (λ k. frames_of (n - 0) w (drop k xs)) none
drop-frames_of (suc a) zero w xs =
    let none : 0 ≡ 0 - suc a = omega arith in
    ap (λ m. frames_of m w (drop (suc a * w) xs)) none
drop-frames_of (suc a) (suc n) w xs =
    let less : n - a ≡ suc n - suc a = omega arith in
    let more : w + a * w ≡ suc a * w = omega arith in
    drop-frames_of a n w (drop w xs)
    ∙ (ap (λ zs. frames_of (n - a) w zs) (drop-drop (a * w) w xs)
    ∙ (ap (λ m. frames_of m w (drop (w + a * w) xs)) less ∙ ap (λ k. frames_of (suc n - suc a) w (drop k xs)) more))

-- so many frames, from the first on, are those in their bytes
pub part-frames_of : (first count n w : ℕ) (xs : List ℕ) → first + count ≤ n → frames_of count w (take (count * w) (drop (first * w) xs)) ≡ take count (drop first (frames_of n w xs))
part-frames_of first count n w xs h =
    frames_of-take count (count * w) w (drop (first * w) xs) (omega arith)
    ∙ sym (ap (take count) (drop-frames_of first n w xs) ∙ take-frames_of count (n - first) w (drop (first * w) xs) (omega arith))

-- where the bytes of such frames end
pub part_fits : (first count n w : ℕ) → first + count ≤ n / w → first * w + count * w ≤ n
part_fits first count n w h =
    let fewer : (first + count) * w ≤ n / w * w = mul-le-mul_right w h in
    let whole : n / w * w ≤ n = div-mul-le_self n w in
    grind (arith, fewer, whole)

-- ---- channel after channel

length-frames_across : (n w : ℕ) (areas : List (List ℕ)) → length (frames_across n w areas) ≡ n
length-frames_across zero w areas = refl
length-frames_across (suc n) w areas = ap suc (length-frames_across n w (map (drop w) areas))

AreWide-heads : (v m : ℕ) (areas : List (List ℕ)) → v ≤ m → AreWide m areas → AreWide v (map (take v) areas)
AreWide-heads v m [] h k = tt
AreWide-heads v m (a ∷ areas) h k = ((omega (arith, length-take v a, k.0)), AreWide-heads v m areas h k.1)

AreWide-tails : (v m n : ℕ) (areas : List (List ℕ)) → m ≡ v + n → AreWide m areas → AreWide n (map (drop v) areas)
AreWide-tails v m n [] h k = tt
AreWide-tails v m n (a ∷ areas) h k = ((omega (arith, length-drop v a, k.0)), AreWide-tails v m n areas h k.1)

AreWide-across : (n v : ℕ) (areas : List (List ℕ)) → AreWide (n * v) areas → AreWide (length areas * v) (frames_across n v areas)
AreWide-across zero v areas h = tt
AreWide-across (suc n) v areas h =
    let more : suc n * v ≡ v + n * v = omega arith in
    let heads : AreWide v (map (take v) areas) = AreWide-heads v (suc n * v) areas (omega arith) h in
    let rest : AreWide (length (map (drop v) areas) * v) (frames_across n v (map (drop v) areas)) = AreWide-across n v (map (drop v) areas) (AreWide-tails v (suc n * v) (n * v) areas more h) in (
      length-bytes_of v (map (take v) areas) heads ∙ ap (λ x. x * v) (length-map areas (take v)),
      subst (λ (x : ℕ). AreWide (x * v) (frames_across n v (map (drop v) areas))) (length-map areas (drop v)) rest,
    )

AreWide-planar : (n c v : ℕ) (bytes : List ℕ) → n * (c * v) ≤ length bytes → AreWide (c * v) (planar_frames n c v bytes)
AreWide-planar n c v bytes h =
    let room : c * (n * v) ≤ length bytes = grind (arith, h) in
    subst (λ (x : ℕ). AreWide (x * v) (planar_frames n c v bytes)) (length-frames_of c (n * v) bytes)
    (AreWide-across n v (frames_of c (n * v) bytes) (AreWide-frames_of c (n * v) bytes room))

-- ---- by layout

pub length-by : (w : Layout) (s : Stream) (io : List ℕ) → length (frames_by w s io) ≡ length io / s.setup.frame_bytes
length-by layout.Interleaved s io = length-frames_of (length io / s.setup.frame_bytes) s.setup.frame_bytes io
length-by layout.Planar s io = length-frames_across (length io / s.setup.frame_bytes) (s.setup.frame_bytes / channels_of s.setup.config) _

-- as many frames as were asked for
pub length-part : (w : Layout) (s : Stream) (io : List ℕ) (first count b : ℕ) → s.setup.frame_bytes ≡ b → first + count ≤ length io / b → length (take count (drop first (frames_by w s io))) ≡ count
length-part w s io first count b e h =
    let all : length (frames_by w s io) ≡ length io / b = length-by w s io ∙ ap (λ x. length io / x) e in
    omega (arith, length-take count (drop first (frames_by w s io)), length-drop first (frames_by w s io))

planar-as : (a b c d : ℕ) (io : List ℕ) → a ≡ b → c ≡ d → planar_frames (length io / a) c (a / c) io ≡ planar_frames (length io / b) d (b / d) io
planar-as a b c d io e k = ap (λ x. planar_frames (length io / x) c (x / c) io) e ∙ ap (λ x. planar_frames (length io / b) x (b / x) io) k

pub channels-of : (r : Runtime) (s : Stream) → RunsFor r s → r.shape.channels ≡ channels_of s.setup.config
channels-of r s h = ap (λ (x : Shape). x.channels) h.setup.shape ∙ sym (ap channels_of h.setup.config)

-- a ring of the stream's sizes finds the frames of the stream
pub planar-by : (r : Runtime) (s : Stream) (io : List ℕ) → RunsFor r s → frames_across_in r.ring io ≡ frames_by layout.Planar s io
planar-by r s io h =
    planar-as r.ring.frame_bytes s.setup.frame_bytes r.ring.channels (channels_of s.setup.config) io
    (r.sized.frame_bytes ∙ sym h.setup.frame_bytes) (r.sized.channels ∙ channels-of r s h)

pub interleaved-by : (r : Runtime) (s : Stream) (io : List ℕ) → RunsFor r s → frames_of (length io / r.shape.frame_bytes) r.shape.frame_bytes io ≡ frames_by layout.Interleaved s io
interleaved-by r s io h = ap (λ x. frames_of (length io / x) x io) (sym h.setup.frame_bytes)

-- they have as many bytes as a frame of the configuration
pub AreWide-by : (w : Layout) (r : Runtime) (s : Stream) (io : List ℕ) → RunsFor r s → AreWide r.shape.frame_bytes (frames_by w s io)
AreWide-by layout.Interleaved r s io h =
    let b : ℕ = r.shape.frame_bytes in
    subst (λ (x : List Frame). AreWide b x) (interleaved-by r s io h)
    (AreWide-frames_of (length io / b) b io (div-mul-le_self (length io) b))
AreWide-by layout.Planar r s io h =
    let b : ℕ = r.shape.frame_bytes in
    let c : ℕ = r.shape.channels in
    let whole : c * (b / c) ≡ b = omega (arith, div-add-mod' b c, r.sound.samples) in
    let room : length io / b * (c * (b / c)) ≤ length io = subst (λ (x : ℕ). length io / b * x ≤ length io) (sym whole) (div-mul-le_self (length io) b) in
    subst (λ (x : List Frame). AreWide b x) (planar-as b s.setup.frame_bytes c (channels_of s.setup.config) io (sym h.setup.frame_bytes) (channels-of r s h))
    (subst (λ (x : ℕ). AreWide x (planar_frames (length io / b) c (b / c) io)) whole
    (AreWide-planar (length io / b) c (b / c) io room))

pub AreWide-part : (w : Layout) (r : Runtime) (s : Stream) (io : List ℕ) (first count : ℕ) → RunsFor r s → AreWide r.shape.frame_bytes (take count (drop first (frames_by w s io)))
AreWide-part w r s io first count h =
    AreWide-take r.shape.frame_bytes count (drop first (frames_by w s io)) (AreWide-drop r.shape.frame_bytes first (frames_by w s io) (AreWide-by w r s io h))

-- a ring of the stream's sizes finds in the bytes of so many frames those frames
pub run-in : (r : Runtime) (s : Stream) (xs io : List ℕ) (first count : ℕ) → RunsFor r s → length xs ≡ count * r.shape.frame_bytes
    → frames_of count r.shape.frame_bytes xs ≡ take count (drop first (frames_of (length io / r.shape.frame_bytes) r.shape.frame_bytes io))
    → frames_in r.ring xs ≡ take count (drop first (frames_by layout.Interleaved s io))
run-in r s xs io first count h size part =
    let b : ℕ = r.shape.frame_bytes in
    let whole : length xs / b ≡ count = ap (λ n. n / b) size ∙ (let some : 0 < b = omega (arith, r.sound.frame) in mul-div_cancel count some) in
    ap (λ w. frames_of (length xs / w) w xs) r.sized.frame_bytes ∙ ap (λ n. frames_of n b xs) whole ∙ part
    ∙ ap (λ (x : List Frame). take count (drop first x)) (interleaved-by r s io h)

-- The bytes of a read through its steps: they begin with the frames that it has read, and what it tells are those.
use Rattle.std.proofs.Common.{◌≡◌, ◌≢◌, ℕ, zero, suc, ◌+◌, ◌*◌, ◌/◌, ◌%◌, ◌<◌, ◌≤◌, Bool, true, false, cond, nat_eq, List, [], ◌∷◌, ◌++◌, length, take, drop, refl, sym, ap, ◌∙◌, subst, arith, length-take, length-append}
use Rattle.std.proofs.Math.Nat.{mul-div_cancel}
use Rattle.std.proofs.lemmas.Bool.Decides.{nat_tests}
use Rattle.std.proofs.lemmas.List.{append-nil}
use Rattle.std.proofs.lemmas.Nat.{div-add-mod'}
use Rattle.pcm_base.specs.declared.call.Layout.{Layout}
use Rattle.pcm_base.specs.declared.call.Layout.TheVariants as layout
use Rattle.pcm_base.specs.declared.config.Shape.{Shape}
use Rattle.pcm_base.specs.model.Frame.{Frame, bytes_across, bytes_of, frames_of, planar_frames}
use Rattle.pcm_base.specs.model.Replay.{bytes_by}
use Rattle.pcm_base.specs.model.Stream.{Stream}
use Rattle.pcm_base.specs.model.Transfer.{channels_of, frames_by}
use Rattle.ring_memory.specs.Round.{over}
use Rattle.pcm_stream.specs.declared.runtime.Runtime.{Runtime}
use Rattle.pcm_stream.specs.Runs.{RunsFor}
use Rattle.pcm_stream.specs.Wide.{AreWide}
use Rattle.pcm_stream.proofs.LayoutLemmas.{AreWide-by, channels-of, length-by}
use Rattle.pcm_stream.proofs.MoveLemmas.{AreWide-append, AreWide-drop, AreWide-take}
use Rattle.pcm_stream.proofs.SlotLemmas.{length-bytes_of}
use Rattle.pcm_group.specs.Transfers.{bytes_with}
use Rattle.pcm_world.specs.Bytes.{first_by, fronts}
use Rattle.pcm_world.proofs.PlanarLemmas.{first-interleaved, first-planar, frames_of-bytes_of, length-bytes_across, planar_frames-bytes_across}

-- the sizes of a stream's frames
pub record IsSized (b c : ℕ) : Type 0 where
  pub frame : 0 < b
  pub channel : 0 < c
  pub samples : c * (b / c) ≡ b

pub sized-by : (r : Runtime) (s : Stream) → RunsFor r s → IsSized s.setup.frame_bytes (channels_of s.setup.config)
sized-by r s h =
    let whole : r.shape.channels * (r.shape.frame_bytes / r.shape.channels) ≡ r.shape.frame_bytes = omega (arith, div-add-mod' r.shape.frame_bytes r.shape.channels, r.sound.samples) in
    subst (λ (b : ℕ). IsSized b (channels_of s.setup.config)) (sym h.setup.frame_bytes) (subst (λ (c : ℕ). IsSized r.shape.frame_bytes c) (channels-of r s h)
    (record { frame = omega (arith, r.sound.frame); channel = omega (arith, r.sound.channel); samples = whole }))

-- so many frames of so many bytes
count-of : (b n size : ℕ) → 0 < b → size ≡ n * b → size / b ≡ n
count-of b n size some e = ap (λ (k : ℕ). k / b) e ∙ mul-div_cancel n some

-- bytes of frames give those frames
pub frames-back : (l : Layout) (s : Stream) (fs : List Frame) → IsSized s.setup.frame_bytes (channels_of s.setup.config) → AreWide s.setup.frame_bytes fs → frames_by l s (bytes_by l s fs) ≡ fs
frames-back layout.Interleaved s fs z h =
    let b : ℕ = s.setup.frame_bytes in
    ap (λ (n : ℕ). frames_of n b (bytes_of fs)) (count-of b (length fs) (length (bytes_of fs)) z.frame (length-bytes_of b fs h)) ∙ frames_of-bytes_of b fs h
frames-back layout.Planar s fs z h =
    let b : ℕ = s.setup.frame_bytes in
    let c : ℕ = channels_of s.setup.config in
    let w : ℕ = b / c in
    let wide : AreWide (c * w) fs = subst (λ (n : ℕ). AreWide n fs) (sym z.samples) h in
    let swap : c * (length fs * w) ≡ length fs * (c * w) = grind arith in
    let size : length (bytes_across c w fs) ≡ length fs * b = length-bytes_across c w fs wide ∙ swap ∙ ap (λ (n : ℕ). length fs * n) z.samples in
    ap (λ (n : ℕ). planar_frames n c w (bytes_across c w fs)) (count-of b (length fs) (length (bytes_across c w fs)) z.frame size) ∙ planar_frames-bytes_across c w fs wide

-- the bytes of the first frames
pub first-frames : (l : Layout) (s : Stream) (h : Shape) (n : ℕ) (bytes : List ℕ) → IsSized s.setup.frame_bytes (channels_of s.setup.config) → s.setup.frame_bytes ≡ h.frame_bytes → channels_of s.setup.config ≡ h.channels
    → length bytes % s.setup.frame_bytes ≡ 0 → n ≤ length bytes / s.setup.frame_bytes → first_by l h n bytes ≡ bytes_by l s (take n (frames_by l s bytes))
first-frames layout.Interleaved s h n bytes z e f whole le =
    let b : ℕ = s.setup.frame_bytes in
    ap (λ (k : ℕ). take (n * k) bytes) (sym e) ∙ sym (first-interleaved n (length bytes / b) b bytes le)
first-frames layout.Planar s h n bytes z e f whole le =
    let b : ℕ = s.setup.frame_bytes in
    let c : ℕ = channels_of s.setup.config in
    let w : ℕ = b / c in
    let m : ℕ = length bytes / b in
    let size : length bytes ≡ b * m = omega (arith, div-add-mod' (length bytes) b, whole) in
    let all : length bytes ≡ m * w * c = size ∙ ap (λ (k : ℕ). k * m) (sym z.samples) ∙ (let swap : c * w * m ≡ m * w * c = grind arith in swap) in
    let area : length bytes / c ≡ m * w = ap (λ (k : ℕ). k / c) all ∙ mul-div_cancel (m * w) z.channel in
    let part : n * b ≡ n * w * c = ap (λ (k : ℕ). n * k) (sym z.samples) ∙ (let swap : n * (c * w) ≡ n * w * c = grind arith in swap) in
    let front : n * b / c ≡ n * w = ap (λ (k : ℕ). k / c) part ∙ mul-div_cancel (n * w) z.channel in
    let room : c * (m * w) ≡ length bytes = (let swap : c * (m * w) ≡ m * w * c = grind arith in swap) ∙ sym all in
    ap (λ (k : ℕ). fronts h.channels (length bytes / h.channels) (n * k / h.channels) bytes) (sym e)
    ∙ ap (λ (k : ℕ). fronts k (length bytes / k) (n * b / k) bytes) (sym f)
    ∙ ap (λ (k : ℕ). fronts c k (n * b / c) bytes) area ∙ ap (λ (k : ℕ). fronts c (m * w) k bytes) front
    ∙ sym (first-planar n m c w bytes le (omega (arith, room)))

-- ---- frames written over others

take-both : (m k : ℕ) (xs ys zs : List Frame) → length xs ≡ m → length ys ≡ k → take (m + k) (xs ++ (ys ++ zs)) ≡ xs ++ ys
take-both m k [] ys zs e f = let z : m + k ≡ k = omega (arith, e) in ap (λ (n : ℕ). take n (ys ++ zs)) z ∙ front k ys zs f
  where
    front : (k : ℕ) (ys zs : List Frame) → length ys ≡ k → take k (ys ++ zs) ≡ ys
    front zero [] zs f = refl
    front zero (y ∷ ys) zs f = absurd (let no : ⊥ = omega (arith, f) in no)
    front (suc k) [] zs f = absurd (let no : ⊥ = omega (arith, f) in no)
    front (suc k) (y ∷ ys) zs f = ap (λ (l : List Frame). y ∷ l) (front k ys zs (omega (arith, f)))
take-both zero k (x ∷ xs) ys zs e f = absurd (let no : ⊥ = omega (arith, e) in no)
take-both (suc m) k (x ∷ xs) ys zs e f =
    let z : suc m + k ≡ suc (m + k) = omega arith in
    ap (λ (n : ℕ). take n (x ∷ xs ++ (ys ++ zs))) z ∙ ap (λ (l : List Frame). x ∷ l) (take-both m k xs ys zs (omega (arith, e)) f)

wide-over : (b at : ℕ) (fs gs : List Frame) → AreWide b fs → AreWide b gs → AreWide b (over at fs gs)
wide-over b at fs gs h k = AreWide-append b (take at gs) (fs ++ drop (at + length fs) gs) (AreWide-take b at gs k) (AreWide-append b fs (drop (at + length fs) gs) h (AreWide-drop b (at + length fs) gs k))

none-of : (fs : List Frame) → nat_eq (length fs) 0 ≡ true → fs ≡ []
none-of [] h = refl
none-of (f ∷ fs) h = absurd (let no : ⊥ = grind (arith, nat_tests, h) in no)

-- more frames of a read
pub read-kept : (l : Layout) (s : Stream) (r : Runtime) (io now : List ℕ) (pf fs : List Frame) (first : ℕ) → RunsFor r s → AreWide s.setup.frame_bytes fs → take (length pf) (frames_by l s io) ≡ pf
    → (length fs ≢ 0 → first ≡ length pf) → length pf + length fs ≤ length io / s.setup.frame_bytes → now ≡ bytes_with false l first fs s io → take (length (pf ++ fs)) (frames_by l s now) ≡ pf ++ fs
read-kept l s r io now pf fs first h wide begin at room is = by (nat_eq (length fs) 0) refl is
  where
    by : (b : Bool) → nat_eq (length fs) 0 ≡ b → now ≡ cond b io (bytes_by l s (over first fs (frames_by l s io))) → take (length (pf ++ fs)) (frames_by l s now) ≡ pf ++ fs
    by true e q =
        let none : fs ≡ [] = none-of fs e in
        let same : pf ++ fs ≡ pf = ap (λ (x : List Frame). pf ++ x) none ∙ append-nil pf in
        ap (λ (x : List Frame). take (length x) (frames_by l s now)) same ∙ ap (λ (x : List ℕ). take (length pf) (frames_by l s x)) q ∙ begin ∙ sym same
    by false e q =
        let some : length fs ≢ 0 = (λ z. let no : ⊥ = grind (arith, nat_tests, e, z) in no) in
        let all : List Frame = frames_by l s io in
        let b : ℕ = s.setup.frame_bytes in
        let old : AreWide b all = subst (λ (n : ℕ). AreWide n all) (sym h.setup.frame_bytes) (AreWide-by l r s io h) in
        let count : length all ≡ length io / b = length-by l s io in
        let front : length (take (length pf) all) ≡ length pf = omega (arith, length-take (length pf) all, count, room) in
        ap (λ (x : List ℕ). take (length (pf ++ fs)) (frames_by l s x)) q
        ∙ ap (λ (x : List Frame). take (length (pf ++ fs)) x) (frames-back l s (over first fs all) (sized-by r s h) (wide-over b first fs all wide old))
        ∙ ap (λ (n : ℕ). take (length (pf ++ fs)) (over n fs all)) (at some)
        ∙ ap (λ (n : ℕ). take n (over (length pf) fs all)) (length-append pf fs)
        ∙ take-both (length pf) (length fs) (take (length pf) all) fs (drop (length pf + length fs) all) front refl
        ∙ ap (λ (x : List Frame). x ++ fs) begin

-- what it tells in the end
pub read-told : (l : Layout) (s : Stream) (r : Runtime) (h : Shape) (now : List ℕ) (all : List Frame) (n : ℕ) → RunsFor r s → s.setup.frame_bytes ≡ h.frame_bytes → channels_of s.setup.config ≡ h.channels
    → length now % s.setup.frame_bytes ≡ 0 → n ≤ length now / s.setup.frame_bytes → n ≡ length all → take (length all) (frames_by l s now) ≡ all → first_by l h n now ≡ bytes_by l s all
read-told l s r h now all n k e f whole le count is =
    first-frames l s h n now (sized-by r s k) e f whole le
    ∙ ap (λ (m : ℕ). bytes_by l s (take m (frames_by l s now))) count ∙ ap (bytes_by l s) is

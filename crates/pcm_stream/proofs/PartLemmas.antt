-- Frames that are read into part of a transfer's bytes.
use Rattle.std.proofs.Common.{ℕ, zero, suc, ◌≡◌, ◌+◌, ◌-◌, ◌*◌, ◌/◌, ◌%◌, ◌≤◌, List, [], ◌∷◌, ◌++◌, length, take, drop, replicate, sym, ap, ◌∙◌, arith, length-take, length-drop}
use Rattle.std.proofs.lemmas.List.{length-replicate, take_all, take-append-le, drop-append-le, drop-drop, nil_from_length}
use Rattle.std.proofs.lemmas.Nat.{div-add-mod'}
use Rattle.std.proofs.Math.Nat.{mul-le-mul_right}
use Rattle.std.proofs.Math.Seq.{take-add}
use borrow.Rule.Slice.PartMut.{put_mid}
use Rattle.pcm_base.specs.declared.call.Layout.TheVariants as layout
use Rattle.pcm_base.specs.model.Frame.{Frame, frames_of, bytes_of, bytes_across}
use Rattle.pcm_base.specs.model.Replay.{bytes_by}
use Rattle.pcm_base.specs.model.Standing.{standing_at}
use Rattle.pcm_base.specs.model.Stream.{Stream}
use Rattle.pcm_base.specs.model.Transfer.{channels_of, frames_by, read_next}
use Rattle.pcm_laws.proofs.Puts.{length-standing_at}
use Rattle.ring_memory.specs.Ring.{frames_across_in, sample_bytes, stood_at, with_standing}
use Rattle.ring_memory.specs.Round.{over}
use Rattle.pcm_stream.specs.Buffer.{frames_read}
use Rattle.pcm_stream.specs.Runs.{RunsFor}
use Rattle.pcm_stream.specs.Wide.{AreWide}
use Rattle.pcm_stream.specs.declared.runtime.Runtime.{Runtime}
use Rattle.pcm_stream.proofs.LayoutLemmas.{part_fits, channels-of, frames_of-take, take-frames_of, drop-frames_of, interleaved-by, planar-by}
use Rattle.pcm_stream.proofs.MoveLemmas.{AreWide-standing_at}
use Rattle.pcm_stream.proofs.RunsLemmas.{length-frames_of}
use Rattle.pcm_stream.proofs.SlotLemmas.{frames_of-bytes_of, length-bytes_of}

-- ---- bytes written over others

-- a part of a memory that was written is the memory with that part over it
pub put_mid-over : (at k : ℕ) (xs ys : List ℕ) → length ys ≡ k → put_mid at (at + k - at) xs ys ≡ over at ys xs
put_mid-over at k xs ys e =
    let there : at + (at + k - at) ≡ at + length ys = omega arith in
    ap (λ zs. take at xs ++ (ys ++ zs)) (drop-drop (at + k - at) at xs ∙ ap (λ m. drop m xs) there)

-- the bytes of such a part
pub part-size : (first count w : ℕ) (io : List ℕ) → first + count ≤ length io / w → length (take (first * w + count * w - first * w) (drop (first * w) io)) ≡ count * w
part-size first count w io h =
    let fits : first * w + count * w ≤ length io = part_fits first count (length io) w h in
    length-take (first * w + count * w - first * w) (drop (first * w) io) ∙ omega (arith, fits, length-drop (first * w) io)

-- the frames of bytes that are cut between two frames
frames_of-append : (a b w : ℕ) (xs ys : List ℕ) → length xs ≡ a * w → frames_of (a + b) w (xs ++ ys) ≡ frames_of a w xs ++ frames_of b w ys
frames_of-append zero b w xs ys e =
    let same : 0 + b ≡ b = omega arith in
    let none : xs ≡ [] = nil_from_length xs (omega arith) in
    ap (λ n. frames_of n w (xs ++ ys)) same ∙ ap (λ zs. frames_of b w (zs ++ ys)) none
frames_of-append (suc a) b w xs ys e =
    let next : suc a + b ≡ suc (a + b) = omega arith in
    let within : w ≤ length xs = omega arith in
    let rest : length (drop w xs) ≡ a * w = omega (arith, length-drop w xs) in
    ap (λ n. frames_of n w (xs ++ ys)) next
    ∙ (ap (λ f. f ∷ frames_of (a + b) w (drop w (xs ++ ys))) (take-append-le w xs ys within)
    ∙ (ap (λ zs. take w xs ∷ frames_of (a + b) w zs) (drop-append-le w xs ys within)
    ∙ ap (λ fs. take w xs ∷ fs) (frames_of-append a b w (drop w xs) ys rest)))

-- frames written over others
frames_of-over : (s n b w : ℕ) (new old : List ℕ) → length new ≡ n * w → b * w ≤ length old → s + n ≤ b
    → frames_of b w (over (s * w) new old) ≡ over s (frames_of n w new) (frames_of b w old)
frames_of-over s n b w new old en er h =
    let rest : ℕ = b - (s + n) in
    let whole : b ≡ s + (n + rest) = omega arith in
    let bound : s * w ≤ b * w = mul-le-mul_right w (omega arith) in
    let front : length (take (s * w) old) ≡ s * w = omega (arith, length-take (s * w) old) in
    let behind : ℕ = s * w + length new in
    let there : behind ≡ (s + n) * w = omega arith in
    let count : s + n ≡ s + length (frames_of n w new) = omega (arith, length-frames_of n w new) in
    let first : frames_of s w (take (s * w) old) ≡ take s (frames_of b w old) = frames_of-take s (s * w) w old (omega arith) ∙ sym (take-frames_of s b w old (omega arith)) in
    let last : frames_of rest w (drop behind old) ≡ drop (s + length (frames_of n w new)) (frames_of b w old) =
    ap (λ k. frames_of rest w (drop k old)) there ∙ (sym (drop-frames_of (s + n) b w old) ∙ ap (λ k. drop k (frames_of b w old)) count) in
    ap (λ m. frames_of m w (over (s * w) new old)) whole
    ∙ (frames_of-append s (n + rest) w (take (s * w) old) (new ++ drop behind old) front
    ∙ (ap (λ fs. frames_of s w (take (s * w) old) ++ fs) (frames_of-append n rest w new (drop behind old) en)
    ∙ (ap (λ fs. fs ++ (frames_of n w new ++ frames_of rest w (drop behind old))) first
    ∙ ap (λ fs. take s (frames_of b w old) ++ (frames_of n w new ++ fs)) last)))

pub bytes_of-frames_of : (n w : ℕ) (xs : List ℕ) → bytes_of (frames_of n w xs) ≡ take (n * w) xs
bytes_of-frames_of zero w xs =
    let none : 0 ≡ 0 * w = omega arith in
    ap (λ k. take k xs) none
bytes_of-frames_of (suc n) w xs =
    let more : w + n * w ≡ suc n * w = omega arith in
    ap (λ zs. take w xs ++ zs) (bytes_of-frames_of n w (drop w xs)) ∙ (sym (take-add w (n * w) xs) ∙ ap (λ k. take k xs) more)

-- whole frames are told by their frames
pub bytes_of-whole : (w : ℕ) (xs : List ℕ) → length xs % w ≡ 0 → bytes_of (frames_of (length xs / w) w xs) ≡ xs
bytes_of-whole w xs h =
    let all : length xs ≤ length xs / w * w = omega (arith, div-add-mod' (length xs) w, h) in
    bytes_of-frames_of (length xs / w) w xs ∙ take_all (length xs / w * w) xs all

whole-size : (w : ℕ) (xs : List ℕ) → length xs % w ≡ 0 → length xs / w * w ≡ length xs
whole-size w xs h = omega (arith, div-add-mod' (length xs) w, h)

-- ---- the frames that stand at the application pointer

-- a ring of the stream's sizes reads what stands in the stream
pub stood-by : (r : Runtime) (s : Stream) (count : ℕ) → RunsFor r s → stood_at r.ring s.puts s.at.appl count ≡ read_next count s
stood-by r s count h =
    ap (λ b. standing_at s.puts b s.at.appl count (replicate r.ring.frame_bytes 0)) (r.sized.buffer ∙ sym h.setup.buffer)
    ∙ ap (λ w. standing_at s.puts s.setup.buffer s.at.appl count (replicate w 0)) (r.sized.frame_bytes ∙ sym h.setup.frame_bytes)

AreWide-stood : (r : Runtime) (s : Stream) (count : ℕ) → RunsFor r s → AreWide r.shape.frame_bytes (stood_at r.ring s.puts s.at.appl count)
AreWide-stood r s count h =
    AreWide-standing_at r.shape.frame_bytes s.puts r.ring.buffer s.at.appl count (replicate r.ring.frame_bytes 0) h.frames.puts (length-replicate r.ring.frame_bytes 0 ∙ r.sized.frame_bytes)

-- ---- read into bytes that hold frame after frame

pub interleaved_read : (r : Runtime) (s : Stream) (io new : List ℕ) (first count : ℕ) → RunsFor r s → length io % r.shape.frame_bytes ≡ 0 → first + count ≤ length io / r.shape.frame_bytes
    → length new ≡ length io → new ≡ over (first * r.shape.frame_bytes) (bytes_of (stood_at r.ring s.puts s.at.appl count)) io
    → frames_by layout.Interleaved s new ≡ frames_read layout.Interleaved s first count io
interleaved_read r s io new first count h whole within size is =
    let w : ℕ = r.shape.frame_bytes in
    let n : ℕ = length io / w in
    let fs : List Frame = stood_at r.ring s.puts s.at.appl count in
    let some : length fs ≡ count = length-standing_at s.puts r.ring.buffer s.at.appl count (replicate r.ring.frame_bytes 0) in
    let wide : AreWide w fs = AreWide-stood r s count h in
    let bytes : length (bytes_of fs) ≡ count * w = length-bytes_of w fs wide ∙ ap (λ k. k * w) some in
    let again : frames_of count w (bytes_of fs) ≡ fs = ap (λ k. frames_of k w (bytes_of fs)) (sym some) ∙ frames_of-bytes_of w fs wide in
    sym (interleaved-by r s new h)
    ∙ ap (λ k. frames_of (k / w) w new) size
    ∙ ap (λ (xs : List ℕ). frames_of n w xs) is
    ∙ frames_of-over first count n w (bytes_of fs) io bytes (omega (arith, whole-size w io whole)) within
    ∙ ap (λ (x : List Frame). over first x (frames_of n w io)) (again ∙ stood-by r s count h)
    ∙ ap (λ (x : List Frame). over first (read_next count s) x) (interleaved-by r s io h)

-- the bytes are those of the frames
pub interleaved_bytes : (r : Runtime) (s : Stream) (io new : List ℕ) (fs : List Frame) → RunsFor r s → length io % r.shape.frame_bytes ≡ 0 → length new ≡ length io
    → frames_by layout.Interleaved s new ≡ fs → new ≡ bytes_by layout.Interleaved s fs
interleaved_bytes r s io new fs h whole size e =
    let w : ℕ = r.shape.frame_bytes in
    let all : length new % w ≡ 0 = ap (λ n. n % w) size ∙ whole in
    sym (bytes_of-whole w new all) ∙ ap bytes_of (interleaved-by r s new h ∙ e)

-- ---- read into bytes that hold channel after channel

pub planar_read : (r : Runtime) (s : Stream) (io : List ℕ) (first count : ℕ) → RunsFor r s → with_standing r.ring s.puts s.at.appl first count io ≡ frames_read layout.Planar s first count io
planar_read r s io first count h =
    ap (λ (x : List Frame). over first x (frames_across_in r.ring io)) (stood-by r s count h)
    ∙ ap (λ (x : List Frame). over first (read_next count s) x) (planar-by r s io h)

pub planar_bytes : (r : Runtime) (s : Stream) (fs : List Frame) → RunsFor r s → bytes_across r.ring.channels (sample_bytes r.ring) fs ≡ bytes_by layout.Planar s fs
planar_bytes r s fs h =
    let channels : r.ring.channels ≡ channels_of s.setup.config = r.sized.channels ∙ channels-of r s h in
    let width : r.ring.frame_bytes ≡ s.setup.frame_bytes = r.sized.frame_bytes ∙ sym h.setup.frame_bytes in
    ap (λ c. bytes_across c (r.ring.frame_bytes / c) fs) channels
    ∙ ap (λ b. bytes_across (channels_of s.setup.config) (b / channels_of s.setup.config) fs) width

-- A ring's slots and the puts that it stands for.
use Rattle.std.proofs.Common.{ℕ, ◌≡◌, ◌*◌, ◌/◌, ◌%◌, ◌≤◌, ◌<◌, Bool, true, false, List, [], ◌-◌, ◌++◌, append-nil, replicate, length, take, drop, get_or, map, refl, sym, ap, ◌∙◌, subst, arith}
use Rattle.std.proofs.Math.Nat.{mul-div_left, mul_comm, zero-mod}
use Rattle.std.proofs.lemmas.List.{get_or-replicate, length-replicate, take_all}
use Rattle.pcm_base.specs.model.Frame.{Frame, frames_of, bytes_of, bytes_across, planar_frames}
use Rattle.pcm_base.specs.model.Standing.{Put, put_at, standing_at}
use Rattle.pcm_base.specs.Shape.{IsSoundShape}
use Rattle.pcm_base.specs.declared.config.Shape.{Shape}
use Rattle.ring_memory.specs.declared.sizes.Sizes.{Sizes}
use Rattle.ring_memory.specs.Ring.{RingFacts, StandsForPuts, zero_frame, frames_across_in, sample, sample_bytes}
use Rattle.ring_memory.specs.Round.{written_round, read_round}
use Rattle.ring_memory.specs.Sizes.{AreSizes, facts_of, slots_of, frames_across_in as across}
use Rattle.ring_memory.proofs.AreaLemmas.{area_size, length-frames_across, planar_frame_is}
use Rattle.ring_memory.proofs.AreaRoundLemmas.{area_is, piece-replicate, bytes_across-planar_frames}
use Rattle.ring_memory.proofs.FrameLemmas.{length-frames_of, frames_of-replicate, whole_frames}
use Rattle.ring_memory.proofs.SlotLemmas.{piece}
use Rattle.ring_memory.proofs.StandingLemmas.{Stands, stands_round, standing_round}

-- a sample's bytes, by the sizes and by what is shown
pub sample_is : (s : Sizes) → AreSizes s → s.frame_bytes / s.channels ≡ s.sample_bytes
sample_is s a =
    let turned : s.frame_bytes ≡ s.sample_bytes * s.channels = a.frame ∙ grind arith in
    ap (λ n. n / s.channels) turned ∙ mul-div_left s.sample_bytes a.channel

pub across_is : (s : Sizes) (planar : Bool) (bytes io : List ℕ) → AreSizes s → across s io ≡ frames_across_in (facts_of s planar bytes) io
across_is s planar bytes io a = ap (λ w. planar_frames (length io / s.frame_bytes) s.channels w io) (sym (sample_is s a))

-- a write, in the layout that the ring has
pub written_in : (b planar : Bool) (s : Sizes) (slot : ℕ) (fs : List Frame) (before old new after : List ℕ) → planar ≡ b → before ≡ old → after ≡ new
    → slots_of b s new ≡ written_round slot fs (slots_of b s before) → slots_of planar s after ≡ written_round slot fs (slots_of planar s old)
written_in b planar s slot fs before old new after eb eo en w =
    ap (slots_of planar s) en
    ∙ (ap (λ t. slots_of t s new) eb
    ∙ (w
    ∙ (ap (λ xs. written_round slot fs (slots_of b s xs)) eo ∙ ap (λ t. written_round slot fs (slots_of t s old)) (sym eb))))

-- frames put in a round are put
after_put : (s : Sizes) (planar : Bool) (old after : List ℕ) (slot p : ℕ) (fs : List Frame) (puts : List Put) → AreSizes s → length fs ≤ s.buffer → p % s.buffer ≡ slot
    → slots_of planar s after ≡ written_round slot fs (slots_of planar s old) → StandsForPuts (facts_of s planar old) puts → StandsForPuts (facts_of s planar after) (put_at p fs puts)
after_put s planar old after slot p fs puts a h e w st =
    let z : Frame = zero_frame (facts_of s planar old) in
    let now : Stands s.buffer (written_round slot fs (slots_of planar s old)) (put_at p fs puts) (zero_frame (facts_of s planar old)) =
    stands_round fs s.buffer slot p (slots_of planar s old) puts (zero_frame (facts_of s planar old)) a.least e h (record { count = st.count; stands = st.stands }) in
    record { count = ap length w ∙ now.count; stands = λ i l. ap (λ ys. get_or ys i []) w ∙ now.stands i l }

pub stands_after : (s : Sizes) (planar : Bool) (old after : List ℕ) (r : RingFacts) → facts_of s planar old ≡ r → (pos : ℕ) (fs : RingFacts → List Frame) → AreSizes s
    → slots_of planar s after ≡ written_round (pos % s.buffer) (fs (facts_of s planar old)) (slots_of planar s old) → length (fs r) ≤ r.buffer
    → (puts : List Put) (p : ℕ) → StandsForPuts r puts → p % r.buffer ≡ pos % r.buffer → StandsForPuts (facts_of s planar after) (put_at p (fs r) puts)
stands_after s planar old after r e pos fs a w =
    subst (λ r. length (fs r) ≤ r.buffer → (puts : List Put) (p : ℕ) → StandsForPuts r puts → p % r.buffer ≡ pos % r.buffer → StandsForPuts (facts_of s planar after) (put_at p (fs r) puts)) e
    (λ h puts p st same. after_put s planar old after (pos % s.buffer) p (fs (facts_of s planar old)) puts a h same w st)

-- frames read in a round stand
pub read_from : (s : Sizes) (planar b : Bool) (old bytes : List ℕ) (r : RingFacts) → facts_of s planar old ≡ r → planar ≡ b → bytes ≡ old → (pos : ℕ) (n : RingFacts → ℕ) → AreSizes s → n r ≤ r.buffer
    → (puts : List Put) (p : ℕ) → StandsForPuts r puts → p % r.buffer ≡ pos % r.buffer
    → read_round (pos % s.buffer) (n (facts_of s planar old)) (slots_of b s bytes) ≡ standing_at puts r.buffer p (n r) (zero_frame r)
read_from s planar b old bytes r e eb eo pos n a =
    subst (λ r. n r ≤ r.buffer → (puts : List Put) (p : ℕ) → StandsForPuts r puts → p % r.buffer ≡ pos % r.buffer → read_round (pos % s.buffer) (n (facts_of s planar old)) (slots_of b s bytes) ≡ standing_at puts r.buffer p (n r) (zero_frame r)) e
    (λ h puts p st same.
    ap (λ xs. read_round (pos % s.buffer) (n (facts_of s planar old)) (slots_of b s xs)) eo
    ∙ (ap (λ t. read_round (pos % s.buffer) (n (facts_of s planar old)) (slots_of t s old)) (sym eb)
    ∙ sym (standing_round (n (facts_of s planar old)) s.buffer (pos % s.buffer) p (slots_of planar s old) puts (zero_frame (facts_of s planar old)) a.least same h (record { count = st.count; stands = st.stands }))))

-- a ring of zero bytes
pub stands_for_none : (s : Sizes) (planar : Bool) (bytes : List ℕ) → AreSizes s → bytes ≡ replicate (s.buffer * s.frame_bytes) 0 → StandsForPuts (facts_of s planar bytes) []
stands_for_none s false bytes a e =
    let zeros : frames_of s.buffer s.frame_bytes bytes ≡ replicate s.buffer (replicate s.frame_bytes 0) = ap (frames_of s.buffer s.frame_bytes) e ∙ frames_of-replicate s.buffer s.frame_bytes 0 in
    record {
      count = length-frames_of s.buffer s.frame_bytes bytes;
      stands = λ i l. ap (λ fs. get_or fs i []) zeros ∙ get_or-replicate s.buffer i (replicate s.frame_bytes 0) [] l;
    }
stands_for_none s true bytes a e =
    let size : s.buffer * s.frame_bytes ≡ s.channels * (s.buffer * s.sample_bytes) = area_size s s.buffer (s.buffer * s.frame_bytes) a refl in
    record {
      count = length-frames_across s.buffer s.sample_bytes (frames_of s.channels (s.buffer * s.sample_bytes) bytes);
      stands = λ i l. planar_frame_is s.buffer s.channels s.sample_bytes i bytes (replicate s.frame_bytes 0) l (length-replicate s.frame_bytes 0 ∙ a.frame) (λ k q.
          ap (λ xs. piece s.sample_bytes i (piece (s.buffer * s.sample_bytes) k xs)) e
          ∙ (ap (piece s.sample_bytes i) (piece-replicate (s.buffer * s.sample_bytes) k s.channels 0 (s.buffer * s.frame_bytes) size q)
          ∙ (piece-replicate s.sample_bytes i s.buffer 0 (s.buffer * s.sample_bytes) refl l
          ∙ sym (piece-replicate s.sample_bytes k s.channels 0 s.frame_bytes a.frame q))));
    }

-- all slots, from the first
slots_stand : (s : Sizes) (planar : Bool) (bytes : List ℕ) (puts : List Put) → AreSizes s → StandsForPuts (facts_of s planar bytes) puts → standing_at puts s.buffer 0 s.buffer (zero_frame (facts_of s planar bytes)) ≡ slots_of planar s bytes
slots_stand s planar bytes puts a st =
    let none : s.buffer - (length (slots_of planar s bytes) - 0) ≡ 0 = omega (arith, st.count) in
    standing_round s.buffer s.buffer 0 0 (slots_of planar s bytes) puts (zero_frame (facts_of s planar bytes)) a.least (zero-mod s.buffer) (omega arith) (record { count = st.count; stands = st.stands })
    ∙ (ap (λ n. take s.buffer (slots_of planar s bytes) ++ take n (slots_of planar s bytes)) none
    ∙ (append-nil (take s.buffer (slots_of planar s bytes)) ∙ take_all s.buffer (slots_of planar s bytes) (omega (arith, st.count))))

-- one channel's area
pub area_stands : (s : Sizes) (planar : Bool) (bytes : List ℕ) (r : RingFacts) → facts_of s planar bytes ≡ r → AreSizes s → length bytes ≡ s.buffer * s.frame_bytes → planar ≡ true → (channel : ℕ) → channel < s.channels
    → (puts : List Put) → StandsForPuts r puts → piece (s.buffer * s.sample_bytes) channel bytes ≡ bytes_of (map (sample r channel) (standing_at puts r.buffer 0 r.buffer (zero_frame r)))
area_stands s planar bytes r e a size by_channel channel h =
    let all : length bytes ≡ s.channels * (s.buffer * s.sample_bytes) = area_size s s.buffer (length bytes) a size in
    subst (λ r. (puts : List Put) → StandsForPuts r puts → piece (s.buffer * s.sample_bytes) channel bytes ≡ bytes_of (map (sample r channel) (standing_at puts r.buffer 0 r.buffer (zero_frame r)))) e
    (λ puts st.
    sym (area_is s.buffer s.channels s.sample_bytes channel bytes all h)
    ∙ (ap (λ w. bytes_of (map (λ f. take w (drop (channel * w) f)) (planar_frames s.buffer s.channels s.sample_bytes bytes))) (sym (sample_is s a))
    ∙ (ap (λ b. bytes_of (map (sample (facts_of s planar bytes) channel) (slots_of b s bytes))) (sym by_channel)
    ∙ ap (λ fs. bytes_of (map (sample (facts_of s planar bytes) channel) fs)) (sym (slots_stand s planar bytes puts a st)))))

-- the sizes of a sound shape agree
pub are_sizes : (s : Shape) → IsSoundShape s → AreSizes (record { buffer = s.buffer; frame_bytes = s.frame_bytes; channels = s.channels; sample_bytes = s.frame_bytes / s.channels })
are_sizes s a =
    let whole : s.frame_bytes ≡ s.frame_bytes / s.channels * s.channels = whole_frames s.frame_bytes s.channels a.samples in
    let some : s.frame_bytes / s.channels ≡ 0 → ⊥ = λ none. (let nothing : s.frame_bytes ≡ 0 * s.channels = whole ∙ ap (λ n. n * s.channels) none in omega (arith, a.frame)) in
    record {
      least = omega (arith, a.least);
      most = a.most;
      channel = a.channel;
      channels = a.channels;
      sample = omega (arith, some);
      frame = whole ∙ mul_comm (s.frame_bytes / s.channels) s.channels;
      some = a.frame;
      frames = a.frames;
    }

-- planar bytes, from their frames
pub bytes_as_shown : (r : RingFacts) (s : Sizes) (planar : Bool) (bytes io : List ℕ) → facts_of s planar bytes ≡ r → AreSizes s → length io % r.frame_bytes ≡ 0 → io ≡ bytes_across r.channels (sample_bytes r) (frames_across_in r io)
bytes_as_shown r s planar bytes io e a =
    subst (λ r. length io % r.frame_bytes ≡ 0 → io ≡ bytes_across r.channels (sample_bytes r) (frames_across_in r io)) e
    (λ h.
    let n : ℕ = length io / s.frame_bytes in
    let all : length io ≡ s.channels * (n * s.sample_bytes) = area_size s n (length io) a (whole_frames (length io) s.frame_bytes h) in
    sym (bytes_across-planar_frames n s.channels s.sample_bytes io all)
    ∙ ap (λ w. bytes_across s.channels w (planar_frames n s.channels w io)) (sym (sample_is s a)))

use Rattle.std.proofs.Common.{ℕ, ◌≡◌, ◌+◌, ◌-◌, ◌*◌, ◌/◌, ◌≤◌, ◌<◌, [], length, take, drop, ap, sym, ◌∙◌, subst, arith, rules, length-take, length-drop}
use Rattle.std.proofs.lemmas.List.{get_or-take, get_or-drop}
use Rattle.ring_memory.specs.Round.{written_round, part}
use Rattle.ring_memory.specs.Sizes.{frames_across_in}
use Rattle.ring_memory.proofs.AreaLemmas.{area_size, area_fits, part_fits, piece_of_part, length-frames_across, planar_frames_agree}
use Rattle.ring_memory.proofs.AreaRoundLemmas.{areas_written}
use Rattle.ring_memory.proofs.FrameLemmas.{whole_frames}
use Rattle.ring_memory.proofs.SlotLemmas.{piece, cut_size, cut_piece, piece_size, IsWrittenTo, IsWrittenTo-write}
use Rattle.ring_memory.proofs.TurnLemmas.{length-part}
use Rattle.ring_memory.proofs.planar.put_area.Goals as goal

pub slice_bounds-own-end : goal.slice_bounds-own-end
slice_bounds-own-end c =
    let s = c.args.sizes in
    let all = area_size s s.buffer _ c.requires.sizes c.requires.memory in
    let fits = area_fits s.channels (s.buffer * s.sample_bytes) _ c.loop-channel.channel all c.loop-channel-test.true in
    search (rules, fits, c.loop-channel.auto.ring)

pub overflow_mul-from : goal.overflow_mul-from
overflow_mul-from c =
    let s = c.args.sizes in
    let n = length c.args.io.now / s.frame_bytes in
    let all = area_size s n _ c.requires.sizes (whole_frames (length c.args.io.now) s.frame_bytes c.requires.whole) in
    omega (arith, area_fits s.channels (n * s.sample_bytes) _ c.loop-channel.channel all c.loop-channel-test.true)

pub overflow_add-theirs : goal.overflow_add-theirs
overflow_add-theirs c =
    let s = c.args.sizes in
    let n = length c.args.io.now / s.frame_bytes in
    let all = area_size s n _ c.requires.sizes (whole_frames (length c.args.io.now) s.frame_bytes c.requires.whole) in
    omega (arith, area_fits s.channels (n * s.sample_bytes) _ c.loop-channel.channel all c.loop-channel-test.true)

pub slice_bounds-theirs-end : goal.slice_bounds-theirs-end
slice_bounds-theirs-end c =
    let s = c.args.sizes in
    let n = length c.args.io.now / s.frame_bytes in
    let all = area_size s n _ c.requires.sizes (whole_frames (length c.args.io.now) s.frame_bytes c.requires.whole) in
    let fits = area_fits s.channels (n * s.sample_bytes) _ c.loop-channel.channel all c.loop-channel-test.true in
    search (rules, fits)

pub slice_bounds-write_round-end : goal.slice_bounds-write_round-end
slice_bounds-write_round-end c =
    let s = c.args.sizes in
    let n = length c.args.io.now / s.frame_bytes in
    let theirs = area_size s n _ c.requires.sizes (whole_frames (length c.args.io.now) s.frame_bytes c.requires.whole) in
    let size = cut_size (n * s.sample_bytes) c.loop-channel.channel s.channels c.args.io.now c.loop-channel-test.true theirs in
    let fits = part_fits c.args.first c.args.count n s.sample_bytes _ size c.requires.within in
    search (rules, fits)

pub loop-channel-preserved : goal.loop-channel-preserved
loop-channel-preserved c =
    let s = c.args.sizes in
    let w = s.sample_bytes in
    let k = c.loop-channel.channel in
    let size = s.buffer * w in
    let n = length c.args.io.now / s.frame_bytes in
    let now = c.loop-channel.ring in
    let all = area_size s s.buffer _ c.requires.sizes c.requires.memory in
    let fits : k * size + size ≤ length c.args.ring.now = area_fits s.channels size _ k all c.loop-channel-test.true in
    let long = c.write_round.auto.ring ∙ cut_size size k s.channels now c.loop-channel-test.true (c.loop-channel.auto.ring ∙ all) in
    let from : take (c.args.first * w + c.args.count * w - c.args.first * w) (drop (c.args.first * w) (take (k * (n * w) + n * w - k * (n * w)) (drop (k * (n * w)) c.args.io.now))) ≡ take (c.args.count * w) (drop (c.args.first * w) (piece (n * w) k c.args.io.now)) =
    ap (λ xs. take (c.args.first * w + c.args.count * w - c.args.first * w) (drop (c.args.first * w) xs)) (cut_piece (n * w) k c.args.io.now)
    ∙ ap (λ x. take x (drop (c.args.first * w) (piece (n * w) k c.args.io.now))) (omega arith) in
    let written : c.write_round.new.ring ≡ written_round (c.args.slot * w) (take (c.args.count * w) (drop (c.args.first * w) (piece (n * w) k c.args.io.now))) (piece size k now) =
    c.write_round.ensures ∙ (ap (λ xs. written_round (c.args.slot * w) xs (take (k * size + size - k * size) (drop (k * size) now))) from ∙ ap (written_round (c.args.slot * w) _) (cut_piece size k now)) in
    IsWrittenTo-write _ k size c.args.ring.now now _ fits long written c.loop-channel.invariant

pub returns : goal.returns
returns c =
    let s = c.args.sizes in
    let w = s.sample_bytes in
    let n = length c.args.io.now / s.frame_bytes in
    let io = c.args.io.now in
    let frames = frames_across_in s io in
    let all : c.loop-channel.channel ≡ s.channels = omega arith in
    let ring = area_size s s.buffer _ c.requires.sizes c.requires.memory in
    let theirs = area_size s n _ c.requires.sizes (whole_frames (length io) s.frame_bytes c.requires.whole) in
    let count : length frames ≡ n = length-frames_across n w _ in
    let cut = λ (k : ℕ). take (c.args.count * w) (drop (c.args.first * w) (piece (n * w) k io)) in
    let sizes : (k : ℕ) → k < s.channels → length (cut k) ≡ c.args.count * w = λ k q.
    length-take (c.args.count * w) (drop (c.args.first * w) (piece (n * w) k io))
    ∙ omega (arith, length-drop (c.args.first * w) (piece (n * w) k io), piece_size (n * w) k s.channels io q theirs, part_fits c.args.first c.args.count n w (length (piece (n * w) k io)) (piece_size (n * w) k s.channels io q theirs) c.requires.within) in
    areas_written s.buffer s.channels w c.args.slot c.args.count cut (part c.args.first c.args.count frames) c.args.ring.now c.loop-channel.ring ring c.requires.slot c.requires.fits (length-part c.args.first c.args.count frames (omega arith)) sizes
    (λ i a l m same.
    planar_frames_agree s.buffer n s.channels w i (c.args.first + a) c.loop-channel.ring io l (omega arith) (λ k q. same k q ∙ piece_of_part c.args.first c.args.count w a (piece (n * w) k io) m)
    ∙ sym (get_or-take c.args.count (drop c.args.first frames) a [] m ∙ get_or-drop c.args.first frames a []))
    (subst (λ x. IsWrittenTo (λ k area. written_round (c.args.slot * w) (cut k) area) x (s.buffer * w) c.args.ring.now c.loop-channel.ring) all c.loop-channel.invariant)

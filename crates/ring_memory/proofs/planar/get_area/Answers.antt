use Rattle.std.proofs.Common.{◌≡◌, ◌+◌, ◌-◌, ◌*◌, ◌/◌, ◌≤◌, length, take, drop, ap, ◌∙◌, subst, arith, rules, length-take, length-drop}
use borrow.Rule.Slice.PartMut.{put_mid}
use Rattle.pcm_base.specs.model.Frame.{planar_frames}
use Rattle.ring_memory.specs.Round.{over, read_round}
use Rattle.ring_memory.proofs.RoundLemmas.{length-over}
use Rattle.ring_memory.proofs.AreaLemmas.{area_size, area_fits, part_fits}
use Rattle.ring_memory.proofs.AreaRoundLemmas.{areas_read, length-taken}
use Rattle.ring_memory.proofs.FrameLemmas.{whole_frames}
use Rattle.ring_memory.proofs.SlotLemmas.{piece, cut_size, cut_piece, piece_size, put_mid-over, IsWrittenTo, IsWrittenTo-write}
use Rattle.ring_memory.proofs.planar.get_area.Goals as goal

pub slice_bounds-own-end : goal.slice_bounds-own-end
slice_bounds-own-end c =
    let s = c.args.sizes in
    let all = area_size s s.buffer _ c.requires.sizes c.requires.memory in
    let fits = area_fits s.channels (s.buffer * s.sample_bytes) _ c.loop-channel.channel all c.loop-channel-test.true in
    search (rules, fits)

pub overflow_mul-to : goal.overflow_mul-to
overflow_mul-to c =
    let s = c.args.sizes in
    let n = length c.args.io.now / s.frame_bytes in
    let all = area_size s n _ c.requires.sizes (whole_frames (length c.args.io.now) s.frame_bytes c.requires.whole) in
    omega (arith, area_fits s.channels (n * s.sample_bytes) _ c.loop-channel.channel all c.loop-channel-test.true)

pub overflow_add-theirs : goal.overflow_add-theirs
overflow_add-theirs c =
    let s = c.args.sizes in
    let n = length c.args.io.now / s.frame_bytes in
    let all = area_size s n _ c.requires.sizes (whole_frames (length c.args.io.now) s.frame_bytes c.requires.whole) in
    omega (arith, area_fits s.channels (n * s.sample_bytes) _ c.loop-channel.channel all c.loop-channel-test.true)

pub slice_bounds-theirs-end : goal.slice_bounds-theirs-end
slice_bounds-theirs-end c =
    let s = c.args.sizes in
    let n = length c.args.io.now / s.frame_bytes in
    let all = area_size s n _ c.requires.sizes (whole_frames (length c.args.io.now) s.frame_bytes c.requires.whole) in
    let fits = area_fits s.channels (n * s.sample_bytes) _ c.loop-channel.channel all c.loop-channel-test.true in
    search (rules, fits, c.loop-channel.auto.io)

pub slice_bounds-copy_round-end : goal.slice_bounds-copy_round-end
slice_bounds-copy_round-end c =
    let s = c.args.sizes in
    let n = length c.args.io.now / s.frame_bytes in
    let theirs = area_size s n _ c.requires.sizes (whole_frames (length c.args.io.now) s.frame_bytes c.requires.whole) in
    let size = cut_size (n * s.sample_bytes) c.loop-channel.channel s.channels c.loop-channel.io c.loop-channel-test.true (c.loop-channel.auto.io ∙ theirs) in
    let fits = part_fits c.args.first c.args.count n s.sample_bytes _ size c.requires.within in
    search (rules, fits)

pub loop-channel-preserved : goal.loop-channel-preserved
loop-channel-preserved c =
    let s = c.args.sizes in
    let w = s.sample_bytes in
    let k = c.loop-channel.channel in
    let first = c.args.first * w in
    let count = c.args.count * w in
    let start = c.args.slot * w in
    let size = s.buffer * w in
    let n = length c.args.io.now / s.frame_bytes in
    let now = c.loop-channel.io in
    let new = c.copy_round.new.out in
    let ring = area_size s s.buffer _ c.requires.sizes c.requires.memory in
    let all = area_size s n _ c.requires.sizes (whole_frames (length c.args.io.now) s.frame_bytes c.requires.whole) in
    let fits : k * (n * w) + n * w ≤ length c.args.io.now = area_fits s.channels (n * w) _ k all c.loop-channel-test.true in
    let theirs = take (k * (n * w) + n * w - k * (n * w)) (drop (k * (n * w)) now) in
    let size_of : length theirs ≡ n * w = cut_size (n * w) k s.channels now c.loop-channel-test.true (c.loop-channel.auto.io ∙ all) in
    let inside : first + count ≤ length theirs = part_fits c.args.first c.args.count n w (length theirs) size_of c.requires.within in
    let out : length (take (first + count - first) (drop first theirs)) ≡ count = length-take (first + count - first) (drop first theirs) ∙ omega (arith, length-drop first theirs) in
    let own : length (piece size k c.args.ring.now) ≡ size = piece_size size k s.channels c.args.ring.now c.loop-channel-test.true ring in
    let taken : new ≡ read_round start count (piece size k c.args.ring.now) =
    c.copy_round.ensures ∙ (ap (λ m. read_round start m (take (k * size + size - k * size) (drop (k * size) c.args.ring.now))) out ∙ ap (read_round start count) (cut_piece size k c.args.ring.now)) in
    let wide : length new ≡ count = ap length taken ∙ length-taken s.buffer w c.args.slot c.args.count (piece size k c.args.ring.now) own (omega arith) c.requires.fits in
    let laid : put_mid first (first + count - first) theirs new ≡ over first new theirs = put_mid-over first count theirs new wide in
    let written : put_mid first (first + count - first) theirs new ≡ over first (read_round start count (piece size k c.args.ring.now)) (piece (n * w) k now) =
    laid ∙ (ap (λ xs. over first xs theirs) taken ∙ ap (over first (read_round start count (piece size k c.args.ring.now))) (cut_piece (n * w) k now)) in
    let long : length (put_mid first (first + count - first) theirs new) ≡ n * w = ap length laid ∙ (length-over first new theirs (omega arith) ∙ size_of) in
    IsWrittenTo-write _ k (n * w) c.args.io.now now _ fits long written c.loop-channel.invariant

pub returns : goal.returns
returns c =
    let s = c.args.sizes in
    let w = s.sample_bytes in
    let n = length c.args.io.now / s.frame_bytes in
    let all : c.loop-channel.channel ≡ s.channels = omega arith in
    let ring = area_size s s.buffer _ c.requires.sizes c.requires.memory in
    let theirs = area_size s n _ c.requires.sizes (whole_frames (length c.args.io.now) s.frame_bytes c.requires.whole) in
    ap (λ x. planar_frames (x / s.frame_bytes) s.channels w c.loop-channel.io) c.loop-channel.auto.io
    ∙ areas_read n s.buffer s.channels w c.args.first c.args.slot c.args.count c.args.ring.now c.args.io.now c.loop-channel.io ring theirs c.requires.slot c.requires.fits c.requires.within
    (subst (λ x. IsWrittenTo (λ k area. over (c.args.first * w) (read_round (c.args.slot * w) (c.args.count * w) (piece (s.buffer * w) k c.args.ring.now)) area) x (n * w) c.args.io.now c.loop-channel.io) all c.loop-channel.invariant)

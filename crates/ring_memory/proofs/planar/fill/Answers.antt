use Rattle.std.proofs.Common.{ℕ, ◌≡◌, ◌+◌, ◌*◌, ◌≤◌, ◌<◌, [], replicate, length, ap, sym, ◌∙◌, subst, arith, rules, refl}
use Rattle.std.proofs.lemmas.List.{get_or-replicate, length-replicate}
use Rattle.ring_memory.specs.Round.{written_round}
use Rattle.ring_memory.proofs.AreaLemmas.{area_size, area_fits, planar_frame_is}
use Rattle.ring_memory.proofs.AreaRoundLemmas.{areas_written, piece-replicate}
use Rattle.ring_memory.proofs.SlotLemmas.{piece, cut_size, cut_piece, IsWrittenTo, IsWrittenTo-write}
use Rattle.ring_memory.proofs.planar.fill.Goals as goal

pub slice_bounds-own-end : goal.slice_bounds-own-end
slice_bounds-own-end c =
    let s = c.args.sizes in
    let all = area_size s s.buffer _ c.requires.sizes c.requires.memory in
    let fits = area_fits s.channels (s.buffer * s.sample_bytes) _ c.loop-channel.channel all c.loop-channel-test.true in
    search (rules, fits, c.loop-channel.auto.ring)

pub loop-channel-preserved : goal.loop-channel-preserved
loop-channel-preserved c =
    let s = c.args.sizes in
    let w = s.sample_bytes in
    let k = c.loop-channel.channel in
    let size = s.buffer * w in
    let now = c.loop-channel.ring in
    let all = area_size s s.buffer _ c.requires.sizes c.requires.memory in
    let fits : k * size + size ≤ length c.args.ring.now = area_fits s.channels size _ k all c.loop-channel-test.true in
    let long = c.fill_round.auto.ring ∙ cut_size size k s.channels now c.loop-channel-test.true (c.loop-channel.auto.ring ∙ all) in
    let written : c.fill_round.new.ring ≡ written_round (c.args.slot * w) (replicate (c.args.count * w) c.args.silence) (piece size k now) =
    c.fill_round.ensures ∙ ap (written_round (c.args.slot * w) (replicate (c.args.count * w) c.args.silence)) (cut_piece size k now) in
    IsWrittenTo-write _ k size c.args.ring.now now _ fits long written c.loop-channel.invariant

pub returns : goal.returns
returns c =
    let s = c.args.sizes in
    let w = s.sample_bytes in
    let v = c.args.silence in
    let all : c.loop-channel.channel ≡ s.channels = omega arith in
    let ring = area_size s s.buffer _ c.requires.sizes c.requires.memory in
    let silent = replicate s.frame_bytes v in
    let wide : length silent ≡ s.channels * w = length-replicate s.frame_bytes v ∙ c.requires.sizes.frame in
    let sizes : (k : ℕ) → k < s.channels → length (replicate (c.args.count * w) v) ≡ c.args.count * w = λ k q. length-replicate (c.args.count * w) v in
    areas_written s.buffer s.channels w c.args.slot c.args.count (λ k. replicate (c.args.count * w) v) (replicate c.args.count silent) c.args.ring.now c.loop-channel.ring ring c.requires.slot c.requires.fits (length-replicate c.args.count silent) sizes
    (λ i a l m same.
    planar_frame_is s.buffer s.channels w i c.loop-channel.ring silent l wide (λ k q. same k q ∙ (piece-replicate w a c.args.count v (c.args.count * w) refl m ∙ sym (piece-replicate w k s.channels v s.frame_bytes c.requires.sizes.frame q)))
    ∙ sym (get_or-replicate c.args.count a silent [] m))
    (subst (λ x. IsWrittenTo (λ k area. written_round (c.args.slot * w) (replicate (c.args.count * w) v) area) x (s.buffer * w) c.args.ring.now c.loop-channel.ring) all c.loop-channel.invariant)

use Rattle.std.proofs.Common.{◌≡◌, ◌+◌, ◌-◌, ◌*◌, ◌≤◌, [], ◌++◌, get_or, length, take, drop, ap, sym, ◌∙◌, arith, rules, length-take, length-drop}
use Rattle.std.proofs.lemmas.Slice.{take-put_mid}
use Rattle.ring_memory.proofs.AreaLemmas.{area_size, area_fits, copied_next, copied_all}
use Rattle.pcm_base.specs.model.Frame.{planar_frames}
use Rattle.ring_memory.proofs.SlotLemmas.{cut_is, piece, piece_fits}
use Rattle.ring_memory.proofs.sample.frame_from_areas.Goals as goal

pub overflow_mul-start : goal.overflow_mul-start
overflow_mul-start c =
    let s = c.args.sizes in
    let all = area_size s c.args.count _ c.requires.sizes c.requires.areas in
    omega (arith, area_fits s.channels (c.args.count * s.sample_bytes) _ c.loop-channel.channel all c.loop-channel-test.true)

pub overflow_add-own : goal.overflow_add-own
overflow_add-own c =
    let s = c.args.sizes in
    let all = area_size s c.args.count _ c.requires.sizes c.requires.areas in
    omega (arith, area_fits s.channels (c.args.count * s.sample_bytes) _ c.loop-channel.channel all c.loop-channel-test.true)

pub slice_bounds-own-end : goal.slice_bounds-own-end
slice_bounds-own-end c =
    let s = c.args.sizes in
    let all = area_size s c.args.count _ c.requires.sizes c.requires.areas in
    let fits = area_fits s.channels (c.args.count * s.sample_bytes) _ c.loop-channel.channel all c.loop-channel-test.true in
    search (rules, fits)

pub loop-channel-preserved : goal.loop-channel-preserved
loop-channel-preserved c =
    let s = c.args.sizes in
    let w = s.sample_bytes in
    let k = c.loop-channel.channel in
    let size = c.args.count * w in
    let bytes = c.args.areas.now in
    let new = c.copy_from_slice.new.self in
    let within : k * w + w ≤ length c.loop-channel.frame = omega (arith, piece_fits w k s.channels c.loop-channel-test.true, c.requires.sizes.frame) in
    let wide : length new ≡ w = c.copy_from_slice.ensures.len ∙ simp (length-take, length-drop) (omega arith) in
    let copied : new ≡ piece w c.args.i (take size (drop (k * size) bytes)) =
    c.copy_from_slice.ensures.after ∙ (cut_is (c.args.i * w) w _ ∙ ap (λ xs. take w (drop (c.args.i * w) xs)) (cut_is (k * size) size bytes)) in
    copied_next c.args.count w c.args.i k bytes c.loop-channel.frame _ c.loop-channel.invariant
    (take-put_mid (k * w) (k * w + w - k * w) c.loop-channel.frame new (k * w + w) (omega arith) (omega arith) ∙ ap (λ xs. take (k * w) c.loop-channel.frame ++ xs) copied)

pub returns : goal.returns
returns c =
    let s = c.args.sizes in
    let w = s.sample_bytes in
    let all : c.loop-channel.channel ≡ s.channels = omega arith in
    let wide : length c.loop-channel.frame ≡ c.loop-channel.channel * w = c.loop-channel.auto.frame ∙ (c.requires.frame ∙ (c.requires.sizes.frame ∙ ap (λ n. n * w) (sym all))) in
    copied_all c.args.count c.loop-channel.channel w c.args.i c.args.areas.now c.loop-channel.frame c.requires.within wide c.loop-channel.invariant
    ∙ ap (λ n. get_or (planar_frames c.args.count n w c.args.areas.now) c.args.i []) all

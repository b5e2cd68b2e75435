use Rattle.std.proofs.Common.{◌≡◌, ◌+◌, ◌-◌, ◌*◌, ◌≤◌, length, take, drop, ap, sym, ◌∙◌, subst, arith, rules, length-take, length-drop}
use Rattle.ring_memory.proofs.AreaLemmas.{area_size, area_fits, frame_written}
use Rattle.ring_memory.proofs.SlotLemmas.{cut_is, piece, piece_fits, IsWrittenTo, IsWrittenTo-write, put_mid-over}
use Rattle.ring_memory.specs.Round.{over}
use Rattle.ring_memory.proofs.RoundLemmas.{length-over}
use borrow.Rule.Slice.PartMut.{put_mid}
use Rattle.ring_memory.proofs.sample.frame_to_areas.Goals as goal

pub overflow_mul-start : goal.overflow_mul-start
overflow_mul-start c =
    let s = c.args.sizes in
    let all = area_size s c.args.count _ c.requires.sizes c.requires.areas in
    omega (arith, area_fits s.channels (c.args.count * s.sample_bytes) _ c.loop-channel.channel all c.loop-channel-test.true)

pub overflow_add-own : goal.overflow_add-own
overflow_add-own c =
    let s = c.args.sizes in
    let all = area_size s c.args.count _ c.requires.sizes c.requires.areas in
    omega (arith, area_fits s.channels (c.args.count * s.sample_bytes) _ c.loop-channel.channel all c.loop-channel-test.true)

pub slice_bounds-own-end : goal.slice_bounds-own-end
slice_bounds-own-end c =
    let s = c.args.sizes in
    let all = area_size s c.args.count _ c.requires.sizes c.requires.areas in
    let fits = area_fits s.channels (c.args.count * s.sample_bytes) _ c.loop-channel.channel all c.loop-channel-test.true in
    search (rules, fits)

pub loop-channel-preserved : goal.loop-channel-preserved
loop-channel-preserved c =
    let s = c.args.sizes in
    let w = s.sample_bytes in
    let k = c.loop-channel.channel in
    let size = c.args.count * w in
    let now = c.loop-channel.areas in
    let new = c.copy_from_slice.new.self in
    let all = area_size s c.args.count _ c.requires.sizes c.requires.areas in
    let fits : k * size + size ≤ length c.args.areas.now = area_fits s.channels size _ k all c.loop-channel-test.true in
    let copied : new ≡ piece w k c.args.frame.now = c.copy_from_slice.ensures.after ∙ cut_is (k * w) w c.args.frame.now in
    let frame : k * w + w ≤ length c.args.frame.now = omega (arith, piece_fits w k s.channels c.loop-channel-test.true, c.requires.sizes.frame, c.requires.frame) in
    let wide : length new ≡ w = ap length copied ∙ simp (length-take, length-drop) (omega arith) in
    let own : take (k * size + size - k * size) (drop (k * size) now) ≡ piece size k now = cut_is (k * size) size now in
    let inside : c.args.i * w + w ≤ size = piece_fits w c.args.i c.args.count c.requires.within in
    let written : put_mid (c.args.i * w) (c.args.i * w + w - c.args.i * w) (take (k * size + size - k * size) (drop (k * size) now)) new ≡ over (c.args.i * w) (piece w k c.args.frame.now) (piece size k now) =
    put_mid-over (c.args.i * w) w _ new wide ∙ (ap (λ ys. over (c.args.i * w) ys (take (k * size + size - k * size) (drop (k * size) now))) copied ∙ ap (over (c.args.i * w) (piece w k c.args.frame.now)) own) in
    let area : length (piece size k now) ≡ size = length-take size (drop (k * size) now) ∙ omega (arith, length-drop (k * size) now, c.loop-channel.auto.areas) in
    let piece_size : length (piece w k c.args.frame.now) ≡ w = ap length (sym copied) ∙ wide in
    let long : length (put_mid (c.args.i * w) (c.args.i * w + w - c.args.i * w) (take (k * size + size - k * size) (drop (k * size) now)) new) ≡ size =
    ap length written ∙ (length-over (c.args.i * w) (piece w k c.args.frame.now) (piece size k now) (omega arith) ∙ area) in
    IsWrittenTo-write _ k size c.args.areas.now now _ fits long written c.loop-channel.invariant

pub returns : goal.returns
returns c =
    let s = c.args.sizes in
    let all : c.loop-channel.channel ≡ s.channels = omega arith in
    let done = subst (λ n. IsWrittenTo (λ k area. over (c.args.i * s.sample_bytes) (piece s.sample_bytes k c.args.frame.now) area) n (c.args.count * s.sample_bytes) c.args.areas.now c.loop-channel.areas) all c.loop-channel.invariant in
    frame_written c.args.count s.channels s.sample_bytes c.args.i c.args.frame.now c.args.areas.now c.loop-channel.areas c.requires.within (c.requires.frame ∙ c.requires.sizes.frame)
    (area_size s c.args.count _ c.requires.sizes c.requires.areas) done

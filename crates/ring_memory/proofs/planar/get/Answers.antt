use Rattle.std.proofs.Common.{◌≡◌, ◌+◌, ◌-◌, ◌*◌, ◌/◌, ◌≤◌, length, ap, sym, ◌∙◌, arith}
use Rattle.std.proofs.lemmas.List.{take_all}
use Rattle.std.proofs.lemmas.Slice.{take-put_mid}
use Rattle.pcm_base.specs.model.Frame.{bytes_of}
use Rattle.ring_memory.specs.Round.{read_round}
use Rattle.ring_memory.specs.Sizes.{slots_across}
use Rattle.ring_memory.proofs.AreaLemmas.{length-frames_across}
use Rattle.ring_memory.proofs.FrameLemmas.{whole_frames, frames_fit}
use Rattle.ring_memory.proofs.SlotLemmas.{cut_size, piece_fits}
use Rattle.ring_memory.proofs.TurnLemmas.{bytes_next}
use Rattle.ring_memory.proofs.planar.get.Goals as goal

pub loop-k-preserved : goal.loop-k-preserved
loop-k-preserved c =
    let s = c.args.sizes in
    let k = c.loop-k.k in
    let w = s.frame_bytes in
    let n = length c.args.out.now / w in
    let whole : length c.loop-k.out ≡ n * w = c.loop-k.auto.out ∙ whole_frames (length c.args.out.now) w c.requires.whole in
    let fits : n ≤ s.buffer = frames_fit (length c.args.out.now) w s.buffer c.requires.sizes.some (omega arith) in
    let wide : length c.frame_from_areas.new.frame ≡ w = c.frame_from_areas.auto.frame ∙ cut_size w k n c.loop-k.out (omega arith) whole in
    let within : k * w ≤ length c.loop-k.out = omega (arith, piece_fits w k n (omega arith)) in
    bytes_next s.buffer c.args.slot k c.slot_after-at.result w (slots_across s c.args.ring.now) c.loop-k.out _ _ (length-frames_across _ s.sample_bytes _) c.requires.slot (omega arith) c.slot_after-at.ensures c.frame_from_areas.ensures
    (take-put_mid (k * w) (k * w + w - k * w) c.loop-k.out c.frame_from_areas.new.frame (k * w + w) (omega arith) within) c.loop-k.invariant

pub returns : goal.returns
returns c =
    let s = c.args.sizes in
    let w = s.frame_bytes in
    let all : c.loop-k.k ≡ length c.args.out.now / w = omega arith in
    let whole : length c.args.out.now ≡ length c.args.out.now / w * w = whole_frames (length c.args.out.now) w c.requires.whole in
    let every : c.loop-k.k * w ≡ length c.args.out.now / w * w = ap (λ n. n * w) all in
    sym (take_all (c.loop-k.k * w) c.loop-k.out (omega arith)) ∙ (c.loop-k.invariant ∙ ap (λ n. bytes_of (read_round c.args.slot n (slots_across s c.args.ring.now))) all)

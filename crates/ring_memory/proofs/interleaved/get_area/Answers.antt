use Rattle.std.proofs.Common.{◌≡◌, ◌+◌, ◌/◌, ◌<◌, length, ap, sym, ◌∙◌, arith}
use Rattle.pcm_base.specs.model.Frame.{planar_frames}
use Rattle.ring_memory.specs.Round.{over, read_round}
use Rattle.ring_memory.specs.Sizes.{slots_in_order, frames_across_in}
use Rattle.ring_memory.proofs.AreaLemmas.{length-frames_across}
use Rattle.ring_memory.proofs.FrameLemmas.{length-frames_of}
use Rattle.ring_memory.proofs.SlotLemmas.{cut_piece, frames_of-get}
use Rattle.ring_memory.proofs.TurnLemmas.{get_next, read_none, over_none}
use Rattle.ring_memory.proofs.interleaved.get_area.Goals as goal

pub loop-k-init : goal.loop-k-init
loop-k-init c =
    let s = c.args.sizes in
    let frames = frames_across_in s c.args.io.now in
    sym (ap (λ xs. over c.args.first xs frames) (read_none c.args.slot (slots_in_order s c.args.ring.now)) ∙ over_none c.args.first frames)

pub loop-k-preserved : goal.loop-k-preserved
loop-k-preserved c =
    let s = c.args.sizes in
    let k = c.loop-k.k in
    let b = s.buffer in
    let slots = slots_in_order s c.args.ring.now in
    let frames = frames_across_in s c.args.io.now in
    let count : length frames ≡ length c.args.io.now / s.frame_bytes = length-frames_across _ s.sample_bytes _ in
    let at : c.slot_after.result < b = omega (arith, c.slot_after.ensures) in
    get_next b c.args.slot c.slot_after.result k c.args.first (c.args.first + k) _ _ slots frames _ (length-frames_of b s.frame_bytes c.args.ring.now) c.requires.slot (omega arith) c.slot_after.ensures (omega arith)
    (cut_piece s.frame_bytes c.slot_after.result c.args.ring.now ∙ sym (frames_of-get b s.frame_bytes c.slot_after.result c.args.ring.now at))
    (omega arith) c.frame_to_areas.ensures c.loop-k.invariant

pub returns : goal.returns
returns c =
    let s = c.args.sizes in
    let all : c.loop-k.k ≡ c.args.count = omega arith in
    ap (λ n. planar_frames (n / s.frame_bytes) s.channels s.sample_bytes c.loop-k.io) c.loop-k.auto.io
    ∙ (c.loop-k.invariant ∙ ap (λ n. over c.args.first (read_round c.args.slot n (slots_in_order s c.args.ring.now)) (frames_across_in s c.args.io.now)) all)

use Rattle.std.proofs.Common.{◌≡◌, ◌+◌, ◌/◌, ◌≤◌, length, ap, sym, ◌∙◌, arith}
use Rattle.pcm_base.specs.model.Frame.{frames_of}
use Rattle.ring_memory.specs.Round.{written_round}
use Rattle.ring_memory.specs.Sizes.{slots_across}
use Rattle.ring_memory.proofs.AreaLemmas.{length-frames_across, frames_of-next}
use Rattle.ring_memory.proofs.FrameLemmas.{length-frames_of, frames_fit}
use Rattle.ring_memory.proofs.SlotLemmas.{piece, cut_piece}
use Rattle.ring_memory.proofs.TurnLemmas.{set_next, written_none}
use Rattle.ring_memory.proofs.planar.put.Goals as goal

pub loop-k-init : goal.loop-k-init
loop-k-init c = sym (written_none c.args.slot (slots_across c.args.sizes c.args.ring.now))

pub loop-k-preserved : goal.loop-k-preserved
loop-k-preserved c =
    let s = c.args.sizes in
    let k = c.loop-k.k in
    let w = s.frame_bytes in
    let frames = c.args.frames.now in
    let slots = slots_across s c.args.ring.now in
    let fits : length frames / w ≤ s.buffer = frames_fit (length frames) w s.buffer c.requires.sizes.some (omega arith) in
    set_next s.buffer c.args.slot c.slot_after-at.result k _ (piece w k frames) (frames_of k w frames) (frames_of (k + 1) w frames) slots _ _ (length-frames_across _ s.sample_bytes _) c.requires.slot (omega arith) c.slot_after-at.ensures
    (cut_piece w k frames) (length-frames_of k w frames) (frames_of-next k w frames) c.frame_to_areas.ensures c.loop-k.invariant

pub returns : goal.returns
returns c =
    let s = c.args.sizes in
    let all : c.loop-k.k ≡ length c.args.frames.now / s.frame_bytes = omega arith in
    c.loop-k.invariant ∙ ap (λ n. written_round c.args.slot (frames_of n s.frame_bytes c.args.frames.now) (slots_across s c.args.ring.now)) all

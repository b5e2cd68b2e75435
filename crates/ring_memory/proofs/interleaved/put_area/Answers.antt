use Rattle.std.proofs.Common.{◌≡◌, ◌+◌, ◌/◌, length, ap, sym, ◌∙◌, arith}
use Rattle.ring_memory.specs.Round.{written_round, part}
use Rattle.ring_memory.specs.Sizes.{slots_in_order, frames_across_in}
use Rattle.ring_memory.proofs.AreaLemmas.{length-frames_across}
use Rattle.ring_memory.proofs.FrameLemmas.{length-frames_of}
use Rattle.ring_memory.proofs.SlotLemmas.{cut_size}
use Rattle.ring_memory.proofs.TurnLemmas.{length-part, part_next, put_next, written_none}
use Rattle.ring_memory.proofs.interleaved.put_area.Goals as goal

pub loop-k-init : goal.loop-k-init
loop-k-init c = sym (written_none c.args.slot (slots_in_order c.args.sizes c.args.ring.now))

pub loop-k-preserved : goal.loop-k-preserved
loop-k-preserved c =
    let s = c.args.sizes in
    let k = c.loop-k.k in
    let frames = frames_across_in s c.args.io.now in
    let count : length frames ≡ length c.args.io.now / s.frame_bytes = length-frames_across _ s.sample_bytes _ in
    put_next s.buffer s.frame_bytes c.args.slot c.slot_after.result k c.loop-k.ring c.frame_from_areas.new.frame _ (part c.args.first k frames) (part c.args.first (k + 1) frames) (slots_in_order s c.args.ring.now)
    (c.loop-k.auto.ring ∙ c.requires.memory) (c.frame_from_areas.auto.frame ∙ cut_size s.frame_bytes c.slot_after.result s.buffer c.loop-k.ring (omega arith) (c.loop-k.auto.ring ∙ c.requires.memory)) (length-frames_of s.buffer s.frame_bytes c.args.ring.now) c.requires.slot (omega arith) c.slot_after.ensures c.frame_from_areas.ensures
    (length-part c.args.first k frames (omega arith)) (part_next c.args.first k frames (omega arith)) c.loop-k.invariant

pub returns : goal.returns
returns c =
    let s = c.args.sizes in
    let all : c.loop-k.k ≡ c.args.count = omega arith in
    c.loop-k.invariant ∙ ap (λ n. written_round c.args.slot (part c.args.first n (frames_across_in s c.args.io.now)) (slots_in_order s c.args.ring.now)) all

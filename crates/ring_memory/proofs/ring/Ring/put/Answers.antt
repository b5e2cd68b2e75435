use Rattle.std.proofs.Common.{◌/◌, ◌≤◌, true, false, length, ◌∙◌, arith}
use Rattle.std.proofs.lemmas.List.{with_items_is}
use Rattle.ring_memory.specs.Ring.{RingFacts, frames_in}
use Rattle.ring_memory.proofs.FrameLemmas.{length-frames_of}
use Rattle.ring_memory.proofs.RingLemmas.{written_in, stands_after}
use Rattle.ring_memory.proofs.ring.Ring.put.Goals as goal

pub returns-then-self-clause-puts : goal.returns-then-self-clause-puts
returns-then-self-clause-puts c =
    let s = c.self.inside.sizes in
    let bytes = c.self.inside.bytes in
    let frames = λ (r : RingFacts). frames_in r c.args.frames.now in
    let count : length (frames c.args.self.now) ≤ c.args.self.now.buffer = omega (arith, length-frames_of (length c.args.frames.now / c.args.self.now.frame_bytes) c.args.self.now.frame_bytes c.args.frames.now, c.requires.fits) in
    let items = with_items_is bytes c.put.new.ring (c.put.auto.ring ∙ c.deref_mut.ensures.len) in
    stands_after s c.self.inside.planar bytes.items _ c.args.self.now c.self.view_is c.args.pos frames c.self.invariant.sizes
    (written_in true c.self.inside.planar s _ _ _ bytes.items c.put.new.ring _ c.if-self.true c.deref_mut.ensures.value items c.put.ensures) count

pub returns-else-self-clause-puts : goal.returns-else-self-clause-puts
returns-else-self-clause-puts c =
    let s = c.self.inside.sizes in
    let bytes = c.self.inside.bytes in
    let frames = λ (r : RingFacts). frames_in r c.args.frames.now in
    let count : length (frames c.args.self.now) ≤ c.args.self.now.buffer = omega (arith, length-frames_of (length c.args.frames.now / c.args.self.now.frame_bytes) c.args.self.now.frame_bytes c.args.frames.now, c.requires.fits) in
    let items = with_items_is bytes c.put-else-self.new.ring (c.put-else-self.auto.ring ∙ c.deref_mut-else-self.ensures.len) in
    stands_after s c.self.inside.planar bytes.items _ c.args.self.now c.self.view_is c.args.pos frames c.self.invariant.sizes
    (written_in false c.self.inside.planar s _ _ _ bytes.items c.put-else-self.new.ring _ c.if-self.false c.deref_mut-else-self.ensures.value items c.put-else-self.ensures) count

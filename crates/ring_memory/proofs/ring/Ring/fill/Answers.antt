use Rattle.std.proofs.Common.{◌≤◌, true, false, length, replicate, ◌∙◌, arith}
use Rattle.std.proofs.lemmas.List.{with_items_is, length-replicate}
use Rattle.ring_memory.specs.Ring.{RingFacts}
use Rattle.ring_memory.proofs.RingLemmas.{written_in, stands_after}
use Rattle.ring_memory.proofs.ring.Ring.fill.Goals as goal

pub returns-then-self-clause-puts : goal.returns-then-self-clause-puts
returns-then-self-clause-puts c =
    let s = c.self.inside.sizes in
    let bytes = c.self.inside.bytes in
    let frames = λ (r : RingFacts). replicate c.args.count (replicate r.frame_bytes c.args.silence) in
    let count : length (frames c.args.self.now) ≤ c.args.self.now.buffer = omega (arith, length-replicate c.args.count (replicate c.args.self.now.frame_bytes c.args.silence), c.requires) in
    let items = with_items_is bytes c.fill.new.ring (c.fill.auto.ring ∙ c.deref_mut.ensures.len) in
    stands_after s c.self.inside.planar bytes.items _ c.args.self.now c.self.view_is c.args.pos frames c.self.invariant.sizes
    (written_in true c.self.inside.planar s _ _ _ bytes.items c.fill.new.ring _ c.if-self.true c.deref_mut.ensures.value items c.fill.ensures) count

pub returns-else-self-clause-puts : goal.returns-else-self-clause-puts
returns-else-self-clause-puts c =
    let s = c.self.inside.sizes in
    let bytes = c.self.inside.bytes in
    let frames = λ (r : RingFacts). replicate c.args.count (replicate r.frame_bytes c.args.silence) in
    let count : length (frames c.args.self.now) ≤ c.args.self.now.buffer = omega (arith, length-replicate c.args.count (replicate c.args.self.now.frame_bytes c.args.silence), c.requires) in
    let items = with_items_is bytes c.fill-else-self.new.ring (c.fill-else-self.auto.ring ∙ c.deref_mut-else-self.ensures.len) in
    stands_after s c.self.inside.planar bytes.items _ c.args.self.now c.self.view_is c.args.pos frames c.self.invariant.sizes
    (written_in false c.self.inside.planar s _ _ _ bytes.items c.fill-else-self.new.ring _ c.if-self.false c.deref_mut-else-self.ensures.value items c.fill-else-self.ensures) count

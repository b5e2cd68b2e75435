use Rattle.std.proofs.Common.{◌≡◌, ◌/◌, ◌%◌, ◌≤◌, true, false, length, ap, ◌∙◌, arith}
use Rattle.std.proofs.lemmas.List.{with_items_is}
use Rattle.ring_memory.specs.Ring.{RingFacts, frames_across_in}
use Rattle.ring_memory.specs.Round.{written_round, part}
use Rattle.ring_memory.specs.Sizes.{slots_of}
use Rattle.ring_memory.proofs.AreaLemmas.{length-frames_across}
use Rattle.ring_memory.proofs.TurnLemmas.{length-part}
use Rattle.ring_memory.proofs.RingLemmas.{across_is, written_in, stands_after}
use Rattle.ring_memory.proofs.ring.Ring.put_area.Goals as goal

pub returns-then-self-clause-puts : goal.returns-then-self-clause-puts
returns-then-self-clause-puts c =
    let s = c.self.inside.sizes in
    let bytes = c.self.inside.bytes in
    let frames = λ (r : RingFacts). part c.args.first c.args.count (frames_across_in r c.args.io.now) in
    let all : length (frames_across_in c.args.self.now c.args.io.now) ≡ length c.args.io.now / c.args.self.now.frame_bytes = length-frames_across _ _ _ in
    let count : length (frames c.args.self.now) ≤ c.args.self.now.buffer = omega (arith, length-part c.args.first c.args.count (frames_across_in c.args.self.now c.args.io.now) (omega arith), c.requires.fits) in
    let across = ap (λ fs. written_round (c.args.pos % s.buffer) (part c.args.first c.args.count fs) (slots_of true s c.deref_mut.result.now)) (across_is s c.self.inside.planar bytes.items c.args.io.now c.self.invariant.sizes) in
    let items = with_items_is bytes c.put_area.new.ring (c.put_area.auto.ring ∙ c.deref_mut.ensures.len) in
    stands_after s c.self.inside.planar bytes.items _ c.args.self.now c.self.view_is c.args.pos frames c.self.invariant.sizes
    (written_in true c.self.inside.planar s _ _ _ bytes.items c.put_area.new.ring _ c.if-self.true c.deref_mut.ensures.value items (c.put_area.ensures ∙ across)) count

pub returns-else-self-clause-puts : goal.returns-else-self-clause-puts
returns-else-self-clause-puts c =
    let s = c.self.inside.sizes in
    let bytes = c.self.inside.bytes in
    let frames = λ (r : RingFacts). part c.args.first c.args.count (frames_across_in r c.args.io.now) in
    let all : length (frames_across_in c.args.self.now c.args.io.now) ≡ length c.args.io.now / c.args.self.now.frame_bytes = length-frames_across _ _ _ in
    let count : length (frames c.args.self.now) ≤ c.args.self.now.buffer = omega (arith, length-part c.args.first c.args.count (frames_across_in c.args.self.now c.args.io.now) (omega arith), c.requires.fits) in
    let across = ap (λ fs. written_round (c.args.pos % s.buffer) (part c.args.first c.args.count fs) (slots_of false s c.deref_mut-else-self.result.now)) (across_is s c.self.inside.planar bytes.items c.args.io.now c.self.invariant.sizes) in
    let items = with_items_is bytes c.put_area-else-self.new.ring (c.put_area-else-self.auto.ring ∙ c.deref_mut-else-self.ensures.len) in
    stands_after s c.self.inside.planar bytes.items _ c.args.self.now c.self.view_is c.args.pos frames c.self.invariant.sizes
    (written_in false c.self.inside.planar s _ _ _ bytes.items c.put_area-else-self.new.ring _ c.if-self.false c.deref_mut-else-self.ensures.value items (c.put_area-else-self.ensures ∙ across)) count

use Rattle.std.proofs.Common.{◌/◌, true, false, length, ap, ◌∙◌}
use Rattle.pcm_base.specs.model.Frame.{bytes_of}
use Rattle.ring_memory.specs.Ring.{RingFacts}
use Rattle.ring_memory.proofs.RingLemmas.{read_from}
use Rattle.ring_memory.proofs.ring.Ring.get.Goals as goal

pub returns-then-self : goal.returns-then-self
returns-then-self c = λ puts p st same.
    let s = c.self.inside.sizes in
    c.get.ensures
    ∙ ap bytes_of (read_from s c.self.inside.planar true c.self.inside.bytes.items c.deref.result.now c.args.self.now c.self.view_is c.if-self.true c.deref.ensures.value c.args.pos (λ (r : RingFacts). length c.args.out.now / r.frame_bytes) c.self.invariant.sizes c.requires.fits puts p st same)

pub returns-else-self : goal.returns-else-self
returns-else-self c = λ puts p st same.
    let s = c.self.inside.sizes in
    c.get-else-self.ensures
    ∙ ap bytes_of (read_from s c.self.inside.planar false c.self.inside.bytes.items c.deref-else-self.result.now c.args.self.now c.self.view_is c.if-self.false c.deref-else-self.ensures.value c.args.pos (λ (r : RingFacts). length c.args.out.now / r.frame_bytes) c.self.invariant.sizes c.requires.fits puts p st same)

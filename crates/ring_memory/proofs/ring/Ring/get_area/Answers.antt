use Rattle.std.proofs.Common.{ℕ, ◌%◌, true, false, List, sym, ap, ◌∙◌}
use Rattle.pcm_base.specs.model.Frame.{bytes_across}
use Rattle.pcm_base.specs.model.Standing.{standing_at}
use Rattle.ring_memory.specs.Ring.{frames_across_in, zero_frame, sample_bytes}
use Rattle.ring_memory.specs.Round.{over}
use Rattle.ring_memory.specs.Sizes.{frames_across_in as across}
use Rattle.ring_memory.proofs.RingLemmas.{across_is, read_from, bytes_as_shown}
use Rattle.ring_memory.proofs.ring.Ring.get_area.Goals as goal

pub returns-then-self-clause-frames : goal.returns-then-self-clause-frames
returns-then-self-clause-frames c = λ puts p st same.
    let s = c.self.inside.sizes in
    let planar = c.self.inside.planar in
    let bytes = c.self.inside.bytes.items in
    let r = c.args.self.now in
    let new = c.get_area.new.io in
    let old = c.args.io.now in
    let as_shown = λ (io : List ℕ). across_is s planar bytes io c.self.invariant.sizes ∙ ap (λ r. frames_across_in r io) c.self.view_is in
    let read = read_from s planar true bytes c.deref.result.now r c.self.view_is c.if-self.true c.deref.ensures.value c.args.pos (λ r. c.args.count) c.self.invariant.sizes c.requires.fits puts p st same in
    sym (as_shown new)
    ∙ (c.get_area.ensures
    ∙ (ap (λ fs. over c.args.first fs (across s old)) read
    ∙ ap (over c.args.first (standing_at puts r.buffer p c.args.count (zero_frame r))) (as_shown old)))

pub returns-else-self-clause-frames : goal.returns-else-self-clause-frames
returns-else-self-clause-frames c = λ puts p st same.
    let s = c.self.inside.sizes in
    let planar = c.self.inside.planar in
    let bytes = c.self.inside.bytes.items in
    let r = c.args.self.now in
    let new = c.get_area-else-self.new.io in
    let old = c.args.io.now in
    let as_shown = λ (io : List ℕ). across_is s planar bytes io c.self.invariant.sizes ∙ ap (λ r. frames_across_in r io) c.self.view_is in
    let read = read_from s planar false bytes c.deref-else-self.result.now r c.self.view_is c.if-self.false c.deref-else-self.ensures.value c.args.pos (λ r. c.args.count) c.self.invariant.sizes c.requires.fits puts p st same in
    sym (as_shown new)
    ∙ (c.get_area-else-self.ensures
    ∙ (ap (λ fs. over c.args.first fs (across s old)) read
    ∙ ap (over c.args.first (standing_at puts r.buffer p c.args.count (zero_frame r))) (as_shown old)))

pub returns-then-self-clause-bytes : goal.returns-then-self-clause-bytes
returns-then-self-clause-bytes c = λ puts p st same.
    let r = c.args.self.now in
    let whole = ap (λ n. n % r.frame_bytes) c.get_area.auto.io ∙ c.requires.whole in
    bytes_as_shown r c.self.inside.sizes c.self.inside.planar c.self.inside.bytes.items c.get_area.new.io c.self.view_is c.self.invariant.sizes whole
    ∙ ap (bytes_across r.channels (sample_bytes r)) (returns-then-self-clause-frames c puts p st same)

pub returns-else-self-clause-bytes : goal.returns-else-self-clause-bytes
returns-else-self-clause-bytes c = λ puts p st same.
    let r = c.args.self.now in
    let whole = ap (λ n. n % r.frame_bytes) c.get_area-else-self.auto.io ∙ c.requires.whole in
    bytes_as_shown r c.self.inside.sizes c.self.inside.planar c.self.inside.bytes.items c.get_area-else-self.new.io c.self.view_is c.self.invariant.sizes whole
    ∙ ap (bytes_across r.channels (sample_bytes r)) (returns-else-self-clause-frames c puts p st same)

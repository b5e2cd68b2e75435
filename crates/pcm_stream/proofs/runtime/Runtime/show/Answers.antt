use Rattle.std.proofs.Common.{◌≡◌, ◌%◌, List, ℕ, sym, ◌∙◌, ap, subst}
use Rattle.pcm_base.specs.declared.call.Layout.{Layout}
use Rattle.pcm_base.specs.declared.call.Layout.TheVariants as layout
use Rattle.pcm_base.specs.model.Frame.{Frame, bytes_across}
use Rattle.pcm_base.specs.model.Replay.{bytes_by}
use Rattle.pcm_base.specs.model.Transfer.{frames_by}
use Rattle.ring_memory.specs.Ring.{sample_bytes}
use Rattle.pcm_stream.specs.Buffer.{frames_read}
use Rattle.pcm_stream.proofs.LayoutLemmas.{planar-by}
use Rattle.pcm_stream.proofs.PartLemmas.{interleaved_read, interleaved_bytes, planar_read, planar_bytes}
use Rattle.pcm_stream.proofs.RunsLemmas.{shown-slot}
use Rattle.pcm_stream.proofs.runtime.Runtime.show.Goals as goal

pub returns-in-Interleaved-clause-frames : goal.returns-in-Interleaved-clause-frames
returns-in-Interleaved-clause-frames c s h =
    let r = c.args.self.now in
    let io : List ℕ = c.args.io.now in
    let new : List ℕ = c.get_part.new.io in
    let slot : s.at.appl % r.shape.buffer ≡ r.appl % r.shape.buffer = sym (shown-slot r.shape r.sound s.at.appl) ∙ ap (λ x. x % r.shape.buffer) (sym h.pointers.appl) in
    subst (λ (w : Layout). frames_by w s new ≡ frames_read w s c.args.first c.args.count io) (sym c.in-Interleaved.is)
    (interleaved_read r s io new c.args.first c.args.count h c.requires.whole c.requires.within c.get_part.auto.io
    (c.get_part.ensures s.puts s.at.appl h.frames.ring (subst (λ b. s.at.appl % b ≡ r.appl % b) (sym r.sized.buffer) slot)))

pub returns-in-Interleaved-clause-bytes : goal.returns-in-Interleaved-clause-bytes
returns-in-Interleaved-clause-bytes c s h =
    let r = c.args.self.now in
    let io : List ℕ = c.args.io.now in
    let new : List ℕ = c.get_part.new.io in
    let slot : s.at.appl % r.shape.buffer ≡ r.appl % r.shape.buffer = sym (shown-slot r.shape r.sound s.at.appl) ∙ ap (λ x. x % r.shape.buffer) (sym h.pointers.appl) in
    subst (λ (w : Layout). new ≡ bytes_by w s (frames_read w s c.args.first c.args.count io)) (sym c.in-Interleaved.is)
    (interleaved_bytes r s io new (frames_read layout.Interleaved s c.args.first c.args.count io) h c.requires.whole c.get_part.auto.io
    (interleaved_read r s io new c.args.first c.args.count h c.requires.whole c.requires.within c.get_part.auto.io
    (c.get_part.ensures s.puts s.at.appl h.frames.ring (subst (λ b. s.at.appl % b ≡ r.appl % b) (sym r.sized.buffer) slot))))

pub returns-in-Planar-clause-frames : goal.returns-in-Planar-clause-frames
returns-in-Planar-clause-frames c s h =
    let r = c.args.self.now in
    let io : List ℕ = c.args.io.now in
    let new : List ℕ = c.get_area.new.io in
    let slot : s.at.appl % r.shape.buffer ≡ r.appl % r.shape.buffer = sym (shown-slot r.shape r.sound s.at.appl) ∙ ap (λ x. x % r.shape.buffer) (sym h.pointers.appl) in
    subst (λ (w : Layout). frames_by w s new ≡ frames_read w s c.args.first c.args.count io) (sym c.in-Planar.is)
    (sym (planar-by r s new h) ∙ c.get_area.ensures.frames s.puts s.at.appl h.frames.ring (subst (λ b. s.at.appl % b ≡ r.appl % b) (sym r.sized.buffer) slot)
    ∙ planar_read r s io c.args.first c.args.count h)

pub returns-in-Planar-clause-bytes : goal.returns-in-Planar-clause-bytes
returns-in-Planar-clause-bytes c s h =
    let r = c.args.self.now in
    let io : List ℕ = c.args.io.now in
    let new : List ℕ = c.get_area.new.io in
    let slot : s.at.appl % r.shape.buffer ≡ r.appl % r.shape.buffer = sym (shown-slot r.shape r.sound s.at.appl) ∙ ap (λ x. x % r.shape.buffer) (sym h.pointers.appl) in
    subst (λ (w : Layout). new ≡ bytes_by w s (frames_read w s c.args.first c.args.count io)) (sym c.in-Planar.is)
    (c.get_area.ensures.bytes s.puts s.at.appl h.frames.ring (subst (λ b. s.at.appl % b ≡ r.appl % b) (sym r.sized.buffer) slot)
    ∙ ap (λ (fs : List Frame). bytes_across r.ring.channels (sample_bytes r.ring) fs) (planar_read r s io c.args.first c.args.count h)
    ∙ planar_bytes r s (frames_read layout.Planar s c.args.first c.args.count io) h)

use Rattle.std.proofs.Common.{◌≡◌, ◌/◌, ◌%◌, ℕ, List, length, take, drop, sym, ◌∙◌, ap, subst, arith}
use Rattle.pcm_base.specs.declared.call.Layout.{Layout}
use Rattle.pcm_base.specs.model.Frame.{Frame}
use Rattle.pcm_base.specs.model.Standing.{put_at}
use Rattle.pcm_base.specs.model.Transfer.{frames_by}
use Rattle.ring_memory.specs.Ring.{StandsForPuts, frames_in, frames_across_in}
use Rattle.pcm_stream.proofs.LayoutLemmas.{AreWide-part, planar-by, run-in}
use Rattle.pcm_stream.proofs.RunsLemmas.{shown-slot, PutsAreWide-put_at}
use Rattle.pcm_stream.proofs.SlotLemmas.{size-count, size-whole}
use Rattle.pcm_stream.proofs.runtime.Runtime.place.Goals as goal

pub put-requires-clause-whole : goal.put-requires-clause-whole
put-requires-clause-whole c =
    let r = c.args.self.now in
    ap (λ n. n % r.ring.frame_bytes) c.frames_from-frames.ensures.size ∙ size-whole r.shape r.ring c.args.count r.sized

pub put-requires-clause-fits : goal.put-requires-clause-fits
put-requires-clause-fits c =
    let r = c.args.self.now in
    let count : length c.frames_from-frames.result.now / r.ring.frame_bytes ≡ c.args.count =
    ap (λ n. n / r.ring.frame_bytes) c.frames_from-frames.ensures.size ∙ size-count r.shape r.ring c.args.count r.sound r.sized in
    omega (arith, count, r.sized.buffer, c.requires.fits)

pub returns-in-Interleaved-clause-put : goal.returns-in-Interleaved-clause-put
returns-in-Interleaved-clause-put c s h =
    let r = c.args.self.now in
    let io : List ℕ = c.args.io.now in
    let fs : List Frame = take c.args.count (drop c.args.first (frames_by c.args.layout s io)) in
    let slot : s.at.appl % r.shape.buffer ≡ r.appl % r.shape.buffer = sym (shown-slot r.shape r.sound s.at.appl) ∙ ap (λ x. x % r.shape.buffer) (sym h.pointers.appl) in
    let frames : frames_in r.ring c.frames_from-frames.result.now ≡ take c.args.count (drop c.args.first (frames_by c.args.layout s io)) =
    run-in r s c.frames_from-frames.result.now io c.args.first c.args.count h c.frames_from-frames.ensures.size c.frames_from-frames.ensures.frames
    ∙ ap (λ (w : Layout). take c.args.count (drop c.args.first (frames_by w s io))) (sym c.in-Interleaved.is) in
    record {
      setup = record {
        config = h.setup.config;
        shape = h.setup.shape;
        frame_bytes = h.setup.frame_bytes;
        buffer = h.setup.buffer;
        boundary = h.setup.boundary;
        sw = h.setup.sw;
        mappings = h.setup.mappings;
      };
      pointers = record {
        hw = h.pointers.hw;
        appl = h.pointers.appl;
        filled = h.pointers.filled;
      };
      frames = record {
        ring = subst (λ (x : List Frame). StandsForPuts c.put.new.self (put_at s.at.appl x s.puts)) frames
            (c.put.ensures.puts s.puts s.at.appl h.frames.ring (subst (λ b. s.at.appl % b ≡ r.appl % b) (sym r.sized.buffer) slot));
        puts = PutsAreWide-put_at r.shape.frame_bytes s.at.appl fs s.puts (AreWide-part c.args.layout r s io c.args.first c.args.count h) h.frames.puts;
        taken = h.frames.taken;
        to_give = h.frames.to_give;
        moved = h.frames.moved;
      };
    }

pub returns-in-Planar-clause-put : goal.returns-in-Planar-clause-put
returns-in-Planar-clause-put c s h =
    let r = c.args.self.now in
    let io : List ℕ = c.args.io.now in
    let fs : List Frame = take c.args.count (drop c.args.first (frames_by c.args.layout s io)) in
    let slot : s.at.appl % r.shape.buffer ≡ r.appl % r.shape.buffer = sym (shown-slot r.shape r.sound s.at.appl) ∙ ap (λ x. x % r.shape.buffer) (sym h.pointers.appl) in
    let frames : take c.args.count (drop c.args.first (frames_across_in r.ring io)) ≡ take c.args.count (drop c.args.first (frames_by c.args.layout s io)) =
    ap (λ (x : List Frame). take c.args.count (drop c.args.first x)) (planar-by r s io h)
    ∙ ap (λ (w : Layout). take c.args.count (drop c.args.first (frames_by w s io))) (sym c.in-Planar.is) in
    record {
      setup = record {
        config = h.setup.config;
        shape = h.setup.shape;
        frame_bytes = h.setup.frame_bytes;
        buffer = h.setup.buffer;
        boundary = h.setup.boundary;
        sw = h.setup.sw;
        mappings = h.setup.mappings;
      };
      pointers = record {
        hw = h.pointers.hw;
        appl = h.pointers.appl;
        filled = h.pointers.filled;
      };
      frames = record {
        ring = subst (λ (x : List Frame). StandsForPuts c.put_area.new.self (put_at s.at.appl x s.puts)) frames
            (c.put_area.ensures.puts s.puts s.at.appl h.frames.ring (subst (λ b. s.at.appl % b ≡ r.appl % b) (sym r.sized.buffer) slot));
        puts = PutsAreWide-put_at r.shape.frame_bytes s.at.appl fs s.puts (AreWide-part c.args.layout r s io c.args.first c.args.count h) h.frames.puts;
        taken = h.frames.taken;
        to_give = h.frames.to_give;
        moved = h.frames.moved;
      };
    }

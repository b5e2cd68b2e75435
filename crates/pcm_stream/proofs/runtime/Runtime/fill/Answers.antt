use Rattle.std.proofs.Common.{◌≡◌, ◌≤◌, ◌+◌, ◌-◌, ◌%◌, List, replicate, refl, sym, ◌∙◌, ap, subst, arith}
use Rattle.std.proofs.lemmas.List.{length-replicate}
use Rattle.pcm_base.specs.model.Frame.{Frame}
use Rattle.pcm_base.specs.model.Standing.{put_at}
use Rattle.pcm_base.specs.model.Update.{fill_start, fill_count, silent_frame, silence_byte}
use Rattle.silence_fill.specs.Fill.{StandsAt}
use Rattle.ring_memory.specs.Ring.{StandsForPuts}
use Rattle.pcm_stream.proofs.RunsLemmas.{queued-frames, playback-avail, playback-head, playback-fill_count, filled-ahead, shown-slot-add, silent-frames, PutsAreWide-put_at, AreWide-replicate, sized_same}
use Rattle.pcm_stream.proofs.runtime.Runtime.fill.Goals as goal

pub invariant_of-self : goal.invariant_of-self
invariant_of-self c = record {
  sound = c.args.self.now.sound;
  accepted = c.args.self.now.accepted;
  sized = sized_same c.args.self.now.shape c.args.self.now.ring c.fill.new.self c.fill.ensures.sizes c.args.self.now.sized;
  room = c.args.self.now.room;
  based = c.args.self.now.based;
  shown = c.args.self.now.shown;
  below = c.args.self.now.below;
  near = c.in-Some.ensures.within c.args.self.now.accepted;
  few = c.args.self.now.few;
}

pub returns-in-Some-clause-filled : goal.returns-in-Some-clause-filled
returns-in-Some-clause-filled c s way h placed =
    let shape = c.args.self.now.shape in
    let free : c.avail.result ≡ s.at.hw + s.setup.buffer - s.at.appl = c.avail.ensures.model s way h placed ∙ playback-avail s way in
    let written : s.at.appl ≤ s.at.hw + s.setup.buffer = omega (arith, placed.written, playback-head s way) in
    let queue : c.saturating_sub-queued.result ≡ s.setup.buffer - c.avail.result = omega (arith, c.saturating_sub-queued.ensures, h.setup.buffer) in
    let at : StandsAt s shape c.args.self.now.sw c.saturating_sub-queued.result c.args.self.now.filled = record {
      buffer = h.setup.buffer;
      boundary = h.setup.boundary;
      software = h.setup.sw;
      appl = queued-frames s.at.hw s.setup.buffer s.at.appl c.avail.result c.saturating_sub-queued.result free queue written;
      fill = h.pointers.filled;
    } in
    let planned = c.in-Some.ensures.model s at in
    let count : fill_count s ≡ c.in-Some.count = playback-fill_count s way ∙ planned.1 in
    let slot : fill_start s % shape.buffer ≡ (c.args.self.now.ptr.hw + c.in-Some.start) % shape.buffer =
    ap (λ x. x % shape.buffer) planned.0 ∙ sym (shown-slot-add shape c.args.self.now.sound s.at.hw c.in-Some.start)
    ∙ ap (λ x. (x + c.in-Some.start) % shape.buffer) (sym h.pointers.hw) in
    let frames : replicate c.in-Some.count (replicate c.args.self.now.ring.frame_bytes c.silence_of-silence.result) ≡ replicate (fill_count s) (silent_frame s) =
    silent-frames s (fill_count s) c.in-Some.count c.args.self.now.ring.frame_bytes c.silence_of-silence.result c.args.self.now.config count
    (h.setup.frame_bytes ∙ sym c.args.self.now.sized.frame_bytes) h.setup.config (c.silence_of-silence.ensures.configured c.args.self.now.config refl) in
    let puts : StandsForPuts c.fill.new.self (put_at (fill_start s) (replicate c.in-Some.count (replicate c.args.self.now.ring.frame_bytes c.silence_of-silence.result)) s.puts) =
    c.fill.ensures.puts s.puts (fill_start s) h.frames.ring (subst (λ b. fill_start s % b ≡ (c.args.self.now.ptr.hw + c.in-Some.start) % b) (sym c.args.self.now.sized.buffer) slot) in
    record {
      setup = record {
        config = h.setup.config;
        shape = h.setup.shape;
        frame_bytes = h.setup.frame_bytes;
        buffer = h.setup.buffer;
        boundary = h.setup.boundary;
        sw = h.setup.sw;
        mappings = h.setup.mappings;
      };
      pointers = record {
        hw = h.pointers.hw;
        appl = h.pointers.appl;
        filled = filled-ahead (fill_count s) (fill_start s) c.in-Some.start c.in-Some.count s.at.hw s.at.filled count planned.0 planned.2;
      };
      frames = record {
        ring = subst (λ (fs : List Frame). StandsForPuts c.fill.new.self (put_at (fill_start s) fs s.puts)) frames puts;
        puts = PutsAreWide-put_at shape.frame_bytes (fill_start s) (replicate (fill_count s) (silent_frame s)) s.puts
            (AreWide-replicate (fill_count s) shape.frame_bytes (silent_frame s) (length-replicate s.setup.frame_bytes (silence_byte s.setup.config) ∙ h.setup.frame_bytes)) h.frames.puts;
        taken = h.frames.taken;
        to_give = h.frames.to_give;
        moved = h.frames.moved;
      };
    }

use Rattle.std.proofs.Common.{◌≡◌, ◌-◌, ◌*◌, ◌%◌, ◌≤◌, min, ◌∙◌, ap, arith}
use Rattle.pcm_base.specs.model.PointerCalls.{hw_avail}
use Rattle.pcm_base.specs.model.Stream.{avail}
use Rattle.pcm_stream.proofs.PointerLemmas.{rewind-fits}
use Rattle.pcm_stream.proofs.runtime.Runtime.rewind.Goals as goal

pub returns-clause-count : goal.returns-clause-count
returns-clause-count c s dir h placed =
    let free : c.avail.result ≡ avail s = c.avail.ensures.model s dir h placed in
    omega (arith, free, h.setup.buffer, c.min-count.ensures, c.saturating_sub-queued.ensures)

pub returns-clause-moved : goal.returns-clause-moved
returns-clause-moved c s dir h placed =
    let r = c.args.self.now in
    let free : c.avail.result ≡ avail s = c.avail.ensures.model s dir h placed in
    let count : c.min-count.result ≡ min c.args.n (hw_avail s) = omega (arith, free, h.setup.buffer, c.min-count.ensures, c.saturating_sub-queued.ensures) in
    let room : 2 * s.setup.buffer ≤ s.setup.boundary = omega (arith, r.sound.room, h.setup.buffer, h.setup.boundary) in
    let few : c.min-count.result ≤ s.at.appl = omega (arith, count, rewind-fits c.args.n s placed room) in
    record {
      setup = record {
        config = h.setup.config;
        shape = h.setup.shape;
        frame_bytes = h.setup.frame_bytes;
        buffer = h.setup.buffer;
        boundary = h.setup.boundary;
        sw = h.setup.sw;
        mappings = h.setup.mappings;
      };
      pointers = record {
        hw = h.pointers.hw;
        appl = c.back-self.ensures.shown s.at.appl few h.pointers.appl ∙ ap (λ n. (s.at.appl - n) % r.shape.boundary) count;
        filled = h.pointers.filled;
      };
      frames = record {
        ring = h.frames.ring;
        puts = h.frames.puts;
        taken = h.frames.taken;
        to_give = h.frames.to_give;
        moved = h.frames.moved;
      };
    }

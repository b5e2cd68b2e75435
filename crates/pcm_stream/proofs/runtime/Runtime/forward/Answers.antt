use Rattle.std.proofs.Common.{◌≡◌, ◌+◌, ◌%◌, min, ◌∙◌, ap, arith}
use Rattle.pcm_base.specs.model.Stream.{avail}
use Rattle.pcm_stream.proofs.runtime.Runtime.forward.Goals as goal

pub returns-clause-count : goal.returns-clause-count
returns-clause-count c s dir h placed =
    let free : c.avail.result ≡ avail s = c.avail.ensures.model s dir h placed in
    omega (arith, free, c.min-count.ensures)

pub returns-clause-moved : goal.returns-clause-moved
returns-clause-moved c s dir h placed =
    let r = c.args.self.now in
    let free : c.avail.result ≡ avail s = c.avail.ensures.model s dir h placed in
    let count : c.min-count.result ≡ min c.args.n (avail s) = omega (arith, free, c.min-count.ensures) in
    record {
      setup = record {
        config = h.setup.config;
        shape = h.setup.shape;
        frame_bytes = h.setup.frame_bytes;
        buffer = h.setup.buffer;
        boundary = h.setup.boundary;
        sw = h.setup.sw;
        mappings = h.setup.mappings;
      };
      pointers = record {
        hw = h.pointers.hw;
        appl = c.add-self.ensures.shown s.at.appl h.pointers.appl ∙ ap (λ n. (s.at.appl + n) % r.shape.boundary) count;
        filled = h.pointers.filled;
      };
      frames = record {
        ring = h.frames.ring;
        puts = h.frames.puts;
        taken = h.frames.taken;
        to_give = h.frames.to_give;
        moved = h.frames.moved;
      };
    }

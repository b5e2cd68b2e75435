use Rattle.std.proofs.Common.{◌≡◌, ◌-◌, ◌%◌, sym, ◌∙◌, ap, arith}
use Rattle.std.proofs.Math.Nat.{mod_self}
use Rattle.pcm_stream.proofs.runtime.Runtime.to_start.Goals as goal

pub returns-clause-start : goal.returns-clause-start
returns-clause-start c s h =
    let shown : 0 ≡ s.setup.boundary % c.args.self.now.shape.boundary = sym (ap (λ l. l % c.args.self.now.shape.boundary) h.setup.boundary ∙ mod_self c.args.self.now.shape.boundary) in
    record {
      setup = record {
        config = h.setup.config;
        shape = h.setup.shape;
        frame_bytes = h.setup.frame_bytes;
        buffer = h.setup.buffer;
        boundary = h.setup.boundary;
        sw = h.setup.sw;
        mappings = h.setup.mappings;
      };
      pointers = record {
        hw = shown;
        appl = shown;
        filled = (let k : s.setup.boundary - s.setup.boundary ≡ 0 = omega arith in k);
      };
      frames = record {
        ring = h.frames.ring;
        puts = h.frames.puts;
        taken = h.frames.taken;
        to_give = h.frames.to_give;
        moved = h.frames.moved;
      };
    }

use Rattle.std.proofs.Common.{◌≡◌, ◌-◌, ◌%◌, ◌<◌, ◌≤◌, sym, ◌∙◌, ap, arith}
use Rattle.std.proofs.Math.Nat.{mod-eq_of_lt}
use Rattle.pcm_base.specs.model.Stream.{head}
use Rattle.pcm_laws.proofs.Remainders.{sub-sub-mod}
use Rattle.pcm_stream.proofs.PointerLemmas.{head-above}
use Rattle.pcm_stream.proofs.runtime.Runtime.point_at.Goals as goal

pub returns-clause-moved : goal.returns-clause-moved
returns-clause-moved c s h placed =
    let r = c.args.self.now in
    let some : 0 < s.setup.boundary = omega (arith, h.setup.boundary, c.requires) in
    let below : c.args.p < s.setup.boundary = omega (arith, h.setup.boundary, c.requires) in
    let low : c.args.p ≤ head s = omega (arith, below, placed.origin, head-above s) in
    let shown : (head s - (head s - c.args.p) % s.setup.boundary) % s.setup.boundary ≡ c.args.p = sub-sub-mod s.setup.boundary (head s) c.args.p some low ∙ mod-eq_of_lt below in
    record {
      setup = record {
        config = h.setup.config;
        shape = h.setup.shape;
        frame_bytes = h.setup.frame_bytes;
        buffer = h.setup.buffer;
        boundary = h.setup.boundary;
        sw = h.setup.sw;
        mappings = h.setup.mappings;
      };
      pointers = record {
        hw = h.pointers.hw;
        appl = sym (ap (λ l. (head s - (head s - c.args.p) % s.setup.boundary) % l) (sym h.setup.boundary) ∙ shown);
        filled = h.pointers.filled;
      };
      frames = record {
        ring = h.frames.ring;
        puts = h.frames.puts;
        taken = h.frames.taken;
        to_give = h.frames.to_give;
        moved = h.frames.moved;
      };
    }

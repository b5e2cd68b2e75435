use Rattle.std.proofs.Common.{◌≡◌, ◌<◌, ◌+◌, ◌-◌, sym, ◌∙◌, arith}
use Rattle.std.specs.Prelude.{nat_le}
use Rattle.pcm_base.specs.model.Stream.{avail}
use Rattle.pcm_base.specs.model.Update.{reported}
use Rattle.pcm_stream.proofs.RunsLemmas.{lapped-shown}
use Rattle.pcm_stream.proofs.runtime.Runtime.report.Goals as goal

pub returns-clause-reported : goal.returns-clause-reported
returns-clause-reported c s at h placed =
    let near : s.at.card < s.at.hw + c.args.self.now.shape.buffer = omega (arith, placed.near, h.setup.buffer) in
    let gone : c.advance-gone.result ≡ s.at.card - s.at.hw = c.advance-gone.ensures.distance s.at.hw s.at.card placed.reported near h.pointers.hw at in
    record {
      setup = record {
        config = h.setup.config;
        shape = h.setup.shape;
        frame_bytes = h.setup.frame_bytes;
        buffer = h.setup.buffer;
        boundary = h.setup.boundary;
        sw = h.setup.sw;
        mappings = h.setup.mappings;
      };
      pointers = record {
        hw = c.advance-gone.ensures.shown s.at.hw s.at.card placed.reported near h.pointers.hw at;
        appl = h.pointers.appl ∙ sym (lapped-shown (nat_le s.setup.boundary (avail (reported s))) s.at.appl s.setup.boundary c.args.self.now.shape.boundary h.setup.boundary);
        filled = omega (arith, h.pointers.filled, gone, c.saturating_sub-self.ensures, placed.reported);
      };
      frames = record {
        ring = h.frames.ring;
        puts = h.frames.puts;
        taken = h.frames.taken;
        to_give = h.frames.to_give;
        moved = h.frames.moved;
      };
    }

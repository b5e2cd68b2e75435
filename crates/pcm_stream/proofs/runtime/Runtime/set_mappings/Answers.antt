use Rattle.std.proofs.Common.{refl}
use Rattle.pcm_stream.proofs.runtime.Runtime.set_mappings.Goals as goal

pub returns-clause-set : goal.returns-clause-set
returns-clause-set c s h = record {
  setup = record {
    config = h.setup.config;
    shape = h.setup.shape;
    frame_bytes = h.setup.frame_bytes;
    buffer = h.setup.buffer;
    boundary = h.setup.boundary;
    sw = h.setup.sw;
    mappings = refl;
  };
  pointers = record {
    hw = h.pointers.hw;
    appl = h.pointers.appl;
    filled = h.pointers.filled;
  };
  frames = record {
    ring = h.frames.ring;
    puts = h.frames.puts;
    taken = h.frames.taken;
    to_give = h.frames.to_give;
    moved = h.frames.moved;
  };
}

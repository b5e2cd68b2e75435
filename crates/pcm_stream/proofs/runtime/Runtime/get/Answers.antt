use Rattle.pcm_stream.proofs.runtime.Runtime.get.Goals as goal

pub returns-clause-moved : goal.returns-clause-moved
returns-clause-moved c s h = record {
  setup = record {
    config = h.setup.config;
    shape = h.setup.shape;
    frame_bytes = h.setup.frame_bytes;
    buffer = h.setup.buffer;
    boundary = h.setup.boundary;
    sw = h.setup.sw;
    mappings = h.setup.mappings;
  };
  pointers = record {
    hw = h.pointers.hw;
    appl = c.add-self.ensures.shown s.at.appl h.pointers.appl;
    filled = h.pointers.filled;
  };
  frames = record {
    ring = h.frames.ring;
    puts = h.frames.puts;
    taken = h.frames.taken;
    to_give = h.frames.to_give;
    moved = h.frames.moved;
  };
}

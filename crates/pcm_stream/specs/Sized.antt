-- Rings of the size of a shape.
use Rattle.std.specs.Prelude.{◌≡◌}
use Rattle.pcm_base.specs.declared.config.Shape.{Shape}
use Rattle.ring_memory.specs.Ring.{RingFacts}

pub record IsSized (s : Shape) (r : RingFacts) : Type 0 where
  pub frame_bytes : r.frame_bytes ≡ s.frame_bytes
  pub channels : r.channels ≡ s.channels
  pub buffer : r.buffer ≡ s.buffer

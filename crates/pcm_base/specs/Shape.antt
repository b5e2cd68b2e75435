-- Shapes that a configuration can have, and whole frames.
use Rattle.std.specs.Prelude.{◌≡◌, ℕ, List, length, ◌+◌, ◌*◌, ◌/◌, ◌%◌, ◌^◌, ◌<◌, ◌≤◌}
use Rattle.pcm_base.specs.declared.config.Shape.{Shape}
use Rattle.pcm_base.specs.Boundary.{boundary_of}

-- The sizes agree, and the boundary is that of the buffer at some long_max from four buffers to 2 ^ 36 - 1. The least of these is the boundary and a buffer more.
pub record IsSoundShape (s : Shape) : Type 0 where
  pub periods : s.buffer ≡ s.period * s.periods
  pub least : 4 ≤ s.buffer
  pub most : s.buffer ≤ 65536
  pub channel : 1 ≤ s.channels
  pub channels : s.channels ≤ 8
  pub samples : s.frame_bytes % s.channels ≡ 0
  pub frame : 1 ≤ s.frame_bytes
  pub frames : s.frame_bytes ≤ 32
  pub boundary : s.boundary ≡ boundary_of s.buffer (s.boundary + s.buffer)
  pub room : 2 * s.buffer ≤ s.boundary
  pub long : s.boundary + s.buffer < 2 ^ 36

-- these bytes are whole frames
abbrev pub AreFrames : Shape → List ℕ → Type 0
AreFrames s bytes = length bytes % s.frame_bytes ≡ 0

-- the frames in these bytes
abbrev pub count_of : Shape → List ℕ → ℕ
count_of s bytes = length bytes / s.frame_bytes

-- Hardware pointers and their bases (snd_pcm_update_hw_ptr0 of pcm_lib.c).
use Rattle.std.specs.Prelude.{◌≡◌, ◌+◌, ◌%◌, ◌<◌, ◌≤◌}
use Rattle.pcm_base.specs.declared.config.Shape.{Shape}
use Rattle.hw_update.specs.declared.HwPtr.{HwPtr}

-- the base is a multiple of the buffer below the boundary, and the pointer lies in the buffer that begins there
pub record IsBased (s : Shape) (p : HwPtr) : Type 0 where
  pub whole : p.base % s.buffer ≡ 0
  pub below : p.base < s.boundary
  pub low : p.base ≤ p.hw
  pub high : p.hw < p.base + s.buffer

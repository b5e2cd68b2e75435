-- What the memory of a hardware buffer holds.
use Rattle.std.specs.Prelude.{◌≤◌}
use Rattle.pcm_base.specs.model.Frame.{frames_of}
use Rattle.indirect_card.specs.Hardware.{Hardware}
use Rattle.indirect_card.specs.declared.buffer.HardwareBuffer.TheInside.{Inside}

-- frame after frame, a frame in each of 16 slots
abbrev pub hardware_in : Inside → Hardware
hardware_in b = record { frame_bytes = b.frame_bytes; passed = b.passed; slots = frames_of 16 b.frame_bytes b.bytes }

-- sixteen frames fit
abbrev pub HasRoom : Inside → Type 0
HasRoom b = b.frame_bytes ≤ 32

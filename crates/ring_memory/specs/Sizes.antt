-- The sizes of a ring's memory.
use Rattle.std.specs.Prelude.{◌≡◌, ℕ, Bool, true, false, List, length, ◌*◌, ◌/◌, ◌≤◌}
use Rattle.pcm_base.specs.model.Frame.{Frame, frames_of, planar_frames}
use Rattle.ring_memory.specs.declared.sizes.Sizes.{Sizes}
use Rattle.ring_memory.specs.Ring.{RingFacts}

-- the sizes agree, and are those of a shape
pub record AreSizes (s : Sizes) : Type 0 where
  pub least : 1 ≤ s.buffer
  pub most : s.buffer ≤ 65536
  pub channel : 1 ≤ s.channels
  pub channels : s.channels ≤ 8
  pub sample : 1 ≤ s.sample_bytes
  pub frame : s.frame_bytes ≡ s.channels * s.sample_bytes
  pub some : 1 ≤ s.frame_bytes
  pub frames : s.frame_bytes ≤ 32

-- bytes for a frame in each slot
abbrev pub IsMemory : Sizes → List ℕ → Type 0
IsMemory s bytes = length bytes ≡ s.buffer * s.frame_bytes

-- a ring's memory with its sizes
pub record IsRingMemory (s : Sizes) (bytes : List ℕ) : Type 0 where
  pub sizes : AreSizes s
  pub memory : IsMemory s bytes

-- the slots of a memory that has frame after frame
abbrev pub slots_in_order : Sizes → List ℕ → List Frame
slots_in_order s bytes = frames_of s.buffer s.frame_bytes bytes

-- the slots of a memory that has an area for each channel
abbrev pub slots_across : Sizes → List ℕ → List Frame
slots_across s bytes = planar_frames s.buffer s.channels s.sample_bytes bytes

abbrev pub slots_of : Bool → Sizes → List ℕ → List Frame
slots_of false s bytes = slots_in_order s bytes
slots_of true s bytes = slots_across s bytes

-- the frames in bytes that hold frame after frame, and in those that hold the samples of channel after channel
abbrev pub frames_in : Sizes → List ℕ → List Frame
frames_in s bytes = frames_of (length bytes / s.frame_bytes) s.frame_bytes bytes

abbrev pub frames_across_in : Sizes → List ℕ → List Frame
frames_across_in s bytes = planar_frames (length bytes / s.frame_bytes) s.channels s.sample_bytes bytes

-- what a ring with these sizes and bytes holds
abbrev pub facts_of : Sizes → Bool → List ℕ → RingFacts
facts_of s planar bytes = record {
  frame_bytes = s.frame_bytes;
  channels = s.channels;
  buffer = s.buffer;
  planar = planar;
  slots = slots_of planar s bytes;
}

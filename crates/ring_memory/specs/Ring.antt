-- What a ring of frames holds, and the puts that it stands for ("Writing an ALSA Driver").
use Rattle.std.specs.Prelude.{◌≡◌, ℕ, Bool, List, [], length, replicate, take, drop, slice_index_or, ◌*◌, ◌/◌, ◌<◌}
use Rattle.pcm_base.specs.declared.config.Shape.{Shape}
use Rattle.pcm_base.specs.model.Frame.{Frame, frames_of, planar_frames}
use Rattle.pcm_base.specs.model.Standing.{Put, standing, standing_at}
use Rattle.ring_memory.specs.Round.{over}

-- the bytes of a frame, the channels, the slots of the buffer, whether each channel has an area of its own, and the frame in each slot
pub record RingFacts : Type 0 where
  pub frame_bytes : ℕ
  pub channels : ℕ
  pub buffer : ℕ
  pub planar : Bool
  pub slots : List Frame

-- a ring that was made for this shape
pub record IsMadeFor (s : Shape) (by_channel : Bool) (r : RingFacts) : Type 0 where
  pub frame_bytes : r.frame_bytes ≡ s.frame_bytes
  pub channels : r.channels ≡ s.channels
  pub buffer : r.buffer ≡ s.buffer
  pub planar : r.planar ≡ by_channel

-- the sizes stay, whatever the slots hold
pub record SameSizes (old new : RingFacts) : Type 0 where
  pub frame_bytes : new.frame_bytes ≡ old.frame_bytes
  pub channels : new.channels ≡ old.channels
  pub buffer : new.buffer ≡ old.buffer
  pub planar : new.planar ≡ old.planar

-- the frame of zero bytes
abbrev pub zero_frame : RingFacts → Frame
zero_frame r = replicate r.frame_bytes 0

-- each slot holds the frame of the last of these puts in it, and zero bytes where there is none
pub record StandsForPuts (r : RingFacts) (puts : List Put) : Type 0 where
  pub count : length r.slots ≡ r.buffer
  pub stands : (i : ℕ) → i < r.buffer → slice_index_or r.slots i [] ≡ standing puts r.buffer i (zero_frame r)

-- the bytes of one sample
abbrev pub sample_bytes : RingFacts → ℕ
sample_bytes r = r.frame_bytes / r.channels

-- one channel's sample of a frame
abbrev pub sample : RingFacts → ℕ → Frame → List ℕ
sample r channel f = take (sample_bytes r) (drop (channel * sample_bytes r) f)

-- the frames in bytes that hold frame after frame
abbrev pub frames_in : RingFacts → List ℕ → List Frame
frames_in r bytes = frames_of (length bytes / r.frame_bytes) r.frame_bytes bytes

-- the frames in bytes that hold the samples of channel after channel
abbrev pub frames_across_in : RingFacts → List ℕ → List Frame
frames_across_in r bytes = planar_frames (length bytes / r.frame_bytes) r.channels (sample_bytes r) bytes

-- the n frames that stand at p, p + 1 and so on after these puts
abbrev pub stood_at : RingFacts → List Put → ℕ → ℕ → List Frame
stood_at r puts p n = standing_at puts r.buffer p n (zero_frame r)

-- the frames in planar bytes, with n of those that stand from p on over those from the first on
abbrev pub with_standing : RingFacts → List Put → ℕ → ℕ → ℕ → List ℕ → List Frame
with_standing r puts p first n io = over first (stood_at r puts p n) (frames_across_in r io)

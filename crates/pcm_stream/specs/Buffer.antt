-- What clients read from the buffer and store in it, and what a card has to give.
use Rattle.std.specs.Prelude.{◌≡◌, ◌/◌, ℕ, List, length}
use Rattle.pcm_base.specs.declared.call.Layout.{Layout}
use Rattle.pcm_base.specs.model.Frame.{Frame}
use Rattle.pcm_base.specs.model.Standing.{put_at, standing_at}
use Rattle.pcm_base.specs.model.Stream.{Stream, zero_frame}
use Rattle.pcm_base.specs.model.Transfer.{frames_by, read_next}
use Rattle.ring_memory.specs.Round.{over}

-- the frames in a transfer's bytes, with the next n to read over those from the first on
abbrev pub frames_read : Layout → Stream → ℕ → ℕ → List ℕ → List Frame
frames_read w s first n io = over first (read_next n s) (frames_by w s io)

-- these frames put at a slot and after it
abbrev pub stored_at : ℕ → List Frame → Stream → Stream
stored_at slot fs s = record s { puts = put_at slot fs s.puts }

-- the n frames that stand at a slot and after it
abbrev pub loaded_from : ℕ → ℕ → Stream → List Frame
loaded_from slot n s = standing_at s.puts s.setup.buffer slot n (zero_frame s)

-- the card has these frames to give
abbrev pub with_to_give : List Frame → Stream → Stream
with_to_give fs s = record s { card = record s.card { to_give = fs } }

-- the bytes of a transfer hold as many frames as there are whole ones
abbrev pub FramesAreCounted : Type 0
FramesAreCounted = (w : Layout) (s : Stream) (io : List ℕ) → length (frames_by w s io) ≡ length io / s.setup.frame_bytes

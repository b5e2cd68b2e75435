-- A card's hardware buffer of 16 frames, and what stands in it after frames passed through ("Writing an ALSA Driver"; `include/sound/pcm-indirect.h`).
use Rattle.std.specs.Prelude.{◌≡◌, ℕ, List, [], ◌∷◌, length, replicate, ◌+◌, ◌-◌, ◌*◌, ◌/◌, ◌%◌, ◌^◌, ◌≤◌}
use Rattle.pcm_base.specs.model.Frame.{Frame, frames_of}
use Rattle.pcm_base.specs.model.Standing.{Put, put_at, standing_at}

-- the bytes of a frame, how many frames have passed (modulo 2 ^ 64), and the frame in each slot
pub record Hardware : Type 0 where
  pub frame_bytes : ℕ
  pub passed : ℕ
  pub slots : List Frame

-- no frame has passed, and every slot holds the frame of zero bytes
abbrev pub cleared : ℕ → Hardware
cleared frame_bytes = record { frame_bytes = frame_bytes; passed = 0; slots = replicate 16 (replicate frame_bytes 0) }

-- the frames in these bytes
abbrev pub frames_in : Hardware → List ℕ → List Frame
frames_in h bytes = frames_of (length bytes / h.frame_bytes) h.frame_bytes bytes

-- The frames formerly in slot q and those after it, as puts: after r frames, the one in slot q was put at position r - 16 + ((q - r) mod 16). Here and below a buffer is added to each position, so that none is negative; it stays in its slot.
abbrev pub formerly : ℕ → ℕ → List Frame → List Put
formerly r q [] = []
formerly r q (f ∷ fs) = record { at = r + (q + (16 - r % 16)) % 16; frame = f } ∷ formerly r (q + 1) fs

-- those puts, and behind them new frames at r, r + 1 and so on
abbrev pub passing : Hardware → List Frame → List Put
passing h fs = put_at (h.passed + 16) fs (formerly h.passed 0 h.slots)

-- after these frames have passed, each slot holds the frame that stands there
abbrev pub after_passing : Hardware → List Frame → Hardware
after_passing h fs = record h {
  passed = (h.passed + length fs) % 2 ^ 64;
  slots = standing_at (passing h fs) 16 0 16 [];
}

-- the bytes from the next slot up to the buffer's end
abbrev pub bytes_before_end : Hardware → ℕ
bytes_before_end h = (16 - h.passed % 16) * h.frame_bytes

-- the buffer holds frames of the shape that the card was set up with
pub record IsSetUpFor (h : Hardware) (frame_bytes : ℕ) : Type 0 where
  pub width : h.frame_bytes ≡ frame_bytes
  pub some : 1 ≤ h.frame_bytes

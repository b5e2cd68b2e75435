-- What a WAV file holds, and the numbers of its headers.
use Rattle.std.specs.Prelude.{ℕ, List, ◌∷◌, length, take, drop, ◌-◌, ◌*◌, ◌%◌, ◌==◌, ◌&&◌, if◌then◌else◌, Option, Some, None}
use Rattle.pcm_base.specs.declared.format.Format.{Format}
use Rattle.pcm_base.specs.declared.format.Format.TheVariants as format
use Rattle.pcm_base.specs.Numbers.{sample_bytes}
use Rattle.byteorder.specs.Endian.{little_number}
use Rattle.wav_file.specs.declared.wav.Wav.{Wav}

-- a Wav without where it lies in memory
pub record Recording : Type 0 where
  pub format : Format
  pub channels : ℕ
  pub rate : ℕ
  pub frames : List ℕ

abbrev pub recording : Wav → Recording
recording w = record { format = w.format; channels = w.channels; rate = w.rate; frames = w.frames.items }

-- the number in n bytes from a place on, low byte first
abbrev pub number_at : ℕ → ℕ → List ℕ → ℕ
number_at n place bytes = little_number n (drop place bytes)

-- the format of PCM samples with so many bits
abbrev pub format_of_bits : ℕ → Option Format
format_of_bits bits =
    if bits == 8 then Some format.U8 else (if bits == 16 then Some format.S16Le else (if bits == 24 then Some format.S24Le3 else (if bits == 32 then Some format.S32Le else None)))

-- the format of PCM samples with so many bits, so many of them valid; that 24 in 32 are S24_LE is this project's own
abbrev pub format_of : ℕ → ℕ → Option Format
format_of bits valid = if bits == 32 && valid == 24 then Some format.S24Le else format_of_bits bits

-- the bytes of one frame
abbrev pub frame_bytes : Format → ℕ → ℕ
frame_bytes f channels = channels * sample_bytes f

-- the whole frames of so many bytes at the front
abbrev pub whole_frames : ℕ → List ℕ → List ℕ
whole_frames size bytes = take (length bytes - length bytes % size) bytes

-- samples with their valid bits in the high three of four bytes, as a file has them, moved to the low three, as S24_LE has them
abbrev pub low_samples : List ℕ → List ℕ
low_samples (x ∷ a ∷ b ∷ c ∷ rest) = a ∷ b ∷ c ∷ 0 ∷ low_samples rest
low_samples rest = rest

-- samples of S24_LE as a file has them
abbrev pub high_samples : List ℕ → List ℕ
high_samples (a ∷ b ∷ c ∷ d ∷ rest) = 0 ∷ a ∷ b ∷ c ∷ high_samples rest
high_samples rest = rest

-- samples of S24_LE with the unused byte put to 0
abbrev pub clear_samples : List ℕ → List ℕ
clear_samples (a ∷ b ∷ c ∷ d ∷ rest) = a ∷ b ∷ c ∷ 0 ∷ clear_samples rest
clear_samples rest = rest

-- the frames that bytes of a file stand for
abbrev pub frames_from : Format → List ℕ → List ℕ
frames_from format.S24Le bytes = low_samples bytes
frames_from _ bytes = bytes

-- the bytes of a file that stand for these frames
abbrev pub bytes_for : Format → List ℕ → List ℕ
bytes_for format.S24Le frames = high_samples frames
bytes_for _ frames = frames

abbrev pub clear_frames : Format → List ℕ → List ℕ
clear_frames format.S24Le frames = clear_samples frames
clear_frames _ frames = frames

-- the recording with the unused byte of each sample of S24_LE put to 0
abbrev pub clear_recording : Recording → Recording
clear_recording r = record r { frames = clear_frames r.format r.frames }

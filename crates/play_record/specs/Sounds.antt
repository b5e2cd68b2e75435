-- What is played and what is recorded, and under which configuration. This project's own.
use Rattle.std.specs.Prelude.{ℕ, Bool, List, ◌++◌, length, take, replicate, nat_lt, ◌+◌, ◌-◌, ◌*◌, ◌/◌, ◌^◌, if◌then◌else◌}
use Rattle.pcm_base.specs.declared.config.Config.{Config}
use Rattle.pcm_base.specs.declared.format.Access.TheVariants as access
use Rattle.pcm_base.specs.declared.format.Format.{Format}
use Rattle.pcm_base.specs.declared.format.Format.TheVariants as format
use Rattle.pcm_base.specs.model.Allowed.{accepts}
use Rattle.card_emul.specs.Limits.{duplex}
use Rattle.wav_file.specs.Recordings.{Recording, frame_bytes}
use Rattle.play_record.specs.Stages.{long_max}

-- the most bytes of frames that are played or recorded: 64 MiB
abbrev pub most_bytes : ℕ
most_bytes = 67108864

-- the configuration for a sound
abbrev pub config_for : Recording → ℕ → ℕ → Config
config_for r period periods =
    record { access = access.RwInterleaved; format = r.format; channels = r.channels; rate = r.rate; period = period; periods = periods }

-- the device has the configuration for a sound
abbrev pub is_accepted : Recording → ℕ → ℕ → Bool
is_accepted r period periods = accepts duplex long_max (config_for r period periods)

-- the byte of silence of a WAV file's format
abbrev pub silent_byte : Format → ℕ
silent_byte format.U8 = 128
silent_byte _ = 0

-- the count of its frames
abbrev pub frame_count : Recording → ℕ
frame_count r = length r.frames / frame_bytes r.format r.channels

-- the least multiple of the period that is not below n
abbrev pub whole_periods : ℕ → ℕ → ℕ
whole_periods period n = (n + (period - 1)) / period * period

-- the bytes of the frames that are played
abbrev pub played_bytes : ℕ → Recording → ℕ
played_bytes period r = whole_periods period (frame_count r) * frame_bytes r.format r.channels

-- The sound that is played: its frames, and silence up to a whole period.
abbrev pub played : ℕ → Recording → Recording
played period r = record r { frames = r.frames ++ replicate (played_bytes period r - length r.frames) (silent_byte r.format) }

-- the bytes of n frames of it
abbrev pub bytes_of_frames : ℕ → Recording → ℕ
bytes_of_frames n r = n * frame_bytes r.format r.channels

-- The sound that is recorded: the first n frames, zero frames past the end.
abbrev pub recorded : ℕ → Recording → Recording
recorded n r =
    record r { frames = take (bytes_of_frames n r) r.frames ++ replicate (bytes_of_frames n r - length r.frames) 0 }

-- a count as a refusal shows it
abbrev pub shown_count : ℕ → ℕ
shown_count n = if nat_lt n (2 ^ 64) then n else 2 ^ 64 - 1

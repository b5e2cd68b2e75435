-- What `play` and `capture` write, store and answer. This project's own.
use Rattle.std.specs.Prelude.{◌≡◌, ◌⊎◌, ◌≤◌, ◌<◌, ◌+◌, ℕ, Bool, true, false, List, [], ◌∷◌, ◌++◌, length, codes, decimal}
use Rattle.std.specs.Io.KnownBytes.{Appends}
use Rattle.std.specs.declared.option.Option.{Option}
use Rattle.std.specs.declared.option.Option.TheVariants.{Some, None}
use Rattle.pcm_base.specs.declared.state.Errno.{Errno}
use Rattle.pcm_base.specs.declared.state.Errno.TheVariants as errno
use Rattle.pcm_io.specs.Shelf.{Files, Stay, OthersStay}
use Rattle.pcm_text.specs.declared.status.Status.{Status}
use Rattle.pcm_text.specs.declared.status.Status.TheVariants as status
use Rattle.pcm_text.specs.declared.status.Which.{Which}
use Rattle.pcm_text.specs.declared.status.Which.TheVariants as which
use Rattle.wav_file.specs.Faults.{WavFault}
use Rattle.wav_file.specs.Grammar.{IsWav, wav_bytes}
use Rattle.wav_file.specs.Recordings.{Recording}
use Rattle.wav_file.specs.declared.wav.WavError.{WavError}
use Rattle.play_record.specs.Sounds.{bytes_of_frames, frame_count, is_accepted, most_bytes, played, played_bytes, recorded, shown_count, whole_periods}
use Rattle.pcm_top.specs.Output.{IsFront}
use Rattle.pcm_top.specs.Run.{Finds, IsLoaded, stored, wav_limit}

-- What is made of a sound: whether the device has the configuration, the bytes of the frames as a refusal shows them with what they are, the sound that is stored, and the line that is written.
pub record Job : Type 0 where
  pub accepted : Recording → Bool
  pub bytes : Recording → ℕ
  pub which : Which
  pub shown : ℕ → ℕ
  pub sound : Recording → Recording
  pub line : Recording → List ℕ

-- `played N stored M`: the frames of the file, and those with silence up to a whole period
abbrev pub playing : ℕ → ℕ → Job
playing period periods = record {
  accepted = λ r. is_accepted r period periods;
  bytes = played_bytes period;
  which = which.TakenBytes;
  shown = λ n. n;
  sound = played period;
  line = λ r. codes "played " ++ decimal (frame_count r) ++ codes " stored " ++ decimal (whole_periods period (frame_count r)) ++ 10 ∷ [];
}

-- `captured N`
abbrev pub capturing : ℕ → Job
capturing frames = record {
  accepted = λ r. is_accepted r 256 4;
  bytes = bytes_of_frames frames;
  which = which.CaptureBytes;
  shown = shown_count;
  sound = recorded frames;
  line = λ r. codes "captured " ++ decimal frames ++ 10 ∷ [];
}

-- The file is a sound for which the device has the configuration, within the limit.
pub record IsFor (job : Job) (files : Option Files) (from : List ℕ) (r : Recording) : Type 0 where
  pub loaded : IsLoaded files from r
  pub accepted : job.accepted r ≡ true
  pub few : job.bytes r ≤ most_bytes

-- The sound of the one file was made and stored as the other, and its line was written.
pub record IsMade (job : Job) (from to : List ℕ) (files files_now : Option Files) (before now : Option (List ℕ)) (r : Recording) : Type 0 where
  pub fits : IsFor job files from r
  pub stored : Stay (stored to (wav_bytes (job.sound r)) files) files_now
  pub written : Appends before now (job.line r)

-- it was stored, and a front of its line was written
pub record IsCutLine (job : Job) (from to : List ℕ) (files files_now : Option Files) (before now : Option (List ℕ)) (r : Recording) : Type 0 where
  pub fits : IsFor job files from r
  pub stored : Stay (stored to (wav_bytes (job.sound r)) files) files_now
  pub text : List ℕ
  pub written : Appends before now text
  pub front : IsFront text (job.line r)

-- what is found under the name is too long, or no WAV file
pub record IsTooLong (files : Option Files) (from : List ℕ) (value : ℕ) : Type 0 where
  pub bytes : List ℕ
  pub found : Finds files from (Some bytes)
  pub long : wav_limit < length bytes
  pub one_more : value ≡ wav_limit + 1

-- nothing was written, and all files stay
pub record IsUntouched (files files_now : Option Files) (before now : Option (List ℕ)) : Type 0 where
  pub stay : Stay files files_now
  pub unwritten : Appends before now []

-- why a limit is reached
abbrev pub IsOver : Job → Option Files → List ℕ → Which → ℕ → Type 0
IsOver job files from w value =
    ((w ≡ which.WavBytes) × IsTooLong files from value)
    ⊎ ((w ≡ job.which) × (r : Recording) × IsLoaded files from r × (job.accepted r ≡ true) × (most_bytes < job.bytes r) × (value ≡ job.shown (job.bytes r)))

-- the bytes under the name are no WAV file
abbrev pub IsNoSound : Option Files → List ℕ → List ℕ → WavError → Type 0
IsNoSound files from name e = (name ≡ from) × (bytes : List ℕ) × Finds files from (Some bytes) × (length bytes ≤ wav_limit) × WavFault bytes e

-- the device has no configuration for the sound
abbrev pub IsRefused : Job → Option Files → List ℕ → Errno → Type 0
IsRefused job files from e = (r : Recording) × IsLoaded files from r × (job.accepted r ≡ false) × (e ≡ errno.Einval)

-- The answer, with what it says of the files and of what was written. A failed store leaves the other files; for want of memory nothing is stored.
abbrev pub JobEnds : Job → List ℕ → List ℕ → Option Files → Option Files → Option (List ℕ) → Option (List ℕ) → Status → Type 0
JobEnds job from to files files_now before now status.Ok = (r : Recording) × IsMade job from to files files_now before now r
JobEnds job from to files files_now before now (status.Missing name) = IsUntouched files files_now before now × (name ≡ from) × Finds files from None
JobEnds job from to files files_now before now (status.BadWav name e) = IsUntouched files files_now before now × IsNoSound files from name e
JobEnds job from to files files_now before now (status.Refused e) = IsUntouched files files_now before now × IsRefused job files from e
JobEnds job from to files files_now before now (status.Limit w value) = IsUntouched files files_now before now × IsOver job files from w value
JobEnds job from to files files_now before now status.ShelfFault = OthersStay files files_now to × Appends before now []
JobEnds job from to files files_now before now status.Memory = IsUntouched files files_now before now
JobEnds job from to files files_now before now status.WriteFault = (r : Recording) × IsCutLine job from to files files_now before now r
JobEnds job from to files files_now before now _ = ⊥

-- What is found under the name is a sound for which the device has the configuration, within the limit.
abbrev pub IsReady : Job → Option Files → List ℕ → Type 0
IsReady job files from =
    (found : Option (List ℕ)) → Finds files from found → (bytes : List ℕ) × (found ≡ Some bytes) × (length bytes ≤ wav_limit)
    × (r : Recording) × IsWav bytes r × (job.accepted r ≡ true) × (job.bytes r ≤ most_bytes)

-- The sound that is stored has the frames that the device's card has taken.
pub record IsTaken (job : Job) (from to : List ℕ) (files files_now : Option Files) (taken : List (List ℕ)) : Type 0 where
  pub sound : Recording
  pub fits : IsFor job files from sound
  pub stored : Stay (stored to (wav_bytes (job.sound sound)) files) files_now
  pub frames : taken ≡ (job.sound sound).frames ∷ []

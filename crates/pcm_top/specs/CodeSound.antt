-- What the parts of `play` and `capture` come to.
use Rattle.std.specs.Prelude.{ℕ, List, []}
use Rattle.std.specs.Io.KnownBytes.{Appends}
use Rattle.std.specs.declared.option.Option.{Option}
use Rattle.pcm_io.specs.Shelf.{Files, Stay, OthersStay}
use Rattle.pcm_text.specs.declared.status.Status.{Status}
use Rattle.pcm_text.specs.declared.status.Status.TheVariants as status
use Rattle.pcm_text.specs.declared.status.Which.{Which}
use Rattle.wav_file.specs.Grammar.{wav_bytes}
use Rattle.wav_file.specs.Recordings.{Recording}
use Rattle.play_record.specs.declared.error.PlayError.{PlayError}
use Rattle.play_record.specs.declared.error.PlayError.TheVariants as play_error
use Rattle.pcm_top.specs.declared.end.Unanswered.{Unanswered}
use Rattle.pcm_top.specs.declared.end.Unanswered.TheVariants as unanswered
use Rattle.pcm_top.specs.Output.{IsFront, status_of}
use Rattle.pcm_top.specs.Run.{stored}

-- the status where no sound was loaded
abbrev pub status_unloaded : Unanswered → Status
status_unloaded (unanswered.Ended ended) = status_of ended
status_unloaded unanswered.Memory = status.Memory

-- the status where none was made, by what its bytes are
abbrev pub status_unmade : Which → PlayError → Status
status_unmade w (play_error.Refused e) = status.Refused e
status_unmade w (play_error.TooMuch n) = status.Limit w n
status_unmade w play_error.Memory = status.Memory

-- the sound is stored under the name
pub record IsStored (r : Recording) (to : List ℕ) (files files_now : Option Files) : Type 0 where
  pub stays : Stay (stored to (wav_bytes r) files) files_now

-- what is said of the files and of what was written where a sound was to be stored, and then a line to be written
abbrev pub StoreEnds : Recording → List ℕ → List ℕ → Option Files → Option Files → Option (List ℕ) → Option (List ℕ) → Status → Type 0
StoreEnds r to line files files_now before now status.Ok = IsStored r to files files_now × Appends before now line
StoreEnds r to line files files_now before now status.ShelfFault = OthersStay files files_now to × Appends before now []
StoreEnds r to line files files_now before now status.Memory = Stay files files_now × Appends before now []
StoreEnds r to line files files_now before now status.WriteFault = IsStored r to files files_now × (text : List ℕ) × Appends before now text × IsFront text line
StoreEnds r to line files files_now before now _ = ⊥

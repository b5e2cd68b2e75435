-- Which runs come to their end. This project's own.
use Rattle.std.specs.Prelude.{◌≡◌, ◌≤◌, ⊤, ℕ, true, List, length}
use Rattle.std.specs.List.{AllByRecursion}
use Rattle.std.specs.declared.option.Option.{Option}
use Rattle.std.specs.declared.option.Option.TheVariants.{Some, None}
use Rattle.pcm_io.specs.Shelf.{Files}
use Rattle.pcm_line.specs.declared.line.Line.{Line}
use Rattle.pcm_line.specs.declared.line.Line.TheVariants.{Feed}
use Rattle.pcm_text.specs.declared.status.Status.{Status}
use Rattle.pcm_text.specs.declared.status.Status.TheVariants as status
use Rattle.pcm_text.specs.declared.status.Which.TheVariants as which
use Rattle.wav_file.specs.Grammar.{IsWav}
use Rattle.wav_file.specs.Recordings.{Recording}
use Rattle.live_plan.specs.declared.plan.Plan.{Plan}
use Rattle.live_top.specs.Files.{Finds, wav_limit}
use Rattle.live_top.specs.Filling.{can_fill_logs}

-- it is there, a WAV file, and not too long
abbrev pub IsWavFile : Option (List ℕ) → Type 0
IsWavFile None = ⊥
IsWavFile (Some bytes) = (length bytes ≤ wav_limit) × ((r : Recording) × IsWav bytes r)

-- what is found under the name is such a file
abbrev pub IsOnShelf : Option Files → List ℕ → Type 0
IsOnShelf files name = (found : Option (List ℕ)) → Finds files name found → IsWavFile found

-- the file of a feed is on the shelf
abbrev pub HasFile : Option Files → Line → Type 0
HasFile files (Feed k name) = IsOnShelf files name
HasFile files line = ⊤

-- all files that the setup of the plan names are there
abbrev pub IsReady : Option Files → Plan → Type 0
IsReady files plan = AllByRecursion (HasFile files) plan.setup.items

-- The run came to its end, or memory ran out; or a log was filled, by a plan that can do that.
abbrev pub IsGoodEnd : Plan → Status → Type 0
IsGoodEnd plan status.Ok = ⊤
IsGoodEnd plan status.Memory = ⊤
IsGoodEnd plan (status.Limit which.LogEntries value) = can_fill_logs plan ≡ true
IsGoodEnd plan _ = ⊥

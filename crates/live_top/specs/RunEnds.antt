-- How a run ends, and what it leaves, by its status. This project's own.
use Rattle.std.specs.Prelude.{◌≡◌, ◌⊎◌, ⊤, ℕ, Bool, true, false, List}
use Rattle.std.specs.declared.option.Option.{Option}
use Rattle.std.specs.Io.KnownBytes.{Appends}
use Rattle.pcm_io.specs.Shelf.{Files, Stay}
use Rattle.pcm_text.specs.declared.status.Status.{Status}
use Rattle.pcm_text.specs.declared.status.Status.TheVariants as status
use Rattle.pcm_text.specs.declared.status.Which.TheVariants as which
use Rattle.live_log.specs.Written.{IsFrontWritten}
use Rattle.live_plan.specs.declared.error.PlanError.{PlanError}
use Rattle.live_plan.specs.declared.error.PlanError.TheVariants as error
use Rattle.live_plan.specs.declared.plan.Plan.{Plan}
use Rattle.live_plan.specs.Plan.{Answer, Whole, Bad, Over, HasAll}
use Rattle.live_top.specs.Ends.{whole_text}
use Rattle.live_top.specs.Files.{IsSavedUpTo}
use Rattle.live_top.specs.Filling.{can_fill_logs}
use Rattle.live_top.specs.Outcome.{IsRun, IsRunStart, IsStopped, IsWhole, Played, card_count, entries_by, streams_by}
use Rattle.live_top.specs.Setup.{IsFeedFault}

-- the text of a run: its logs and its `end` lines
abbrev pub text_of : (plan : Plan) → Played plan → List ℕ
text_of plan played = whole_text (card_count plan) (streams_by played.ends) (entries_by played.logs)

-- nothing was written, and no file stored
pub record Untouched (files files_now : Option Files) (before now : Option (List ℕ)) : Type 0 where
  pub written : now ≡ before
  pub stored : Stay files files_now

-- A front of a run's text was written, and no file stored.
pub record IsCutShort (plan : Plan) (files files_now : Option Files) (before now : Option (List ℕ)) : Type 0 where
  pub played : Played plan
  pub run : IsRunStart plan files played.logs
  pub front : IsFrontWritten before now (text_of plan played)
  pub stored : Stay files files_now

-- The whole text was written, and the first of the saves stored their files; the run ends so where not all did.
pub record IsCutBehind (plan : Plan) (files files_now : Option Files) (before now : Option (List ℕ)) (result : Status) : Type 0 where
  pub played : Played plan
  pub run : IsRun plan files played.logs
  pub written : Appends before now (text_of plan played)
  pub stored : IsSavedUpTo (streams_by played.ends) plan.saves.items files files_now result

-- A full log stopped the run, of a plan that can fill logs.
pub record IsFilled (plan : Plan) (files files_now : Option Files) (before now : Option (List ℕ)) (value : ℕ) : Type 0 where
  pub can : can_fill_logs plan ≡ true
  pub stopped : IsStopped plan files files_now before now value

-- the file that a feed of the setup names ends the run so, and nothing was written
abbrev pub IsFeedEnd : Plan → Option Files → Option Files → Option (List ℕ) → Option (List ℕ) → Status → Type 0
IsFeedEnd plan files files_now before now result = IsFeedFault files plan.setup.items result × Untouched files files_now before now

-- A run of the plan ends so. Want of memory may come anywhere.
abbrev pub IsRunEnd : Plan → Option Files → Option Files → Option (List ℕ) → Option (List ℕ) → Status → Type 0
IsRunEnd plan files files_now before now status.Ok = IsWhole plan files files_now before now
IsRunEnd plan files files_now before now (status.Limit which.LogEntries value) = IsFilled plan files files_now before now value
IsRunEnd plan files files_now before now (status.Limit which.WavBytes value) = IsFeedEnd plan files files_now before now (status.Limit which.WavBytes value)
IsRunEnd plan files files_now before now (status.Missing name) = IsFeedEnd plan files files_now before now (status.Missing name)
IsRunEnd plan files files_now before now (status.BadWav name fault) = IsFeedEnd plan files files_now before now (status.BadWav name fault)
IsRunEnd plan files files_now before now status.WriteFault = IsCutShort plan files files_now before now
IsRunEnd plan files files_now before now status.ShelfFault = Untouched files files_now before now ⊎ IsCutBehind plan files files_now before now status.ShelfFault
IsRunEnd plan files files_now before now status.Memory = Untouched files files_now before now ⊎ (IsCutShort plan files files_now before now ⊎ IsCutBehind plan files files_now before now status.Memory)
IsRunEnd plan files files_now before now _ = ⊥

-- the status of a run whose plan was not read
abbrev pub status_of : PlanError → Status
status_of error.Read = status.ReadFault
status_of (error.BadLine number fault) = status.BadLine number fault
status_of (error.Limit which value) = status.Limit which value
status_of error.Memory = status.Memory

-- a failed read, or want of memory, before the plan was read
abbrev pub HasFailed : Status → Type 0
HasFailed status.ReadFault = ⊤
HasFailed status.Memory = ⊤
HasFailed _ = ⊥

-- What bytes come to as a plan decides how the run ends: by its first fault, by a limit, or as a run of it.
abbrev pub Ends : Answer → Option Files → Option Files → Option (List ℕ) → Option (List ℕ) → Status → Type 0
Ends (Bad number fault) files files_now before now result = Untouched files files_now before now × ((result ≡ status.BadLine number fault) ⊎ HasFailed result)
Ends (Over which value) files files_now before now result = Untouched files files_now before now × ((result ≡ status.Limit which value) ⊎ HasFailed result)
Ends (Whole said) files files_now before now result =
    (HasFailed result × Untouched files files_now before now) ⊎ ((plan : Plan) × HasAll plan said × IsRunEnd plan files files_now before now result)

-- the statuses that a live run gives
abbrev pub is_given : Status → Bool
is_given (status.Refused errno) = false
is_given _ = true

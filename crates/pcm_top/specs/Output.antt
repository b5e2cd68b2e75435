-- What the program writes, and the status with which it ends. This project's own.
use Rattle.std.specs.Prelude.{◌≡◌, ◌≢◌, ◌⊎◌, ℕ, ◌+◌, ◌==◌, List, ◌++◌, Bool, true, false}
use Rattle.std.specs.Io.KnownBytes.{Appends, Consumes}
use Rattle.std.specs.declared.option.Option.{Option}
use Rattle.std.specs.declared.option.Option.TheVariants.{Some}
use Rattle.pcm_base.specs.Causes.{Rose}
use Rattle.pcm_io.specs.Shelf.{Files, Stay}
use Rattle.pcm_text.specs.declared.status.Status.{Status}
use Rattle.pcm_text.specs.declared.status.Status.TheVariants as status
use Rattle.pcm_text.specs.declared.status.Which.{Which}
use Rattle.pcm_text.specs.declared.status.Which.TheVariants as which
use Rattle.pcm_top.specs.declared.command.Command.{Command}
use Rattle.pcm_top.specs.declared.end.End.{End}
use Rattle.pcm_top.specs.declared.end.End.TheVariants as end
use Rattle.pcm_top.specs.Lines.{lines_of, whole_lines}
use Rattle.pcm_top.specs.Run.{wav_limit}
use Rattle.pcm_top.specs.Script.{byte_limit, line_limit, script_front, FrontGives, FrontReaches, AllAnswered, IsKnown, whole_text}
use Rattle.pcm_top.specs.Session.{Session, begin, AreFiles}

-- the one text begins with the other
abbrev pub IsFront : List ℕ → List ℕ → Type 0
IsFront front text = (rest : List ℕ) × (text ≡ front ++ rest)

-- the status of a script that nothing cuts short
abbrev pub status_of : End → Status
status_of end.Whole = status.Ok
status_of (end.BadLine line fault) = status.BadLine line fault
status_of end.ScriptLines = status.Limit which.ScriptLines (line_limit + 1)
status_of end.ScriptBytes = status.Limit which.ScriptBytes (byte_limit + 1)
status_of end.ShelfFault = status.ShelfFault
status_of (end.Missing name) = status.Missing name
status_of end.WavBytes = status.Limit which.WavBytes (wav_limit + 1)
status_of (end.BadWav name e) = status.BadWav name e

-- the outside, or want of memory, cut it short
abbrev pub was_cut : Status → Bool
was_cut status.ReadFault = true
was_cut status.WriteFault = true
was_cut status.Memory = true
was_cut _ = false

-- the limits of a script and of a file, with the value one above each
abbrev pub is_script_limit : Which → ℕ → Bool
is_script_limit which.ScriptLines n = n == line_limit + 1
is_script_limit which.ScriptBytes n = n == byte_limit + 1
is_script_limit which.WavBytes n = n == wav_limit + 1
is_script_limit _ n = false

-- the statuses that the program gives
abbrev pub is_given : Status → Bool
is_given (status.Refused errno) = false
is_given (status.Limit w n) = is_script_limit w n
is_given _ = true

-- Over these files, the whole text of the script was written behind what was there, the status is that of its end, and the files are those that it leaves.
pub record IsOutput (c : Command) (script : List ℕ) (files files_now : Option Files) (before now : Option (List ℕ)) (result : Status) : Type 0 where
  pub last : Session
  pub ended : End
  pub gives : FrontGives c (script_front script) (begin files) last ended
  pub status : result ≡ status_of ended
  pub stored : AreFiles last files_now
  pub written : Appends before now (whole_text c ended last)

-- some of the lines, from the first on, were executed: a front of their text is this one, and the files are those that they leave
pub record IsReached (c : Command) (script : List ℕ) (files files_now : Option Files) (text : List ℕ) : Type 0 where
  pub last : Session
  pub reaches : FrontReaches c (script_front script) (begin files) last
  pub stored : Stay last.files files_now
  pub front : IsFront text last.text

-- The script was executed up to its end: a front of its text is this one, and the files are those that it leaves. It ended by a fault of the shelf only where the count of those rose.
pub record IsPart (c : Command) (script : List ℕ) (files files_now : Option Files) (faults faults_now : ℕ) (text : List ℕ) : Type 0 where
  pub last : Session
  pub ended : End
  pub gives : FrontGives c (script_front script) (begin files) last ended
  pub stored : AreFiles last files_now
  pub failed : ended ≡ end.ShelfFault → Rose faults faults_now
  pub front : IsFront text (whole_text c ended last)

-- the text is a front of the whole text of the script, were no store or load to fail
abbrev pub IsFrontOfOutput : Command → List ℕ → Option Files → List ℕ → Type 0
IsFrontOfOutput c script files text =
    IsKnown files (lines_of (script_front script)) → (last : Session) (ended : End) → ended ≢ end.ShelfFault → FrontGives c (script_front script) (begin files) last ended → IsFront text (whole_text c ended last)

-- A front of the output was written, and the files are those that a front of the lines leaves, in which all lines are whose text was written.
pub record IsFrontRun (c : Command) (script : List ℕ) (files files_now : Option Files) (faults faults_now : ℕ) (before now : Option (List ℕ)) : Type 0 where
  pub text : List ℕ
  pub written : Appends before now text
  pub front : IsFrontOfOutput c script files text
  pub executed : IsReached c script files files_now text ⊎ IsPart c script files files_now faults faults_now text

-- Up to a fault of the source these bytes were read. All lines of them that a line feed ends were executed: their whole text was written, and the files are those that they leave.
pub record IsUpToFault (c : Command) (script : List ℕ) (left : Option (List ℕ)) (files files_now : Option Files) (before now : Option (List ℕ)) : Type 0 where
  pub read : List ℕ
  pub consumed : Consumes (Some script) left read
  pub last : Session
  pub answered : AllAnswered c 0 (begin files) (whole_lines read) last
  pub reaches : FrontReaches c (script_front script) (begin files) last
  pub stored : Stay last.files files_now
  pub written : Appends before now last.text

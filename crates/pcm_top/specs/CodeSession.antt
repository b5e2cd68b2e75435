-- A session as the code keeps it, and the session that it stands for.
use Rattle.std.specs.Prelude.{◌≡◌, ◌≢◌, ◌⊎◌, ℕ, ◌+◌, Bool, List, ◌∷◌, ◌++◌, ◌≤◌, ◌<◌, ◌^◌, if◌then◌else◌}
use Rattle.std.specs.Io.KnownBytes.{Appends, Consumes}
use Rattle.std.specs.declared.option.Option.{Option}
use Rattle.std.specs.declared.option.Option.TheVariants.{Some, None}
use Rattle.pcm_base.specs.declared.call.Event.{Event as CoreEvent}
use Rattle.pcm_base.specs.declared.config.Config.{Config}
use Rattle.pcm_base.specs.model.World.{World as ModelWorld}
use Rattle.pcm_io.specs.Shelf.{Files, Stay}
use Rattle.pcm_line.specs.declared.error.LineError.{LineError}
use Rattle.pcm_line.specs.declared.line.Line.{Line}
use Rattle.pcm_top.specs.declared.command.Command.{Command}
use Rattle.pcm_top.specs.declared.end.End.{End}
use Rattle.pcm_top.specs.declared.end.End.TheVariants.{Whole, BadLine}
use Rattle.pcm_top.specs.declared.session.Session.{Session as Kept}
use Rattle.pcm_world.specs.declared.world.World.{World}
use Rattle.pcm_world.specs.Shown.{IsWorld, moved_in, result_in}
use Rattle.pcm_top.specs.Output.{IsReached}
use Rattle.pcm_top.specs.Run.{takes_by}
use Rattle.pcm_top.specs.Script.{Answers, Halts, HasFault, Passes, limit_for, Gives, FrontGives, Reaches, FrontReaches, AllAnswered, script_front, whole_text}
use Rattle.pcm_top.specs.Session.{Session, begin, AreFiles}
use Rattle.pcm_top.specs.Lines.{whole_lines, is_last}

-- the bytes of an event's line as the code's world has them behind the step: what its client has read, where it reads, or what its card took
abbrev pub bytes_in : World → CoreEvent → ModelWorld → Bool → Option (List ℕ)
bytes_in c e w reads = elim e.client [
  | Some client ↦ if reads then Some (result_in c client) else if takes_by e w then Some (moved_in c e.sub) else None
  | None ↦ if takes_by e w then Some (moved_in c e.sub) else None
]

-- a WAV file can have the channels and the rate
pub record HasWavNumbers (c : Config) : Type 0 where
  pub least : 1 ≤ c.channels
  pub most : c.channels ≤ 8
  pub some_rate : 1 ≤ c.rate
  pub rate : c.rate < 2 ^ 32

-- the world, the version and the text are those of the session
pub record Keeps (k : Kept) (s : Session) : Type 0 where
  pub world : IsWorld k.world s.world
  pub version : k.version ≡ s.version
  pub text : k.text.items ≡ s.text

-- so are the shelf's files, and every store went well
pub record IsSession (k : Kept) (files : Option Files) (s : Session) : Type 0 where
  pub keeps : Keeps k s
  pub none_lost : s.lost ≡ None
  pub shelf : Stay s.files files

-- a line was answered
pub record IsNext (c : Command) (number : ℕ) (line : Line) (s : Session) (k : Kept) (files : Option Files) : Type 0 where
  pub next : Session
  pub answers : Answers c number line s next
  pub session : IsSession k files next

-- a line ended the run
pub record IsStopped (c : Command) (line : Line) (s : Session) (text : List ℕ) (files : Option Files) (ended : End) : Type 0 where
  pub last : Session
  pub halts : Halts c line s last ended
  pub written : text ≡ last.text
  pub shelf : AreFiles last files

-- there was no memory in a line, or behind it
pub record IsCut (c : Command) (number : ℕ) (line : Line) (s : Session) (files : Option Files) : Type 0 where
  pub last : Session
  pub reached : (last ≡ s) ⊎ Answers c number line s last
  pub shelf : Stay last.files files

-- the line of these bytes was skipped or answered, before which there are so many
pub record HasPassed (c : Command) (last_one : Bool) (count : ℕ) (bytes : List ℕ) (s : Session) (k : Kept) (files : Option Files) : Type 0 where
  pub few : limit_for last_one count ≡ None
  pub next : Session
  pub passes : Passes c (count + 1) (λ t. t ≡ next) s bytes
  pub session : IsSession k files next

-- the script ended at the line of these bytes, and this is its text
pub record HasEnded (c : Command) (last_one : Bool) (count : ℕ) (bytes : List ℕ) (s : Session) (text : List ℕ) (files : Option Files) (ended : End) : Type 0 where
  pub last : Session
  pub gives : (over : Bool) (lines : List (List ℕ)) → is_last over lines ≡ last_one → Gives c over count s (bytes ∷ lines) last ended
  pub not_whole : ended ≢ Whole
  pub text_is : text ≡ last.text
  pub shelf : AreFiles last files

-- there was no memory in the line of these bytes, or behind it
pub record HasLacked (c : Command) (last_one : Bool) (count : ℕ) (bytes : List ℕ) (s : Session) (files : Option Files) : Type 0 where
  pub last : Session
  pub reaches : (over : Bool) (lines : List (List ℕ)) → is_last over lines ≡ last_one → Reaches c over count s (bytes ∷ lines) last
  pub shelf : Stay last.files files

-- this text came behind another
abbrev pub behind : List ℕ → Session → Session
behind sent s = record s { text = sent ++ s.text }

-- what a script came to: of its whole text a front is written, and the rest gathered
pub record IsRan (c : Command) (script : List ℕ) (files files_now : Option Files) (before now : Option (List ℕ)) (text : List ℕ) (ended : End) : Type 0 where
  pub last : Session
  pub gives : FrontGives c (script_front script) (begin files) last ended
  pub shelf : AreFiles last files_now
  pub sent : List ℕ
  pub written : Appends before now sent
  pub whole : whole_text c ended last ≡ sent ++ text

-- the source failed: of the text of all lines that were read whole a front is written, and the rest gathered
pub record IsRanToFault (c : Command) (script : List ℕ) (left : Option (List ℕ)) (files files_now : Option Files) (before now : Option (List ℕ)) (text : List ℕ) : Type 0 where
  pub read : List ℕ
  pub consumed : Consumes (Some script) left read
  pub last : Session
  pub answered : AllAnswered c 0 (begin files) (whole_lines read) last
  pub reaches : FrontReaches c (script_front script) (begin files) last
  pub shelf : Stay last.files files_now
  pub sent : List ℕ
  pub written : Appends before now sent
  pub whole : last.text ≡ sent ++ text

-- the run was cut short behind some of the lines
pub record IsRanShort (c : Command) (script : List ℕ) (files files_now : Option Files) (before now : Option (List ℕ)) : Type 0 where
  pub text : List ℕ
  pub written : Appends before now text
  pub reached : IsReached c script files files_now text

-- a limit is reached, or the line of this number is none of the command
pub record IsNoLine (c : Command) (number : ℕ) (bytes : List ℕ) (ended : End) : Type 0 where
  pub fault : LineError
  pub why : HasFault c number bytes fault
  pub here : ended ≡ BadLine number fault

abbrev pub StopsBy : Option End → Command → ℕ → List ℕ → End → Type 0
StopsBy (Some limit) c number bytes ended = ended ≡ limit
StopsBy None c number bytes ended = IsNoLine c number bytes ended

-- the script ends at a line of these bytes, before which there are so many, and which may be the last
abbrev pub IsStop : Command → Bool → ℕ → List ℕ → End → Type 0
IsStop c last count bytes ended = StopsBy (limit_for last count) c (count + 1) bytes ended

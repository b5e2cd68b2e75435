-- What the lines of a script lead to, and how they end. This project's own.
use Rattle.std.specs.Prelude.{◌≡◌, ◌⊎◌, ◌≤◌, ◌<◌, ⊤, ℕ, ◌+◌, ◌==◌, Bool, true, false, List, [], ◌∷◌, ◌++◌, take, nat_lt, if◌then◌else◌, length}
use Rattle.std.specs.declared.option.Option.{Option}
use Rattle.std.specs.declared.option.Option.TheVariants.{Some, None}
use Rattle.std.specs.List.{AllByRecursion}
use Rattle.pcm_io.specs.Shelf.{Files}
use Rattle.pcm_line.specs.declared.error.LineError.{LineError}
use Rattle.pcm_line.specs.declared.error.LineError.TheVariants.{Word, Number}
use Rattle.pcm_line.specs.declared.line.Line.{Line}
use Rattle.pcm_line.specs.declared.line.Line.TheVariants.{Space, Feed, Save, Version}
use Rattle.pcm_line.specs.Grammar.{IsLine, LineFault}
use Rattle.pcm_line.specs.Skipped.{IsSkipped}
use Rattle.pcm_top.specs.declared.command.Command.{Command}
use Rattle.pcm_top.specs.declared.command.Command.TheVariants.{Run, Refine}
use Rattle.pcm_top.specs.declared.end.End.{End}
use Rattle.pcm_top.specs.declared.end.End.TheVariants.{Whole, BadLine, ScriptLines, ScriptBytes, ShelfFault, Missing, WavBytes, BadWav}
use Rattle.pcm_top.specs.Lines.{lines_of, is_last}
use Rattle.pcm_top.specs.Refine.{IsAnswer}
use Rattle.pcm_top.specs.Run.{Finds, LineLeads, feed_refusal, is_built_at, save_refusal, end_lines, wav_limit}
use Rattle.pcm_top.specs.Session.{Session, begin}
use Rattle.wav_file.specs.Faults.{WavFault}
use Rattle.wav_file.specs.declared.wav.WavError.{WavError}

-- the most lines and the most bytes of a script
abbrev pub line_limit : ℕ
line_limit = 1048576

abbrev pub byte_limit : ℕ
byte_limit = 67108864

abbrev pub is_space : Line → Bool
is_space (Space model space) = true
is_space _ = false

-- the command has the line of this number
abbrev pub has : Command → ℕ → Line → Bool
has Run number line = is_built_at number line
has Refine number line = is_space line

-- what the line of this number leads to from one session
abbrev pub Answers : Command → ℕ → Line → Session → Session → Type 0
Answers Run number line s t = (is_built_at number line ≡ true) × LineLeads number line s t
Answers Refine number (Space model space) s t = (answer : List ℕ) × IsAnswer model space answer × (t ≡ record s { text = s.text ++ answer })
Answers Refine number _ s t = ⊥

-- how a feed ends the run that finds this under the name: nothing, a file that is too long, or one that is no WAV file
abbrev pub IsFileEnd : List ℕ → Option (List ℕ) → End → Type 0
IsFileEnd name None ended = ended ≡ Missing name
IsFileEnd name (Some bytes) ended =
    ((wav_limit < length bytes) × (ended ≡ WavBytes)) ⊎ ((length bytes ≤ wav_limit) × (e : WavError) × WavFault bytes e × (ended ≡ BadWav name e))

-- it ends by what it finds, or by a fault of the shelf
abbrev pub IsFeedEnd : Option Files → List ℕ → End → Type 0
IsFeedEnd files name ended = (ended ≡ ShelfFault) ⊎ ((found : Option (List ℕ)) × Finds files name found × IsFileEnd name found ended)

-- the line ends the run instead: its file cannot be stored, or is none that can be fed
abbrev pub Halts : Command → Line → Session → Session → End → Type 0
Halts Run (Save k name) s t ended = (save_refusal k s.world ≡ None) × (t ≡ record s { lost = Some name }) × (ended ≡ ShelfFault)
Halts Run (Feed k name) s t ended = (feed_refusal k s.world ≡ None) × (t ≡ s) × IsFeedEnd s.files name ended
Halts _ _ s t ended = ⊥

-- what is wrong in a line that the command does not have in the place of this number: its first word, or in line 1 of `run` the number of a version
abbrev pub misplaced : Command → ℕ → Line → LineError
misplaced Run number (Version n) = if number == 1 then Number 8 else Word 0
misplaced c number line = Word 0

-- why the bytes are no line of the command in the place of this number: their fault, or what is wrong in a line that it does not have there
abbrev pub HasFault : Command → ℕ → List ℕ → LineError → Type 0
HasFault c number bytes fault = LineFault bytes fault ⊎ ((line : Line) × IsLine bytes line × (has c number line ≡ false) × (fault ≡ misplaced c number line))

-- the line is not skipped, it is answered, and then comes what the lines after it lead to
pub record IsAnswered (c : Command) (number : ℕ) (rest : Session → Type 0) (s : Session) (bytes : List ℕ) : Type 0 where
  pub speaks : ¬ IsSkipped s.version bytes
  pub line : Line
  pub says : IsLine bytes line
  pub next : Session
  pub answers : Answers c number line s next
  pub follows : rest next

-- the line is skipped, or it is answered
abbrev pub Passes : Command → ℕ → (Session → Type 0) → Session → List ℕ → Type 0
Passes c number rest s bytes = (IsSkipped s.version bytes × rest s) ⊎ IsAnswered c number rest s bytes

-- the line of this number is not skipped, and none of the command: it does nothing, and nothing comes after it
pub record IsBad (c : Command) (number : ℕ) (s last : Session) (ended : End) (bytes : List ℕ) : Type 0 where
  pub speaks : ¬ IsSkipped s.version bytes
  pub fault : LineError
  pub why : HasFault c number bytes fault
  pub same : last ≡ s
  pub here : ended ≡ BadLine number fault

-- the line is not skipped, and ends the run
pub record IsHalted (c : Command) (s last : Session) (ended : End) (bytes : List ℕ) : Type 0 where
  pub speaks : ¬ IsSkipped s.version bytes
  pub line : Line
  pub says : IsLine bytes line
  pub halts : Halts c line s last ended

-- The limit that a line reaches, before which there are so many, and which may be the last. A script that is over the limit of bytes is cut one byte behind it, which its last line then holds.
abbrev pub limit_for : Bool → ℕ → Option End
limit_for last count = if count == line_limit then Some ScriptLines else if last then Some ScriptBytes else None

abbrev pub LineGives : Command → Option End → ℕ → (Session → Type 0) → Session → Session → End → List ℕ → Type 0
LineGives c (Some limit) number rest s last ended bytes = (last ≡ s) × (ended ≡ limit)
LineGives c None number rest s last ended bytes = Passes c number rest s bytes ⊎ (IsBad c number s last ended bytes ⊎ IsHalted c s last ended bytes)

-- Gives command over count from lines last ended: these lines, before which there are so many, lead from one session to the last, and end so
abbrev pub Gives : Command → Bool → ℕ → Session → List (List ℕ) → Session → End → Type 0
Gives c over count s [] last ended = (last ≡ s) × (ended ≡ Whole)
Gives c over count s (bytes ∷ lines) last ended =
    LineGives c (limit_for (is_last over lines) count) (count + 1) (λ t. Gives c over (count + 1) t lines last ended) s last ended bytes

-- the front of a script that is read: one byte past the limit, if there are so many
abbrev pub script_front : List ℕ → List ℕ
script_front script = take (byte_limit + 1) script

-- what such a front leads to
abbrev pub FrontGives : Command → List ℕ → Session → Session → End → Type 0
FrontGives c front s last ended = Gives c (nat_lt byte_limit (length front)) 0 s (lines_of front) last ended

-- some of the lines, from the first on and within the limits, are skipped or answered, and lead from one session to the last
abbrev pub Reaches : Command → Bool → ℕ → Session → List (List ℕ) → Session → Type 0
Reaches c over count s [] last = last ≡ s
Reaches c over count s (bytes ∷ lines) last =
    (last ≡ s) ⊎ ((limit_for (is_last over lines) count ≡ None) × Passes c (count + 1) (λ t. Reaches c over (count + 1) t lines last) s bytes)

abbrev pub FrontReaches : Command → List ℕ → Session → Session → Type 0
FrontReaches c front s last = Reaches c (nat_lt byte_limit (length front)) 0 s (lines_of front) last

-- all of the lines are skipped or answered, and lead from one session to the last
abbrev pub AllAnswered : Command → ℕ → Session → List (List ℕ) → Session → Type 0
AllAnswered c count s [] last = last ≡ s
AllAnswered c count s (bytes ∷ lines) last = Passes c (count + 1) (λ t. AllAnswered c (count + 1) t lines last) s bytes

-- a line that is no feed
abbrev pub is_feed : Line → Bool
is_feed (Feed k name) = true
is_feed _ = false

-- the files are told, or none of the lines is a feed: so what the lines lead to is one
abbrev pub IsKnown : Option Files → List (List ℕ) → Type 0
IsKnown (Some files) lines = ⊤
IsKnown None lines = AllByRecursion (λ bytes. (line : Line) → IsLine bytes line → is_feed line ≡ false) lines

-- the text that a run leaves: where all lines were executed, a line for each substream stands behind it
abbrev pub closing : Command → End → Session → List ℕ
closing Run Whole s = end_lines s.world
closing _ _ s = []

abbrev pub whole_text : Command → End → Session → List ℕ
whole_text c ended last = last.text ++ closing c ended last

-- the version of the script behind the line
abbrev pub version_after : ℕ → Line → ℕ
version_after version (Version n) = n
version_after version line = version

-- the line of this number is not skipped, it is one of the command, and then come those after it
pub record IsOwn (c : Command) (number version : ℕ) (rest : ℕ → Type 0) (bytes : List ℕ) : Type 0 where
  pub speaks : ¬ IsSkipped version bytes
  pub line : Line
  pub says : IsLine bytes line
  pub own : has c number line ≡ true
  pub follows : rest (version_after version line)

-- each of the lines, before which there are so many, is skipped or one of the command
abbrev pub AllBelong : Command → ℕ → ℕ → List (List ℕ) → Type 0
AllBelong c count version [] = ⊤
AllBelong c count version (bytes ∷ lines) =
    (IsSkipped version bytes × AllBelong c (count + 1) version lines) ⊎ IsOwn c (count + 1) version (λ v. AllBelong c (count + 1) v lines) bytes

-- the end is that of a file that cannot be fed
abbrev pub is_file_end : End → Bool
is_file_end (Missing name) = true
is_file_end WavBytes = true
is_file_end (BadWav name e) = true
is_file_end _ = false

-- The script keeps the limits, each of its lines is skipped or one of the command, and over these files no file that it loads is missing, too long or no WAV file.
pub record IsScript (c : Command) (script : List ℕ) (files : Option Files) : Type 0 where
  pub bytes : length script ≤ byte_limit
  pub lines : length (lines_of script) ≤ line_limit
  pub belong : AllBelong c 0 1 (lines_of script)
  pub loads : (last : Session) (ended : End) → FrontGives c (script_front script) (begin files) last ended → is_file_end ended ≡ false

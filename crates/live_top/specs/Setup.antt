-- The setup of a plan: its calls with their replies, and how it is halted. This project's own.
use Rattle.std.specs.Prelude.{◌≡◌, ◌⊎◌, ◌<◌, ◌≤◌, ⊤, ℕ, Bool, true, false, List, [], ◌∷◌, ◌++◌, length, map, replicate, set, slice_get, take}
use Rattle.std.specs.Option.{ForSome, is_none}
use Rattle.std.specs.declared.option.Option.{Option}
use Rattle.std.specs.declared.option.Option.TheVariants.{Some, None}
use Rattle.pcm_base.specs.declared.call.Call.{Call as CoreCall}
use Rattle.pcm_base.specs.declared.call.Call.TheVariants as call
use Rattle.pcm_base.specs.declared.call.Event.{Event as CoreEvent}
use Rattle.pcm_base.specs.declared.config.CardModel.{CardModel}
use Rattle.pcm_base.specs.declared.config.Config.{Config}
use Rattle.pcm_base.specs.declared.config.Model.{Model}
use Rattle.pcm_base.specs.declared.ids.SubId.{SubId}
use Rattle.pcm_base.specs.declared.reply.Reply.{Reply}
use Rattle.pcm_base.specs.declared.reply.Reply.TheVariants as reply
use Rattle.pcm_base.specs.declared.state.Dir.{Dir}
use Rattle.pcm_base.specs.declared.state.Dir.TheVariants as dir
use Rattle.pcm_base.specs.declared.state.Errno.TheVariants as errno
use Rattle.pcm_io.specs.Shelf.{Files}
use Rattle.pcm_line.specs.Sayable.{is_of_card}
use Rattle.pcm_line.specs.declared.line.Line.{Line}
use Rattle.pcm_line.specs.declared.line.Line.TheVariants.{Event, Feed}
use Rattle.pcm_text.specs.declared.status.Status.{Status}
use Rattle.pcm_text.specs.declared.status.Status.TheVariants as status
use Rattle.wav_file.specs.Recordings.{Recording}
use Rattle.room_parts.specs.Passes.{PassView}
use Rattle.room_lock.specs.declared.answer.Answer.{Answer}
use Rattle.room_lock.specs.declared.answer.Answer.TheVariants.{Done, LogFull, Memory}
use Rattle.live_work.specs.Runs.{io_of}
use Rattle.live_top.specs.Callers.{Answered}
use Rattle.live_top.specs.Files.{IsLoadEnd, IsLoaded, is_of_config}
use Rattle.live_top.specs.Passes.{HaveCalled}
use Rattle.live_top.specs.declared.halt.Halt.{Halt}
use Rattle.live_top.specs.declared.halt.Halt.TheVariants.{Full, Ended}
use Rattle.live_top.specs.declared.told.Stage.{Stage}
use Rattle.live_top.specs.declared.told.Stage.TheVariants.{Closed, Bare, Configured}

-- What is told of a substream once a call is answered so. A configuration that is refused leaves none.
abbrev pub after : Stage → CoreCall → Reply → Stage
after t call.OpenSub reply.Ok = Bare
after t call.HwFree reply.Ok = Bare
after t call.CloseSub reply.Ok = Closed
after t (call.HwParams c) reply.Ok = Configured c
after t (call.HwParams c) (reply.Err errno.Einval) = Bare
after t _ _ = t

abbrev pub known : Option Stage → Stage
known (Some t) = t
known None = Closed

-- what is told of each substream, with that which the reply to this event tells
abbrev pub learned : List Stage → CoreEvent → Reply → List Stage
learned told e r = set told e.sub.0 (after (known (slice_get told e.sub.0)) e.call r)

-- the directions of the cards
abbrev pub directions : List (Model × Dir) → List Dir
directions cards = map (λ c. c.1) cards

-- the configuration that a feed looks at: that of a substream that captures, where it is told
abbrev pub config_to_feed : Dir → Stage → Option Config
config_to_feed dir.Capture (Configured c) = Some c
config_to_feed _ _ = None

abbrev pub config_fed : Option Dir → Stage → Option Config
config_fed (Some d) t = config_to_feed d t
config_fed None t = None

-- frames are given to the card of a substream
abbrev pub giving : SubId → CoreEvent
giving k = record { client = None; sub = k; call = call.Give }

-- the frames are given to the card where they are of its configuration
abbrev pub IsGivenIf : Bool → List ℕ → SubId → List Answered → Type 0
IsGivenIf true frames k own = (r : Reply) × (own ≡ record { call = record { event = giving k; io = frames }; reply = r } ∷ [])
IsGivenIf false frames k own = own ≡ []

-- These are the calls of a feed: none where there is no configuration to look at; else its file is loaded, and its frames are given where they are of that.
abbrev pub IsFeedOf : Option Files → SubId → List ℕ → Option Config → List Answered → Type 0
IsFeedOf files k name None own = own ≡ []
IsFeedOf files k name (Some c) own = (r : Recording) × IsLoaded files name r × IsGivenIf (is_of_config r c) r.frames k own

-- These are the calls of the lines of a setup, in order, with their replies. What replies have told of the substreams before is `told`, and `now` behind the lines.
abbrev pub IsSetupOf : List Dir → Option Files → List Stage → List Line → List Answered → List Stage → Type 0
IsSetupOf dirs files told [] answered now = (answered ≡ []) × (now ≡ told)
IsSetupOf dirs files told (Event e bytes ∷ lines) answered now =
    (r : Reply) × (others : List Answered) × (answered ≡ record { call = record { event = e; io = io_of e.call bytes }; reply = r } ∷ others)
    × IsSetupOf dirs files (learned told e r) lines others now
IsSetupOf dirs files told (Feed k name ∷ lines) answered now =
    (own : List Answered) × (others : List Answered) × (answered ≡ own ++ others)
    × IsFeedOf files k name (config_fed (slice_get dirs k.0) (known (slice_get told k.0))) own × IsSetupOf dirs files told lines others now
IsSetupOf dirs files told (line ∷ lines) answered now = ⊥

-- a link and an unlink move no bytes
abbrev pub moves_bytes : CoreCall → Bool
moves_bytes (call.Link second) = false
moves_bytes call.Unlink = false
moves_bytes _ = true

-- an event of one of the 16 clients or of a card, one of so many, and what it is handed
pub record MayMake (cards : ℕ) (e : CoreEvent) (io : List ℕ) : Type 0 where
  pub card : e.sub.0 < cards
  pub client : ForSome e.client (λ c. c.0 ≤ 15)
  pub caller : is_of_card e.call ≡ is_none e.client
  pub none : moves_bytes e.call ≡ false → io ≡ []

-- an event that was answered was made, with its bytes, and one that was refused was not
abbrev pub HaveMade : List (CardModel × Dir) → ℕ → Answer → CoreEvent → List ℕ → List PassView → List PassView → List PassView → List PassView → Type 0
HaveMade cards long_max (Done answer receipt woken) e io clients clients_now of_cards of_cards_now =
    HaveCalled cards long_max (record { call = record { event = e; io = io }; reply = answer } ∷ []) clients clients_now of_cards of_cards_now
HaveMade cards long_max (LogFull sub full) e io clients clients_now of_cards of_cards_now = HaveCalled cards long_max [] clients clients_now of_cards of_cards_now
HaveMade cards long_max Memory e io clients clients_now of_cards of_cards_now = HaveCalled cards long_max [] clients clients_now of_cards of_cards_now

-- What a setup begins with: the directions of the cards, the files, and what is told of each substream.
pub record Before : Type 0 where
  pub dirs : List Dir
  pub files : Option Files
  pub told : List Stage

-- nothing is told of the substreams of new cards
abbrev pub at_first : List (Model × Dir) → Option Files → Before
at_first cards files = record { dirs = directions cards; files = files; told = replicate (length cards) Closed }

-- the calls of these lines were made, and their replies have told this
abbrev pub HaveSetUpTo : List (CardModel × Dir) → ℕ → Before → List Line → List Stage → List PassView → List PassView → List PassView → List PassView → Type 0
HaveSetUpTo cards long_max b lines now clients clients_now of_cards of_cards_now =
    (answered : List Answered) × IsSetupOf b.dirs b.files b.told lines answered now × HaveCalled cards long_max answered clients clients_now of_cards of_cards_now

abbrev pub HaveSetUp : List (CardModel × Dir) → ℕ → Before → List Line → List PassView → List PassView → List PassView → List PassView → Type 0
HaveSetUp cards long_max b lines clients clients_now of_cards of_cards_now = (now : List Stage) × HaveSetUpTo cards long_max b lines now clients clients_now of_cards of_cards_now

-- those of so many of the lines, from the first on
abbrev pub HaveSetUpFirst : List (CardModel × Dir) → ℕ → Before → List Line → List PassView → List PassView → List PassView → List PassView → Type 0
HaveSetUpFirst cards long_max b lines clients clients_now of_cards of_cards_now = (count : ℕ) × HaveSetUp cards long_max b (take count lines) clients clients_now of_cards of_cards_now

-- the calls of a feed were made, by this configuration
abbrev pub HaveFed : List (CardModel × Dir) → ℕ → Option Files → SubId → List ℕ → Option Config → List PassView → List PassView → List PassView → List PassView → Type 0
HaveFed cards long_max files k name config clients clients_now of_cards of_cards_now = (own : List Answered) × IsFeedOf files k name config own × HaveCalled cards long_max own clients clients_now of_cards of_cards_now

-- a call is refused by a full log, or for want of memory
abbrev pub IsCallHalt : Halt → Type 0
IsCallHalt Full = ⊤
IsCallHalt (Ended s) = s ≡ status.Memory

-- a load of the file that a feed of these lines names ends so
pub record IsFeedFault (files : Option Files) (lines : List Line) (s : Status) : Type 0 where
  pub name : List ℕ
  pub sub : SubId
  pub line : Line
  pub feeds : line ≡ Feed sub name
  pub place : ℕ
  pub at : slice_get lines place ≡ Some line
  pub ended : IsLoadEnd files name s

-- a setup of these lines is halted by a full log, for want of memory, or by a file that is fed
abbrev pub IsSetupHalt : Option Files → List Line → Halt → Type 0
IsSetupHalt files lines Full = ⊤
IsSetupHalt files lines (Ended s) = (s ≡ status.Memory) ⊎ IsFeedFault files lines s

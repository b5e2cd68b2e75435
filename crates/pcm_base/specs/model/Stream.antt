-- A stream (struct snd_pcm_runtime of include/sound/pcm.h): what is configured, where it stands, its card and the calls in progress on it.
use Rattle.std.specs.Prelude.{ℕ, Bool, true, false, List, [], replicate, ◌+◌, ◌-◌, ◌%◌}
use Rattle.std.specs.declared.option.Option.{Option}
use Rattle.std.specs.declared.option.Option.TheVariants.{Some, None}
use Rattle.pcm_base.specs.declared.config.CardModel.{CardModel}
use Rattle.pcm_base.specs.declared.config.Config.{Config}
use Rattle.pcm_base.specs.declared.config.SwParams.{SwParams}
use Rattle.pcm_base.specs.declared.ids.ClientId.{ClientId}
use Rattle.pcm_base.specs.declared.ids.SubId.{SubId}
use Rattle.pcm_base.specs.declared.sleeper.Task.{Task}
use Rattle.pcm_base.specs.declared.state.Dir.{Dir}
use Rattle.pcm_base.specs.declared.state.Dir.TheVariants as dir
use Rattle.pcm_base.specs.declared.state.State.{State}
use Rattle.pcm_base.specs.declared.state.State.TheVariants as state
use Rattle.pcm_base.specs.model.Frame.{Frame}
use Rattle.pcm_base.specs.model.Standing.{Put}

-- what hw_params and sw_params set; all numbers are 0 where there is no configuration
pub record Setup : Type 0 where
  pub config : Option Config
  pub frame_bytes : ℕ
  pub buffer : ℕ
  pub boundary : ℕ
  pub sw : SwParams

-- The reported hardware position, the application position, the card's own and the end of the last fill, in frames. Prepare counts them from the boundary, not from 0, so that one that was rewound before the start is a number too; slots, distances and what is shown are the same.
pub record Positions : Type 0 where
  pub hw : ℕ
  pub appl : ℕ
  pub card : ℕ
  pub filled : ℕ

-- the emulated card: its fault plan says which of the next 64 triggers that consult it fail
pub record Card : Type 0 where
  pub runs : Bool
  pub plan : List Bool
  pub taken : List Frame
  pub to_give : List Frame

-- a call in progress; whether it is marked asleep stands with the member
pub record Waiting : Type 0 where
  pub client : ClientId
  pub task : Task

-- puts has the oldest first; moved counts the frames that the card moved since the last accepted hw_params; kept is the state from which a suspended stream resumes
pub record Stream : Type 0 where
  pub dir : Dir
  pub model : CardModel
  pub long_max : ℕ
  pub state : State
  pub kept : Option State
  pub setup : Setup
  pub mappings : ℕ
  pub at : Positions
  pub puts : List Put
  pub moved : ℕ
  pub card : Card
  pub sleepers : List Waiting

-- a stream in a group, and which of the clients that wait on it are marked asleep
pub record Member : Type 0 where
  pub sub : SubId
  pub stream : Stream
  pub asleep : List ClientId

abbrev pub no_sw : SwParams
no_sw = record { avail_min = 0; start_threshold = 0; stop_threshold = 0; silence_threshold = 0; silence_size = 0 }

abbrev pub no_setup : Setup
no_setup = record { config = None; frame_bytes = 0; buffer = 0; boundary = 0; sw = no_sw }

-- no trigger fails
abbrev pub no_plan : List Bool
no_plan = replicate 64 false

abbrev pub idle_card : Card
idle_card = record { runs = false; plan = no_plan; taken = []; to_give = [] }

-- all four positions at p
abbrev pub all_at : ℕ → Positions
all_at p = record { hw = p; appl = p; card = p; filled = p }

-- a stream that no client has opened
abbrev pub fresh : CardModel → Dir → ℕ → Stream
fresh m d n = record { dir = d; model = m; long_max = n; state = state.Closed; kept = None; setup = no_setup; mappings = 0; at = all_at 0; puts = []; moved = 0; card = idle_card; sleepers = [] }

abbrev pub no_model : CardModel
no_model = record { accesses = 0; formats = 0; channels = record { least = 0; most = 0 }; rate = record { least = 0; most = 0 }; wide_rate = 0; period = record { least = 0; most = 0 }; buffer_bytes = 0; can_pause = false; can_resume = false }

-- what stands for the stream of a substream that is no member
abbrev pub no_stream : Stream
no_stream = fresh no_model dir.Playback 0

-- without a configuration: OPEN, or unplugged in OPEN
abbrev pub is_bare : Stream → Bool
is_bare s = elim s.setup.config [ None ↦ true | Some c ↦ false ]

-- up to where a client may move: a playback client may fill the buffer ahead of the reported position, a capture client may read up to it (snd_pcm_playback_avail, snd_pcm_capture_avail)
abbrev pub head_of : Dir → ℕ → ℕ → ℕ
head_of dir.Playback b h = h + b
head_of dir.Capture b h = h

abbrev pub head : Stream → ℕ
head s = head_of s.dir s.setup.buffer s.at.hw

-- the count of frames that a client may move
abbrev pub avail : Stream → ℕ
avail s = head s - s.at.appl

-- a position as clients see it; all positions are 0 where there is no configuration
abbrev pub shown : Stream → ℕ → ℕ
shown s p = p % s.setup.boundary

-- the frame of zero bytes
abbrev pub zero_frame : Stream → Frame
zero_frame s = replicate s.setup.frame_bytes 0

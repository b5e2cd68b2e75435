-- Sound streams: what is true of a stream at all times.
use Rattle.std.specs.Prelude.{◌≡◌, Bool, true, false, [], ◌+◌, ◌<◌, ◌≤◌}
use Rattle.std.specs.declared.option.Option.{Option}
use Rattle.std.specs.declared.option.Option.TheVariants.{Some, None}
use Rattle.pcm_base.specs.declared.act.Act.{Act}
use Rattle.pcm_base.specs.declared.act.Act.TheVariants as act
use Rattle.pcm_base.specs.declared.act.Outcome.{Outcome}
use Rattle.pcm_base.specs.declared.act.Vote.{Vote}
use Rattle.pcm_base.specs.declared.config.Config.{Config}
use Rattle.pcm_base.specs.declared.ids.SubId.{SubId}
use Rattle.pcm_base.specs.declared.state.State.{State}
use Rattle.pcm_base.specs.declared.state.State.TheVariants as state
use Rattle.pcm_base.specs.Boundary.{boundary_of}
use Rattle.pcm_base.specs.model.Acts.{after}
use Rattle.pcm_base.specs.model.Allowed.{buffer_of, frame_bytes_of, accepts}
use Rattle.pcm_base.specs.model.Program.{Program, Ends, Makes}
use Rattle.pcm_base.specs.model.Replay.{Fits}
use Rattle.pcm_base.specs.model.Software.{refuses_sw}
use Rattle.pcm_base.specs.model.Stream.{Stream, no_setup, all_at, head, avail}
use Rattle.pcm_base.specs.model.Words.{runs_in}

-- a state in which every stream has a configuration
abbrev pub is_set_up : State → Bool
is_set_up state.Closed = false
is_set_up state.Opened = false
is_set_up state.Disconnected = false
is_set_up _ = true

-- a state of a stream with a configuration; in DISCONNECTED it has the one that it had, if any
abbrev pub may_be_set_up : State → Bool
may_be_set_up state.Closed = false
may_be_set_up state.Opened = false
may_be_set_up _ = true

-- a state that a suspended stream keeps
abbrev pub may_keep : State → Bool
may_keep state.Prepared = true
may_keep state.Running = true
may_keep state.Xrun = true
may_keep state.Draining = true
may_keep state.Paused = true
may_keep _ = false

-- a state is kept exactly in SUSPENDED
abbrev pub keeps : State → Option State → Bool
keeps state.Suspended (Some t) = may_keep t
keeps state.Suspended None = false
keeps _ (Some t) = false
keeps _ None = true

-- where the four positions of a configured stream lie
pub record IsPlaced (s : Stream) : Type 0 where
  pub reported : s.at.hw ≤ s.at.card
  pub near : s.at.card < s.at.hw + s.setup.buffer
  pub origin : s.setup.boundary ≤ s.at.hw
  pub written : s.at.appl ≤ head s
  pub fewer : avail s < s.setup.boundary
  pub filled : s.at.filled ≤ s.at.hw + s.setup.buffer

-- the numbers of the configuration, and what is allowed
pub record IsShaped (c : Config) (s : Stream) : Type 0 where
  pub allowed : accepts s.model s.long_max c ≡ true
  pub frame_bytes : s.setup.frame_bytes ≡ frame_bytes_of c
  pub buffer : s.setup.buffer ≡ buffer_of c
  pub boundary : s.setup.boundary ≡ boundary_of (buffer_of c) s.long_max
  pub sw : refuses_sw s.setup.buffer s.setup.boundary s.setup.sw ≡ false

-- a stream with a configuration
pub record IsConfigured (c : Config) (s : Stream) : Type 0 where
  pub shaped : IsShaped c s
  pub placed : IsPlaced s
  pub state : may_be_set_up s.state ≡ true
  pub running : s.card.runs ≡ runs_in s.dir s.state
  pub kept : keeps s.state s.kept ≡ true

-- a stream without a configuration, in CLOSED, OPEN or DISCONNECTED
pub record IsBare (s : Stream) : Type 0 where
  pub state : is_set_up s.state ≡ false
  pub setup : s.setup ≡ no_setup
  pub at : s.at ≡ all_at 0
  pub moved : s.moved ≡ 0
  pub stands : s.card.runs ≡ false
  pub unmapped : s.mappings ≡ 0
  pub taken : s.card.taken ≡ []
  pub to_give : s.card.to_give ≡ []
  pub kept : s.kept ≡ None

abbrev pub SoundAt : Option Config → Stream → Type 0
SoundAt (Some c) s = IsConfigured c s
SoundAt None s = IsBare s

-- a stream is sound
abbrev pub Sound : Stream → Type 0
Sound s = SoundAt s.setup.config s

-- the states in which Stop leaves a member
abbrev pub is_stop : Act → Bool
is_stop (act.Stop state.Setup) = true
is_stop (act.Stop state.Xrun) = true
is_stop (act.Stop _) = false
is_stop _ = true

-- Each stream that member k's program comes to, whatever fits, is sound.
abbrev pub KeepsSound : SubId → Program → Type 0
KeepsSound k (Ends a s) = Sound s
KeepsSound k (Makes a s f) = Sound s × (is_stop a ≡ true) × ((v : Vote) (o : Outcome) → Fits k s a v o → KeepsSound k (f o (after a v o s)))

-- Words that every definition uses: the first of several refusals, and questions about a state.
use Rattle.std.specs.Prelude.{Bool, true, false, nat_eq}
use Rattle.std.specs.declared.option.Option.{Option}
use Rattle.std.specs.declared.option.Option.TheVariants.{Some, None}
use Rattle.pcm_base.specs.declared.state.Dir.{Dir}
use Rattle.pcm_base.specs.declared.state.Dir.TheVariants as dir
use Rattle.pcm_base.specs.declared.state.Errno.{Errno}
use Rattle.pcm_base.specs.declared.state.State.{State}
use Rattle.pcm_base.specs.declared.state.State.TheVariants as state
use Rattle.pcm_base.specs.Numbers.{state_number}

-- the refusal, where the test holds
abbrev pub when : Bool → Errno → Option Errno
when true e = Some e
when false e = None

-- the first refusal of two
infixr 5 ◌then◌
abbrev pub ◌then◌ : Option Errno → Option Errno → Option Errno
(Some e) then y = Some e
None then y = y

abbrev pub is_playback : Dir → Bool
is_playback dir.Playback = true
is_playback dir.Capture = false

-- a substream runs in RUNNING, and a playback one in DRAINING too
abbrev pub runs_in : Dir → State → Bool
runs_in d state.Running = true
runs_in dir.Playback state.Draining = true
runs_in d _ = false

abbrev pub is_closed : State → Bool
is_closed state.Closed = true
is_closed _ = false

abbrev pub is_prepared : State → Bool
is_prepared state.Prepared = true
is_prepared _ = false

abbrev pub is_running : State → Bool
is_running state.Running = true
is_running _ = false

abbrev pub is_draining : State → Bool
is_draining state.Draining = true
is_draining _ = false

abbrev pub is_paused : State → Bool
is_paused state.Paused = true
is_paused _ = false

abbrev pub is_suspended : State → Bool
is_suspended state.Suspended = true
is_suspended _ = false

abbrev pub is_disconnected : State → Bool
is_disconnected state.Disconnected = true
is_disconnected _ = false

-- the two are one state
abbrev pub same_state : State → State → Bool
same_state a b = nat_eq (state_number a) (state_number b)

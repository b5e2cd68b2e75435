-- What the calls that set a stream up answer and set.
use Rattle.std.specs.Prelude.{Bool, nat_lt}
use Rattle.std.specs.declared.option.Option.{Option}
use Rattle.pcm_base.specs.declared.call.CallKind.{CallKind}
use Rattle.pcm_base.specs.declared.call.CallKind.TheVariants as kind
use Rattle.pcm_base.specs.declared.config.Config.{Config}
use Rattle.pcm_base.specs.declared.config.SwParams.{SwParams}
use Rattle.pcm_base.specs.declared.state.Errno.{Errno}
use Rattle.pcm_base.specs.declared.state.Errno.TheVariants as errno
use Rattle.pcm_base.specs.declared.state.State.TheVariants as state
use Rattle.pcm_base.specs.Boundary.{boundary_of}
use Rattle.pcm_base.specs.model.Words.{when, ◌then◌}
use Rattle.pcm_base.specs.model.Allowed.{buffer_of}
use Rattle.pcm_base.specs.model.Software.{refuses_sw}
use Rattle.pcm_base.specs.model.Stream.{Stream}
use Rattle.pcm_base.specs.model.Acts.{table}
use Rattle.pcm_base.specs.model.Events.{set_setup, setup_of}

-- the refusal of a call that changes the configuration, where the test says whether a call is in progress; it comes before a new configuration is looked at
abbrev pub change_refusal : CallKind → Bool → Stream → Option Errno
change_refusal k busy s = table k s then (when (nat_lt 0 s.mappings) errno.Ebadfd then when busy errno.Ebusy)

abbrev pub hw_refusal : Bool → Stream → Option Errno
hw_refusal busy s = change_refusal kind.HwParams busy s

abbrev pub free_refusal : Bool → Stream → Option Errno
free_refusal busy s = change_refusal kind.HwFree busy s

-- the stream with an accepted configuration
abbrev pub configured_by : Config → Stream → Stream
configured_by c s = set_setup (setup_of c s.long_max) state.Setup (boundary_of (buffer_of c) s.long_max) s

-- the refusal of software parameters
abbrev pub sw_refusal : SwParams → Stream → Option Errno
sw_refusal w s = table kind.SwParams s then when (refuses_sw s.setup.buffer s.setup.boundary w) errno.Einval

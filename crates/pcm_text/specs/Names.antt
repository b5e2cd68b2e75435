-- The printed names of states and errors: those of asound.h without their prefix, and of errno.h. CLOSED and "-" are this
-- project's own.
use Rattle.std.specs.Prelude.{ℕ, List, codes}
use Rattle.std.specs.declared.option.Option.{Option}
use Rattle.std.specs.declared.option.Option.TheVariants.{Some, None}
use Rattle.pcm_base.specs.declared.state.Errno.{Errno}
use Rattle.pcm_base.specs.declared.state.Errno.TheVariants as errno
use Rattle.pcm_base.specs.declared.state.State.{State}
use Rattle.pcm_base.specs.declared.state.State.TheVariants as state

abbrev pub state_name : State → List ℕ
state_name state.Closed = codes "CLOSED"
state_name state.Opened = codes "OPEN"
state_name state.Setup = codes "SETUP"
state_name state.Prepared = codes "PREPARED"
state_name state.Running = codes "RUNNING"
state_name state.Xrun = codes "XRUN"
state_name state.Draining = codes "DRAINING"
state_name state.Paused = codes "PAUSED"
state_name state.Suspended = codes "SUSPENDED"
state_name state.Disconnected = codes "DISCONNECTED"

-- a line that names no substream shows no state
abbrev pub shown_state : Option State → List ℕ
shown_state (Some s) = state_name s
shown_state None = codes "-"

abbrev pub errno_name : Errno → List ℕ
errno_name errno.Eio = codes "EIO"
errno_name errno.Enxio = codes "ENXIO"
errno_name errno.Eagain = codes "EAGAIN"
errno_name errno.Ebusy = codes "EBUSY"
errno_name errno.Einval = codes "EINVAL"
errno_name errno.Epipe = codes "EPIPE"
errno_name errno.Enosys = codes "ENOSYS"
errno_name errno.Ebadfd = codes "EBADFD"
errno_name errno.Estrpipe = codes "ESTRPIPE"
errno_name errno.Ealready = codes "EALREADY"

-- The numbers of states, errors, formats and accesses (asound.h, errno.h), and the bytes of a sample.
use Rattle.std.specs.Prelude.{ℕ}
use Rattle.pcm_base.specs.declared.format.Access.{Access}
use Rattle.pcm_base.specs.declared.format.Access.TheVariants as access
use Rattle.pcm_base.specs.declared.format.Format.{Format}
use Rattle.pcm_base.specs.declared.format.Format.TheVariants as format
use Rattle.pcm_base.specs.declared.state.Errno.{Errno}
use Rattle.pcm_base.specs.declared.state.Errno.TheVariants as errno
use Rattle.pcm_base.specs.declared.state.State.{State}
use Rattle.pcm_base.specs.declared.state.State.TheVariants as state

abbrev pub state_number : State → ℕ
state_number state.Opened = 0
state_number state.Setup = 1
state_number state.Prepared = 2
state_number state.Running = 3
state_number state.Xrun = 4
state_number state.Draining = 5
state_number state.Paused = 6
state_number state.Suspended = 7
state_number state.Disconnected = 8
state_number state.Closed = 15

abbrev pub errno_number : Errno → ℕ
errno_number errno.Eio = 5
errno_number errno.Enxio = 6
errno_number errno.Eagain = 11
errno_number errno.Ebusy = 16
errno_number errno.Einval = 22
errno_number errno.Epipe = 32
errno_number errno.Enosys = 38
errno_number errno.Ebadfd = 77
errno_number errno.Estrpipe = 86
errno_number errno.Ealready = 114

abbrev pub format_number : Format → ℕ
format_number format.S8 = 0
format_number format.U8 = 1
format_number format.S16Le = 2
format_number format.S16Be = 3
format_number format.S24Le = 6
format_number format.S32Le = 10
format_number format.S32Be = 11
format_number format.S24Le3 = 32

abbrev pub access_number : Access → ℕ
access_number access.MmapInterleaved = 0
access_number access.MmapNoninterleaved = 1
access_number access.RwInterleaved = 3
access_number access.RwNoninterleaved = 4

-- the bytes of one sample
abbrev pub sample_bytes : Format → ℕ
sample_bytes format.S8 = 1
sample_bytes format.U8 = 1
sample_bytes format.S16Le = 2
sample_bytes format.S16Be = 2
sample_bytes format.S24Le = 4
sample_bytes format.S32Le = 4
sample_bytes format.S32Be = 4
sample_bytes format.S24Le3 = 3

-- The error table, in this project's profile of pcm_native.c: the answer to a call in a state, by direction. None allows the call; in CLOSED every call gets ENXIO.
use Rattle.std.specs.declared.option.Option.{Option}
use Rattle.std.specs.declared.option.Option.TheVariants.{Some, None}
use Rattle.pcm_base.specs.declared.call.CallKind.{CallKind}
use Rattle.pcm_base.specs.declared.call.CallKind.TheVariants as kind
use Rattle.pcm_base.specs.declared.state.Dir.{Dir}
use Rattle.pcm_base.specs.declared.state.Dir.TheVariants as dir
use Rattle.pcm_base.specs.declared.state.Errno.{Errno}
use Rattle.pcm_base.specs.declared.state.Errno.TheVariants as errno
use Rattle.pcm_base.specs.declared.state.State.{State}
use Rattle.pcm_base.specs.declared.state.State.TheVariants as state

abbrev pub Cell : Type 0
Cell = Option Errno

abbrev pub ok : Cell
ok = None

abbrev pub busy : Cell
busy = Some errno.Ebusy

abbrev pub inval : Cell
inval = Some errno.Einval

abbrev pub pipe : Cell
pipe = Some errno.Epipe

abbrev pub badfd : Cell
badfd = Some errno.Ebadfd

abbrev pub strpipe : Cell
strpipe = Some errno.Estrpipe

-- one row of the table, its columns in the order of the states, DRAINING of playback before that of capture
abbrev pub cells : Dir → State → Cell → Cell → Cell → Cell → Cell → Cell → Cell → Cell → Cell → Cell → Cell
cells d state.Closed opened setup prepared running xrun playing reading paused suspended disconnected = Some errno.Enxio
cells d state.Opened opened setup prepared running xrun playing reading paused suspended disconnected = opened
cells d state.Setup opened setup prepared running xrun playing reading paused suspended disconnected = setup
cells d state.Prepared opened setup prepared running xrun playing reading paused suspended disconnected = prepared
cells d state.Running opened setup prepared running xrun playing reading paused suspended disconnected = running
cells d state.Xrun opened setup prepared running xrun playing reading paused suspended disconnected = xrun
cells dir.Playback state.Draining opened setup prepared running xrun playing reading paused suspended disconnected = playing
cells dir.Capture state.Draining opened setup prepared running xrun playing reading paused suspended disconnected = reading
cells d state.Paused opened setup prepared running xrun playing reading paused suspended disconnected = paused
cells d state.Suspended opened setup prepared running xrun playing reading paused suspended disconnected = suspended
cells d state.Disconnected opened setup prepared running xrun playing reading paused suspended disconnected = disconnected

-- the cell of a call, a state and a direction; a write has no cell of its own on capture, nor a read on playback: EINVAL in every state
abbrev pub permit : CallKind → State → Dir → Cell
--                              OPEN SETUP PREPARED RUNNING XRUN DRAINING-p DRAINING-c PAUSED SUSPENDED DISCONNECTED
permit kind.HwParams s d = cells d s ok ok ok badfd badfd badfd badfd badfd badfd badfd
permit kind.HwFree s d = cells d s badfd ok ok badfd badfd badfd badfd badfd badfd badfd
permit kind.SwParams s d = cells d s badfd ok ok ok ok ok ok ok ok badfd
permit kind.Prepare s d = cells d s badfd ok ok busy ok busy ok ok ok badfd
permit kind.Start s d = cells d s badfd badfd ok badfd badfd badfd badfd badfd badfd badfd
permit kind.DropNow s d = cells d s badfd ok ok ok ok ok ok ok ok badfd
permit kind.Drain s d = cells d s badfd ok ok ok ok ok ok ok badfd badfd
permit kind.PausePush s d = cells d s badfd badfd badfd ok badfd badfd badfd badfd badfd badfd
permit kind.PauseRelease s d = cells d s badfd badfd badfd badfd badfd badfd badfd ok badfd badfd
permit kind.Suspend s d = cells d s busy busy ok ok ok ok ok ok busy badfd
permit kind.Resume s d = cells d s badfd badfd badfd badfd badfd badfd badfd badfd ok badfd
permit kind.Xrun s d = cells d s badfd badfd badfd ok ok badfd badfd badfd badfd badfd
permit kind.Write s dir.Playback = cells dir.Playback s badfd badfd ok ok pipe badfd badfd ok strpipe badfd
permit kind.Write s dir.Capture = cells dir.Capture s inval inval inval inval inval inval inval inval inval inval
permit kind.Read s dir.Capture = cells dir.Capture s badfd badfd ok ok pipe ok ok ok strpipe badfd
permit kind.Read s dir.Playback = cells dir.Playback s inval inval inval inval inval inval inval inval inval inval
permit kind.Rewind s d = cells d s badfd badfd ok ok pipe ok badfd ok strpipe badfd
permit kind.Forward s d = cells d s badfd badfd ok ok pipe ok badfd ok strpipe badfd
permit kind.Hwsync s d = cells d s badfd badfd ok ok pipe ok badfd ok strpipe badfd
permit kind.Delay s d = cells d s badfd badfd ok ok pipe ok badfd ok strpipe badfd
permit kind.SyncPtr s d = cells d s badfd ok ok ok ok ok ok ok ok badfd
permit kind.Status s d = cells d s ok ok ok ok ok ok ok ok ok ok
permit kind.Poll s d = cells d s ok ok ok ok ok ok ok ok ok ok
permit kind.Map s d = cells d s badfd ok ok ok ok ok ok ok ok badfd
permit kind.Link s d = cells d s badfd ok ok ok ok ok ok ok ok badfd
permit kind.Unlink s d = cells d s ok ok ok ok ok ok ok ok ok ok
permit kind.Unplug s d = cells d s ok ok ok ok ok ok ok ok ok badfd

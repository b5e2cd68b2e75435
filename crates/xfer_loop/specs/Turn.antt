-- One turn of a transfer on a stream of the model (__snd_pcm_lib_xfer of pcm_lib.c).
use Rattle.std.specs.Prelude.{ℕ, not, ◌&&◌, nat_eq, List, take, drop, min, ◌+◌, ◌-◌, if◌then◌else◌}
use Rattle.pcm_base.specs.declared.call.Mode.TheVariants as mode
use Rattle.pcm_base.specs.declared.sleeper.Xfer.{Xfer}
use Rattle.pcm_base.specs.declared.state.Errno.TheVariants as errno
use Rattle.pcm_base.specs.model.Frame.{Frame}
use Rattle.pcm_base.specs.model.PointerCalls.{on_by}
use Rattle.pcm_base.specs.model.Replay.{bytes_by}
use Rattle.pcm_base.specs.model.Stream.{Stream, avail}
use Rattle.pcm_base.specs.model.Transfer.{frames_by, is_filled, put_next}
use Rattle.pcm_base.specs.model.Words.{is_draining, is_prepared}
use Rattle.pcm_laws.specs.Turns.{turn}
use Rattle.pcm_stream.specs.Buffer.{frames_read}
use Rattle.xfer_loop.specs.declared.XferStep.{XferStep}
use Rattle.xfer_loop.specs.declared.XferStep.TheVariants as step

-- none of what rests can move
abbrev pub stuck_step : Xfer → Stream → XferStep
stuck_step x s =
    if not x.writing && is_draining s.state then step.Drained
    else elim x.mode [ mode.NonBlock ↦ step.Refuse errno.Eagain | mode.Block ↦ step.Wait (min x.rest s.setup.sw.avail_min) ]

-- the answer of a turn
abbrev pub step_of : Xfer → Stream → XferStep
step_of x s =
    if nat_eq x.rest 0 then step.Moved 0
    else if nat_eq (avail s) 0 then stuck_step x s
    else if x.writing && (is_prepared s.state && is_filled s (turn x.rest s)) then step.WantsStart
    else step.Moved (turn x.rest s)

-- n frames have moved: what rests, and how many have moved in the call
abbrev pub xfer_moved : Xfer → ℕ → Xfer
xfer_moved x n = record x { rest = x.rest - n; moved = x.moved + n }

-- the stream
abbrev pub stream_moved : Xfer → ℕ → List ℕ → Stream → Stream
stream_moved x n io s = if x.writing then put_next (take n (drop x.moved (frames_by x.layout s io))) s else on_by n s

-- the frames in the call's bytes, and these bytes
abbrev pub frames_moved : Xfer → ℕ → List ℕ → Stream → List Frame
frames_moved x n io s = if x.writing then frames_by x.layout s io else frames_read x.layout s x.moved n io

abbrev pub bytes_moved : Xfer → ℕ → List ℕ → Stream → List ℕ
bytes_moved x n io s = if x.writing then io else bytes_by x.layout s (frames_read x.layout s x.moved n io)

-- all of these after a turn
abbrev pub xfer_after : Xfer → Stream → Xfer
xfer_after x s = xfer_moved x (turn x.rest s)

abbrev pub stream_after : Xfer → List ℕ → Stream → Stream
stream_after x io s = stream_moved x (turn x.rest s) io s

abbrev pub frames_after : Xfer → List ℕ → Stream → List Frame
frames_after x io s = frames_moved x (turn x.rest s) io s

abbrev pub bytes_after : Xfer → List ℕ → Stream → List ℕ
bytes_after x io s = if nat_eq (turn x.rest s) 0 then io else bytes_moved x (turn x.rest s) io s

-- no frame can move
abbrev pub IsStuck : XferStep → Type 0
IsStuck (step.Wait n) = Unit {0}
IsStuck step.Drained = Unit {0}
IsStuck (step.Refuse e) = Unit {0}
IsStuck _ = ⊥

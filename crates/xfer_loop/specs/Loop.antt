-- A turn against the closed form of a transfer: what the loop goes on with, by the answer of the turn. In each definition the call was kept as x before this step and is now as y, and fs are the frames that this step has moved so far.
use Rattle.std.specs.Prelude.{◌≡◌, ℕ, true, false, nat_eq, List, ◌++◌, length, take, drop, ◌+◌, ◌-◌, ◌<◌, if◌then◌else◌}
use Rattle.pcm_base.specs.declared.act.Act.TheVariants as act
use Rattle.pcm_base.specs.declared.ids.ClientId.{ClientId}
use Rattle.pcm_base.specs.declared.reply.Reply.TheVariants as reply
use Rattle.pcm_base.specs.declared.sleeper.Xfer.{Xfer}
use Rattle.pcm_base.specs.declared.state.State.TheVariants as state
use Rattle.pcm_base.specs.model.Frame.{Frame}
use Rattle.pcm_base.specs.model.PointerCalls.{on_by}
use Rattle.pcm_base.specs.model.Program.{Program, Makes}
use Rattle.pcm_base.specs.model.Stream.{Stream}
use Rattle.pcm_base.specs.model.Transfer.{after_start, frames_or, put_next, read_next, read_on, sleeping, tells, waiting_for, write_on}
use Rattle.pcm_laws.specs.Turns.{turn}
use Rattle.xfer_loop.specs.Turn.{step_of, stream_after, xfer_after}
use Rattle.xfer_loop.specs.declared.XferStep.{XferStep}
use Rattle.xfer_loop.specs.declared.XferStep.TheVariants as step

-- y is the call x with the frames fs moved
pub record IsOnTheWay (x y : Xfer) (fs : List Frame) : Type 0 where
  pub writing : x.writing ≡ y.writing
  pub mode : x.mode ≡ y.mode
  pub moved : x.moved + length fs ≡ y.moved

-- a turn in which none of the frames can move
abbrev pub after_stuck : ClientId → Xfer → Xfer → List Frame → Stream → XferStep → Program
after_stuck c x y fs s step.Drained = Makes (act.Stop state.Setup) s (λ o. tells (reply.Frames y.moved) x fs)
after_stuck c x y fs s (step.Refuse e) = tells (frames_or y.moved e) x fs s
after_stuck c x y fs s (step.Wait n) = tells reply.Asleep x fs (sleeping (waiting_for c x y.rest y.moved n) s)
after_stuck c x y fs s _ = tells (reply.Frames y.moved) x fs s

-- what a write of the frames ws goes on with
abbrev pub write_after : ClientId → Xfer → Xfer → List Frame → List Frame → Stream → XferStep → Program
write_after c x y fs ws s (step.Moved n) =
    if nat_eq y.rest 0 then tells (reply.Frames y.moved) x fs s else write_on c x (fs ++ take n ws) (drop n ws) (put_next (take n ws) s)
write_after c x y fs ws s step.WantsStart =
    let n = turn y.rest s in
    Makes act.Start (put_next (take n ws) s) (after_start c x (fs ++ take n ws) (drop n ws))
write_after c x y fs ws s p = after_stuck c x y fs s p

-- what a read goes on with
abbrev pub read_after : ClientId → Xfer → Xfer → List Frame → Stream → XferStep → Program
read_after c x y fs s (step.Moved n) =
    if nat_eq y.rest 0 then tells (reply.Frames y.moved) x fs s else read_on c x (fs ++ read_next n s) (y.rest - n) (on_by n s)
read_after c x y fs s p = after_stuck c x y fs s p

-- the closed form is one turn, and then the closed form of what is left
abbrev pub WritesGoByTurns : Type 0
WritesGoByTurns = (c : ClientId) (x y : Xfer) (fs ws : List Frame) (s : Stream) → 0 < s.setup.buffer → y.writing ≡ true → IsOnTheWay x y fs → length ws ≡ y.rest
    → write_on c x fs ws s ≡ write_after c x y fs ws s (step_of y s)

abbrev pub ReadsGoByTurns : Type 0
ReadsGoByTurns = (c : ClientId) (x y : Xfer) (fs : List Frame) (s : Stream) → 0 < s.setup.buffer → y.writing ≡ false → IsOnTheWay x y fs
    → read_on c x fs y.rest s ≡ read_after c x y fs s (step_of y s)

-- ---- what turns leave

-- The stream after some turns of a transfer: the application position and the puts alone are others.
abbrev pub IsTurned : Stream → Stream → Type 0
IsTurned s t = t ≡ record s { at = record s.at { appl = t.at.appl }; puts = t.puts }

abbrev pub TurnsKeepTheRest : Type 0
TurnsKeepTheRest = (x : Xfer) (io : List ℕ) (s : Stream) → IsTurned s (stream_after x io s)

-- a turn of no frames changes nothing
abbrev pub NoFramesNoChange : Type 0
NoFramesNoChange = (x : Xfer) (io : List ℕ) (s : Stream) → turn x.rest s ≡ 0 → (stream_after x io s ≡ s) × (xfer_after x s ≡ x)

-- where nothing rests, none is moved, whatever the stream
abbrev pub NothingRests : Type 0
NothingRests = (x : Xfer) (s : Stream) → x.rest ≡ 0 → step_of x s ≡ step.Moved 0

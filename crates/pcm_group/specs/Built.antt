-- The calls of a group, by what they do.
use Rattle.std.specs.Prelude.{ℕ, Bool, true, false, length}
use Rattle.pcm_base.specs.declared.call.Call.{Call}
use Rattle.pcm_base.specs.declared.call.Call.TheVariants as call
use Rattle.pcm_base.specs.model.Movement.{move}
use Rattle.pcm_base.specs.model.Stream.{Stream}

-- those that make no act
abbrev pub is_own_call : Call → Bool
is_own_call call.OpenSub = true
is_own_call call.CloseSub = true
is_own_call (call.HwParams config) = true
is_own_call call.HwFree = true
is_own_call (call.SwParams sw) = true
is_own_call call.PageNow = true
is_own_call call.Poll = true
is_own_call (call.MoveBy n) = true
is_own_call (call.FailAt k) = true
is_own_call (call.SyncPtr p) = true
is_own_call call.Map = true
is_own_call call.Unmap = true
is_own_call _ = false

-- the frames that one of them moves
abbrev pub own_frames : Call → Stream → ℕ
own_frames (call.MoveBy n) s = length (move n s).frames
own_frames _ s = 0

-- those that make at most one act, and never wait
abbrev pub is_act_call : Call → Bool
is_act_call call.Prepare = true
is_act_call call.Start = true
is_act_call call.DropNow = true
is_act_call call.PausePush = true
is_act_call call.PauseRelease = true
is_act_call call.Suspend = true
is_act_call call.Resume = true
is_act_call call.Xrun = true
is_act_call (call.Rewind n) = true
is_act_call (call.Forward n) = true
is_act_call call.Hwsync = true
is_act_call call.Delay = true
is_act_call call.Status = true
is_act_call call.Irq = true
is_act_call call.Unplug = true
is_act_call _ = false

-- those that may wait for the card
abbrev pub is_waiting_call : Call → Bool
is_waiting_call (call.Drain m) = true
is_waiting_call (call.Write w m) = true
is_waiting_call (call.Read w m n) = true
is_waiting_call call.Go = true
is_waiting_call _ = false

-- Worked examples of the model, computed: scripts with what each of their lines answers.
use Rattle.std.specs.Prelude.{◌≡◌, ℕ, true, false, List, [], ◌∷◌, pos}
use Rattle.std.specs.declared.option.Option.{Option}
use Rattle.std.specs.declared.option.Option.TheVariants.{Some, None}
use Rattle.pcm_base.specs.declared.call.Call.{Call}
use Rattle.pcm_base.specs.declared.call.Call.TheVariants as call
use Rattle.pcm_base.specs.declared.call.Event.{Event}
use Rattle.pcm_base.specs.declared.call.Layout.TheVariants as layout
use Rattle.pcm_base.specs.declared.call.Mode.TheVariants as mode
use Rattle.pcm_base.specs.declared.config.CardModel.{CardModel}
use Rattle.pcm_base.specs.declared.config.Config.{Config}
use Rattle.pcm_base.specs.declared.config.SwParams.{SwParams}
use Rattle.pcm_base.specs.declared.format.Access.{Access}
use Rattle.pcm_base.specs.declared.format.Access.TheVariants as access
use Rattle.pcm_base.specs.declared.format.Format.{Format}
use Rattle.pcm_base.specs.declared.format.Format.TheVariants as format
use Rattle.pcm_base.specs.declared.ids.ClientId.{ClientId}
use Rattle.pcm_base.specs.declared.ids.SubId.{SubId}
use Rattle.pcm_base.specs.declared.reply.Ready.TheVariants as ready
use Rattle.pcm_base.specs.declared.reply.Reply.{Reply}
use Rattle.pcm_base.specs.declared.reply.Reply.TheVariants as reply
use Rattle.pcm_base.specs.declared.state.Dir.{Dir}
use Rattle.pcm_base.specs.declared.state.Dir.TheVariants as dir
use Rattle.pcm_base.specs.declared.state.Errno.TheVariants as errno
use Rattle.pcm_base.specs.declared.state.State.{State}
use Rattle.pcm_base.specs.declared.state.State.TheVariants as state
use Rattle.pcm_base.specs.model.World.{World, Told, empty, set_long, declare, step}

abbrev pub basic : CardModel
basic = record { accesses = 27; formats = 6; channels = record { least = 1; most = 2 }; rate = record { least = 8000; most = 48000 }; wide_rate = 48000; period = record { least = 1; most = 8192 }; buffer_bytes = 65536; can_pause = true; can_resume = true }

abbrev pub no_pause : CardModel
no_pause = record basic { can_pause = false }

abbrev pub duplex : CardModel
duplex = record { accesses = 27; formats = 4294970447; channels = record { least = 1; most = 8 }; rate = record { least = 4000; most = 192000 }; wide_rate = 192000; period = record { least = 1; most = 32768 }; buffer_bytes = 2097152; can_pause = true; can_resume = true }

-- a configuration at 8000 Hz with two periods of two frames
abbrev pub config : Access → Format → ℕ → Config
config a f channels = record { access = a; format = f; channels = channels; rate = 8000; period = 2; periods = 2 }

abbrev pub sw : ℕ → ℕ → ℕ → ℕ → ℕ → SwParams
sw avail_min start stop threshold size = record { avail_min = avail_min; start_threshold = start; stop_threshold = stop; silence_threshold = threshold; silence_size = size }

abbrev pub sub : ℕ → SubId
sub n = record { 0 = n }

abbrev pub client : ℕ → ClientId
client n = record { 0 = n }

-- a line of a script
pub data Line : Type 0 where
  SetLong : ℕ → Line
  Declares : ℕ → CardModel → Dir → Line
  Happens : Event → List ℕ → Line

-- a call of client c on substream k, and an event of the card of k
abbrev pub by : ℕ → ℕ → Call → List ℕ → Line
by c k e bytes = Happens (record { client = Some (client c); sub = sub k; call = e }) bytes

abbrev pub card : ℕ → Call → List ℕ → Line
card k e bytes = Happens (record { client = None; sub = sub k; call = e }) bytes

-- what a line shows: the answer, the state, the bytes read or taken, and the clients woken
pub record Answer : Type 0 where
  pub reply : Reply
  pub state : Option State
  pub bytes : List ℕ
  pub woken : List ClientId

abbrev pub says : Reply → State → Answer
says r t = record { reply = r; state = Some t; bytes = []; woken = [] }

abbrev pub with_bytes : Reply → State → List ℕ → Answer
with_bytes r t bytes = record { reply = r; state = Some t; bytes = bytes; woken = [] }

abbrev pub waking : Reply → State → List ℕ → List ClientId → Answer
waking r t bytes clients = record { reply = r; state = Some t; bytes = bytes; woken = clients }

abbrev pub unnamed : Reply → Answer
unnamed r = record { reply = r; state = None; bytes = []; woken = [] }

-- a line and what it shows
pub record Shown : Type 0 where
  pub line : Line
  pub answer : Answer

infix 90 ◌▸◌
abbrev pub ◌▸◌ : Line → Answer → Shown
l ▸ a = record { line = l; answer = a }

abbrev pub told_by : Line → World → Told
told_by (SetLong n) w = set_long n w
told_by (Declares k m d) w = declare (sub k) m d w
told_by (Happens e bytes) w = step w e bytes

abbrev pub answers : World → List Shown → List Answer
answers w [] = []
answers w (l ∷ ls) = let t = told_by l.line w in record { reply = t.reply; state = t.state; bytes = t.bytes; woken = t.woken } ∷ answers t.world ls

abbrev pub expected : List Shown → List Answer
expected [] = []
expected (l ∷ ls) = l.answer ∷ expected ls

-- each line of the script shows what stands beside it
abbrev pub Shows : List Shown → Type 0
Shows ls = answers empty ls ≡ expected ls

-- a written frame is taken, and an interrupt reports it
abbrev pub first_transfer : List Shown
first_transfer =
    Declares 0 basic dir.Playback ▸ says reply.Ok state.Closed ∷
    by 0 0 call.OpenSub [] ▸ says reply.Ok state.Opened ∷
    by 0 0 (call.HwParams (config access.RwInterleaved format.U8 1)) [] ▸ says reply.Ok state.Setup ∷
    by 0 0 call.Prepare [] ▸ says reply.Ok state.Prepared ∷
    by 0 0 (call.Write layout.Interleaved mode.NonBlock) (1 ∷ 2 ∷ 3 ∷ 4 ∷ []) ▸ says (reply.Frames 4) state.Running ∷
    card 0 (call.MoveBy 3) [] ▸ with_bytes (reply.Moved 3) state.Running (1 ∷ 2 ∷ 3 ∷ []) ∷
    card 0 call.Irq [] ▸ says reply.Ok state.Running ∷
    by 0 0 call.Status [] ▸ says (reply.Ptrs (record { state = state.Running; hw = 3; appl = 4; avail = 3 })) state.Running ∷
    []

-- the pointers wrap at the boundary
abbrev pub the_pointers_wrap : List Shown
the_pointers_wrap =
    SetLong 31 ▸ unnamed reply.Ok ∷
    Declares 0 basic dir.Playback ▸ says reply.Ok state.Closed ∷
    by 0 0 call.OpenSub [] ▸ says reply.Ok state.Opened ∷
    by 0 0 (call.HwParams (config access.RwInterleaved format.U8 1)) [] ▸ says reply.Ok state.Setup ∷
    by 0 0 call.Prepare [] ▸ says reply.Ok state.Prepared ∷
    by 0 0 (call.Write layout.Interleaved mode.NonBlock) (1 ∷ 2 ∷ 3 ∷ 4 ∷ []) ▸ says (reply.Frames 4) state.Running ∷
    card 0 (call.MoveBy 3) [] ▸ with_bytes (reply.Moved 3) state.Running (1 ∷ 2 ∷ 3 ∷ []) ∷
    card 0 call.Irq [] ▸ says reply.Ok state.Running ∷
    by 0 0 (call.Write layout.Interleaved mode.NonBlock) (5 ∷ 6 ∷ 7 ∷ []) ▸ says (reply.Frames 3) state.Running ∷
    card 0 (call.MoveBy 3) [] ▸ with_bytes (reply.Moved 3) state.Running (4 ∷ 5 ∷ 6 ∷ []) ∷
    card 0 call.Irq [] ▸ says reply.Ok state.Running ∷
    by 0 0 (call.Write layout.Interleaved mode.NonBlock) (5 ∷ 6 ∷ 7 ∷ []) ▸ says (reply.Frames 3) state.Running ∷
    card 0 (call.MoveBy 3) [] ▸ with_bytes (reply.Moved 3) state.Running (7 ∷ 5 ∷ 6 ∷ []) ∷
    card 0 call.Irq [] ▸ says reply.Ok state.Running ∷
    by 0 0 (call.Write layout.Interleaved mode.NonBlock) (5 ∷ 6 ∷ 7 ∷ []) ▸ says (reply.Frames 3) state.Running ∷
    card 0 (call.MoveBy 3) [] ▸ with_bytes (reply.Moved 3) state.Running (7 ∷ 5 ∷ 6 ∷ []) ∷
    card 0 call.Irq [] ▸ says reply.Ok state.Running ∷
    by 0 0 (call.Write layout.Interleaved mode.NonBlock) (5 ∷ 6 ∷ 7 ∷ []) ▸ says (reply.Frames 3) state.Running ∷
    card 0 (call.MoveBy 3) [] ▸ with_bytes (reply.Moved 3) state.Running (7 ∷ 5 ∷ 6 ∷ []) ∷
    card 0 call.Irq [] ▸ says reply.Ok state.Running ∷
    by 0 0 (call.Write layout.Interleaved mode.NonBlock) (5 ∷ 6 ∷ 7 ∷ []) ▸ says (reply.Frames 3) state.Running ∷
    card 0 (call.MoveBy 3) [] ▸ with_bytes (reply.Moved 3) state.Running (7 ∷ 5 ∷ 6 ∷ []) ∷
    card 0 call.Irq [] ▸ says reply.Ok state.Running ∷
    by 0 0 (call.Write layout.Interleaved mode.NonBlock) (5 ∷ 6 ∷ 7 ∷ []) ▸ says (reply.Frames 3) state.Running ∷
    card 0 (call.MoveBy 3) [] ▸ with_bytes (reply.Moved 3) state.Running (7 ∷ 5 ∷ 6 ∷ []) ∷
    card 0 call.Irq [] ▸ says reply.Ok state.Running ∷
    by 0 0 (call.Write layout.Interleaved mode.NonBlock) (5 ∷ 6 ∷ 7 ∷ []) ▸ says (reply.Frames 3) state.Running ∷
    card 0 (call.MoveBy 3) [] ▸ with_bytes (reply.Moved 3) state.Running (7 ∷ 5 ∷ 6 ∷ []) ∷
    card 0 call.Irq [] ▸ says reply.Ok state.Running ∷
    by 0 0 (call.Write layout.Interleaved mode.NonBlock) (5 ∷ 6 ∷ 7 ∷ []) ▸ says (reply.Frames 3) state.Running ∷
    card 0 (call.MoveBy 3) [] ▸ with_bytes (reply.Moved 3) state.Running (7 ∷ 5 ∷ 6 ∷ []) ∷
    card 0 call.Irq [] ▸ says reply.Ok state.Running ∷
    by 0 0 (call.Write layout.Interleaved mode.NonBlock) (5 ∷ 6 ∷ 7 ∷ []) ▸ says (reply.Frames 3) state.Running ∷
    by 0 0 call.PageNow [] ▸ says (reply.Ptrs (record { state = state.Running; hw = 11; appl = 15; avail = 0 })) state.Running ∷
    []

-- a movement of a whole buffer before an interrupt is refused
abbrev pub a_late_movement : List Shown
a_late_movement =
    Declares 0 basic dir.Playback ▸ says reply.Ok state.Closed ∷
    by 0 0 call.OpenSub [] ▸ says reply.Ok state.Opened ∷
    by 0 0 (call.HwParams (config access.RwInterleaved format.U8 1)) [] ▸ says reply.Ok state.Setup ∷
    by 0 0 call.Prepare [] ▸ says reply.Ok state.Prepared ∷
    by 0 0 (call.Write layout.Interleaved mode.NonBlock) (1 ∷ 2 ∷ 3 ∷ 4 ∷ []) ▸ says (reply.Frames 4) state.Running ∷
    card 0 (call.MoveBy 4) [] ▸ says (reply.Late 3) state.Running ∷
    card 0 (call.MoveBy 3) [] ▸ with_bytes (reply.Moved 3) state.Running (1 ∷ 2 ∷ 3 ∷ []) ∷
    []

-- a blocking write sleeps until a period is free
abbrev pub a_blocking_writer : List Shown
a_blocking_writer =
    Declares 0 basic dir.Playback ▸ says reply.Ok state.Closed ∷
    by 0 0 call.OpenSub [] ▸ says reply.Ok state.Opened ∷
    by 0 0 (call.HwParams (config access.RwInterleaved format.U8 1)) [] ▸ says reply.Ok state.Setup ∷
    by 0 0 call.Prepare [] ▸ says reply.Ok state.Prepared ∷
    by 0 0 (call.Write layout.Interleaved mode.Block) (1 ∷ 2 ∷ 3 ∷ 4 ∷ 5 ∷ 6 ∷ []) ▸ says reply.Asleep state.Running ∷
    by 0 0 call.Start [] ▸ says (reply.Busy (client 0)) state.Running ∷
    card 0 (call.MoveBy 2) [] ▸ with_bytes (reply.Moved 2) state.Running (1 ∷ 2 ∷ []) ∷
    by 0 0 call.Go [] ▸ says reply.Asleep state.Running ∷
    card 0 call.Irq [] ▸ waking reply.Ok state.Running [] (client 0 ∷ []) ∷
    by 0 0 call.Go [] ▸ says (reply.Frames 6) state.Running ∷
    []

-- an underrun stops the stream
abbrev pub an_underrun : List Shown
an_underrun =
    Declares 0 basic dir.Playback ▸ says reply.Ok state.Closed ∷
    by 0 0 call.OpenSub [] ▸ says reply.Ok state.Opened ∷
    by 0 0 (call.HwParams (config access.RwInterleaved format.U8 1)) [] ▸ says reply.Ok state.Setup ∷
    by 0 0 call.Prepare [] ▸ says reply.Ok state.Prepared ∷
    by 0 0 (call.Write layout.Interleaved mode.NonBlock) (1 ∷ 2 ∷ []) ▸ says (reply.Frames 2) state.Running ∷
    card 0 (call.MoveBy 3) [] ▸ with_bytes (reply.Moved 3) state.Running (1 ∷ 2 ∷ 0 ∷ []) ∷
    card 0 call.Irq [] ▸ says reply.Ok state.Xrun ∷
    by 0 0 (call.Write layout.Interleaved mode.NonBlock) (3 ∷ []) ▸ says (reply.Err errno.Epipe) state.Xrun ∷
    []

-- without silence the old frames are taken again
abbrev pub old_frames_come_again : List Shown
old_frames_come_again =
    SetLong 31 ▸ unnamed reply.Ok ∷
    Declares 0 basic dir.Playback ▸ says reply.Ok state.Closed ∷
    by 0 0 call.OpenSub [] ▸ says reply.Ok state.Opened ∷
    by 0 0 (call.HwParams (config access.RwInterleaved format.U8 1)) [] ▸ says reply.Ok state.Setup ∷
    by 0 0 call.Prepare [] ▸ says reply.Ok state.Prepared ∷
    by 0 0 (call.SwParams (sw 2 1 16 0 0)) [] ▸ says reply.Ok state.Prepared ∷
    by 0 0 (call.Write layout.Interleaved mode.NonBlock) (1 ∷ 2 ∷ 3 ∷ 4 ∷ []) ▸ says (reply.Frames 4) state.Running ∷
    card 0 (call.MoveBy 3) [] ▸ with_bytes (reply.Moved 3) state.Running (1 ∷ 2 ∷ 3 ∷ []) ∷
    card 0 call.Irq [] ▸ says reply.Ok state.Running ∷
    card 0 (call.MoveBy 3) [] ▸ with_bytes (reply.Moved 3) state.Running (4 ∷ 1 ∷ 2 ∷ []) ∷
    card 0 call.Irq [] ▸ says reply.Ok state.Running ∷
    []

-- silence without end is put ahead of what was written
abbrev pub silence_ahead : List Shown
silence_ahead =
    SetLong 31 ▸ unnamed reply.Ok ∷
    Declares 0 basic dir.Playback ▸ says reply.Ok state.Closed ∷
    by 0 0 call.OpenSub [] ▸ says reply.Ok state.Opened ∷
    by 0 0 (call.HwParams (config access.RwInterleaved format.U8 1)) [] ▸ says reply.Ok state.Setup ∷
    by 0 0 call.Prepare [] ▸ says reply.Ok state.Prepared ∷
    by 0 0 (call.SwParams (sw 2 1 16 0 16)) [] ▸ says reply.Ok state.Prepared ∷
    by 0 0 (call.Write layout.Interleaved mode.NonBlock) (1 ∷ 2 ∷ 3 ∷ 4 ∷ []) ▸ says (reply.Frames 4) state.Running ∷
    card 0 (call.MoveBy 3) [] ▸ with_bytes (reply.Moved 3) state.Running (1 ∷ 2 ∷ 3 ∷ []) ∷
    card 0 call.Irq [] ▸ says reply.Ok state.Running ∷
    card 0 (call.MoveBy 3) [] ▸ with_bytes (reply.Moved 3) state.Running (4 ∷ 128 ∷ 128 ∷ []) ∷
    card 0 call.Irq [] ▸ says reply.Ok state.Running ∷
    []

-- each state has its own error
abbrev pub errors_by_state : List Shown
errors_by_state =
    Declares 0 basic dir.Playback ▸ says reply.Ok state.Closed ∷
    by 0 0 (call.Write layout.Interleaved mode.NonBlock) (1 ∷ []) ▸ says (reply.Err errno.Enxio) state.Closed ∷
    by 0 0 call.OpenSub [] ▸ says reply.Ok state.Opened ∷
    by 0 0 (call.Write layout.Interleaved mode.NonBlock) (1 ∷ []) ▸ says (reply.Err errno.Ebadfd) state.Opened ∷
    by 0 0 (call.HwParams (config access.RwInterleaved format.U8 1)) [] ▸ says reply.Ok state.Setup ∷
    by 0 0 (call.Write layout.Interleaved mode.NonBlock) (1 ∷ []) ▸ says (reply.Err errno.Ebadfd) state.Setup ∷
    by 0 0 call.Prepare [] ▸ says reply.Ok state.Prepared ∷
    by 0 0 call.Suspend [] ▸ says reply.Ok state.Suspended ∷
    by 0 0 (call.Write layout.Interleaved mode.NonBlock) (1 ∷ []) ▸ says (reply.Err errno.Estrpipe) state.Suspended ∷
    by 0 0 call.Resume [] ▸ says reply.Ok state.Prepared ∷
    by 0 0 (call.Read layout.Interleaved mode.NonBlock 1) [] ▸ says (reply.Err errno.Einval) state.Prepared ∷
    []

-- a linked start that one card fails changes no member
abbrev pub a_failed_linked_start : List Shown
a_failed_linked_start =
    Declares 0 basic dir.Playback ▸ says reply.Ok state.Closed ∷
    Declares 1 basic dir.Playback ▸ says reply.Ok state.Closed ∷
    by 0 0 call.OpenSub [] ▸ says reply.Ok state.Opened ∷
    by 1 1 call.OpenSub [] ▸ says reply.Ok state.Opened ∷
    by 0 0 (call.HwParams (config access.RwInterleaved format.U8 1)) [] ▸ says reply.Ok state.Setup ∷
    by 1 1 (call.HwParams (config access.RwInterleaved format.U8 1)) [] ▸ says reply.Ok state.Setup ∷
    by 0 0 (call.Link (sub 1)) [] ▸ says reply.Ok state.Setup ∷
    by 0 0 call.Prepare [] ▸ says reply.Ok state.Prepared ∷
    by 0 0 (call.SwParams (sw 2 5 4 0 0)) [] ▸ says reply.Ok state.Prepared ∷
    by 1 1 (call.SwParams (sw 2 5 4 0 0)) [] ▸ says reply.Ok state.Prepared ∷
    Declares 2 basic dir.Playback ▸ says reply.Ok state.Closed ∷
    by 2 2 call.OpenSub [] ▸ says reply.Ok state.Opened ∷
    by 2 2 (call.HwParams (config access.RwInterleaved format.U8 1)) [] ▸ says reply.Ok state.Setup ∷
    by 2 2 call.Prepare [] ▸ says reply.Ok state.Prepared ∷
    by 2 2 (call.SwParams (sw 2 5 4 0 0)) [] ▸ says reply.Ok state.Prepared ∷
    by 0 0 (call.Link (sub 2)) [] ▸ says reply.Ok state.Prepared ∷
    by 0 0 (call.Write layout.Interleaved mode.NonBlock) (1 ∷ 2 ∷ []) ▸ says (reply.Frames 2) state.Prepared ∷
    by 1 1 (call.Write layout.Interleaved mode.NonBlock) (1 ∷ 2 ∷ []) ▸ says (reply.Frames 2) state.Prepared ∷
    by 2 2 (call.Write layout.Interleaved mode.NonBlock) (1 ∷ 2 ∷ []) ▸ says (reply.Frames 2) state.Prepared ∷
    card 2 (call.FailAt 1) [] ▸ says reply.Ok state.Prepared ∷
    by 0 0 call.Start [] ▸ says (reply.Err errno.Eio) state.Prepared ∷
    card 0 (call.MoveBy 1) [] ▸ says reply.Idle state.Prepared ∷
    by 0 0 call.Start [] ▸ says reply.Ok state.Running ∷
    card 2 (call.MoveBy 1) [] ▸ with_bytes (reply.Moved 1) state.Running (1 ∷ []) ∷
    []

-- a member that refuses is heard before any card is asked
abbrev pub a_refused_linked_start : List Shown
a_refused_linked_start =
    Declares 0 basic dir.Playback ▸ says reply.Ok state.Closed ∷
    Declares 1 basic dir.Playback ▸ says reply.Ok state.Closed ∷
    by 0 0 call.OpenSub [] ▸ says reply.Ok state.Opened ∷
    by 1 1 call.OpenSub [] ▸ says reply.Ok state.Opened ∷
    by 0 0 (call.HwParams (config access.RwInterleaved format.U8 1)) [] ▸ says reply.Ok state.Setup ∷
    by 1 1 (call.HwParams (config access.RwInterleaved format.U8 1)) [] ▸ says reply.Ok state.Setup ∷
    by 0 0 (call.Link (sub 1)) [] ▸ says reply.Ok state.Setup ∷
    by 0 0 call.Prepare [] ▸ says reply.Ok state.Prepared ∷
    by 0 0 (call.SwParams (sw 2 5 4 0 0)) [] ▸ says reply.Ok state.Prepared ∷
    by 1 1 (call.SwParams (sw 2 5 4 0 0)) [] ▸ says reply.Ok state.Prepared ∷
    by 0 0 (call.Write layout.Interleaved mode.NonBlock) (1 ∷ 2 ∷ []) ▸ says (reply.Frames 2) state.Prepared ∷
    card 0 (call.FailAt 1) [] ▸ says reply.Ok state.Prepared ∷
    by 0 0 call.Start [] ▸ says (reply.Err errno.Epipe) state.Prepared ∷
    by 1 1 (call.Write layout.Interleaved mode.NonBlock) (3 ∷ 4 ∷ []) ▸ says (reply.Frames 2) state.Prepared ∷
    by 0 0 call.Start [] ▸ says (reply.Err errno.Eio) state.Prepared ∷
    by 0 0 call.Start [] ▸ says reply.Ok state.Running ∷
    []

-- what may be linked, and what may not
abbrev pub link_errors : List Shown
link_errors =
    Declares 0 basic dir.Playback ▸ says reply.Ok state.Closed ∷
    by 0 0 call.OpenSub [] ▸ says reply.Ok state.Opened ∷
    by 0 0 (call.HwParams (config access.RwInterleaved format.U8 1)) [] ▸ says reply.Ok state.Setup ∷
    Declares 1 basic dir.Playback ▸ says reply.Ok state.Closed ∷
    by 0 1 call.OpenSub [] ▸ says reply.Ok state.Opened ∷
    by 0 1 (call.HwParams (config access.RwInterleaved format.U8 1)) [] ▸ says reply.Ok state.Setup ∷
    Declares 2 basic dir.Playback ▸ says reply.Ok state.Closed ∷
    by 0 2 call.OpenSub [] ▸ says reply.Ok state.Opened ∷
    by 0 2 (call.HwParams (config access.RwInterleaved format.U8 1)) [] ▸ says reply.Ok state.Setup ∷
    by 0 0 (call.Link (sub 0)) [] ▸ says (reply.Err errno.Einval) state.Setup ∷
    by 0 0 (call.Link (sub 1)) [] ▸ says reply.Ok state.Setup ∷
    by 0 2 (call.Link (sub 1)) [] ▸ says (reply.Err errno.Ealready) state.Setup ∷
    by 0 1 call.Unlink [] ▸ says reply.Ok state.Setup ∷
    by 0 0 call.Unlink [] ▸ says (reply.Err errno.Ealready) state.Setup ∷
    []

-- each member of a group drains to its own end
abbrev pub a_linked_drain : List Shown
a_linked_drain =
    Declares 0 basic dir.Playback ▸ says reply.Ok state.Closed ∷
    Declares 1 basic dir.Playback ▸ says reply.Ok state.Closed ∷
    by 0 0 call.OpenSub [] ▸ says reply.Ok state.Opened ∷
    by 1 1 call.OpenSub [] ▸ says reply.Ok state.Opened ∷
    by 0 0 (call.HwParams (config access.RwInterleaved format.U8 1)) [] ▸ says reply.Ok state.Setup ∷
    by 1 1 (call.HwParams (config access.RwInterleaved format.U8 1)) [] ▸ says reply.Ok state.Setup ∷
    by 0 0 (call.Link (sub 1)) [] ▸ says reply.Ok state.Setup ∷
    by 0 0 call.Prepare [] ▸ says reply.Ok state.Prepared ∷
    by 0 0 (call.SwParams (sw 2 5 4 0 0)) [] ▸ says reply.Ok state.Prepared ∷
    by 1 1 (call.SwParams (sw 2 5 4 0 0)) [] ▸ says reply.Ok state.Prepared ∷
    by 0 0 (call.Write layout.Interleaved mode.NonBlock) (1 ∷ 2 ∷ []) ▸ says (reply.Frames 2) state.Prepared ∷
    by 1 1 (call.Write layout.Interleaved mode.NonBlock) (1 ∷ 2 ∷ 3 ∷ 4 ∷ []) ▸ says (reply.Frames 4) state.Prepared ∷
    by 0 0 (call.Drain mode.Block) [] ▸ says reply.Asleep state.Draining ∷
    card 0 (call.MoveBy 2) [] ▸ with_bytes (reply.Moved 2) state.Draining (1 ∷ 2 ∷ []) ∷
    card 0 call.Irq [] ▸ says reply.Ok state.Setup ∷
    card 1 (call.MoveBy 3) [] ▸ with_bytes (reply.Moved 3) state.Draining (1 ∷ 2 ∷ 3 ∷ []) ∷
    card 1 call.Irq [] ▸ says reply.Ok state.Draining ∷
    card 1 (call.MoveBy 1) [] ▸ with_bytes (reply.Moved 1) state.Draining (4 ∷ []) ∷
    card 1 call.Irq [] ▸ waking reply.Ok state.Setup [] (client 0 ∷ []) ∷
    by 0 0 call.Go [] ▸ says reply.Ok state.Setup ∷
    []

-- what was captured can be read after a drain
abbrev pub a_capture_drain : List Shown
a_capture_drain =
    Declares 0 basic dir.Capture ▸ says reply.Ok state.Closed ∷
    by 0 0 call.OpenSub [] ▸ says reply.Ok state.Opened ∷
    by 0 0 (call.HwParams (config access.RwInterleaved format.U8 1)) [] ▸ says reply.Ok state.Setup ∷
    by 0 0 call.Prepare [] ▸ says reply.Ok state.Prepared ∷
    card 0 call.Give (1 ∷ 2 ∷ 3 ∷ 4 ∷ 5 ∷ []) ▸ says reply.Ok state.Prepared ∷
    by 0 0 call.Start [] ▸ says reply.Ok state.Running ∷
    card 0 (call.MoveBy 3) [] ▸ says (reply.Moved 3) state.Running ∷
    card 0 call.Irq [] ▸ says reply.Ok state.Running ∷
    by 0 0 (call.Drain mode.NonBlock) [] ▸ says (reply.Err errno.Eagain) state.Draining ∷
    by 0 0 (call.Read layout.Interleaved mode.Block 3) [] ▸ with_bytes (reply.Frames 3) state.Draining (1 ∷ 2 ∷ 3 ∷ []) ∷
    by 0 0 (call.Read layout.Interleaved mode.NonBlock 1) [] ▸ says (reply.Frames 0) state.Setup ∷
    []

-- a card that cannot pause
abbrev pub a_card_that_cannot_pause : List Shown
a_card_that_cannot_pause =
    Declares 0 no_pause dir.Playback ▸ says reply.Ok state.Closed ∷
    by 0 0 call.OpenSub [] ▸ says reply.Ok state.Opened ∷
    by 0 0 (call.HwParams (config access.RwInterleaved format.U8 1)) [] ▸ says reply.Ok state.Setup ∷
    by 0 0 call.Prepare [] ▸ says reply.Ok state.Prepared ∷
    by 0 0 call.PausePush [] ▸ says (reply.Err errno.Enosys) state.Prepared ∷
    []

-- a pause and its release
abbrev pub a_pause : List Shown
a_pause =
    Declares 0 basic dir.Playback ▸ says reply.Ok state.Closed ∷
    by 0 0 call.OpenSub [] ▸ says reply.Ok state.Opened ∷
    by 0 0 (call.HwParams (config access.RwInterleaved format.U8 1)) [] ▸ says reply.Ok state.Setup ∷
    by 0 0 call.Prepare [] ▸ says reply.Ok state.Prepared ∷
    by 0 0 call.PausePush [] ▸ says (reply.Err errno.Ebadfd) state.Prepared ∷
    by 0 0 (call.Write layout.Interleaved mode.NonBlock) (1 ∷ 2 ∷ []) ▸ says (reply.Frames 2) state.Running ∷
    by 0 0 call.PausePush [] ▸ says reply.Ok state.Paused ∷
    card 0 (call.MoveBy 1) [] ▸ says reply.Idle state.Paused ∷
    by 0 0 call.PauseRelease [] ▸ says reply.Ok state.Running ∷
    []

-- rewind, forward and sync
abbrev pub pointer_calls : List Shown
pointer_calls =
    SetLong 31 ▸ unnamed reply.Ok ∷
    Declares 0 basic dir.Playback ▸ says reply.Ok state.Closed ∷
    by 0 0 call.OpenSub [] ▸ says reply.Ok state.Opened ∷
    by 0 0 (call.HwParams (config access.RwInterleaved format.U8 1)) [] ▸ says reply.Ok state.Setup ∷
    by 0 0 call.Prepare [] ▸ says reply.Ok state.Prepared ∷
    by 0 0 (call.SwParams (sw 2 5 4 0 0)) [] ▸ says reply.Ok state.Prepared ∷
    by 0 0 (call.Write layout.Interleaved mode.NonBlock) (1 ∷ 2 ∷ []) ▸ says (reply.Frames 2) state.Prepared ∷
    by 0 0 (call.Rewind 9) [] ▸ says (reply.Frames 2) state.Prepared ∷
    by 0 0 (call.Forward 1) [] ▸ says (reply.Frames 1) state.Prepared ∷
    by 0 0 (call.SyncPtr 16) [] ▸ says (reply.Err errno.Einval) state.Prepared ∷
    by 0 0 (call.SyncPtr 2) [] ▸ says (reply.Ptrs (record { state = state.Prepared; hw = 0; appl = 2; avail = 2 })) state.Prepared ∷
    by 0 0 call.Start [] ▸ says reply.Ok state.Running ∷
    card 0 (call.MoveBy 3) [] ▸ with_bytes (reply.Moved 3) state.Running (1 ∷ 2 ∷ 0 ∷ []) ∷
    card 0 call.Irq [] ▸ says reply.Ok state.Xrun ∷
    by 0 0 (call.Rewind 0) [] ▸ says (reply.Frames 0) state.Xrun ∷
    by 0 0 (call.Rewind 1) [] ▸ says (reply.Err errno.Epipe) state.Xrun ∷
    []

-- frames stored through a mapping are taken
abbrev pub mapped_frames : List Shown
mapped_frames =
    Declares 0 basic dir.Playback ▸ says reply.Ok state.Closed ∷
    by 0 0 call.OpenSub [] ▸ says reply.Ok state.Opened ∷
    by 0 0 (call.HwParams (config access.MmapInterleaved format.U8 1)) [] ▸ says reply.Ok state.Setup ∷
    by 0 0 call.Map [] ▸ says reply.Ok state.Setup ∷
    by 0 0 call.Prepare [] ▸ says reply.Ok state.Prepared ∷
    by 0 0 (call.Store 2) (10 ∷ 11 ∷ []) ▸ says (reply.Frames 2) state.Prepared ∷
    by 0 0 (call.Store 3) (12 ∷ 13 ∷ []) ▸ says (reply.Err errno.Einval) state.Prepared ∷
    by 0 0 (call.SyncPtr 4) [] ▸ says (reply.Ptrs (record { state = state.Prepared; hw = 0; appl = 4; avail = 0 })) state.Prepared ∷
    by 0 0 call.HwFree [] ▸ says (reply.Err errno.Ebadfd) state.Prepared ∷
    by 0 0 call.Unmap [] ▸ says reply.Ok state.Prepared ∷
    by 0 0 call.Unmap [] ▸ says (reply.Err errno.Einval) state.Prepared ∷
    by 0 0 call.Start [] ▸ says reply.Ok state.Running ∷
    card 0 (call.MoveBy 3) [] ▸ with_bytes (reply.Moved 3) state.Running (0 ∷ 0 ∷ 10 ∷ []) ∷
    []

-- a planar write
abbrev pub planar_frames : List Shown
planar_frames =
    Declares 0 basic dir.Playback ▸ says reply.Ok state.Closed ∷
    by 0 0 call.OpenSub [] ▸ says reply.Ok state.Opened ∷
    by 0 0 (call.HwParams (config access.RwNoninterleaved format.U8 2)) [] ▸ says reply.Ok state.Setup ∷
    by 0 0 call.Prepare [] ▸ says reply.Ok state.Prepared ∷
    by 0 0 (call.Write layout.Interleaved mode.NonBlock) (1 ∷ 2 ∷ []) ▸ says (reply.Err errno.Einval) state.Prepared ∷
    by 0 0 (call.Write layout.Planar mode.NonBlock) (1 ∷ 2 ∷ 17 ∷ 18 ∷ []) ▸ says (reply.Frames 2) state.Running ∷
    card 0 (call.MoveBy 2) [] ▸ with_bytes (reply.Moved 2) state.Running (1 ∷ 17 ∷ 2 ∷ 18 ∷ []) ∷
    []

-- a rewind wakes a reader
abbrev pub a_woken_reader : List Shown
a_woken_reader =
    Declares 0 basic dir.Capture ▸ says reply.Ok state.Closed ∷
    by 0 0 call.OpenSub [] ▸ says reply.Ok state.Opened ∷
    by 0 0 (call.HwParams (config access.RwInterleaved format.U8 1)) [] ▸ says reply.Ok state.Setup ∷
    by 0 0 call.Prepare [] ▸ says reply.Ok state.Prepared ∷
    card 0 call.Give (10 ∷ 11 ∷ []) ▸ says reply.Ok state.Prepared ∷
    by 1 0 (call.Read layout.Interleaved mode.Block 2) [] ▸ says reply.Asleep state.Running ∷
    card 0 (call.MoveBy 1) [] ▸ says (reply.Moved 1) state.Running ∷
    card 0 call.Irq [] ▸ says reply.Ok state.Running ∷
    by 0 0 (call.Read layout.Interleaved mode.NonBlock 1) [] ▸ with_bytes (reply.Frames 1) state.Running (10 ∷ []) ∷
    card 0 (call.MoveBy 1) [] ▸ says (reply.Moved 1) state.Running ∷
    card 0 call.Irq [] ▸ says reply.Ok state.Running ∷
    by 0 0 (call.Rewind 1) [] ▸ waking (reply.Frames 1) state.Running [] (client 1 ∷ []) ∷
    by 1 0 call.Go [] ▸ with_bytes (reply.Frames 2) state.Running (10 ∷ 11 ∷ []) ∷
    []

-- two channels of two bytes
abbrev pub big_endian_stereo : List Shown
big_endian_stereo =
    Declares 0 duplex dir.Playback ▸ says reply.Ok state.Closed ∷
    by 0 0 call.OpenSub [] ▸ says reply.Ok state.Opened ∷
    by 0 0 (call.HwParams (config access.RwInterleaved format.S16Be 2)) [] ▸ says reply.Ok state.Setup ∷
    by 0 0 call.Prepare [] ▸ says reply.Ok state.Prepared ∷
    by 0 0 (call.Write layout.Interleaved mode.NonBlock) (1 ∷ 2 ∷ 3 ∷ 4 ∷ 5 ∷ []) ▸ says (reply.Err errno.Einval) state.Prepared ∷
    by 0 0 (call.Write layout.Interleaved mode.NonBlock) (1 ∷ 2 ∷ 3 ∷ 4 ∷ 5 ∷ 6 ∷ 7 ∷ 8 ∷ []) ▸ says (reply.Frames 2) state.Running ∷
    card 0 (call.MoveBy 1) [] ▸ with_bytes (reply.Moved 1) state.Running (1 ∷ 2 ∷ 3 ∷ 4 ∷ []) ∷
    []

-- delay and poll
abbrev pub delay_and_poll : List Shown
delay_and_poll =
    Declares 0 basic dir.Playback ▸ says reply.Ok state.Closed ∷
    by 0 0 call.OpenSub [] ▸ says reply.Ok state.Opened ∷
    by 0 0 (call.HwParams (config access.RwInterleaved format.U8 1)) [] ▸ says reply.Ok state.Setup ∷
    by 0 0 call.Prepare [] ▸ says reply.Ok state.Prepared ∷
    by 0 0 (call.Write layout.Interleaved mode.NonBlock) (1 ∷ 2 ∷ 3 ∷ 4 ∷ []) ▸ says (reply.Frames 4) state.Running ∷
    by 0 0 call.Delay [] ▸ says (reply.Delay (pos 4)) state.Running ∷
    by 0 0 call.Poll [] ▸ says (reply.Poll ready.No) state.Running ∷
    card 0 (call.MoveBy 3) [] ▸ with_bytes (reply.Moved 3) state.Running (1 ∷ 2 ∷ 3 ∷ []) ∷
    card 0 call.Irq [] ▸ says reply.Ok state.Running ∷
    by 0 0 call.Poll [] ▸ says (reply.Poll ready.Yes) state.Running ∷
    []

-- A card is unplugged: its writer is woken, and the substream answers EBADFD until it is closed and opened again.
abbrev pub an_unplugged_card : List Shown
an_unplugged_card =
    Declares 0 basic dir.Playback ▸ says reply.Ok state.Closed ∷
    by 0 0 call.OpenSub [] ▸ says reply.Ok state.Opened ∷
    by 0 0 (call.HwParams (config access.RwInterleaved format.U8 1)) [] ▸ says reply.Ok state.Setup ∷
    by 0 0 call.Prepare [] ▸ says reply.Ok state.Prepared ∷
    by 0 0 (call.Write layout.Interleaved mode.Block) (1 ∷ 2 ∷ 3 ∷ 4 ∷ 5 ∷ 6 ∷ []) ▸ says reply.Asleep state.Running ∷
    card 0 call.Unplug [] ▸ waking reply.Ok state.Disconnected [] (client 0 ∷ []) ∷
    by 0 0 call.Go [] ▸ says (reply.Frames 4) state.Disconnected ∷
    by 0 0 call.Prepare [] ▸ says (reply.Err errno.Ebadfd) state.Disconnected ∷
    by 0 0 call.Poll [] ▸ says (reply.Poll ready.Error) state.Disconnected ∷
    card 0 call.Unplug [] ▸ says (reply.Err errno.Ebadfd) state.Disconnected ∷
    by 0 0 call.CloseSub [] ▸ says reply.Ok state.Closed ∷
    by 0 0 call.OpenSub [] ▸ says reply.Ok state.Opened ∷
    []

-- an unplugged member stops its group, and holds it up until it is unlinked
abbrev pub an_unplugged_member : List Shown
an_unplugged_member =
    Declares 0 basic dir.Playback ▸ says reply.Ok state.Closed ∷
    Declares 1 basic dir.Playback ▸ says reply.Ok state.Closed ∷
    by 0 0 call.OpenSub [] ▸ says reply.Ok state.Opened ∷
    by 1 1 call.OpenSub [] ▸ says reply.Ok state.Opened ∷
    by 0 0 (call.HwParams (config access.RwInterleaved format.U8 1)) [] ▸ says reply.Ok state.Setup ∷
    by 1 1 (call.HwParams (config access.RwInterleaved format.U8 1)) [] ▸ says reply.Ok state.Setup ∷
    by 0 0 (call.Link (sub 1)) [] ▸ says reply.Ok state.Setup ∷
    by 0 0 call.Prepare [] ▸ says reply.Ok state.Prepared ∷
    by 0 0 (call.SwParams (sw 2 5 4 0 0)) [] ▸ says reply.Ok state.Prepared ∷
    by 1 1 (call.SwParams (sw 2 5 4 0 0)) [] ▸ says reply.Ok state.Prepared ∷
    by 0 0 (call.Write layout.Interleaved mode.NonBlock) (1 ∷ 2 ∷ []) ▸ says (reply.Frames 2) state.Prepared ∷
    by 1 1 (call.Write layout.Interleaved mode.NonBlock) (1 ∷ 2 ∷ []) ▸ says (reply.Frames 2) state.Prepared ∷
    by 0 0 call.Start [] ▸ says reply.Ok state.Running ∷
    card 1 call.Unplug [] ▸ says reply.Ok state.Disconnected ∷
    by 0 0 call.Status [] ▸ says (reply.Ptrs (record { state = state.Setup; hw = 0; appl = 2; avail = 2 })) state.Setup ∷
    by 0 0 call.Prepare [] ▸ says (reply.Err errno.Ebadfd) state.Setup ∷
    by 0 1 call.Unlink [] ▸ says reply.Ok state.Disconnected ∷
    by 0 0 call.Prepare [] ▸ says reply.Ok state.Prepared ∷
    []

-- unplugged in OPEN, a substream has no configuration: it answers transfers, status and poll so
abbrev pub unplugged_when_open : List Shown
unplugged_when_open =
    Declares 0 basic dir.Playback ▸ says reply.Ok state.Closed ∷
    card 0 call.Unplug [] ▸ says (reply.Err errno.Enxio) state.Closed ∷
    by 0 0 call.OpenSub [] ▸ says reply.Ok state.Opened ∷
    card 0 call.Unplug [] ▸ says reply.Ok state.Disconnected ∷
    by 0 0 call.OpenSub [] ▸ says (reply.Err errno.Ebusy) state.Disconnected ∷
    by 0 0 (call.Write layout.Interleaved mode.NonBlock) (1 ∷ []) ▸ says (reply.Err errno.Ebadfd) state.Disconnected ∷
    by 0 0 (call.Read layout.Interleaved mode.NonBlock 1) [] ▸ says (reply.Err errno.Einval) state.Disconnected ∷
    by 0 0 (call.HwParams (config access.RwInterleaved format.U8 1)) [] ▸ says (reply.Err errno.Ebadfd) state.Disconnected ∷
    by 0 0 call.Status [] ▸ says (reply.Ptrs (record { state = state.Disconnected; hw = 0; appl = 0; avail = 0 })) state.Disconnected ∷
    card 0 (call.MoveBy 1) [] ▸ says reply.Idle state.Disconnected ∷
    by 0 0 call.CloseSub [] ▸ says reply.Ok state.Closed ∷
    []

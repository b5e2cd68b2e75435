-- What each event does to its own stream, as a program, its refusals in order (the ioctls of pcm_native.c; open and close, the mapped calls, the events of the card and the order of refusals are this project's own).
use Rattle.std.specs.Prelude.{ℕ, Bool, true, false, not, ◌&&◌, ◌||◌, nat_eq, nat_lt, nat_le, List, [], ◌∷◌, length, drop, set, min, ◌+◌, ◌-◌, ◌*◌, ◌/◌, if◌then◌else◌, ◌-ℤ◌, pos}
use Rattle.std.specs.declared.option.Option.{Option}
use Rattle.std.specs.declared.option.Option.TheVariants.{Some, None}
use Rattle.pcm_base.specs.declared.act.Act.TheVariants as act
use Rattle.pcm_base.specs.declared.act.Outcome.{Outcome}
use Rattle.pcm_base.specs.declared.act.Outcome.TheVariants as outcome
use Rattle.pcm_base.specs.declared.call.Call.{Call}
use Rattle.pcm_base.specs.declared.call.Call.TheVariants as call
use Rattle.pcm_base.specs.declared.call.CallKind.TheVariants as kind
use Rattle.pcm_base.specs.declared.call.Mode.{Mode}
use Rattle.pcm_base.specs.declared.call.Mode.TheVariants as mode
use Rattle.pcm_base.specs.declared.config.Config.{Config}
use Rattle.pcm_base.specs.declared.config.SwParams.{SwParams}
use Rattle.pcm_base.specs.declared.format.Access.TheVariants as access
use Rattle.pcm_base.specs.declared.ids.ClientId.{ClientId}
use Rattle.pcm_base.specs.declared.reply.Page.{Page}
use Rattle.pcm_base.specs.declared.reply.Ready.{Ready}
use Rattle.pcm_base.specs.declared.reply.Ready.TheVariants as ready
use Rattle.pcm_base.specs.declared.reply.Reply.{Reply}
use Rattle.pcm_base.specs.declared.reply.Reply.TheVariants as reply
use Rattle.pcm_base.specs.declared.sleeper.Task.{Task}
use Rattle.pcm_base.specs.declared.sleeper.Task.TheVariants as task
use Rattle.pcm_base.specs.declared.sleeper.Xfer.{Xfer}
use Rattle.pcm_base.specs.declared.state.Dir.{Dir}
use Rattle.pcm_base.specs.declared.state.Dir.TheVariants as dir
use Rattle.pcm_base.specs.declared.state.Errno.{Errno}
use Rattle.pcm_base.specs.declared.state.Errno.TheVariants as errno
use Rattle.pcm_base.specs.declared.state.State.{State}
use Rattle.pcm_base.specs.declared.state.State.TheVariants as state
use Rattle.pcm_base.specs.Boundary.{boundary_of}
use Rattle.pcm_base.specs.model.Acts.{table}
use Rattle.pcm_base.specs.model.Allowed.{buffer_of, frame_bytes_of, accepts}
use Rattle.pcm_base.specs.model.Frame.{Frame}
use Rattle.pcm_base.specs.model.Movement.{move}
use Rattle.pcm_base.specs.model.PointerCalls.{hw_avail, back_by, on_by, sync_to}
use Rattle.pcm_base.specs.model.Program.{Program, Ends, Makes, says, fails, unless, making, act_alone, updating, updated_or_epipe}
use Rattle.pcm_base.specs.model.Software.{refuses_sw}
use Rattle.pcm_base.specs.model.Standing.{put_at, standing_at}
use Rattle.pcm_base.specs.model.Stream.{Setup, Waiting, Stream, no_setup, idle_card, all_at, is_bare, avail, shown, zero_frame}
use Rattle.pcm_base.specs.model.Transfer.{frames_or, sleeping, write_on, read_on, is_whole, frames_in, frames_by, write, read}
use Rattle.pcm_base.specs.model.Words.{when, ◌then◌, is_playback, is_closed, is_running, is_paused, is_suspended, is_disconnected}

-- what a client sees; zeros where there is no configuration
abbrev pub page_by : Option Config → Stream → Page
page_by None s = record { state = s.state; hw = 0; appl = 0; avail = 0 }
page_by (Some c) s = record { state = s.state; hw = shown s s.at.hw; appl = shown s s.at.appl; avail = avail s }

abbrev pub page : Stream → Page
page s = page_by s.setup.config s

-- a stream with this set-up, in this state, all positions at p, its card standing and its lists empty
abbrev pub set_setup : Setup → State → ℕ → Stream → Stream
set_setup c t p s = record s { setup = c; state = t; kept = None; at = all_at p; puts = []; moved = 0; card = record s.card { runs = false; taken = []; to_give = [] } }

-- opened, with no configuration
abbrev pub freed : Stream → Stream
freed s = set_setup no_setup state.Opened 0 s

-- closed: the fault plan is emptied too
abbrev pub closed : Stream → Stream
closed s = record (set_setup no_setup state.Closed 0 s) { card = idle_card }

-- what hw_params sets for an accepted configuration
abbrev pub setup_of : Config → ℕ → Setup
setup_of c long_max = record {
  config = Some c;
  frame_bytes = frame_bytes_of c;
  buffer = buffer_of c;
  boundary = boundary_of (buffer_of c) long_max;
  sw = record { avail_min = c.period; start_threshold = 1; stop_threshold = buffer_of c; silence_threshold = 0; silence_size = 0 };
}

-- a call is in progress
abbrev pub is_busy : Stream → Bool
is_busy s = nat_lt 0 (length s.sleepers)

-- the call in progress of a client, and the others
abbrev pub waiting_of : ClientId → List Waiting → Option Task
waiting_of c [] = None
waiting_of c (p ∷ ps) = if nat_eq p.client.0 c.0 then Some p.task else waiting_of c ps

abbrev pub others_than : ClientId → List Waiting → List Waiting
others_than c [] = []
others_than c (p ∷ ps) = if nat_eq p.client.0 c.0 then ps else p ∷ others_than c ps

-- without the call in progress of client c
abbrev pub left_by : ClientId → Stream → Stream
left_by c s = record s { sleepers = others_than c s.sleepers }

-- asleep while the group drains
abbrev pub watch : ClientId → Stream → Outcome → Stream → Program
watch c s outcome.Done t = says reply.Ok t
watch c s _ t = says reply.Asleep (sleeping (record { client = c; task = task.Drain }) t)

-- the drain of a group that is not paused
abbrev pub drain_now : ClientId → Mode → Stream → Program
drain_now c m s = making act.Drain s (λ t. elim m [
  | mode.NonBlock ↦ fails errno.Eagain t
  | mode.Block ↦ Makes act.Watch t (watch c t)
])

-- a paused group is released first
abbrev pub drain : ClientId → Mode → Stream → Program
drain c m s = unless (table kind.Drain s) s (if is_paused s.state then making act.Release s (drain_now c m) else drain_now c m s)

-- a call goes on, that is no more kept as waiting
abbrev pub go_on : ClientId → Xfer → List ℕ → Stream → Program
go_on c x io s = if x.writing then write_on c x [] (drop x.moved (frames_by x.layout s io)) s else read_on c x [] x.rest s

-- a waiting transfer that goes on where enough frames are available
abbrev pub go_or_sleep : ClientId → Xfer → ℕ → List ℕ → Stream → Program
go_or_sleep c x wanted io s = if nat_lt (avail s) wanted then says reply.Asleep s else go_on c x io (left_by c s)

-- the error that ends a waiting transfer in this state
abbrev pub ends_with : State → Errno
ends_with state.Suspended = errno.Estrpipe
ends_with state.Xrun = errno.Epipe
ends_with state.Draining = errno.Epipe
ends_with _ = errno.Ebadfd

-- a waiting transfer, by the state and the direction of its stream
abbrev pub go_transfer_in : State → Dir → ClientId → Xfer → ℕ → List ℕ → Stream → Program
go_transfer_in state.Prepared d c x wanted io s = go_or_sleep c x wanted io s
go_transfer_in state.Running d c x wanted io s = go_or_sleep c x wanted io s
go_transfer_in state.Paused d c x wanted io s = go_or_sleep c x wanted io s
go_transfer_in state.Draining dir.Capture c x wanted io s = go_on c x io (left_by c s)
go_transfer_in t d c x wanted io s = says (frames_or x.moved (ends_with t)) (left_by c s)

abbrev pub go_transfer : ClientId → Xfer → ℕ → List ℕ → Stream → Program
go_transfer c x wanted io s = go_transfer_in s.state s.dir c x wanted io s

-- a waiting drain, after it was watched
abbrev pub go_drain : ClientId → Outcome → Stream → Program
go_drain c outcome.Done s = if is_suspended s.state then fails errno.Estrpipe (left_by c s) else says reply.Ok (left_by c s)
go_drain c _ s = says reply.Asleep s

-- the count of bytes of a call
abbrev pub length_of : Task → Stream → ℕ
length_of (task.Transfer x wanted) s = (x.moved + x.rest) * s.setup.frame_bytes
length_of task.Drain s = 0

abbrev pub go_task : ClientId → Task → List ℕ → Stream → Program
go_task c (task.Transfer x wanted) io s = go_transfer c x wanted io s
go_task c task.Drain io s = if is_disconnected s.state then fails errno.Ebadfd (left_by c s) else Makes act.Watch s (go_drain c)

-- a call in progress is entered again, with its own bytes
abbrev pub go_call : Option Task → ClientId → List ℕ → Stream → Program
go_call None c io s = fails errno.Einval s
go_call (Some p) c io s = if nat_eq (length io) (length_of p s) then go_task c p io s else fails errno.Einval s

abbrev pub go : ClientId → List ℕ → Stream → Program
go c io s = go_call (waiting_of c s.sleepers) c io s

-- whether as many frames are available as the client waits for
abbrev pub ready_for : Stream → Ready
ready_for s = if nat_le s.setup.sw.avail_min (avail s) then ready.Yes else ready.No

-- what a poll tells, by the state and the direction
abbrev pub ready_in : State → Dir → Stream → Ready
ready_in state.Running d s = ready_for s
ready_in state.Prepared d s = ready_for s
ready_in state.Paused d s = ready_for s
ready_in state.Draining dir.Playback s = ready.No
ready_in state.Draining dir.Capture s = if nat_eq (avail s) 0 then ready.Error else ready.Yes
ready_in _ d s = ready.Error

abbrev pub poll : Stream → Reply
poll s = reply.Poll (ready_in s.state s.dir s)

-- the frames between the application and the hardware
abbrev pub delay : Stream → Reply
delay s = elim s.dir [ dir.Playback ↦ reply.Delay (pos s.setup.buffer -ℤ pos (avail s)) | dir.Capture ↦ reply.Delay (pos (avail s)) ]

abbrev pub is_mapped_access : Option Config → Bool
is_mapped_access None = false
is_mapped_access (Some c) = elim c.access [ access.MmapInterleaved ↦ true | access.MmapNoninterleaved ↦ true | _ ↦ false ]

-- the i-th entry of the fault plan is set
abbrev pub plan_set : ℕ → Stream → Stream
plan_set i s = record s { card = record s.card { plan = set s.card.plan (i - 1) true } }

abbrev pub rewound : ℕ → Stream → Program
rewound n s = says (reply.Frames (min n (hw_avail s))) (back_by (min n (hw_avail s)) s)

abbrev pub forwarded : ℕ → Stream → Program
forwarded n s = says (reply.Frames (min n (avail s))) (on_by (min n (avail s)) s)

abbrev pub set_mappings : ℕ → Stream → Stream
set_mappings n s = record s { mappings = n }

abbrev pub set_sw : SwParams → Stream → Stream
set_sw w s = record s { setup = record s.setup { sw = w } }

-- The card is gone: its stream alone becomes DISCONNECTED, and what is configured stays.
abbrev pub unplugged : Stream → Stream
unplugged s = record s { state = state.Disconnected; kept = None }

abbrev pub unplug_alone : Stream → Program
unplug_alone s = says reply.Ok (unplugged s)

-- an answer with frames, the first of them the first of the call
abbrev pub hands : Reply → List Frame → Stream → Program
hands r fs s = Ends (record { reply = r; first = 0; frames = fs }) s

-- the refusal of a mapped or busy stream
abbrev pub if_held : Stream → Option Errno
if_held s = when (nat_lt 0 s.mappings) errno.Ebadfd then when (is_busy s) errno.Ebusy

-- event call client linked bytes stream: what the event does where the stream is not CLOSED, or is opened. The client is that of the call, linked tells whether the stream stands in a group of two or more, and the bytes are those handed in.
abbrev pub event : Call → ClientId → Bool → List ℕ → Stream → Program
event call.OpenSub c linked io s = if is_closed s.state then says reply.Ok (record s { state = state.Opened }) else fails errno.Ebusy s
event call.CloseSub c linked io s = unless (when (linked || nat_lt 0 s.mappings || is_busy s) errno.Ebusy) s (says reply.Ok (closed s))
event (call.HwParams g) c linked io s =
    unless (table kind.HwParams s then if_held s) s
    (if accepts s.model s.long_max g then says reply.Ok (set_setup (setup_of g s.long_max) state.Setup (boundary_of (buffer_of g) s.long_max) s) else fails errno.Einval (freed s))
event call.HwFree c linked io s = unless (table kind.HwFree s then if_held s) s (says reply.Ok (freed s))
event (call.SwParams w) c linked io s = unless (table kind.SwParams s then when (refuses_sw s.setup.buffer s.setup.boundary w) errno.Einval) s (says reply.Ok (set_sw w s))
event call.Prepare c linked io s = act_alone (act.Prepare (is_paused s.state || is_suspended s.state)) s
event call.Start c linked io s = act_alone act.Start s
event call.DropNow c linked io s = unless (table kind.DropNow s) s (act_alone (act.Stop state.Setup) s)
event (call.Drain m) c linked io s = drain c m s
event call.PausePush c linked io s = act_alone act.Pause s
event call.PauseRelease c linked io s = act_alone act.Release s
event call.Suspend c linked io s = act_alone act.Suspend s
event call.Resume c linked io s = act_alone act.Resume s
event call.Xrun c linked io s = unless (table kind.Xrun s) s (if is_running s.state then act_alone (act.Stop state.Xrun) s else says reply.Ok s)
event (call.Write w m) c linked io s = write c w m io s
event (call.Read w m n) c linked io s = read c w m n s
event (call.Rewind n) c linked io s = if nat_eq n 0 then says (reply.Frames 0) s else unless (table kind.Rewind s) s (updated_or_epipe s (rewound n))
event (call.Forward n) c linked io s = if nat_eq n 0 then says (reply.Frames 0) s else unless (table kind.Forward s) s (updated_or_epipe s (forwarded n))
event call.Hwsync c linked io s = unless (table kind.Hwsync s) s (updated_or_epipe s (says reply.Ok))
event call.Delay c linked io s = unless (table kind.Delay s) s (updated_or_epipe s (λ t. says (delay t) t))
event (call.SyncPtr p) c linked io s = unless (table kind.SyncPtr s then when (nat_le s.setup.boundary p) errno.Einval) s (says (reply.Ptrs (page (sync_to p s))) (sync_to p s))
event call.Status c linked io s = updating s (λ u t. says (reply.Ptrs (page t)) t)
event call.PageNow c linked io s = says (reply.Ptrs (page s)) s
event call.Poll c linked io s = says (poll s) s
event call.Map c linked io s = unless (table kind.Map s then (when (not (is_mapped_access s.setup.config)) errno.Einval then when (nat_le 65535 s.mappings) errno.Ebusy)) s (says reply.Ok (set_mappings (s.mappings + 1) s))
event call.Unmap c linked io s = unless (when (nat_eq s.mappings 0) errno.Einval) s (says reply.Ok (set_mappings (s.mappings - 1) s))
event (call.Store o) c linked io s =
    let n = length io / s.setup.frame_bytes in
    unless (when (not (is_playback s.dir) || nat_eq s.mappings 0 || not (is_whole s io) || nat_lt s.setup.buffer (o + n)) errno.Einval) s
    (hands (reply.Frames n) (frames_in s io) (record s { puts = put_at o (frames_in s io) s.puts }))
event (call.Load o n) c linked io s =
    unless (when (nat_eq s.mappings 0 || nat_lt s.setup.buffer (o + n)) errno.Einval) s
    (hands (reply.Frames n) (standing_at s.puts s.setup.buffer o n (zero_frame s)) s)
event (call.Link j) c linked io s = says reply.Ok s
event call.Unlink c linked io s = unless (when (not linked) errno.Ealready) s (says reply.Ok s)
event call.Go c linked io s = go c io s
event (call.MoveBy n) c linked io s = let m = move n s in hands m.reply m.frames m.stream
event call.Irq c linked io s = updating s (λ u. says reply.Ok)
event (call.FailAt i) c linked io s = if nat_le 1 i && nat_le i 64 then says reply.Ok (plan_set i s) else fails errno.Einval s
event call.Give c linked io s =
    unless (when (is_bare s || is_playback s.dir || not (is_whole s io)) errno.Einval) s
    (hands reply.Ok (frames_in s io) (record s { card = record s.card { to_give = frames_in s io } }))
event call.Unplug c linked io s = unless (table kind.Unplug s) s (if s.card.runs then making (act.Stop state.Setup) s unplug_alone else unplug_alone s)

abbrev pub opens : Call → Bool
opens call.OpenSub = true
opens _ = false

-- what an event does to its own stream; no event but the opening reaches a CLOSED one
abbrev pub program : Call → ClientId → Bool → List ℕ → Stream → Program
program e c linked io s = if is_closed s.state && not (opens e) then fails errno.Enxio s else event e c linked io s

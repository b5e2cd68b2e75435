-- No event makes more than three acts.
use Rattle.std.proofs.Common.{ℕ, zero, suc, ◌+◌, ◌-◌, ◌/◌, Bool, true, false, cond, not, ◌&&◌, ◌||◌, nat_eq, nat_le, nat_lt, List, [], ◌++◌, length, take, drop, min, if◌then◌else◌}
use Rattle.std.specs.declared.option.Option.{Option}
use Rattle.std.specs.declared.option.Option.TheVariants.{Some, None}
use Rattle.pcm_base.specs.Boundary.{boundary_of}
use Rattle.pcm_base.specs.declared.act.Act.{Act}
use Rattle.pcm_base.specs.declared.act.Act.TheVariants as act
use Rattle.pcm_base.specs.declared.act.Outcome.{Outcome}
use Rattle.pcm_base.specs.declared.act.Outcome.TheVariants as outcome
use Rattle.pcm_base.specs.declared.act.Updated.{Updated}
use Rattle.pcm_base.specs.declared.act.Updated.TheVariants as updated
use Rattle.pcm_base.specs.declared.call.Call.{Call}
use Rattle.pcm_base.specs.declared.call.Call.TheVariants as call
use Rattle.pcm_base.specs.declared.call.CallKind.TheVariants as kind
use Rattle.pcm_base.specs.declared.call.Layout.{Layout}
use Rattle.pcm_base.specs.declared.call.Mode.{Mode}
use Rattle.pcm_base.specs.declared.call.Mode.TheVariants as mode
use Rattle.pcm_base.specs.declared.ids.ClientId.{ClientId}
use Rattle.pcm_base.specs.declared.reply.Reply.TheVariants as reply
use Rattle.pcm_base.specs.declared.sleeper.Task.{Task}
use Rattle.pcm_base.specs.declared.sleeper.Task.TheVariants as task
use Rattle.pcm_base.specs.declared.sleeper.Xfer.{Xfer}
use Rattle.pcm_base.specs.declared.state.Dir.{Dir}
use Rattle.pcm_base.specs.declared.state.Dir.TheVariants as dir
use Rattle.pcm_base.specs.declared.state.Errno.{Errno}
use Rattle.pcm_base.specs.declared.state.Errno.TheVariants as errno
use Rattle.pcm_base.specs.declared.state.State.{State}
use Rattle.pcm_base.specs.declared.state.State.TheVariants as state
use Rattle.pcm_base.specs.model.Acts.{table}
use Rattle.pcm_base.specs.model.Allowed.{accepts, buffer_of}
use Rattle.pcm_base.specs.model.Events.{closed, delay, drain, drain_now, event, forwarded, freed, go, go_drain, go_on, go_task, go_transfer, hands, if_held, is_busy, is_mapped_access, left_by, length_of, opens, page, plan_set, program, rewound, set_mappings, set_setup, set_sw, setup_of, unplug_alone, waiting_of, watch, go_call, go_transfer_in}
use Rattle.pcm_base.specs.model.Frame.{Frame}
use Rattle.pcm_base.specs.model.PointerCalls.{on_by, sync_to}
use Rattle.pcm_base.specs.model.Program.{Ends, Makes, Program, act_alone, after_found, fails, going_on, making, or_epipe, says, unless, updated_or_epipe, updating}
use Rattle.pcm_base.specs.model.Replay.{AtMost}
use Rattle.pcm_base.specs.model.Software.{refuses_sw}
use Rattle.pcm_base.specs.model.Standing.{put_at, standing_at}
use Rattle.pcm_base.specs.model.Stream.{Stream, avail, is_bare, zero_frame}
use Rattle.pcm_base.specs.model.Transfer.{after_moves, after_start, frames_by, frames_in, frames_or, is_whole, misfit, put_next, read, read_next, read_on, sleeping, start_reading, starting_halt, stuck, tells, waiting_for, write, write_from, write_on, write_plain, stuck_in}
use Rattle.pcm_base.specs.model.Update.{update}
use Rattle.pcm_base.specs.model.Words.{is_closed, is_disconnected, is_draining, is_paused, is_playback, is_prepared, is_running, is_suspended, when, ◌then◌}

AtMost-more : (n : ℕ) (p : Program) → AtMost n p → AtMost (suc n) p
AtMost-more n (Ends b s) h = tt
AtMost-more zero (Makes a s f) h = absurd h
AtMost-more (suc n) (Makes a s f) h = λ o t. AtMost-more n (f o t) (h o t)

AtMost-unless : (n : ℕ) (e : Option Errno) (s : Stream) (p : Program) → AtMost n p → AtMost n (unless e s p)
AtMost-unless n (Some e) s p h = tt
AtMost-unless n None s p h = h

AtMost-if : (n : ℕ) (b : Bool) (p q : Program) → AtMost n p → AtMost n q → AtMost n (cond b p q)
AtMost-if n true p q h k = h
AtMost-if n false p q h k = k

AtMost-going_on : (n : ℕ) (f : Stream → Program) → ((t : Stream) → AtMost n (f t)) → (o : Outcome) (t : Stream) → AtMost n (going_on f o t)
AtMost-going_on n f h outcome.Done t = h t
AtMost-going_on n f h (outcome.Refused j e) t = tt
AtMost-going_on n f h (outcome.Failed j) t = tt

AtMost-after_found : (n : ℕ) (f : Updated → Stream → Program) → ((u : Updated) (t : Stream) → AtMost n (f u t)) → (u : Updated) (t : Stream) → AtMost (suc n) (after_found f u t)
AtMost-after_found n f h updated.Nothing t = AtMost-more n (f updated.Nothing t) (h updated.Nothing t)
AtMost-after_found n f h updated.DrainDone t = AtMost-more n (f updated.DrainDone t) (h updated.DrainDone t)
AtMost-after_found n f h updated.StopXrun t = λ o v. h updated.StopXrun v

-- an update that ends or stops is not followed by an act
AtMost-or_epipe : (n : ℕ) (f : Stream → Program) → ((t : Stream) → AtMost (suc n) (f t)) → (u : Updated) (t : Stream) → AtMost (suc n) (after_found (or_epipe f) u t)
AtMost-or_epipe n f h updated.Nothing t = h t
AtMost-or_epipe n f h updated.DrainDone t = tt
AtMost-or_epipe n f h updated.StopXrun t = λ o v. AtMost-none n v
  where
    AtMost-none : (n : ℕ) (v : Stream) → AtMost n (or_epipe f updated.StopXrun v)
    AtMost-none n v = tt

AtMost-mode : (n : ℕ) (w : Mode) (p q : Program) → AtMost n p → AtMost n q → AtMost n (elim w as (λ _. Program) [ mode.NonBlock ↦ p | mode.Block ↦ q ])
AtMost-mode n mode.NonBlock p q h k = h
AtMost-mode n mode.Block p q h k = k

AtMost-stuck : (c : ClientId) (x : Xfer) (fs : List Frame) (r : ℕ) (s : Stream) → AtMost 1 (stuck c x fs r s)
AtMost-stuck c x fs r s = by (not x.writing && is_draining s.state) x.mode
  where
    ends : Program
    ends = Makes (act.Stop state.Setup) s (λ o. tells (reply.Frames (x.moved + length fs)) x fs)

    by : (b : Bool) (w : Mode) → AtMost 1 (cond b (Makes (act.Stop state.Setup) s (λ o. tells (reply.Frames (x.moved + length fs)) x fs)) (stuck_in w c x fs r s))
    by true w = λ o t. tt
    by false mode.NonBlock = tt
    by false mode.Block = tt

AtMost-after_moves : (c : ClientId) (x : Xfer) (fs : List Frame) (r : ℕ) (s : Stream) → AtMost 1 (after_moves c x fs r s)
AtMost-after_moves c x fs r s = AtMost-if 1 (nat_eq r 0) (tells (reply.Frames (x.moved + length fs)) x fs s) (stuck c x fs r s) tt (AtMost-stuck c x fs r s)

AtMost-write_plain : (c : ClientId) (x : Xfer) (fs ws : List Frame) (s : Stream) → AtMost 1 (write_plain c x fs ws s)
AtMost-write_plain c x fs ws s = let n : ℕ = min (length ws) (avail s) in AtMost-after_moves c x (fs ++ take n ws) (length ws - n) (put_next (take n ws) s)

AtMost-after_start : (c : ClientId) (x : Xfer) (fs ws : List Frame) (o : Outcome) (s : Stream) → AtMost 1 (after_start c x fs ws o s)
AtMost-after_start c x fs ws outcome.Done s = AtMost-write_plain c x fs ws s
AtMost-after_start c x fs ws (outcome.Refused j e) s = tt
AtMost-after_start c x fs ws (outcome.Failed j) s = tt

AtMost-write_from : (c : ClientId) (x : Xfer) (fs ws : List Frame) (s : Stream) (h : Option ℕ) → AtMost 2 (write_from c x fs ws s h)
AtMost-write_from c x fs ws s None = AtMost-more 1 (write_plain c x fs ws s) (AtMost-write_plain c x fs ws s)
AtMost-write_from c x fs ws s (Some t) = λ o v. AtMost-after_start c x (fs ++ take t ws) (drop t ws) o v

AtMost-write_on : (c : ClientId) (x : Xfer) (fs ws : List Frame) (s : Stream) → AtMost 2 (write_on c x fs ws s)
AtMost-write_on c x fs ws s = AtMost-write_from c x fs ws s (starting_halt s (min (length ws) (avail s)))

AtMost-read_on : (c : ClientId) (x : Xfer) (fs : List Frame) (r : ℕ) (s : Stream) → AtMost 1 (read_on c x fs r s)
AtMost-read_on c x fs r s = let n : ℕ = min r (avail s) in AtMost-after_moves c x (fs ++ read_next n s) (r - n) (on_by n s)

AtMost-making : (n : ℕ) (a : Act) (s : Stream) (f : Stream → Program) → ((t : Stream) → AtMost n (f t)) → AtMost (suc n) (making a s f)
AtMost-making n a s f h = AtMost-going_on n f h

AtMost-act_alone : (a : Act) (s : Stream) → AtMost 1 (act_alone a s)
AtMost-act_alone a s = AtMost-making 0 a s (says reply.Ok) (λ t. tt)

AtMost-updated_or_epipe : (n : ℕ) (s : Stream) (f : Stream → Program) → ((t : Stream) → AtMost (suc n) (f t)) → AtMost (suc n) (updated_or_epipe s f)
AtMost-updated_or_epipe n s f h = AtMost-or_epipe n f h (update s).found (update s).stream

AtMost-updating : (n : ℕ) (s : Stream) (f : Updated → Stream → Program) → ((u : Updated) (t : Stream) → AtMost n (f u t)) → AtMost (suc n) (updating s f)
AtMost-updating n s f h = AtMost-after_found n f h (update s).found (update s).stream

AtMost-write : (c : ClientId) (w : Layout) (m : Mode) (io : List ℕ) (s : Stream) → AtMost 2 (write c w m io s)
AtMost-write c w m io s =
    let n : ℕ = length io / s.setup.frame_bytes in
    let x : Xfer = record { writing = true; layout = w; mode = m; rest = n; moved = 0 } in
    let on : Stream → Program = write_on c x [] (frames_by w s io) in
    AtMost-unless 2 (misfit s true w (is_whole s io)) s (if nat_eq n 0 then says (reply.Frames 0) s else unless (table kind.Write s) s (updated_or_epipe s on))
    (AtMost-if 2 (nat_eq n 0) (says (reply.Frames 0) s) (unless (table kind.Write s) s (updated_or_epipe s on)) tt
    (AtMost-unless 2 (table kind.Write s) s (updated_or_epipe s on) (AtMost-updated_or_epipe 1 s on (AtMost-write_on c x [] (frames_by w s io)))))

AtMost-start_reading : (c : ClientId) (x : Xfer) (s : Stream) → AtMost 2 (start_reading c x s)
AtMost-start_reading c x s = AtMost-if 2 (is_prepared s.state && nat_le s.setup.sw.start_threshold x.rest) (making act.Start s (read_on c x [] x.rest)) (read_on c x [] x.rest s)
    (AtMost-making 1 act.Start s (read_on c x [] x.rest) (AtMost-read_on c x [] x.rest)) (AtMost-more 1 (read_on c x [] x.rest s) (AtMost-read_on c x [] x.rest s))

AtMost-read : (c : ClientId) (w : Layout) (m : Mode) (n : ℕ) (s : Stream) → AtMost 2 (read c w m n s)
AtMost-read c w m n s =
    let x : Xfer = record { writing = false; layout = w; mode = m; rest = n; moved = 0 } in
    AtMost-unless 2 (misfit s false w (nat_le n 1048576)) s (if nat_eq n 0 then says (reply.Frames 0) s else unless (table kind.Read s) s (updated_or_epipe s (start_reading c x)))
    (AtMost-if 2 (nat_eq n 0) (says (reply.Frames 0) s) (unless (table kind.Read s) s (updated_or_epipe s (start_reading c x))) tt
    (AtMost-unless 2 (table kind.Read s) s (updated_or_epipe s (start_reading c x)) (AtMost-updated_or_epipe 1 s (start_reading c x) (AtMost-start_reading c x))))

AtMost-watch : (c : ClientId) (s : Stream) (o : Outcome) (t : Stream) → AtMost 0 (watch c s o t)
AtMost-watch c s outcome.Done t = tt
AtMost-watch c s (outcome.Refused j e) t = tt
AtMost-watch c s (outcome.Failed j) t = tt

AtMost-drain_now : (c : ClientId) (m : Mode) (s : Stream) → AtMost 2 (drain_now c m s)
AtMost-drain_now c mode.NonBlock s = AtMost-making 1 act.Drain s (λ t. fails errno.Eagain t) (λ t. tt)
AtMost-drain_now c mode.Block s = AtMost-making 1 act.Drain s (λ t. Makes act.Watch t (watch c t)) (λ t. AtMost-watch c t)

AtMost-drain : (c : ClientId) (m : Mode) (s : Stream) → AtMost 3 (drain c m s)
AtMost-drain c m s =
    let p : Program = making act.Release s (drain_now c m) in
    AtMost-unless 3 (table kind.Drain s) s (if is_paused s.state then p else drain_now c m s)
    (AtMost-if 3 (is_paused s.state) p (drain_now c m s) (AtMost-making 2 act.Release s (drain_now c m) (AtMost-drain_now c m)) (AtMost-more 2 (drain_now c m s) (AtMost-drain_now c m s)))

AtMost-go_on : (c : ClientId) (x : Xfer) (io : List ℕ) (s : Stream) → AtMost 2 (go_on c x io s)
AtMost-go_on c x io s =
    let ws : List Frame = drop x.moved (frames_by x.layout s io) in
    AtMost-if 2 x.writing (write_on c x [] ws s) (read_on c x [] x.rest s) (AtMost-write_on c x [] ws s) (AtMost-more 1 (read_on c x [] x.rest s) (AtMost-read_on c x [] x.rest s))

AtMost-go_transfer : (c : ClientId) (x : Xfer) (wanted : ℕ) (io : List ℕ) (s : Stream) → AtMost 2 (go_transfer c x wanted io s)
AtMost-go_transfer c x wanted io s = by s.state s.dir
  where
    gone : Stream
    gone = left_by c s

    may : AtMost 2 (if nat_lt (avail s) wanted then says reply.Asleep s else go_on c x io (left_by c s))
    may = AtMost-if 2 (nat_lt (avail s) wanted) (says reply.Asleep s) (go_on c x io (left_by c s)) tt (AtMost-go_on c x io (left_by c s))

    by : (t : State) (d : Dir) → AtMost 2 (go_transfer_in t d c x wanted io s)
    by state.Prepared d = may
    by state.Running d = may
    by state.Paused d = may
    by state.Suspended d = tt
    by state.Disconnected d = tt
    by state.Xrun d = tt
    by state.Draining dir.Playback = tt
    by state.Draining dir.Capture = AtMost-go_on c x io (left_by c s)
    by state.Closed d = tt
    by state.Opened d = tt
    by state.Setup d = tt

AtMost-go_drain : (c : ClientId) (o : Outcome) (t : Stream) → AtMost 0 (go_drain c o t)
AtMost-go_drain c outcome.Done t = AtMost-if 0 (is_suspended t.state) (fails errno.Estrpipe (left_by c t)) (says reply.Ok (left_by c t)) tt tt
AtMost-go_drain c (outcome.Refused j e) t = tt
AtMost-go_drain c (outcome.Failed j) t = tt

AtMost-go_task : (c : ClientId) (k : Task) (io : List ℕ) (s : Stream) → AtMost 2 (go_task c k io s)
AtMost-go_task c (task.Transfer x wanted) io s = AtMost-go_transfer c x wanted io s
AtMost-go_task c task.Drain io s = AtMost-if 2 (is_disconnected s.state) (fails errno.Ebadfd (left_by c s)) (Makes act.Watch s (go_drain c)) tt (λ o t. AtMost-more 0 (go_drain c o t) (AtMost-go_drain c o t))

AtMost-go : (c : ClientId) (io : List ℕ) (s : Stream) → AtMost 2 (go c io s)
AtMost-go c io s = by (waiting_of c s.sleepers)
  where
    by : (k : Option Task) → AtMost 2 (go_call k c io s)
    by None = tt
    by (Some p) = AtMost-if 2 (nat_eq (length io) (length_of p s)) (go_task c p io s) (fails errno.Einval s) (AtMost-go_task c p io s) tt

AtMost-updated_event : (n : ℕ) (e : Option Errno) (s : Stream) (f : Stream → Program) → ((t : Stream) → AtMost 1 (f t)) → AtMost 3 (unless e s (updated_or_epipe s f))
AtMost-updated_event n e s f h = AtMost-unless 3 e s (updated_or_epipe s f) (AtMost-more 2 (updated_or_epipe s f) (AtMost-more 1 (updated_or_epipe s f) (AtMost-updated_or_epipe 0 s f h)))

AtMost-act_event : (a : Act) (s : Stream) → AtMost 3 (act_alone a s)
AtMost-act_event a s = AtMost-more 2 (act_alone a s) (AtMost-more 1 (act_alone a s) (AtMost-act_alone a s))

pub AtMost-event : (e : Call) (c : ClientId) (linked : Bool) (io : List ℕ) (s : Stream) → AtMost 3 (event e c linked io s)
AtMost-event call.OpenSub c l io s = AtMost-if 3 (is_closed s.state) (says reply.Ok (record s { state = state.Opened })) (fails errno.Ebusy s) tt tt
AtMost-event call.CloseSub c l io s = AtMost-unless 3 (when (l || nat_lt 0 s.mappings || is_busy s) errno.Ebusy) s (says reply.Ok (closed s)) tt
AtMost-event (call.HwParams g) c l io s = AtMost-unless 3 (table kind.HwParams s then if_held s) s (if accepts s.model s.long_max g then says reply.Ok (set_setup (setup_of g s.long_max) state.Setup (boundary_of (buffer_of g) s.long_max) s) else fails errno.Einval (freed s)) (AtMost-if 3 (accepts s.model s.long_max g) (says reply.Ok (set_setup (setup_of g s.long_max) state.Setup (boundary_of (buffer_of g) s.long_max) s)) (fails errno.Einval (freed s)) tt tt)
AtMost-event call.HwFree c l io s = AtMost-unless 3 (table kind.HwFree s then if_held s) s (says reply.Ok (freed s)) tt
AtMost-event (call.SwParams w) c l io s = AtMost-unless 3 (table kind.SwParams s then when (refuses_sw s.setup.buffer s.setup.boundary w) errno.Einval) s (says reply.Ok (set_sw w s)) tt
AtMost-event call.Prepare c l io s = AtMost-act_event (act.Prepare (is_paused s.state || is_suspended s.state)) s
AtMost-event call.Start c l io s = AtMost-act_event act.Start s
AtMost-event call.DropNow c l io s = AtMost-unless 3 (table kind.DropNow s) s (act_alone (act.Stop state.Setup) s) (AtMost-act_event (act.Stop state.Setup) s)
AtMost-event (call.Drain m) c l io s = AtMost-drain c m s
AtMost-event call.PausePush c l io s = AtMost-act_event act.Pause s
AtMost-event call.PauseRelease c l io s = AtMost-act_event act.Release s
AtMost-event call.Suspend c l io s = AtMost-act_event act.Suspend s
AtMost-event call.Resume c l io s = AtMost-act_event act.Resume s
AtMost-event call.Xrun c l io s = AtMost-unless 3 (table kind.Xrun s) s (if is_running s.state then act_alone (act.Stop state.Xrun) s else says reply.Ok s) (AtMost-if 3 (is_running s.state) (act_alone (act.Stop state.Xrun) s) (says reply.Ok s) (AtMost-act_event (act.Stop state.Xrun) s) tt)
AtMost-event (call.Write w m) c l io s = AtMost-more 2 (write c w m io s) (AtMost-write c w m io s)
AtMost-event (call.Read w m n) c l io s = AtMost-more 2 (read c w m n s) (AtMost-read c w m n s)
AtMost-event (call.Rewind n) c l io s = AtMost-if 3 (nat_eq n 0) (says (reply.Frames 0) s) (unless (table kind.Rewind s) s (updated_or_epipe s (rewound n))) tt (AtMost-updated_event 0 (table kind.Rewind s) s (rewound n) (λ t. tt))
AtMost-event (call.Forward n) c l io s = AtMost-if 3 (nat_eq n 0) (says (reply.Frames 0) s) (unless (table kind.Forward s) s (updated_or_epipe s (forwarded n))) tt (AtMost-updated_event 0 (table kind.Forward s) s (forwarded n) (λ t. tt))
AtMost-event call.Hwsync c l io s = AtMost-updated_event 0 (table kind.Hwsync s) s (says reply.Ok) (λ t. tt)
AtMost-event call.Delay c l io s = AtMost-updated_event 0 (table kind.Delay s) s (λ t. says (delay t) t) (λ t. tt)
AtMost-event (call.SyncPtr p) c l io s = AtMost-unless 3 (table kind.SyncPtr s then when (nat_le s.setup.boundary p) errno.Einval) s (says (reply.Ptrs (page (sync_to p s))) (sync_to p s)) tt
AtMost-event call.Status c l io s = AtMost-updating 2 s (λ u t. says (reply.Ptrs (page t)) t) (λ u t. tt)
AtMost-event call.PageNow c l io s = tt
AtMost-event call.Poll c l io s = tt
AtMost-event call.Map c l io s = AtMost-unless 3 (table kind.Map s then (when (not (is_mapped_access s.setup.config)) errno.Einval then when (nat_le 65535 s.mappings) errno.Ebusy)) s (says reply.Ok (set_mappings (s.mappings + 1) s)) tt
AtMost-event call.Unmap c l io s = AtMost-unless 3 (when (nat_eq s.mappings 0) errno.Einval) s (says reply.Ok (set_mappings (s.mappings - 1) s)) tt
AtMost-event (call.Store o) c l io s = let n : ℕ = length io / s.setup.frame_bytes in AtMost-unless 3 (when (not (is_playback s.dir) || nat_eq s.mappings 0 || not (is_whole s io) || nat_lt s.setup.buffer (o + n)) errno.Einval) s (hands (reply.Frames n) (frames_in s io) (record s { puts = put_at o (frames_in s io) s.puts })) tt
AtMost-event (call.Load o n) c l io s = AtMost-unless 3 (when (nat_eq s.mappings 0 || nat_lt s.setup.buffer (o + n)) errno.Einval) s (hands (reply.Frames n) (standing_at s.puts s.setup.buffer o n (zero_frame s)) s) tt
AtMost-event (call.Link j) c l io s = tt
AtMost-event call.Unlink c l io s = AtMost-unless 3 (when (not l) errno.Ealready) s (says reply.Ok s) tt
AtMost-event call.Go c l io s = AtMost-more 2 (go c io s) (AtMost-go c io s)
AtMost-event (call.MoveBy n) c l io s = tt
AtMost-event call.Irq c l io s = AtMost-updating 2 s (λ u. says reply.Ok) (λ u t. tt)
AtMost-event (call.FailAt i) c l io s = AtMost-if 3 (nat_le 1 i && nat_le i 64) (says reply.Ok (plan_set i s)) (fails errno.Einval s) tt tt
AtMost-event call.Give c l io s = AtMost-unless 3 (when (is_bare s || is_playback s.dir || not (is_whole s io)) errno.Einval) s (hands reply.Ok (frames_in s io) (record s { card = record s.card { to_give = frames_in s io } })) tt
AtMost-event call.Unplug c l io s = AtMost-unless 3 (table kind.Unplug s) s (if s.card.runs then making (act.Stop state.Setup) s unplug_alone else unplug_alone s) (AtMost-if 3 s.card.runs (making (act.Stop state.Setup) s unplug_alone) (unplug_alone s) (AtMost-making 2 (act.Stop state.Setup) s unplug_alone (λ t. tt)) tt)

pub AtMost-program : (e : Call) (c : ClientId) (linked : Bool) (io : List ℕ) (s : Stream) → AtMost 3 (program e c linked io s)
AtMost-program e c l io s = AtMost-if 3 (is_closed s.state && not (opens e)) (fails errno.Enxio s) (event e c l io s) tt (AtMost-event e c l io s)

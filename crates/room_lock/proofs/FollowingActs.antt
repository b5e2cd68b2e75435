-- Which acts of one event follow each other.
use Rattle.std.proofs.Common.{ℕ, ◌+◌, ◌-◌, ◌/◌, Bool, true, false, cond, not, ◌&&◌, ◌||◌, nat_eq, nat_le, nat_lt, List, [], ◌++◌, length, take, drop, min, if◌then◌else◌, ◌≡◌, ◌∷◌, refl, sym, ap, subst, ◌∙◌}
use Rattle.std.specs.declared.option.Option.{Option}
use Rattle.std.specs.declared.option.Option.TheVariants.{Some, None}
use Rattle.pcm_base.specs.Boundary.{boundary_of}
use Rattle.pcm_base.specs.declared.act.Act.{Act}
use Rattle.pcm_base.specs.declared.act.Act.TheVariants as act
use Rattle.pcm_base.specs.declared.act.Outcome.{Outcome}
use Rattle.pcm_base.specs.declared.act.Outcome.TheVariants as outcome
use Rattle.pcm_base.specs.declared.act.Updated.{Updated}
use Rattle.pcm_base.specs.declared.act.Updated.TheVariants as updated
use Rattle.pcm_base.specs.declared.call.Call.{Call}
use Rattle.pcm_base.specs.declared.call.Call.TheVariants as call
use Rattle.pcm_base.specs.declared.call.CallKind.TheVariants as kind
use Rattle.pcm_base.specs.declared.call.Layout.{Layout}
use Rattle.pcm_base.specs.declared.call.Mode.{Mode}
use Rattle.pcm_base.specs.declared.call.Mode.TheVariants as mode
use Rattle.pcm_base.specs.declared.ids.ClientId.{ClientId}
use Rattle.pcm_base.specs.declared.reply.Reply.TheVariants as reply
use Rattle.pcm_base.specs.declared.sleeper.Task.{Task}
use Rattle.pcm_base.specs.declared.sleeper.Task.TheVariants as task
use Rattle.pcm_base.specs.declared.sleeper.Xfer.{Xfer}
use Rattle.pcm_base.specs.declared.state.Dir.{Dir}
use Rattle.pcm_base.specs.declared.state.Dir.TheVariants as dir
use Rattle.pcm_base.specs.declared.state.Errno.{Errno}
use Rattle.pcm_base.specs.declared.state.Errno.TheVariants as errno
use Rattle.pcm_base.specs.declared.state.State.{State}
use Rattle.pcm_base.specs.declared.state.State.TheVariants as state
use Rattle.pcm_base.specs.model.Acts.{table}
use Rattle.pcm_base.specs.model.Allowed.{accepts, buffer_of}
use Rattle.pcm_base.specs.model.Events.{closed, delay, drain, drain_now, event, forwarded, freed, go, go_call, go_drain, go_on, go_task, go_transfer, go_transfer_in, hands, if_held, is_busy, is_mapped_access, left_by, length_of, opens, page, plan_set, program, rewound, set_mappings, set_setup, set_sw, setup_of, unplug_alone, waiting_of, watch}
use Rattle.pcm_base.specs.model.Frame.{Frame}
use Rattle.pcm_base.specs.model.PointerCalls.{on_by, sync_to}
use Rattle.pcm_base.specs.model.Program.{Ends, Makes, Program, act_alone, after_found, fails, making, or_epipe, says, unless, updated_or_epipe, updating}
use Rattle.pcm_base.specs.model.Replay.{Part, Plays, joined, part_of, parts_of}
use Rattle.pcm_base.specs.model.Software.{refuses_sw}
use Rattle.pcm_base.specs.model.Standing.{put_at, standing_at}
use Rattle.pcm_base.specs.model.Stream.{Stream, avail, is_bare, zero_frame}
use Rattle.pcm_base.specs.model.Transfer.{after_moves, after_start, frames_by, frames_in, is_whole, misfit, put_next, read, read_next, read_on, start_reading, starting_halt, stuck, stuck_in, tells, write, write_from, write_on, write_plain}
use Rattle.pcm_base.specs.model.Update.{update}
use Rattle.pcm_base.specs.model.Words.{is_closed, is_disconnected, is_draining, is_paused, is_playback, is_prepared, is_running, is_suspended, when, ◌then◌}
use Rattle.pcm_base.specs.declared.ids.SubId.{SubId}
use Rattle.pcm_base.specs.declared.votes.Acted.{Acted}
use Rattle.pcm_base.specs.model.Acts.{subs}
use Rattle.pcm_base.specs.model.Group.{run, stream_of}
use Rattle.pcm_base.specs.model.Program.{Answer}
use Rattle.pcm_laws.specs.Steps.{RunsDecompose}
use Rattle.room_lock.specs.Between.{EventActsFollow, Follows, MayFollow, follow, goes_before, may_follow}

Follows-unless : (e : Option Errno) (s : Stream) (p : Program) → Follows p → Follows (unless e s p)
Follows-unless (Some e) s p h = tt
Follows-unless None s p h = h

Follows-if : (b : Bool) (p q : Program) → Follows p → Follows q → Follows (cond b p q)
Follows-if true p q h k = h
Follows-if false p q h k = k

-- an act that goes on where it is done, and ends else
Follows-making : (a : Act) (s : Stream) (f : Stream → Program) → ((t : Stream) → MayFollow a outcome.Done (f t) × Follows (f t)) → Follows (making a s f)
Follows-making a s f h outcome.Done t = h t
Follows-making a s f h (outcome.Refused j e) t = (tt, tt)
Follows-making a s f h (outcome.Failed j) t = (tt, tt)

Follows-act_alone : (a : Act) (s : Stream) → Follows (act_alone a s)
Follows-act_alone a s = Follows-making a s (says reply.Ok) (λ t. (tt, tt))

-- an update that ends or stops is not followed by an act
Follows-or_epipe : (f : Stream → Program) → ((t : Stream) → Follows (f t)) → (u : Updated) (t : Stream) → Follows (after_found (or_epipe f) u t)
Follows-or_epipe f h updated.Nothing t = h t
Follows-or_epipe f h updated.DrainDone t = tt
Follows-or_epipe f h updated.StopXrun t = λ o v. (tt, tt)

Follows-updated_or_epipe : (s : Stream) (f : Stream → Program) → ((t : Stream) → Follows (f t)) → Follows (updated_or_epipe s f)
Follows-updated_or_epipe s f h = Follows-or_epipe f h (update s).found (update s).stream

-- an update, after which nothing more is made
Follows-reports : (f : Updated → Stream → Program) → ((u : Updated) (t : Stream) → (o : Outcome) → MayFollow (act.Stop state.Xrun) o (f u t) × Follows (f u t)) → (u : Updated) (t : Stream) → Follows (after_found f u t)
Follows-reports f h updated.Nothing t = (h updated.Nothing t outcome.Done).1
Follows-reports f h updated.DrainDone t = (h updated.DrainDone t outcome.Done).1
Follows-reports f h updated.StopXrun t = λ o v. h updated.StopXrun v o

Follows-updating : (s : Stream) (f : Updated → Stream → Program) → ((u : Updated) (t : Stream) → (o : Outcome) → MayFollow (act.Stop state.Xrun) o (f u t) × Follows (f u t)) → Follows (updating s f)
Follows-updating s f h = Follows-reports f h (update s).found (update s).stream

-- what may be made after a start that was done
abbrev AfterStart : Program → Type 0
AfterStart p = MayFollow act.Start outcome.Done p × Follows p

AfterStart-if : (b : Bool) (p q : Program) → AfterStart p → AfterStart q → AfterStart (cond b p q)
AfterStart-if true p q h k = h
AfterStart-if false p q h k = k

AfterStart-stuck : (c : ClientId) (x : Xfer) (fs : List Frame) (r : ℕ) (s : Stream) → AfterStart (stuck c x fs r s)
AfterStart-stuck c x fs r s = by (not x.writing && is_draining s.state) x.mode
  where
    by : (b : Bool) (w : Mode) → AfterStart (cond b (Makes (act.Stop state.Setup) s (λ o. tells (reply.Frames (x.moved + length fs)) x fs)) (stuck_in w c x fs r s))
    by true w = (refl, λ o t. (tt, tt))
    by false mode.NonBlock = (tt, tt)
    by false mode.Block = (tt, tt)

AfterStart-after_moves : (c : ClientId) (x : Xfer) (fs : List Frame) (r : ℕ) (s : Stream) → AfterStart (after_moves c x fs r s)
AfterStart-after_moves c x fs r s = AfterStart-if (nat_eq r 0) (tells (reply.Frames (x.moved + length fs)) x fs s) (stuck c x fs r s) (tt, tt) (AfterStart-stuck c x fs r s)

AfterStart-write_plain : (c : ClientId) (x : Xfer) (fs ws : List Frame) (s : Stream) → AfterStart (write_plain c x fs ws s)
AfterStart-write_plain c x fs ws s = let n : ℕ = min (length ws) (avail s) in AfterStart-after_moves c x (fs ++ take n ws) (length ws - n) (put_next (take n ws) s)

AfterStart-read_on : (c : ClientId) (x : Xfer) (fs : List Frame) (r : ℕ) (s : Stream) → AfterStart (read_on c x fs r s)
AfterStart-read_on c x fs r s = let n : ℕ = min r (avail s) in AfterStart-after_moves c x (fs ++ read_next n s) (r - n) (on_by n s)

Follows-write_from : (c : ClientId) (x : Xfer) (fs ws : List Frame) (s : Stream) (h : Option ℕ) → Follows (write_from c x fs ws s h)
Follows-write_from c x fs ws s None = (AfterStart-write_plain c x fs ws s).1
Follows-write_from c x fs ws s (Some t) = by
  where
    by : (o : Outcome) (v : Stream) → MayFollow act.Start o (after_start c x (fs ++ take t ws) (drop t ws) o v) × Follows (after_start c x (fs ++ take t ws) (drop t ws) o v)
    by outcome.Done v = AfterStart-write_plain c x (fs ++ take t ws) (drop t ws) v
    by (outcome.Refused j e) v = (tt, tt)
    by (outcome.Failed j) v = (tt, tt)

Follows-write_on : (c : ClientId) (x : Xfer) (fs ws : List Frame) (s : Stream) → Follows (write_on c x fs ws s)
Follows-write_on c x fs ws s = Follows-write_from c x fs ws s (starting_halt s (min (length ws) (avail s)))

Follows-read_on : (c : ClientId) (x : Xfer) (fs : List Frame) (r : ℕ) (s : Stream) → Follows (read_on c x fs r s)
Follows-read_on c x fs r s = (AfterStart-read_on c x fs r s).1

Follows-write : (c : ClientId) (w : Layout) (m : Mode) (io : List ℕ) (s : Stream) → Follows (write c w m io s)
Follows-write c w m io s =
    let n : ℕ = length io / s.setup.frame_bytes in
    let x : Xfer = record { writing = true; layout = w; mode = m; rest = n; moved = 0 } in
    let on : Stream → Program = write_on c x [] (frames_by w s io) in
    Follows-unless (misfit s true w (is_whole s io)) s (if nat_eq n 0 then says (reply.Frames 0) s else unless (table kind.Write s) s (updated_or_epipe s on))
    (Follows-if (nat_eq n 0) (says (reply.Frames 0) s) (unless (table kind.Write s) s (updated_or_epipe s on)) tt
    (Follows-unless (table kind.Write s) s (updated_or_epipe s on) (Follows-updated_or_epipe s on (Follows-write_on c x [] (frames_by w s io)))))

Follows-start_reading : (c : ClientId) (x : Xfer) (s : Stream) → Follows (start_reading c x s)
Follows-start_reading c x s = Follows-if (is_prepared s.state && nat_le s.setup.sw.start_threshold x.rest) (making act.Start s (read_on c x [] x.rest)) (read_on c x [] x.rest s)
    (Follows-making act.Start s (read_on c x [] x.rest) (AfterStart-read_on c x [] x.rest)) (Follows-read_on c x [] x.rest s)

Follows-read : (c : ClientId) (w : Layout) (m : Mode) (n : ℕ) (s : Stream) → Follows (read c w m n s)
Follows-read c w m n s =
    let x : Xfer = record { writing = false; layout = w; mode = m; rest = n; moved = 0 } in
    Follows-unless (misfit s false w (nat_le n 1048576)) s (if nat_eq n 0 then says (reply.Frames 0) s else unless (table kind.Read s) s (updated_or_epipe s (start_reading c x)))
    (Follows-if (nat_eq n 0) (says (reply.Frames 0) s) (unless (table kind.Read s) s (updated_or_epipe s (start_reading c x))) tt
    (Follows-unless (table kind.Read s) s (updated_or_epipe s (start_reading c x)) (Follows-updated_or_epipe s (start_reading c x) (Follows-start_reading c x))))

Follows-watch : (c : ClientId) (s : Stream) (o : Outcome) (t : Stream) → MayFollow act.Watch o (watch c s o t) × Follows (watch c s o t)
Follows-watch c s outcome.Done t = (tt, tt)
Follows-watch c s (outcome.Refused j e) t = (tt, tt)
Follows-watch c s (outcome.Failed j) t = (tt, tt)

-- after a release that was done
AfterRelease-drain_now : (c : ClientId) (m : Mode) (s : Stream) → MayFollow act.Release outcome.Done (drain_now c m s) × Follows (drain_now c m s)
AfterRelease-drain_now c mode.NonBlock s = (refl, Follows-making act.Drain s (λ t. fails errno.Eagain t) (λ t. (tt, tt)))
AfterRelease-drain_now c mode.Block s = (refl, Follows-making act.Drain s (λ t. Makes act.Watch t (watch c t)) (λ t. (refl, Follows-watch c t)))

Follows-drain : (c : ClientId) (m : Mode) (s : Stream) → Follows (drain c m s)
Follows-drain c m s =
    let p : Program = making act.Release s (drain_now c m) in
    Follows-unless (table kind.Drain s) s (if is_paused s.state then p else drain_now c m s)
    (Follows-if (is_paused s.state) p (drain_now c m s) (Follows-making act.Release s (drain_now c m) (AfterRelease-drain_now c m)) (AfterRelease-drain_now c m s).1)

Follows-go_on : (c : ClientId) (x : Xfer) (io : List ℕ) (s : Stream) → Follows (go_on c x io s)
Follows-go_on c x io s =
    let ws : List Frame = drop x.moved (frames_by x.layout s io) in
    Follows-if x.writing (write_on c x [] ws s) (read_on c x [] x.rest s) (Follows-write_on c x [] ws s) (Follows-read_on c x [] x.rest s)

Follows-go_transfer : (c : ClientId) (x : Xfer) (wanted : ℕ) (io : List ℕ) (s : Stream) → Follows (go_transfer c x wanted io s)
Follows-go_transfer c x wanted io s = by s.state s.dir
  where
    may : Follows (if nat_lt (avail s) wanted then says reply.Asleep s else go_on c x io (left_by c s))
    may = Follows-if (nat_lt (avail s) wanted) (says reply.Asleep s) (go_on c x io (left_by c s)) tt (Follows-go_on c x io (left_by c s))

    by : (t : State) (d : Dir) → Follows (go_transfer_in t d c x wanted io s)
    by state.Prepared d = may
    by state.Running d = may
    by state.Paused d = may
    by state.Suspended d = tt
    by state.Disconnected d = tt
    by state.Xrun d = tt
    by state.Draining dir.Playback = tt
    by state.Draining dir.Capture = Follows-go_on c x io (left_by c s)
    by state.Closed d = tt
    by state.Opened d = tt
    by state.Setup d = tt

Follows-go_drain : (c : ClientId) (o : Outcome) (t : Stream) → MayFollow act.Watch o (go_drain c o t) × Follows (go_drain c o t)
Follows-go_drain c outcome.Done t = by (is_suspended t.state)
  where
    by : (b : Bool) → MayFollow act.Watch outcome.Done (cond b (fails errno.Estrpipe (left_by c t)) (says reply.Ok (left_by c t))) × Follows (cond b (fails errno.Estrpipe (left_by c t)) (says reply.Ok (left_by c t)))
    by true = (tt, tt)
    by false = (tt, tt)
Follows-go_drain c (outcome.Refused j e) t = (tt, tt)
Follows-go_drain c (outcome.Failed j) t = (tt, tt)

Follows-go_task : (c : ClientId) (k : Task) (io : List ℕ) (s : Stream) → Follows (go_task c k io s)
Follows-go_task c (task.Transfer x wanted) io s = Follows-go_transfer c x wanted io s
Follows-go_task c task.Drain io s = Follows-if (is_disconnected s.state) (fails errno.Ebadfd (left_by c s)) (Makes act.Watch s (go_drain c)) tt (Follows-go_drain c)

Follows-go : (c : ClientId) (io : List ℕ) (s : Stream) → Follows (go c io s)
Follows-go c io s = by (waiting_of c s.sleepers)
  where
    by : (k : Option Task) → Follows (go_call k c io s)
    by None = tt
    by (Some p) = Follows-if (nat_eq (length io) (length_of p s)) (go_task c p io s) (fails errno.Einval s) (Follows-go_task c p io s) tt

Follows-updated_event : (e : Option Errno) (s : Stream) (f : Stream → Program) → ((t : Stream) → Follows (f t)) → Follows (unless e s (updated_or_epipe s f))
Follows-updated_event e s f h = Follows-unless e s (updated_or_epipe s f) (Follows-updated_or_epipe s f h)

Follows-event : (e : Call) (c : ClientId) (linked : Bool) (io : List ℕ) (s : Stream) → Follows (event e c linked io s)
Follows-event call.OpenSub c l io s = Follows-if (is_closed s.state) (says reply.Ok (record s { state = state.Opened })) (fails errno.Ebusy s) tt tt
Follows-event call.CloseSub c l io s = Follows-unless (when (l || nat_lt 0 s.mappings || is_busy s) errno.Ebusy) s (says reply.Ok (closed s)) tt
Follows-event (call.HwParams g) c l io s = Follows-unless (table kind.HwParams s then if_held s) s (if accepts s.model s.long_max g then says reply.Ok (set_setup (setup_of g s.long_max) state.Setup (boundary_of (buffer_of g) s.long_max) s) else fails errno.Einval (freed s)) (Follows-if (accepts s.model s.long_max g) (says reply.Ok (set_setup (setup_of g s.long_max) state.Setup (boundary_of (buffer_of g) s.long_max) s)) (fails errno.Einval (freed s)) tt tt)
Follows-event call.HwFree c l io s = Follows-unless (table kind.HwFree s then if_held s) s (says reply.Ok (freed s)) tt
Follows-event (call.SwParams w) c l io s = Follows-unless (table kind.SwParams s then when (refuses_sw s.setup.buffer s.setup.boundary w) errno.Einval) s (says reply.Ok (set_sw w s)) tt
Follows-event call.Prepare c l io s = Follows-act_alone (act.Prepare (is_paused s.state || is_suspended s.state)) s
Follows-event call.Start c l io s = Follows-act_alone act.Start s
Follows-event call.DropNow c l io s = Follows-unless (table kind.DropNow s) s (act_alone (act.Stop state.Setup) s) (Follows-act_alone (act.Stop state.Setup) s)
Follows-event (call.Drain m) c l io s = Follows-drain c m s
Follows-event call.PausePush c l io s = Follows-act_alone act.Pause s
Follows-event call.PauseRelease c l io s = Follows-act_alone act.Release s
Follows-event call.Suspend c l io s = Follows-act_alone act.Suspend s
Follows-event call.Resume c l io s = Follows-act_alone act.Resume s
Follows-event call.Xrun c l io s = Follows-unless (table kind.Xrun s) s (if is_running s.state then act_alone (act.Stop state.Xrun) s else says reply.Ok s) (Follows-if (is_running s.state) (act_alone (act.Stop state.Xrun) s) (says reply.Ok s) (Follows-act_alone (act.Stop state.Xrun) s) tt)
Follows-event (call.Write w m) c l io s = Follows-write c w m io s
Follows-event (call.Read w m n) c l io s = Follows-read c w m n s
Follows-event (call.Rewind n) c l io s = Follows-if (nat_eq n 0) (says (reply.Frames 0) s) (unless (table kind.Rewind s) s (updated_or_epipe s (rewound n))) tt (Follows-updated_event (table kind.Rewind s) s (rewound n) (λ t. tt))
Follows-event (call.Forward n) c l io s = Follows-if (nat_eq n 0) (says (reply.Frames 0) s) (unless (table kind.Forward s) s (updated_or_epipe s (forwarded n))) tt (Follows-updated_event (table kind.Forward s) s (forwarded n) (λ t. tt))
Follows-event call.Hwsync c l io s = Follows-updated_event (table kind.Hwsync s) s (says reply.Ok) (λ t. tt)
Follows-event call.Delay c l io s = Follows-updated_event (table kind.Delay s) s (λ t. says (delay t) t) (λ t. tt)
Follows-event (call.SyncPtr p) c l io s = Follows-unless (table kind.SyncPtr s then when (nat_le s.setup.boundary p) errno.Einval) s (says (reply.Ptrs (page (sync_to p s))) (sync_to p s)) tt
Follows-event call.Status c l io s = Follows-updating s (λ u t. says (reply.Ptrs (page t)) t) (λ u t o. (tt, tt))
Follows-event call.PageNow c l io s = tt
Follows-event call.Poll c l io s = tt
Follows-event call.Map c l io s = Follows-unless (table kind.Map s then (when (not (is_mapped_access s.setup.config)) errno.Einval then when (nat_le 65535 s.mappings) errno.Ebusy)) s (says reply.Ok (set_mappings (s.mappings + 1) s)) tt
Follows-event call.Unmap c l io s = Follows-unless (when (nat_eq s.mappings 0) errno.Einval) s (says reply.Ok (set_mappings (s.mappings - 1) s)) tt
Follows-event (call.Store o) c l io s = let n : ℕ = length io / s.setup.frame_bytes in Follows-unless (when (not (is_playback s.dir) || nat_eq s.mappings 0 || not (is_whole s io) || nat_lt s.setup.buffer (o + n)) errno.Einval) s (hands (reply.Frames n) (frames_in s io) (record s { puts = put_at o (frames_in s io) s.puts })) tt
Follows-event (call.Load o n) c l io s = Follows-unless (when (nat_eq s.mappings 0 || nat_lt s.setup.buffer (o + n)) errno.Einval) s (hands (reply.Frames n) (standing_at s.puts s.setup.buffer o n (zero_frame s)) s) tt
Follows-event (call.Link j) c l io s = tt
Follows-event call.Unlink c l io s = Follows-unless (when (not l) errno.Ealready) s (says reply.Ok s) tt
Follows-event call.Go c l io s = Follows-go c io s
Follows-event (call.MoveBy n) c l io s = tt
Follows-event call.Irq c l io s = Follows-updating s (λ u. says reply.Ok) (λ u t o. (tt, tt))
Follows-event (call.FailAt i) c l io s = Follows-if (nat_le 1 i && nat_le i 64) (says reply.Ok (plan_set i s)) (fails errno.Einval s) tt tt
Follows-event call.Give c l io s = Follows-unless (when (is_bare s || is_playback s.dir || not (is_whole s io)) errno.Einval) s (hands reply.Ok (frames_in s io) (record s { card = record s.card { to_give = frames_in s io } })) tt
Follows-event call.Unplug c l io s = Follows-unless (table kind.Unplug s) s (if s.card.runs then making (act.Stop state.Setup) s unplug_alone else unplug_alone s) (Follows-if s.card.runs (making (act.Stop state.Setup) s unplug_alone) (unplug_alone s) (Follows-making (act.Stop state.Setup) s unplug_alone (λ t. (tt, tt))) tt)

Follows-program : (e : Call) (c : ClientId) (linked : Bool) (io : List ℕ) (s : Stream) → Follows (program e c linked io s)
Follows-program e c l io s = Follows-if (is_closed s.state && not (opens e)) (fails errno.Enxio s) (event e c l io s) tt (Follows-event e c l io s)

-- what a program makes, as one member's log has it

abbrev begins : Act → Outcome → List Part → Bool
begins a o [] = true
begins a o (q ∷ ps) = may_follow a o q.act

both_true : (a b : Bool) → a ≡ true → b ≡ true → (a && b) ≡ true
both_true true b h k = k
both_true false b h k = h

begins_so : (k : SubId) (a : Act) (o : Outcome) (x : Program) (ps : List Part) (b : Answer) (t : Stream) → MayFollow a o x → Plays k x ps b t → begins a o ps ≡ true
begins_so k a o x [] b t h run = refl
begins_so k a o (Ends c s) (q ∷ ps) b t h run = absurd run
begins_so k a o (Makes c s f) (q ∷ ps) b t h run = subst (λ d. may_follow a o d ≡ true) (sym run.0) h

goes_as : (p : Part) (ps : List Part) → goes_before p ps ≡ begins p.act p.outcome ps
goes_as p [] = refl
goes_as p (q ∷ ps) = refl

pub follow_played : (k : SubId) (x : Program) (ps : List Part) (b : Answer) (t : Stream) → Follows x → Plays k x ps b t → follow ps ≡ true
follow_played k x [] b t h run = refl
follow_played k (Ends c s) (p ∷ ps) b t h run = absurd run
follow_played k (Makes a s f) (p ∷ ps) b t h run =
    let next = f p.outcome (joined p s) in
    let one : begins p.act p.outcome ps ≡ true = begins_so k p.act p.outcome next ps b t (subst (λ d. MayFollow d p.outcome next) (sym run.0) (h p.outcome (joined p s)).0) run.2 in
    both_true (goes_before p ps) (follow ps) (goes_as p ps ∙ one) (follow_played k next ps b t (h p.outcome (joined p s)).1 run.2)

-- another member's log has the same acts
same_before : (j k : SubId) (js : List SubId) (d : Acted) (ds : List Acted) → goes_before (part_of j js d) (parts_of j js ds) ≡ goes_before (part_of k js d) (parts_of k js ds)
same_before j k js d [] = refl
same_before j k js d (e ∷ ds) = refl

follow_same : (j k : SubId) (js : List SubId) (ds : List Acted) → follow (parts_of j js ds) ≡ follow (parts_of k js ds)
follow_same j k js [] = refl
follow_same j k js (d ∷ ds) = ap (λ (z : Bool × Bool). z.0 && z.1) (λ i. (same_before j k js d ds i, follow_same j k js ds i))

pub acts_follow : RunsDecompose → EventActsFollow
acts_follow decomposes e c k io ms apart at j =
    let p : Program = program e c (nat_lt 1 (length ms)) io (stream_of k ms) in
    follow_same j k (subs ms) (run p k ms).acts
    ∙ follow_played k p (parts_of k (subs ms) (run p k ms).acts) (run p k ms).answer (stream_of k (run p k ms).members) (Follows-program e c (nat_lt 1 (length ms)) io (stream_of k ms)) (decomposes p k ms apart at).own

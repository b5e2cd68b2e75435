-- A step keeps the calls in progress on each stream of distinct clients.
use Rattle.pcm_base.specs.Boundary.{boundary_of}
use Rattle.pcm_base.specs.declared.act.Act.{Act}
use Rattle.pcm_base.specs.declared.act.Outcome.{Outcome}
use Rattle.pcm_base.specs.declared.act.Updated.{Updated}
use Rattle.pcm_base.specs.declared.act.Vote.{Vote}
use Rattle.pcm_base.specs.declared.call.Call.{Call}
use Rattle.pcm_base.specs.declared.call.Layout.{Layout}
use Rattle.pcm_base.specs.declared.call.Mode.{Mode}
use Rattle.pcm_base.specs.declared.ids.ClientId.{ClientId}
use Rattle.pcm_base.specs.declared.ids.SubId.{SubId}
use Rattle.pcm_base.specs.declared.reply.Reply.{Reply}
use Rattle.pcm_base.specs.declared.sleeper.Task.{Task}
use Rattle.pcm_base.specs.declared.sleeper.Xfer.{Xfer}
use Rattle.pcm_base.specs.declared.state.Dir.{Dir}
use Rattle.pcm_base.specs.declared.state.Errno.{Errno}
use Rattle.pcm_base.specs.declared.state.State.{State}
use Rattle.pcm_base.specs.declared.votes.Acted.{Acted}
use Rattle.pcm_base.specs.model.Acts.{acted, after_all, members_after, subs, table}
use Rattle.pcm_base.specs.model.Allowed.{accepts, buffer_of}
use Rattle.pcm_base.specs.model.Events.{closed, delay, drain, drain_now, event, forwarded, freed, go, go_drain, go_on, go_task, go_transfer, hands, if_held, is_busy, is_mapped_access, left_by, length_of, opens, others_than, page, plan_set, program, rewound, set_mappings, set_setup, set_sw, setup_of, unplug_alone, waiting_of, watch, go_call, go_transfer_in}
use Rattle.pcm_base.specs.model.Frame.{Frame}
use Rattle.pcm_base.specs.model.Group.{Run, group_step, mark, put_stream, run, run_event, stream_of}
use Rattle.pcm_base.specs.model.Movement.{Movement, carried, carried_frames, given_by, move, taken_by, taken_bytes, carried_by}
use Rattle.pcm_base.specs.model.PointerCalls.{on_by, sync_to}
use Rattle.pcm_base.specs.model.Program.{Ends, Makes, Program, act_alone, after_found, fails, going_on, making, or_epipe, says, unless, updated_or_epipe, updating}
use Rattle.pcm_base.specs.model.Replay.{Part, is_member, joined, part_of}
use Rattle.pcm_base.specs.model.Sleep.{group_drains, wake_members}
use Rattle.pcm_base.specs.model.Software.{refuses_sw}
use Rattle.pcm_base.specs.model.Standing.{put_at, standing_at}
use Rattle.pcm_base.specs.model.Stream.{Member, Stream, Waiting, avail, is_bare, zero_frame}
use Rattle.pcm_base.specs.model.Transfer.{after_moves, after_start, frames_by, frames_in, frames_or, is_whole, misfit, put_next, read, read_next, read_on, sleeping, start_reading, starting_halt, stuck, tells, waiting_for, write, write_from, write_on, write_plain, stuck_in}
use Rattle.pcm_base.specs.model.Update.{Refreshed, found, moved_up, settled, update}
use Rattle.pcm_base.specs.model.Words.{is_closed, is_disconnected, is_draining, is_paused, is_playback, is_prepared, is_running, is_suspended, when, ◌then◌}
use Rattle.pcm_base.specs.model.World.{is_go}
use Rattle.pcm_laws.proofs.CallsInProgress.{IsFree, distinct-append, free-others_than}
use Rattle.pcm_laws.proofs.Decomposition.{stream_of-members_after, stream_of-put_stream_same, subs-members_after, subs-put_stream}
use Rattle.pcm_laws.proofs.Leaves.{sleepers-after}
use Rattle.pcm_laws.specs.Waiting.{AllHaveDistinctClients, HaveDistinctClients}
use Rattle.std.proofs.Common.{Bool, List, [], ap, cond, drop, false, if◌then◌else◌, length, min, nat_eq, nat_le, nat_lt, not, refl, subst, sym, take, true, ℕ, ◌&&◌, ◌++◌, ◌+◌, ◌-◌, ◌/◌, ◌||◌, ◌∙◌, ◌∷◌, ◌≡◌}
use Rattle.std.specs.declared.option.Option.{Option}
use Rattle.std.specs.declared.option.Option.TheVariants.{None, Some}
use Rattle.pcm_base.specs.declared.act.Act.TheVariants as act
use Rattle.pcm_base.specs.declared.act.Outcome.TheVariants as outcome
use Rattle.pcm_base.specs.declared.act.Updated.TheVariants as updated
use Rattle.pcm_base.specs.declared.call.Call.TheVariants as call
use Rattle.pcm_base.specs.declared.call.CallKind.TheVariants as kind
use Rattle.pcm_base.specs.declared.call.Mode.TheVariants as mode
use Rattle.pcm_base.specs.declared.reply.Reply.TheVariants as reply
use Rattle.pcm_base.specs.declared.sleeper.Task.TheVariants as task
use Rattle.pcm_base.specs.declared.state.Dir.TheVariants as dir
use Rattle.pcm_base.specs.declared.state.Errno.TheVariants as errno
use Rattle.pcm_base.specs.declared.state.State.TheVariants as state

-- streams and programs

abbrev AreDistinct : Stream → Type 0
AreDistinct s = HaveDistinctClients s.sleepers

-- each stream that the program comes to, whatever its acts make of it, has calls of distinct clients
abbrev KeepsDistinct : Program → Type 0
KeepsDistinct (Ends a s) = AreDistinct s
KeepsDistinct (Makes a s f) = AreDistinct s × ((o : Outcome) (t : Stream) → t.sleepers ≡ s.sleepers → KeepsDistinct (f o t))

distinct_as : (s t : Stream) → t.sleepers ≡ s.sleepers → AreDistinct s → AreDistinct t
distinct_as s t e d = subst HaveDistinctClients (sym e) d

free_as : (c : ClientId) (s t : Stream) → t.sleepers ≡ s.sleepers → IsFree c s.sleepers → IsFree c t.sleepers
free_as c s t e d = subst (IsFree c) (sym e) d

KeepsDistinct-unless : (e : Option Errno) (s : Stream) (p : Program) → AreDistinct s → KeepsDistinct p → KeepsDistinct (unless e s p)
KeepsDistinct-unless (Some e) s p d h = d
KeepsDistinct-unless None s p d h = h

KeepsDistinct-if : (b : Bool) (p q : Program) → KeepsDistinct p → KeepsDistinct q → KeepsDistinct (cond b p q)
KeepsDistinct-if true p q h k = h
KeepsDistinct-if false p q h k = k

KeepsDistinct-going_on : (f : Stream → Program) (o : Outcome) (t : Stream) → AreDistinct t → KeepsDistinct (f t) → KeepsDistinct (going_on f o t)
KeepsDistinct-going_on f outcome.Done t d h = h
KeepsDistinct-going_on f (outcome.Refused j e) t d h = d
KeepsDistinct-going_on f (outcome.Failed j) t d h = d

KeepsDistinct-making : (a : Act) (s : Stream) (f : Stream → Program) → AreDistinct s → ((t : Stream) → t.sleepers ≡ s.sleepers → KeepsDistinct (f t)) → KeepsDistinct (making a s f)
KeepsDistinct-making a s f d h = (d, λ o t e. KeepsDistinct-going_on f o t (distinct_as s t e d) (h t e))

KeepsDistinct-act_alone : (a : Act) (s : Stream) → AreDistinct s → KeepsDistinct (act_alone a s)
KeepsDistinct-act_alone a s d = KeepsDistinct-making a s (says reply.Ok) d (λ t e. distinct_as s t e d)

-- updates

sleepers-settled : (u : Updated) (s : Stream) → (settled u s).sleepers ≡ s.sleepers
sleepers-settled updated.Nothing s = refl
sleepers-settled updated.StopXrun s = refl
sleepers-settled updated.DrainDone s = refl

sleepers-update : (s : Stream) → (update s).stream.sleepers ≡ s.sleepers
sleepers-update s = by s.card.runs
  where
    now : Refreshed
    now = record { found = found (moved_up s); stream = settled (found (moved_up s)) (moved_up s) }

    same : Refreshed
    same = record { found = updated.Nothing; stream = s }

    by : (b : Bool) → (cond b (record { found = found (moved_up s); stream = settled (found (moved_up s)) (moved_up s) }) (let r : Refreshed = record { found = updated.Nothing; stream = s } in r)).stream.sleepers ≡ s.sleepers
    by true = sleepers-settled (found (moved_up s)) (moved_up s)
    by false = refl

KeepsDistinct-after_found : (f : Updated → Stream → Program) (s : Stream) → AreDistinct s → ((u : Updated) (t : Stream) → t.sleepers ≡ s.sleepers → KeepsDistinct (f u t))
    → (u : Updated) (t : Stream) → t.sleepers ≡ s.sleepers → KeepsDistinct (after_found f u t)
KeepsDistinct-after_found f s d h updated.Nothing t e = h updated.Nothing t e
KeepsDistinct-after_found f s d h updated.DrainDone t e = h updated.DrainDone t e
KeepsDistinct-after_found f s d h updated.StopXrun t e = (distinct_as s t e d, λ o v g. h updated.StopXrun v (g ∙ e))

KeepsDistinct-updating : (s : Stream) (f : Updated → Stream → Program) → AreDistinct s → ((u : Updated) (t : Stream) → t.sleepers ≡ s.sleepers → KeepsDistinct (f u t)) → KeepsDistinct (updating s f)
KeepsDistinct-updating s f d h = KeepsDistinct-after_found f s d h (update s).found (update s).stream (sleepers-update s)

KeepsDistinct-or_epipe : (f : Stream → Program) (s : Stream) → AreDistinct s → ((t : Stream) → t.sleepers ≡ s.sleepers → KeepsDistinct (f t)) → (u : Updated) (t : Stream) → t.sleepers ≡ s.sleepers → KeepsDistinct (or_epipe f u t)
KeepsDistinct-or_epipe f s d h updated.Nothing t e = h t e
KeepsDistinct-or_epipe f s d h updated.DrainDone t e = distinct_as s t e d
KeepsDistinct-or_epipe f s d h updated.StopXrun t e = distinct_as s t e d

KeepsDistinct-updated_or_epipe : (s : Stream) (f : Stream → Program) → AreDistinct s → ((t : Stream) → t.sleepers ≡ s.sleepers → KeepsDistinct (f t)) → KeepsDistinct (updated_or_epipe s f)
KeepsDistinct-updated_or_epipe s f d h = KeepsDistinct-updating s (or_epipe f) d (KeepsDistinct-or_epipe f s d h)

-- transfers of a client that has no call in progress on the stream

KeepsDistinct-stuck : (c : ClientId) (x : Xfer) (fs : List Frame) (r : ℕ) (s : Stream) → IsFree c s.sleepers → KeepsDistinct (stuck c x fs r s)
KeepsDistinct-stuck c x fs r s d = by (not x.writing && is_draining s.state) x.mode
  where
    by : (b : Bool) (m : Mode) → KeepsDistinct (cond b (Makes (act.Stop state.Setup) s (λ o. tells (reply.Frames (x.moved + length fs)) x fs)) (stuck_in m c x fs r s))
    by true m = (d.distinct, λ o t e. distinct_as s t e d.distinct)
    by false mode.NonBlock = d.distinct
    by false mode.Block = distinct-append (waiting_for c x r (x.moved + length fs) (min r s.setup.sw.avail_min)) s.sleepers d.distinct d.free

KeepsDistinct-after_moves : (c : ClientId) (x : Xfer) (fs : List Frame) (r : ℕ) (s : Stream) → IsFree c s.sleepers → KeepsDistinct (after_moves c x fs r s)
KeepsDistinct-after_moves c x fs r s d = KeepsDistinct-if (nat_eq r 0) (tells (reply.Frames (x.moved + length fs)) x fs s) (stuck c x fs r s) d.distinct (KeepsDistinct-stuck c x fs r s d)

KeepsDistinct-write_plain : (c : ClientId) (x : Xfer) (fs ws : List Frame) (s : Stream) → IsFree c s.sleepers → KeepsDistinct (write_plain c x fs ws s)
KeepsDistinct-write_plain c x fs ws s d =
    let n : ℕ = min (length ws) (avail s) in
    KeepsDistinct-after_moves c x (fs ++ take n ws) (length ws - n) (put_next (take n ws) s) d

KeepsDistinct-after_start : (c : ClientId) (x : Xfer) (fs ws : List Frame) (o : Outcome) (s : Stream) → IsFree c s.sleepers → KeepsDistinct (after_start c x fs ws o s)
KeepsDistinct-after_start c x fs ws outcome.Done s d = KeepsDistinct-write_plain c x fs ws s d
KeepsDistinct-after_start c x fs ws (outcome.Refused j e) s d = d.distinct
KeepsDistinct-after_start c x fs ws (outcome.Failed j) s d = d.distinct

KeepsDistinct-write_from : (c : ClientId) (x : Xfer) (fs ws : List Frame) (s : Stream) (o : Option ℕ) → IsFree c s.sleepers → KeepsDistinct (write_from c x fs ws s o)
KeepsDistinct-write_from c x fs ws s None d = KeepsDistinct-write_plain c x fs ws s d
KeepsDistinct-write_from c x fs ws s (Some t) d = (d.distinct, λ o v e. KeepsDistinct-after_start c x (fs ++ take t ws) (drop t ws) o v (free_as c s v e d))

KeepsDistinct-write_on : (c : ClientId) (x : Xfer) (fs ws : List Frame) (s : Stream) → IsFree c s.sleepers → KeepsDistinct (write_on c x fs ws s)
KeepsDistinct-write_on c x fs ws s d = KeepsDistinct-write_from c x fs ws s (starting_halt s (min (length ws) (avail s))) d

KeepsDistinct-read_on : (c : ClientId) (x : Xfer) (fs : List Frame) (r : ℕ) (s : Stream) → IsFree c s.sleepers → KeepsDistinct (read_on c x fs r s)
KeepsDistinct-read_on c x fs r s d =
    let n : ℕ = min r (avail s) in
    KeepsDistinct-after_moves c x (fs ++ read_next n s) (r - n) (on_by n s) d

KeepsDistinct-write : (c : ClientId) (w : Layout) (m : Mode) (io : List ℕ) (s : Stream) → IsFree c s.sleepers → KeepsDistinct (write c w m io s)
KeepsDistinct-write c w m io s d =
    let n : ℕ = length io / s.setup.frame_bytes in
    let x : Xfer = record { writing = true; layout = w; mode = m; rest = n; moved = 0 } in
    let on : Stream → Program = write_on c x [] (frames_by w s io) in
    KeepsDistinct-unless (misfit s true w (is_whole s io)) s (if nat_eq n 0 then says (reply.Frames 0) s else unless (table kind.Write s) s (updated_or_epipe s on)) d.distinct
    (KeepsDistinct-if (nat_eq n 0) (says (reply.Frames 0) s) (unless (table kind.Write s) s (updated_or_epipe s on)) d.distinct
    (KeepsDistinct-unless (table kind.Write s) s (updated_or_epipe s on) d.distinct
    (KeepsDistinct-updated_or_epipe s on d.distinct (λ t e. KeepsDistinct-write_on c x [] (frames_by w s io) t (free_as c s t e d)))))

KeepsDistinct-start_reading : (c : ClientId) (x : Xfer) (s : Stream) → IsFree c s.sleepers → KeepsDistinct (start_reading c x s)
KeepsDistinct-start_reading c x s d = KeepsDistinct-if (is_prepared s.state && nat_le s.setup.sw.start_threshold x.rest) (making act.Start s (read_on c x [] x.rest)) (read_on c x [] x.rest s)
    (KeepsDistinct-making act.Start s (read_on c x [] x.rest) d.distinct (λ t e. KeepsDistinct-read_on c x [] x.rest t (free_as c s t e d))) (KeepsDistinct-read_on c x [] x.rest s d)

KeepsDistinct-read : (c : ClientId) (w : Layout) (m : Mode) (n : ℕ) (s : Stream) → IsFree c s.sleepers → KeepsDistinct (read c w m n s)
KeepsDistinct-read c w m n s d =
    let x : Xfer = record { writing = false; layout = w; mode = m; rest = n; moved = 0 } in
    KeepsDistinct-unless (misfit s false w (nat_le n 1048576)) s (if nat_eq n 0 then says (reply.Frames 0) s else unless (table kind.Read s) s (updated_or_epipe s (start_reading c x))) d.distinct
    (KeepsDistinct-if (nat_eq n 0) (says (reply.Frames 0) s) (unless (table kind.Read s) s (updated_or_epipe s (start_reading c x))) d.distinct
    (KeepsDistinct-unless (table kind.Read s) s (updated_or_epipe s (start_reading c x)) d.distinct
    (KeepsDistinct-updated_or_epipe s (start_reading c x) d.distinct (λ t e. KeepsDistinct-start_reading c x t (free_as c s t e d)))))

-- drains

drain_waits : (c : ClientId) (s t : Stream) → t.sleepers ≡ s.sleepers → IsFree c s.sleepers → HaveDistinctClients (t.sleepers ++ record { client = c; task = task.Drain } ∷ [])
drain_waits c s t e d = let f : IsFree c t.sleepers = free_as c s t e d in distinct-append (record { client = c; task = task.Drain }) t.sleepers f.distinct f.free

KeepsDistinct-watch : (c : ClientId) (s : Stream) (o : Outcome) (t : Stream) → t.sleepers ≡ s.sleepers → IsFree c s.sleepers → KeepsDistinct (watch c s o t)
KeepsDistinct-watch c s outcome.Done t e d = distinct_as s t e d.distinct
KeepsDistinct-watch c s (outcome.Refused j r) t e d = drain_waits c s t e d
KeepsDistinct-watch c s (outcome.Failed j) t e d = drain_waits c s t e d

KeepsDistinct-drain_now : (c : ClientId) (m : Mode) (s : Stream) → IsFree c s.sleepers → KeepsDistinct (drain_now c m s)
KeepsDistinct-drain_now c mode.NonBlock s d = KeepsDistinct-making act.Drain s (λ t. fails errno.Eagain t) d.distinct (λ t e. distinct_as s t e d.distinct)
KeepsDistinct-drain_now c mode.Block s d = KeepsDistinct-making act.Drain s (λ t. Makes act.Watch t (watch c t)) d.distinct
    (λ t e. let f : IsFree c t.sleepers = free_as c s t e d in (f.distinct, λ o v g. KeepsDistinct-watch c t o v g f))

KeepsDistinct-drain : (c : ClientId) (m : Mode) (s : Stream) → IsFree c s.sleepers → KeepsDistinct (drain c m s)
KeepsDistinct-drain c m s d =
    let p : Program = making act.Release s (drain_now c m) in
    KeepsDistinct-unless (table kind.Drain s) s (if is_paused s.state then p else drain_now c m s) d.distinct
    (KeepsDistinct-if (is_paused s.state) p (drain_now c m s) (KeepsDistinct-making act.Release s (drain_now c m) d.distinct (λ t e. KeepsDistinct-drain_now c m t (free_as c s t e d))) (KeepsDistinct-drain_now c m s d))

-- going on: the call is taken out first

KeepsDistinct-go_on : (c : ClientId) (x : Xfer) (io : List ℕ) (s : Stream) → IsFree c s.sleepers → KeepsDistinct (go_on c x io s)
KeepsDistinct-go_on c x io s d =
    let ws : List Frame = drop x.moved (frames_by x.layout s io) in
    KeepsDistinct-if x.writing (write_on c x [] ws s) (read_on c x [] x.rest s) (KeepsDistinct-write_on c x [] ws s d) (KeepsDistinct-read_on c x [] x.rest s d)

KeepsDistinct-go_transfer : (c : ClientId) (x : Xfer) (wanted : ℕ) (io : List ℕ) (s : Stream) → AreDistinct s → KeepsDistinct (go_transfer c x wanted io s)
KeepsDistinct-go_transfer c x wanted io s d = by s.state s.dir
  where
    gone : IsFree c (others_than c s.sleepers)
    gone = free-others_than c s.sleepers d

    may : KeepsDistinct (if nat_lt (avail s) wanted then says reply.Asleep s else go_on c x io (left_by c s))
    may = KeepsDistinct-if (nat_lt (avail s) wanted) (says reply.Asleep s) (go_on c x io (left_by c s)) d (KeepsDistinct-go_on c x io (left_by c s) (free-others_than c s.sleepers d))

    by : (t : State) (w : Dir) → KeepsDistinct (go_transfer_in t w c x wanted io s)
    by state.Prepared w = may
    by state.Running w = may
    by state.Paused w = may
    by state.Suspended w = gone.distinct
    by state.Disconnected w = gone.distinct
    by state.Xrun w = gone.distinct
    by state.Draining dir.Playback = gone.distinct
    by state.Draining dir.Capture = KeepsDistinct-go_on c x io (left_by c s) gone
    by state.Closed w = gone.distinct
    by state.Opened w = gone.distinct
    by state.Setup w = gone.distinct

KeepsDistinct-go_drain : (c : ClientId) (o : Outcome) (t : Stream) → AreDistinct t → KeepsDistinct (go_drain c o t)
KeepsDistinct-go_drain c outcome.Done t d =
    let f : IsFree c (others_than c t.sleepers) = free-others_than c t.sleepers d in
    KeepsDistinct-if (is_suspended t.state) (fails errno.Estrpipe (left_by c t)) (says reply.Ok (left_by c t)) f.distinct f.distinct
KeepsDistinct-go_drain c (outcome.Refused j e) t d = d
KeepsDistinct-go_drain c (outcome.Failed j) t d = d

KeepsDistinct-go_task : (c : ClientId) (q : Task) (io : List ℕ) (s : Stream) → AreDistinct s → KeepsDistinct (go_task c q io s)
KeepsDistinct-go_task c (task.Transfer x wanted) io s d = KeepsDistinct-go_transfer c x wanted io s d
KeepsDistinct-go_task c task.Drain io s d =
    let f : IsFree c (others_than c s.sleepers) = free-others_than c s.sleepers d in
    KeepsDistinct-if (is_disconnected s.state) (fails errno.Ebadfd (left_by c s)) (Makes act.Watch s (go_drain c)) f.distinct (d, λ o t e. KeepsDistinct-go_drain c o t (distinct_as s t e d))

KeepsDistinct-go : (c : ClientId) (io : List ℕ) (s : Stream) → AreDistinct s → KeepsDistinct (go c io s)
KeepsDistinct-go c io s d = by (waiting_of c s.sleepers)
  where
    by : (q : Option Task) → KeepsDistinct (go_call q c io s)
    by None = d
    by (Some p) = KeepsDistinct-if (nat_eq (length io) (length_of p s)) (go_task c p io s) (fails errno.Einval s) (KeepsDistinct-go_task c p io s d) d

-- the card's movement leaves the calls

sleepers-carried : (n : ℕ) (s : Stream) (w : Dir) → (carried_by w n s).sleepers ≡ s.sleepers
sleepers-carried n s dir.Playback = refl
sleepers-carried n s dir.Capture = refl

sleepers-if : (b : Bool) (x y : Movement) (ps : List Waiting) → x.stream.sleepers ≡ ps → y.stream.sleepers ≡ ps → (cond b x y).stream.sleepers ≡ ps
sleepers-if true x y ps e f = e
sleepers-if false x y ps e f = f

sleepers-move : (n : ℕ) (s : Stream) → (move n s).stream.sleepers ≡ s.sleepers
sleepers-move n s =
    let idle : Movement = record { reply = reply.Idle; frames = []; stream = s } in
    let late : Movement = record { reply = reply.Late (s.setup.buffer - 1 - (s.at.card - s.at.hw)); frames = []; stream = s } in
    let limit : Movement = record { reply = reply.Limit (taken_bytes n s); frames = []; stream = s } in
    let moved : Movement = record { reply = reply.Moved n; frames = carried_frames n s; stream = carried n s } in
    let many : Bool = nat_lt 67108864 (taken_bytes n s) in
    let far : Bool = nat_le (s.at.hw + s.setup.buffer) (s.at.card + n) in
    sleepers-if (not s.card.runs) idle (cond far late (cond many limit moved)) s.sleepers refl
    (sleepers-if far late (cond many limit moved) s.sleepers refl
    (sleepers-if many limit moved s.sleepers refl (sleepers-carried n s s.dir)))

-- events

KeepsDistinct-updated_event : (e : Option Errno) (s : Stream) (f : Stream → Program) → AreDistinct s → ((t : Stream) → t.sleepers ≡ s.sleepers → KeepsDistinct (f t)) → KeepsDistinct (unless e s (updated_or_epipe s f))
KeepsDistinct-updated_event e s f d h = KeepsDistinct-unless e s (updated_or_epipe s f) d (KeepsDistinct-updated_or_epipe s f d h)

KeepsDistinct-event : (e : Call) (c : ClientId) (linked : Bool) (io : List ℕ) (s : Stream) → (is_go e ≡ false → waiting_of c s.sleepers ≡ None) → AreDistinct s → KeepsDistinct (event e c linked io s)
KeepsDistinct-event call.OpenSub c l io s f d = KeepsDistinct-if (is_closed s.state) (says reply.Ok (record s { state = state.Opened })) (fails errno.Ebusy s) d d
KeepsDistinct-event call.CloseSub c l io s f d = KeepsDistinct-unless (when (l || nat_lt 0 s.mappings || is_busy s) errno.Ebusy) s (says reply.Ok (closed s)) d d
KeepsDistinct-event (call.HwParams g) c l io s f d =
    KeepsDistinct-unless (table kind.HwParams s then if_held s) s (if accepts s.model s.long_max g then says reply.Ok (set_setup (setup_of g s.long_max) state.Setup (boundary_of (buffer_of g) s.long_max) s) else fails errno.Einval (freed s)) d
    (KeepsDistinct-if (accepts s.model s.long_max g) (says reply.Ok (set_setup (setup_of g s.long_max) state.Setup (boundary_of (buffer_of g) s.long_max) s)) (fails errno.Einval (freed s)) d d)
KeepsDistinct-event call.HwFree c l io s f d = KeepsDistinct-unless (table kind.HwFree s then if_held s) s (says reply.Ok (freed s)) d d
KeepsDistinct-event (call.SwParams w) c l io s f d = KeepsDistinct-unless (table kind.SwParams s then when (refuses_sw s.setup.buffer s.setup.boundary w) errno.Einval) s (says reply.Ok (set_sw w s)) d d
KeepsDistinct-event call.Prepare c l io s f d = KeepsDistinct-act_alone (act.Prepare (is_paused s.state || is_suspended s.state)) s d
KeepsDistinct-event call.Start c l io s f d = KeepsDistinct-act_alone act.Start s d
KeepsDistinct-event call.DropNow c l io s f d = KeepsDistinct-unless (table kind.DropNow s) s (act_alone (act.Stop state.Setup) s) d (KeepsDistinct-act_alone (act.Stop state.Setup) s d)
KeepsDistinct-event (call.Drain m) c l io s f d = KeepsDistinct-drain c m s (record { distinct = d; free = f refl })
KeepsDistinct-event call.PausePush c l io s f d = KeepsDistinct-act_alone act.Pause s d
KeepsDistinct-event call.PauseRelease c l io s f d = KeepsDistinct-act_alone act.Release s d
KeepsDistinct-event call.Suspend c l io s f d = KeepsDistinct-act_alone act.Suspend s d
KeepsDistinct-event call.Resume c l io s f d = KeepsDistinct-act_alone act.Resume s d
KeepsDistinct-event call.Xrun c l io s f d =
    KeepsDistinct-unless (table kind.Xrun s) s (if is_running s.state then act_alone (act.Stop state.Xrun) s else says reply.Ok s) d
    (KeepsDistinct-if (is_running s.state) (act_alone (act.Stop state.Xrun) s) (says reply.Ok s) (KeepsDistinct-act_alone (act.Stop state.Xrun) s d) d)
KeepsDistinct-event (call.Write w m) c l io s f d = KeepsDistinct-write c w m io s (record { distinct = d; free = f refl })
KeepsDistinct-event (call.Read w m n) c l io s f d = KeepsDistinct-read c w m n s (record { distinct = d; free = f refl })
KeepsDistinct-event (call.Rewind n) c l io s f d =
    KeepsDistinct-if (nat_eq n 0) (says (reply.Frames 0) s) (unless (table kind.Rewind s) s (updated_or_epipe s (rewound n))) d
    (KeepsDistinct-updated_event (table kind.Rewind s) s (rewound n) d (λ t e. distinct_as s t e d))
KeepsDistinct-event (call.Forward n) c l io s f d =
    KeepsDistinct-if (nat_eq n 0) (says (reply.Frames 0) s) (unless (table kind.Forward s) s (updated_or_epipe s (forwarded n))) d
    (KeepsDistinct-updated_event (table kind.Forward s) s (forwarded n) d (λ t e. distinct_as s t e d))
KeepsDistinct-event call.Hwsync c l io s f d = KeepsDistinct-updated_event (table kind.Hwsync s) s (says reply.Ok) d (λ t e. distinct_as s t e d)
KeepsDistinct-event call.Delay c l io s f d = KeepsDistinct-updated_event (table kind.Delay s) s (λ t. says (delay t) t) d (λ t e. distinct_as s t e d)
KeepsDistinct-event (call.SyncPtr p) c l io s f d = KeepsDistinct-unless (table kind.SyncPtr s then when (nat_le s.setup.boundary p) errno.Einval) s (says (reply.Ptrs (page (sync_to p s))) (sync_to p s)) d d
KeepsDistinct-event call.Status c l io s f d = KeepsDistinct-updating s (λ u t. says (reply.Ptrs (page t)) t) d (λ u t e. distinct_as s t e d)
KeepsDistinct-event call.PageNow c l io s f d = d
KeepsDistinct-event call.Poll c l io s f d = d
KeepsDistinct-event call.Map c l io s f d = KeepsDistinct-unless (table kind.Map s then (when (not (is_mapped_access s.setup.config)) errno.Einval then when (nat_le 65535 s.mappings) errno.Ebusy)) s (says reply.Ok (set_mappings (s.mappings + 1) s)) d d
KeepsDistinct-event call.Unmap c l io s f d = KeepsDistinct-unless (when (nat_eq s.mappings 0) errno.Einval) s (says reply.Ok (set_mappings (s.mappings - 1) s)) d d
KeepsDistinct-event (call.Store o) c l io s f d =
    let n : ℕ = length io / s.setup.frame_bytes in
    KeepsDistinct-unless (when (not (is_playback s.dir) || nat_eq s.mappings 0 || not (is_whole s io) || nat_lt s.setup.buffer (o + n)) errno.Einval) s (hands (reply.Frames n) (frames_in s io) (record s { puts = put_at o (frames_in s io) s.puts })) d d
KeepsDistinct-event (call.Load o n) c l io s f d = KeepsDistinct-unless (when (nat_eq s.mappings 0 || nat_lt s.setup.buffer (o + n)) errno.Einval) s (hands (reply.Frames n) (standing_at s.puts s.setup.buffer o n (zero_frame s)) s) d d
KeepsDistinct-event (call.Link j) c l io s f d = d
KeepsDistinct-event call.Unlink c l io s f d = KeepsDistinct-unless (when (not l) errno.Ealready) s (says reply.Ok s) d d
KeepsDistinct-event call.Go c l io s f d = KeepsDistinct-go c io s d
KeepsDistinct-event (call.MoveBy n) c l io s f d = distinct_as s (move n s).stream (sleepers-move n s) d
KeepsDistinct-event call.Irq c l io s f d = KeepsDistinct-updating s (λ u. says reply.Ok) d (λ u t e. distinct_as s t e d)
KeepsDistinct-event (call.FailAt i) c l io s f d = KeepsDistinct-if (nat_le 1 i && nat_le i 64) (says reply.Ok (plan_set i s)) (fails errno.Einval s) d d
KeepsDistinct-event call.Give c l io s f d = KeepsDistinct-unless (when (is_bare s || is_playback s.dir || not (is_whole s io)) errno.Einval) s (hands reply.Ok (frames_in s io) (record s { card = record s.card { to_give = frames_in s io } })) d d
KeepsDistinct-event call.Unplug c l io s f d =
    KeepsDistinct-unless (table kind.Unplug s) s (if s.card.runs then making (act.Stop state.Setup) s unplug_alone else unplug_alone s) d
    (KeepsDistinct-if s.card.runs (making (act.Stop state.Setup) s unplug_alone) (unplug_alone s) (KeepsDistinct-making (act.Stop state.Setup) s unplug_alone d (λ t e. distinct_as s t e d)) d)

KeepsDistinct-program : (e : Call) (c : ClientId) (linked : Bool) (io : List ℕ) (s : Stream) → (is_go e ≡ false → waiting_of c s.sleepers ≡ None) → AreDistinct s → KeepsDistinct (program e c linked io s)
KeepsDistinct-program e c l io s f d = KeepsDistinct-if (is_closed s.state && not (opens e)) (fails errno.Enxio s) (event e c l io s) d (KeepsDistinct-event e c l io s f d)

-- groups

distinct-stream_of : (k : SubId) (ms : List Member) → AllHaveDistinctClients ms → AreDistinct (stream_of k ms)
distinct-stream_of k [] d = tt
distinct-stream_of k (m ∷ ms) d = by (nat_eq m.sub.0 k.0) (distinct-stream_of k ms d.1)
  where
    by : (b : Bool) → AreDistinct (stream_of k ms) → AreDistinct (cond b m.stream (stream_of k ms))
    by true h = d.0
    by false h = h

distinct-put_stream : (k : SubId) (s : Stream) (ms : List Member) → AreDistinct s → AllHaveDistinctClients ms → AllHaveDistinctClients (put_stream k s ms)
distinct-put_stream k s [] h d = tt
distinct-put_stream k s (m ∷ ms) h d = (by (nat_eq m.sub.0 k.0), distinct-put_stream k s ms h d.1)
  where
    by : (b : Bool) → AreDistinct (cond b s m.stream)
    by true = h
    by false = d.0

distinct-after_all : (a : Act) (o : Outcome) (vs : List Vote) (ms : List Member) → AllHaveDistinctClients ms → AllHaveDistinctClients (after_all a o vs ms)
distinct-after_all a o [] ms d = d
distinct-after_all a o (v ∷ vs) [] d = tt
distinct-after_all a o (v ∷ vs) (m ∷ ms) d = (subst HaveDistinctClients (sym (sleepers-after a v o m.stream)) d.0, distinct-after_all a o vs ms d.1)

distinct-run : (p : Program) (k : SubId) (ms : List Member) → is_member k (subs ms) ≡ true → KeepsDistinct p → AllHaveDistinctClients ms → AllHaveDistinctClients (run p k ms).members
distinct-run (Ends a s) k ms m h d = distinct-put_stream k s ms h d
distinct-run (Makes a s f) k ms m h d =
    let now : List Member = put_stream k s ms in
    let did : Acted = acted a now in
    let next : List Member = members_after did now in
    let here : is_member k (subs now) ≡ true = ap (is_member k) (subs-put_stream k s ms) ∙ m in
    let there : is_member k (subs next) ≡ true = ap (is_member k) (subs-members_after a now) ∙ here in
    let own : stream_of k next ≡ joined (part_of k (subs now) did) (stream_of k now) = stream_of-members_after a k (subs now) now refl here in
    let part : Part = part_of k (subs now) did in
    let same : (stream_of k next).sleepers ≡ s.sleepers =
    ap (λ t. t.sleepers) own ∙ (sleepers-after part.act part.vote part.outcome (stream_of k now) ∙ ap (λ t. t.sleepers) (stream_of-put_stream_same k s ms m)) in
    distinct-run (f did.outcome (stream_of k next)) k next there (h.1 did.outcome (stream_of k next) same)
    (distinct-after_all did.act did.outcome did.votes now (distinct-put_stream k s ms h.0 d))

pub distinct-run_event : (e : Call) (c : ClientId) (k : SubId) (io : List ℕ) (ms : List Member) → is_member k (subs ms) ≡ true → (is_go e ≡ false → waiting_of c (stream_of k ms).sleepers ≡ None)
    → AllHaveDistinctClients ms → AllHaveDistinctClients (run_event e c k io ms).members
distinct-run_event e c k io ms m f d = distinct-run (program e c (nat_lt 1 (length ms)) io (stream_of k ms)) k ms m (KeepsDistinct-program e c (nat_lt 1 (length ms)) io (stream_of k ms) f (distinct-stream_of k ms d)) d

-- marks and the wake check leave the calls

pub distinct-mark : (k : SubId) (r : Reply) (c : ClientId) (ms : List Member) → AllHaveDistinctClients ms → AllHaveDistinctClients (mark k r c ms)
distinct-mark k r c [] d = tt
distinct-mark k r c (m ∷ ms) d = (d.0, distinct-mark k r c ms d.1)

distinct-wake_members : (g : Bool) (ms : List Member) → AllHaveDistinctClients ms → AllHaveDistinctClients (wake_members g ms)
distinct-wake_members g [] d = tt
distinct-wake_members g (m ∷ ms) d = (d.0, distinct-wake_members g ms d.1)

pub distinct-group_step : (e : Call) (c : ClientId) (k : SubId) (io : List ℕ) (ms : List Member) → is_member k (subs ms) ≡ true → (is_go e ≡ false → waiting_of c (stream_of k ms).sleepers ≡ None)
    → AllHaveDistinctClients ms → AllHaveDistinctClients (group_step e c k io ms).members
distinct-group_step e c k io ms m f d =
    let r : Run = run_event e c k io ms in
    let now : List Member = mark k r.answer.reply c r.members in
    distinct-wake_members (group_drains now) now (distinct-mark k r.answer.reply c r.members (distinct-run_event e c k io ms m f d))

-- What a write has written, when it ends.
use Rattle.std.proofs.Common.{ℕ, ◌≡◌, ◌+◌, ◌-◌, ◌/◌, ◌≤◌, ◌<◌, ◌⊎◌, inl, inr, Bool, true, false, cond, not, ◌&&◌, nat_eq, nat_lt, List, [], ◌∷◌, ◌++◌, length, take, drop, min, if◌then◌else◌, refl, sym, ap, ◌∙◌, subst, arith, length-append}
use Rattle.std.proofs.lemmas.Bool.{cases_lt}
use Rattle.std.specs.declared.option.Option.{Option}
use Rattle.std.specs.declared.option.Option.TheVariants.{Some, None}
use Rattle.pcm_base.specs.declared.act.Act.{Act}
use Rattle.pcm_base.specs.declared.act.Act.TheVariants as act
use Rattle.pcm_base.specs.declared.act.Outcome.{Outcome}
use Rattle.pcm_base.specs.declared.act.Outcome.TheVariants as outcome
use Rattle.pcm_base.specs.declared.act.Updated.{Updated}
use Rattle.pcm_base.specs.declared.act.Updated.TheVariants as updated
use Rattle.pcm_base.specs.declared.act.Vote.{Vote}
use Rattle.pcm_base.specs.declared.act.Vote.TheVariants as vote
use Rattle.pcm_base.specs.declared.call.Call.{Call}
use Rattle.pcm_base.specs.declared.call.Call.TheVariants as call
use Rattle.pcm_base.specs.declared.call.CallKind.TheVariants as kind
use Rattle.pcm_base.specs.declared.call.Layout.{Layout}
use Rattle.pcm_base.specs.declared.call.Mode.{Mode}
use Rattle.pcm_base.specs.declared.call.Mode.TheVariants as mode
use Rattle.pcm_base.specs.declared.ids.ClientId.{ClientId}
use Rattle.pcm_base.specs.declared.ids.SubId.{SubId}
use Rattle.pcm_base.specs.declared.reply.Reply.TheVariants as reply
use Rattle.pcm_base.specs.declared.sleeper.Task.{Task}
use Rattle.pcm_base.specs.declared.sleeper.Task.TheVariants as task
use Rattle.pcm_base.specs.declared.sleeper.Xfer.{Xfer}
use Rattle.pcm_base.specs.declared.state.Dir.{Dir}
use Rattle.pcm_base.specs.declared.state.Dir.TheVariants as dir
use Rattle.pcm_base.specs.declared.state.Errno.{Errno}
use Rattle.pcm_base.specs.declared.state.Errno.TheVariants as errno
use Rattle.pcm_base.specs.declared.state.State.{State}
use Rattle.pcm_base.specs.declared.state.State.TheVariants as state
use Rattle.pcm_base.specs.model.Acts.{after, table}
use Rattle.pcm_base.specs.model.Events.{event, go, go_call, go_drain, go_on, go_task, go_transfer, go_transfer_in, left_by, length_of, opens, program, waiting_of}
use Rattle.pcm_base.specs.model.Frame.{Frame}
use Rattle.pcm_base.specs.model.Program.{Answer, Ends, Makes, Program, after_found, fails, or_epipe, says, unless, updated_or_epipe}
use Rattle.pcm_base.specs.model.Replay.{Fits, Part, Plays, joined}
use Rattle.pcm_base.specs.model.Sound.{Sound}
use Rattle.pcm_base.specs.model.Stream.{Stream, Setup, avail, zero_frame}
use Rattle.pcm_base.specs.model.Transfer.{after_moves, after_start, frames_by, is_whole, misfit, put_next, read_on, sleeping, starting_halt, stuck, stuck_in, tells, waiting_for, write, write_from, write_on, write_plain}
use Rattle.pcm_base.specs.model.Update.{Refreshed, found, moved_up, settled, update}
use Rattle.pcm_base.specs.model.Words.{is_closed, is_disconnected, is_draining, is_suspended}
use Rattle.pcm_laws.proofs.KeptByMoves.{Sound-update}
use Rattle.pcm_laws.proofs.KeptByPrograms.{Sound-left_by, Sound-put_next}
use Rattle.pcm_laws.proofs.KeptByVotes.{Sound-after}
use Rattle.pcm_laws.proofs.Leaves.{IsSameBesideActs-after}
use Rattle.pcm_stream.specs.KeepingUp.{is_prepare, writes}
use Rattle.pcm_stream.proofs.AheadLemmas.{Stays, stays-after, stays-put, stays-written}
use Rattle.pcm_stream.proofs.FitLemmas.{AllFit, fit-more, fit-of, fit-others}
use Rattle.pcm_stream.proofs.Walk.{halt_below, taken_fits}

-- ---- what a write does not change

pub record Facts (b : ℕ) (z : Frame) (s : Stream) : Type 0 where
  pub way : s.dir ≡ dir.Playback
  pub buffer : s.setup.buffer ≡ b
  pub zero : zero_frame s ≡ z
  pub fit : AllFit dir.Playback s.sleepers

-- a stream that is the same in these
facts-as : (b : ℕ) (z : Frame) (s t : Stream) → t.dir ≡ s.dir → t.setup ≡ s.setup → t.sleepers ≡ s.sleepers → Facts b z s → Facts b z t
facts-as b z s t d u w h = record {
  way = d ∙ h.way;
  buffer = ap (λ (k : Setup). k.buffer) u ∙ h.buffer;
  zero = ap (λ (k : Setup). zero_of k) u ∙ h.zero;
  fit = subst (AllFit dir.Playback) (sym w) h.fit;
}
  where
    zero_of : Setup → Frame
    zero_of k = zero_frame (record s { setup = k })

facts-after : (b : ℕ) (z : Frame) (a : Act) (v : Vote) (o : Outcome) (s : Stream) → Facts b z s → Facts b z (after a v o s)
facts-after b z a v o s h = let q = IsSameBesideActs-after a v o s in facts-as b z s (after a v o s) q.dir q.setup q.sleepers h

facts-settled : (b : ℕ) (z : Frame) (u : Updated) (s : Stream) → Facts b z s → Facts b z (settled u s)
facts-settled b z updated.Nothing s h = h
facts-settled b z updated.StopXrun s h = h
facts-settled b z updated.DrainDone s h = facts-as b z s (settled updated.DrainDone s) refl refl refl h

facts-update : (b : ℕ) (z : Frame) (s : Stream) → Facts b z s → Facts b z (update s).stream
facts-update b z s h = by s.card.runs
  where
    by : (r : Bool) → (let q : Refreshed = if r then record { found = found (moved_up s); stream = settled (found (moved_up s)) (moved_up s) } else record { found = updated.Nothing; stream = s } in Facts b z q.stream)
    by true = facts-settled b z (found (moved_up s)) (moved_up s) (facts-as b z s (moved_up s) refl refl refl h)
    by false = h

-- ---- what was written

-- position p, where it is one of those that these frames were put at, stays
abbrev Wrote : ℕ → ℕ → Frame → List Frame → Stream → Type 0
Wrote b p z fs s = s.at.appl ≤ p + length fs → p < s.at.appl → Stays b p z s

none-wrote : (b p : ℕ) (z : Frame) (s : Stream) → Wrote b p z [] s
none-wrote b p z s low high = absurd (omega (arith, low, high))

-- more frames are put
put-wrote : (b p : ℕ) (z : Frame) (fs gs : List Frame) (s : Stream) → length gs ≤ avail s → Facts b z s → Wrote b p z fs s → Wrote b p z (fs ++ gs) (put_next gs s)
put-wrote b p z fs gs s few f h low high = by (cases_lt p s.at.appl)
  where
    by : (p < s.at.appl) ⊎ (s.at.appl ≤ p) → Stays b p z (put_next gs s)
    by (inl l) = stays-put b p z gs s few (h (omega (arith, low, length-append fs gs)) l)
    by (inr l) = stays-written b p z gs s f.way f.buffer f.zero f.fit few l high

-- a start leaves the application position
start-appl : (v : Vote) (o : Outcome) (s : Stream) → (after act.Start v o s).at.appl ≡ s.at.appl
start-appl v outcome.Done s = refl
start-appl v (outcome.Refused k e) s = refl
start-appl vote.Yes (outcome.Failed k) s = refl
start-appl vote.Fail (outcome.Failed k) s = refl
start-appl (vote.Refuse e) (outcome.Failed k) s = refl
start-appl vote.Unasked (outcome.Failed k) s = refl

no_prepare : (o : Outcome) → is_prepare act.Start o ≡ false
no_prepare outcome.Done = refl
no_prepare (outcome.Refused k e) = refl
no_prepare (outcome.Failed k) = refl

start-wrote : (b p : ℕ) (z : Frame) (fs : List Frame) (v : Vote) (o : Outcome) (s : Stream) → Sound (after act.Start v o s) → Wrote b p z fs s → Wrote b p z fs (after act.Start v o s)
start-wrote b p z fs v o s sound h low high =
    let same : (after act.Start v o s).at.appl ≡ s.at.appl = start-appl v o s in
    stays-after b p z act.Start v o s (no_prepare o) sound (h (omega (arith, same, low)) (omega (arith, same, high)))

-- ---- the program of a write

-- each answer tells frames of which position p, where it is one of them, stays
abbrev Writes : ℕ → ℕ → Frame → SubId → Program → Type 0
Writes b p z k (Ends a s) = Wrote b p z a.frames s
Writes b p z k (Makes a s f) = (v : Vote) (o : Outcome) → Fits k s a v o → Writes b p z k (f o (after a v o s))

pub Plays-wrote : (b p : ℕ) (z : Frame) (k : SubId) (q : Program) (ps : List Part) (a : Answer) (t : Stream) → Plays k q ps a t → Writes b p z k q → Wrote b p z a.frames t
Plays-wrote b p z k (Ends x s) [] a t h g = subst (λ (y : Stream). Wrote b p z a.frames y) (sym h.1) (subst (λ (y : Answer). Wrote b p z y.frames s) (sym h.0) g)
Plays-wrote b p z k (Ends x s) (q ∷ ps) a t h g = absurd h
Plays-wrote b p z k (Makes x s f) [] a t h g = absurd h
Plays-wrote b p z k (Makes x s f) (q ∷ ps) a t h g =
    let fit : Fits k s x q.vote q.outcome = subst (λ y. Fits k s y q.vote q.outcome) h.0 h.1 in
    let next : Writes b p z k (f q.outcome (joined q s)) = subst (λ y. Writes b p z k (f q.outcome (joined (record { act = y; vote = q.vote; outcome = q.outcome }) s))) (sym h.0) (g q.vote q.outcome fit) in
    Plays-wrote b p z k (f q.outcome (joined q s)) ps a t h.2 next

unless-wrote : (b p : ℕ) (z : Frame) (k : SubId) (e : Option Errno) (s : Stream) (q : Program) → (e ≡ None → Writes b p z k q) → Writes b p z k (unless e s q)
unless-wrote b p z k (Some e) s q f = none-wrote b p z s
unless-wrote b p z k None s q f = f refl

if-wrote : (b p : ℕ) (z : Frame) (k : SubId) (t : Bool) (q r : Program) → (t ≡ true → Writes b p z k q) → (t ≡ false → Writes b p z k r) → Writes b p z k (cond t q r)
if-wrote b p z k true q r f g = f refl
if-wrote b p z k false q r f g = g refl

-- a writer that sleeps
sleeps-wrote : (b p : ℕ) (z : Frame) (c : ClientId) (x : Xfer) (fs : List Frame) (rest m wanted : ℕ) (s : Stream) → x.writing ≡ true → Wrote b p z fs s → Wrote b p z fs (sleeping (waiting_for c x rest m wanted) s)
sleeps-wrote b p z c x fs rest m wanted s y h low high =
    let q : Stays b p z s = h low high in
    record { way = q.way; buffer = q.buffer; zero = q.zero; near = q.near; written = q.written; stands = q.stands; fit = fit-more dir.Playback (waiting_for c x rest m wanted) s.sleepers q.fit y }

stuck-wrote : (b p : ℕ) (z : Frame) (k : SubId) (c : ClientId) (x : Xfer) (fs : List Frame) (r : ℕ) (s : Stream) → x.writing ≡ true → Wrote b p z fs s → Writes b p z k (stuck c x fs r s)
stuck-wrote b p z k c x fs r s y h = by (not x.writing && is_draining s.state) (ap (λ t. not t && is_draining s.state) y) x.mode
  where
    by : (q : Bool) → q ≡ false → (m : Mode) → Writes b p z k (cond q (Makes (act.Stop state.Setup) s (λ o. tells (reply.Frames (x.moved + length fs)) x fs)) (stuck_in m c x fs r s))
    by true e m = absurd (cc)
    by false e mode.NonBlock = h
    by false e mode.Block = sleeps-wrote b p z c x fs r (x.moved + length fs) (min r s.setup.sw.avail_min) s y h

moves-wrote : (b p : ℕ) (z : Frame) (k : SubId) (c : ClientId) (x : Xfer) (fs : List Frame) (r : ℕ) (s : Stream) → x.writing ≡ true → Wrote b p z fs s → Writes b p z k (after_moves c x fs r s)
moves-wrote b p z k c x fs r s y h = if-wrote b p z k (nat_eq r 0) (tells (reply.Frames (x.moved + length fs)) x fs s) (stuck c x fs r s) (λ _. h) (λ _. stuck-wrote b p z k c x fs r s y h)

plain-wrote : (b p : ℕ) (z : Frame) (k : SubId) (c : ClientId) (x : Xfer) (fs ws : List Frame) (s : Stream) → x.writing ≡ true → Facts b z s → Wrote b p z fs s → Writes b p z k (write_plain c x fs ws s)
plain-wrote b p z k c x fs ws s y f h =
    let n : ℕ = min (length ws) (avail s) in
    moves-wrote b p z k c x (fs ++ take n ws) (length ws - n) (put_next (take n ws) s) y (put-wrote b p z fs (take n ws) s (taken_fits n (avail s) ws (omega arith)) f h)

started-wrote : (b p : ℕ) (z : Frame) (k : SubId) (c : ClientId) (x : Xfer) (fs ws : List Frame) (o : Outcome) (s : Stream) → x.writing ≡ true → Facts b z s → Wrote b p z fs s → Writes b p z k (after_start c x fs ws o s)
started-wrote b p z k c x fs ws outcome.Done s y f h = plain-wrote b p z k c x fs ws s y f h
started-wrote b p z k c x fs ws (outcome.Refused j e) s y f h = h
started-wrote b p z k c x fs ws (outcome.Failed j) s y f h = h

from-wrote : (b p : ℕ) (z : Frame) (k : SubId) (c : ClientId) (x : Xfer) (ws : List Frame) (s : Stream) (o : Option ℕ) → ((t : ℕ) → o ≡ Some t → t ≤ avail s) → x.writing ≡ true → Sound s → Facts b z s → Writes b p z k (write_from c x [] ws s o)
from-wrote b p z k c x ws s None l y sound f = plain-wrote b p z k c x [] ws s y f (none-wrote b p z s)
from-wrote b p z k c x ws s (Some t) l y sound f =
    let few : length (take t ws) ≤ avail s = taken_fits t (avail s) ws (l t refl) in
    let u : Stream = put_next (take t ws) s in
    let g : Sound (put_next (take t ws) s) = Sound-put_next (take t ws) s few sound in
    let put : Facts b z (put_next (take t ws) s) = facts-as b z s (put_next (take t ws) s) refl refl refl f in
    let wrote : Wrote b p z (take t ws) (put_next (take t ws) s) = put-wrote b p z [] (take t ws) s few f (none-wrote b p z s) in
    λ v o q. started-wrote b p z k c x (take t ws) (drop t ws) o (after act.Start v o u) y (facts-after b z act.Start v o u put)
    (start-wrote b p z (take t ws) v o u (Sound-after k act.Start v o u refl q g) wrote)

write_on-wrote : (b p : ℕ) (z : Frame) (k : SubId) (c : ClientId) (x : Xfer) (ws : List Frame) (s : Stream) → x.writing ≡ true → Sound s → Facts b z s → Writes b p z k (write_on c x [] ws s)
write_on-wrote b p z k c x ws s y sound f =
    let n : ℕ = min (length ws) (avail s) in
    from-wrote b p z k c x ws s (starting_halt s n) (λ t e. let g : t ≤ min (length ws) (avail s) = halt_below s n t e in omega (arith, g)) y sound f

found-wrote : (b p : ℕ) (z : Frame) (k : SubId) (q : Stream → Program) → ((t : Stream) → Sound t → Facts b z t → Writes b p z k (q t)) → (u : Updated) (t : Stream) → Sound t → Facts b z t → Writes b p z k (after_found (or_epipe q) u t)
found-wrote b p z k q g updated.Nothing t sound f = g t sound f
found-wrote b p z k q g updated.DrainDone t sound f = none-wrote b p z t
found-wrote b p z k q g updated.StopXrun t sound f = λ v o i. none-wrote b p z (after (act.Stop state.Xrun) v o t)

write-wrote : (b p : ℕ) (z : Frame) (k : SubId) (c : ClientId) (l : Layout) (m : Mode) (io : List ℕ) (s : Stream) → Sound s → Facts b z s → Writes b p z k (write c l m io s)
write-wrote b p z k c l m io s sound f =
    let n : ℕ = length io / s.setup.frame_bytes in
    let x : Xfer = record { writing = true; layout = l; mode = m; rest = n; moved = 0 } in
    let on : Stream → Program = write_on c x [] (frames_by l s io) in
    unless-wrote b p z k (misfit s true l (is_whole s io)) s (if nat_eq n 0 then says (reply.Frames 0) s else unless (table kind.Write s) s (updated_or_epipe s on))
    (λ _. if-wrote b p z k (nat_eq n 0) (says (reply.Frames 0) s) (unless (table kind.Write s) s (updated_or_epipe s on)) (λ _. none-wrote b p z s)
    (λ _. unless-wrote b p z k (table kind.Write s) s (updated_or_epipe s on)
    (λ _. found-wrote b p z k on (λ t g q. write_on-wrote b p z k c x (frames_by l s io) t refl g q) (update s).found (update s).stream (Sound-update s sound) (facts-update b z s f))))

-- ---- a write that goes on

go_on-wrote : (b p : ℕ) (z : Frame) (k : SubId) (c : ClientId) (x : Xfer) (io : List ℕ) (s : Stream) → x.writing ≡ true → Sound s → Facts b z s → Writes b p z k (go_on c x io s)
go_on-wrote b p z k c x io s y sound f = if-wrote b p z k x.writing (write_on c x [] (drop x.moved (frames_by x.layout s io)) s) (read_on c x [] x.rest s)
    (λ _. write_on-wrote b p z k c x (drop x.moved (frames_by x.layout s io)) s y sound f) (λ e. absurd (cc))

facts-left : (b : ℕ) (z : Frame) (c : ClientId) (s : Stream) → Facts b z s → Facts b z (left_by c s)
facts-left b z c s h = record { way = h.way; buffer = h.buffer; zero = h.zero; fit = fit-others dir.Playback c s.sleepers h.fit }

transfer-wrote : (b p : ℕ) (z : Frame) (k : SubId) (c : ClientId) (x : Xfer) (wanted : ℕ) (io : List ℕ) (s : Stream) → x.writing ≡ true → Sound s → Facts b z s → Writes b p z k (go_transfer c x wanted io s)
transfer-wrote b p z k c x wanted io s y sound f = by s.state s.dir
  where
    on : Writes b p z k (go_on c x io (left_by c s))
    on = go_on-wrote b p z k c x io (left_by c s) y (Sound-left_by c s sound) (facts-left b z c s f)

    may : Writes b p z k (if nat_lt (avail s) wanted then says reply.Asleep s else go_on c x io (left_by c s))
    may = if-wrote b p z k (nat_lt (avail s) wanted) (says reply.Asleep s) (go_on c x io (left_by c s)) (λ _. none-wrote b p z s)
        (λ _. go_on-wrote b p z k c x io (left_by c s) y (Sound-left_by c s sound) (facts-left b z c s f))

    gone : Wrote b p z [] (left_by c s)
    gone = none-wrote b p z (left_by c s)

    by : (t : State) (v : Dir) → Writes b p z k (go_transfer_in t v c x wanted io s)
    by state.Prepared v = may
    by state.Running v = may
    by state.Paused v = may
    by state.Suspended v = gone
    by state.Disconnected v = gone
    by state.Xrun v = gone
    by state.Draining dir.Playback = gone
    by state.Draining dir.Capture = on
    by state.Closed v = gone
    by state.Opened v = gone
    by state.Setup v = gone

go_drain-wrote : (b p : ℕ) (z : Frame) (k : SubId) (c : ClientId) (o : Outcome) (t : Stream) → Writes b p z k (go_drain c o t)
go_drain-wrote b p z k c outcome.Done t = if-wrote b p z k (is_suspended t.state) (fails errno.Estrpipe (left_by c t)) (says reply.Ok (left_by c t)) (λ _. none-wrote b p z (left_by c t)) (λ _. none-wrote b p z (left_by c t))
go_drain-wrote b p z k c (outcome.Refused j e) t = none-wrote b p z t
go_drain-wrote b p z k c (outcome.Failed j) t = none-wrote b p z t

task-wrote : (b p : ℕ) (z : Frame) (k : SubId) (c : ClientId) (q : Task) (io : List ℕ) (s : Stream) → ((x : Xfer) (wanted : ℕ) → q ≡ task.Transfer x wanted → x.writing ≡ true) → Sound s → Facts b z s → Writes b p z k (go_task c q io s)
task-wrote b p z k c (task.Transfer x wanted) io s y sound f = transfer-wrote b p z k c x wanted io s (y x wanted refl) sound f
task-wrote b p z k c task.Drain io s y sound f = if-wrote b p z k (is_disconnected s.state) (fails errno.Ebadfd (left_by c s)) (Makes act.Watch s (go_drain c)) (λ _. none-wrote b p z (left_by c s))
    (λ _. λ v o q. go_drain-wrote b p z k c o (after act.Watch v o s))

go-wrote : (b p : ℕ) (z : Frame) (k : SubId) (c : ClientId) (io : List ℕ) (s : Stream) → Sound s → Facts b z s → Writes b p z k (go c io s)
go-wrote b p z k c io s sound f = by (waiting_of c s.sleepers) refl
  where
    by : (q : Option Task) → waiting_of c s.sleepers ≡ q → Writes b p z k (go_call q c io s)
    by None e = none-wrote b p z s
    by (Some q) e = if-wrote b p z k (nat_eq (length io) (length_of q s)) (go_task c q io s) (fails errno.Einval s)
        (λ _. task-wrote b p z k c q io s (λ x wanted i. fit-of dir.Playback c s.sleepers x wanted f.fit (e ∙ ap Some i)) sound f) (λ _. none-wrote b p z s)

pub event-wrote : (b p : ℕ) (z : Frame) (k : SubId) (e : Call) (c : ClientId) (linked : Bool) (io : List ℕ) (s : Stream) → writes e ≡ true → Sound s → Facts b z s → Writes b p z k (program e c linked io s)
event-wrote b p z k (call.Write l m) c linked io s y sound f = if-wrote b p z k (is_closed s.state && not (opens (call.Write l m))) (fails errno.Enxio s) (event (call.Write l m) c linked io s) (λ _. none-wrote b p z s) (λ _. write-wrote b p z k c l m io s sound f)
event-wrote b p z k call.Go c linked io s y sound f = if-wrote b p z k (is_closed s.state && not (opens call.Go)) (fails errno.Enxio s) (event call.Go c linked io s) (λ _. none-wrote b p z s) (λ _. go-wrote b p z k c io s sound f)
event-wrote b p z k _ c linked io s y sound f = absurd (cc)

-- What a read has read, when it ends; and the law of a read that keeps up.
use Rattle.std.proofs.Common.{ℕ, zero, suc, ◌≡◌, ◌+◌, ◌-◌, ◌%◌, ◌≤◌, ◌<◌, ◌⊎◌, inl, inr, Bool, true, false, cond, not, ◌&&◌, nat_eq, nat_le, nat_lt, List, [], ◌∷◌, length, take, drop, get_or, min, if◌then◌else◌, refl, sym, ap, ◌∙◌, subst, arith, length-take, length-drop}
use Rattle.std.proofs.lemmas.Bool.{cases_lt}
use Rattle.std.proofs.lemmas.Bool.Decides.{nat_tests}
use Rattle.std.proofs.lemmas.List.{take-append-drop}
use Rattle.std.specs.declared.option.Option.{Option}
use Rattle.std.specs.declared.option.Option.TheVariants.{Some, None}
use Rattle.pcm_base.specs.declared.act.Act.TheVariants as act
use Rattle.pcm_base.specs.declared.act.Outcome.{Outcome}
use Rattle.pcm_base.specs.declared.act.Outcome.TheVariants as outcome
use Rattle.pcm_base.specs.declared.act.Updated.{Updated}
use Rattle.pcm_base.specs.declared.act.Updated.TheVariants as updated
use Rattle.pcm_base.specs.declared.act.Vote.{Vote}
use Rattle.pcm_base.specs.declared.act.Vote.TheVariants as vote
use Rattle.pcm_base.specs.declared.call.Call.{Call}
use Rattle.pcm_base.specs.declared.call.Call.TheVariants as call
use Rattle.pcm_base.specs.declared.call.CallKind.TheVariants as kind
use Rattle.pcm_base.specs.declared.call.Layout.{Layout}
use Rattle.pcm_base.specs.declared.call.Mode.{Mode}
use Rattle.pcm_base.specs.declared.call.Mode.TheVariants as mode
use Rattle.pcm_base.specs.declared.ids.ClientId.{ClientId}
use Rattle.pcm_base.specs.declared.ids.SubId.{SubId}
use Rattle.pcm_base.specs.declared.reply.Reply.TheVariants as reply
use Rattle.pcm_base.specs.declared.sleeper.Task.{Task}
use Rattle.pcm_base.specs.declared.sleeper.Task.TheVariants as task
use Rattle.pcm_base.specs.declared.sleeper.Xfer.{Xfer}
use Rattle.pcm_base.specs.declared.state.Dir.{Dir}
use Rattle.pcm_base.specs.declared.state.Dir.TheVariants as dir
use Rattle.pcm_base.specs.declared.state.Errno.{Errno}
use Rattle.pcm_base.specs.declared.state.Errno.TheVariants as errno
use Rattle.pcm_base.specs.declared.state.State.{State}
use Rattle.pcm_base.specs.declared.state.State.TheVariants as state
use Rattle.pcm_base.specs.model.Acts.{after, stopped_in, table}
use Rattle.pcm_base.specs.model.Events.{event, go, go_call, go_drain, go_on, go_task, go_transfer, go_transfer_in, left_by, length_of, opens, program, waiting_of}
use Rattle.pcm_base.specs.model.Frame.{Frame}
use Rattle.pcm_base.specs.model.Permit.{permit}
use Rattle.pcm_base.specs.model.PointerCalls.{on_by}
use Rattle.pcm_base.specs.model.Program.{Answer, Ends, Makes, Program, after_found, fails, going_on, making, or_epipe, says, unless, updated_or_epipe}
use Rattle.pcm_base.specs.model.Replay.{Fits, Part, Plays, joined}
use Rattle.pcm_base.specs.model.Sound.{Sound}
use Rattle.pcm_base.specs.model.Standing.{Put, put_at, standing, standing_at}
use Rattle.pcm_base.specs.model.Stream.{Stream, all_at, avail, zero_frame}
use Rattle.pcm_base.specs.model.Transfer.{after_moves, frames_by, misfit, read, read_next, read_on, start_reading, stuck, stuck_in, tells, write_on}
use Rattle.pcm_base.specs.model.Update.{update}
use Rattle.pcm_base.specs.model.Words.{is_closed, is_disconnected, is_draining, is_prepared, is_suspended}
use Rattle.pcm_laws.proofs.Puts.{get_or-standing_at, length-standing_at, put_at-append, put_at-onto, standing-put_at_hit}
use Rattle.pcm_stream.specs.KeepingUp.{Goes, GoesOn, IsPutSince, IsReached, Moment, NonePrepares, Own, Passes, Prepares, Runs, first_of, frame_at, frame_passed, is_prepare, reads}
use Rattle.pcm_stream.proofs.BehindLemmas.{Recorded, recorded-kept}
use Rattle.pcm_stream.proofs.BehindRuns.{recorded-runs}
use Rattle.pcm_stream.proofs.FitLemmas.{AllFit, fit-of}
use Rattle.pcm_stream.proofs.IdleLemmas.{OrIdle, is_idle}
use Rattle.pcm_stream.proofs.ReachedLemmas.{Always, IsBorne, Plays-always, borne-on, prepares-start, reached}
use Rattle.pcm_stream.proofs.Walk.{Plays-kept, is_plain, program-kept}

-- these frames stood before the application position, and still stand there
abbrev IsRead : List Frame → Stream → Type 0
IsRead fs s = (fs ≡ standing_at s.puts s.setup.buffer (s.at.appl - length fs) (length fs) (zero_frame s)) × (length fs ≤ s.at.appl)

none-read : (s : Stream) → IsRead [] s
none-read s = (refl, let k : 0 ≤ s.at.appl = omega arith in k)

-- each answer of the program tells such frames, and none of its acts is a Prepare
abbrev Reads : SubId → Program → Type 0
Reads k (Ends a s) = IsRead a.frames s
Reads k (Makes a s f) = ((o : Outcome) → is_prepare a o ≡ false) × ((v : Vote) (o : Outcome) → Fits k s a v o → Reads k (f o (after a v o s)))

no_start : (o : Outcome) → is_prepare act.Start o ≡ false
no_start outcome.Done = refl
no_start (outcome.Refused k e) = refl
no_start (outcome.Failed k) = refl

no_stop : (u : State) (o : Outcome) → is_prepare (act.Stop u) o ≡ false
no_stop u outcome.Done = refl
no_stop u (outcome.Refused k e) = refl
no_stop u (outcome.Failed k) = refl

no_watch : (o : Outcome) → is_prepare act.Watch o ≡ false
no_watch outcome.Done = refl
no_watch (outcome.Refused k e) = refl
no_watch (outcome.Failed k) = refl

Plays-read : (k : SubId) (p : Program) (ps : List Part) (b : Answer) (t : Stream) → Plays k p ps b t → Reads k p → IsRead b.frames t × NonePrepares ps
Plays-read k (Ends a s) [] b t h g = (subst (λ (x : Stream). IsRead b.frames x) (sym h.1) (subst (λ (x : Answer). IsRead x.frames s) (sym h.0) g), tt)
Plays-read k (Ends a s) (q ∷ ps) b t h g = absurd h
Plays-read k (Makes a s f) [] b t h g = absurd h
Plays-read k (Makes a s f) (q ∷ ps) b t h g =
    let fit : Fits k s a q.vote q.outcome = subst (λ x. Fits k s x q.vote q.outcome) h.0 h.1 in
    let next : Reads k (f q.outcome (joined q s)) = subst (λ x. Reads k (f q.outcome (joined (record { act = x; vote = q.vote; outcome = q.outcome }) s))) (sym h.0) (g.1 q.vote q.outcome fit) in
    let rest : IsRead b.frames t × NonePrepares ps = Plays-read k (f q.outcome (joined q s)) ps b t h.2 next in
    (rest.0, (subst (λ x. is_prepare x q.outcome ≡ false) (sym h.0) (g.0 q.outcome), rest.1))

unless-read : (k : SubId) (e : Option Errno) (s : Stream) (p : Program) → (e ≡ None → Reads k p) → Reads k (unless e s p)
unless-read k (Some e) s p f = none-read s
unless-read k None s p f = f refl

if-read : (k : SubId) (b : Bool) (p q : Program) → (b ≡ true → Reads k p) → (b ≡ false → Reads k q) → Reads k (cond b p q)
if-read k true p q f g = f refl
if-read k false p q f g = g refl

-- a stop leaves what is read
stops-read : (fs : List Frame) (u : State) (s : Stream) (t : State) → IsRead fs s → IsRead fs (stopped_in t u s)
stops-read fs u s state.Closed h = h
stops-read fs u s state.Opened h = h
stops-read fs u s state.Disconnected h = h
stops-read fs u s _ h = h

stop-read : (fs : List Frame) (u : State) (v : Vote) (o : Outcome) (s : Stream) → IsRead fs s → IsRead fs (after (act.Stop u) v o s)
stop-read fs u v outcome.Done s h = stops-read fs u s s.state h
stop-read fs u v (outcome.Refused k e) s h = h
stop-read fs u vote.Yes (outcome.Failed k) s h = h
stop-read fs u vote.Fail (outcome.Failed k) s h = h
stop-read fs u (vote.Refuse e) (outcome.Failed k) s h = h
stop-read fs u vote.Unasked (outcome.Failed k) s h = h

stuck-read : (k : SubId) (c : ClientId) (x : Xfer) (fs : List Frame) (r : ℕ) (s : Stream) → IsRead fs s → Reads k (stuck c x fs r s)
stuck-read k c x fs r s h = by (not x.writing && is_draining s.state) x.mode
  where
    by : (b : Bool) (m : Mode) → Reads k (cond b (Makes (act.Stop state.Setup) s (λ o. tells (reply.Frames (x.moved + length fs)) x fs)) (stuck_in m c x fs r s))
    by true m = (no_stop state.Setup, λ v o q. stop-read fs state.Setup v o s h)
    by false mode.NonBlock = h
    by false mode.Block = h

moves-read : (k : SubId) (c : ClientId) (x : Xfer) (fs : List Frame) (r : ℕ) (s : Stream) → IsRead fs s → Reads k (after_moves c x fs r s)
moves-read k c x fs r s h = if-read k (nat_eq r 0) (tells (reply.Frames (x.moved + length fs)) x fs s) (stuck c x fs r s) (λ _. h) (λ _. stuck-read k c x fs r s h)

-- the next frames, when they are read
next-read : (n : ℕ) (s : Stream) → IsRead (read_next n s) (on_by n s)
next-read n s =
    let size : length (read_next n s) ≡ n = length-standing_at s.puts s.setup.buffer s.at.appl n (zero_frame s) in
    let back : s.at.appl + n - n ≡ s.at.appl = omega arith in
    let few : length (read_next n s) ≤ s.at.appl + n = omega (arith, size) in
    (sym (ap (λ m. standing_at s.puts s.setup.buffer (s.at.appl + n - m) m (zero_frame s)) size ∙ ap (λ p. standing_at s.puts s.setup.buffer p n (zero_frame s)) back), few)

read_on-read : (k : SubId) (c : ClientId) (x : Xfer) (r : ℕ) (s : Stream) → Reads k (read_on c x [] r s)
read_on-read k c x r s = let n : ℕ = min r (avail s) in moves-read k c x (read_next n s) (r - n) (on_by n s) (next-read n s)

going_on-read : (k : SubId) (f : Stream → Program) (o : Outcome) (t : Stream) → Reads k (f t) → Reads k (going_on f o t)
going_on-read k f outcome.Done t g = g
going_on-read k f (outcome.Refused j e) t g = none-read t
going_on-read k f (outcome.Failed j) t g = none-read t

found-read : (k : SubId) (f : Stream → Program) → ((t : Stream) → Reads k (f t)) → (u : Updated) (t : Stream) → Reads k (after_found (or_epipe f) u t)
found-read k f g updated.Nothing t = g t
found-read k f g updated.DrainDone t = none-read t
found-read k f g updated.StopXrun t = (no_stop state.Xrun, λ v o q. none-read (after (act.Stop state.Xrun) v o t))

start-read : (k : SubId) (c : ClientId) (x : Xfer) (s : Stream) → Reads k (start_reading c x s)
start-read k c x s = if-read k (is_prepared s.state && nat_le s.setup.sw.start_threshold x.rest) (making act.Start s (read_on c x [] x.rest)) (read_on c x [] x.rest s)
    (λ _. (no_start, λ v o q. going_on-read k (read_on c x [] x.rest) o (after act.Start v o s) (read_on-read k c x x.rest (after act.Start v o s)))) (λ _. read_on-read k c x x.rest s)

read-read : (k : SubId) (c : ClientId) (l : Layout) (m : Mode) (n : ℕ) (s : Stream) → Reads k (read c l m n s)
read-read k c l m n s =
    let x : Xfer = record { writing = false; layout = l; mode = m; rest = n; moved = 0 } in
    let p : Program = updated_or_epipe s (start_reading c x) in
    unless-read k (misfit s false l (nat_le n 1048576)) s (if nat_eq n 0 then says (reply.Frames 0) s else unless (table kind.Read s) s p)
    (λ _. if-read k (nat_eq n 0) (says (reply.Frames 0) s) (unless (table kind.Read s) s p) (λ _. none-read s)
    (λ _. unless-read k (table kind.Read s) s p (λ _. found-read k (start_reading c x) (start-read k c x) (update s).found (update s).stream)))

go_on-read : (k : SubId) (c : ClientId) (x : Xfer) (io : List ℕ) (s : Stream) → x.writing ≡ false → Reads k (go_on c x io s)
go_on-read k c x io s y = if-read k x.writing (write_on c x [] (drop x.moved (frames_by x.layout s io)) s) (read_on c x [] x.rest s) (λ e. absurd (cc)) (λ _. read_on-read k c x x.rest s)

transfer-read : (k : SubId) (c : ClientId) (x : Xfer) (wanted : ℕ) (io : List ℕ) (s : Stream) → x.writing ≡ false → Reads k (go_transfer c x wanted io s)
transfer-read k c x wanted io s y = by s.state s.dir
  where
    may : Reads k (if nat_lt (avail s) wanted then says reply.Asleep s else go_on c x io (left_by c s))
    may = if-read k (nat_lt (avail s) wanted) (says reply.Asleep s) (go_on c x io (left_by c s)) (λ _. none-read s) (λ _. go_on-read k c x io (left_by c s) y)

    gone : IsRead [] (left_by c s)
    gone = none-read (left_by c s)

    by : (t : State) (v : Dir) → Reads k (go_transfer_in t v c x wanted io s)
    by state.Prepared v = may
    by state.Running v = may
    by state.Paused v = may
    by state.Suspended v = gone
    by state.Disconnected v = gone
    by state.Xrun v = gone
    by state.Draining dir.Playback = gone
    by state.Draining dir.Capture = go_on-read k c x io (left_by c s) y
    by state.Closed v = gone
    by state.Opened v = gone
    by state.Setup v = gone

go_drain-read : (k : SubId) (c : ClientId) (o : Outcome) (t : Stream) → Reads k (go_drain c o t)
go_drain-read k c outcome.Done t = if-read k (is_suspended t.state) (fails errno.Estrpipe (left_by c t)) (says reply.Ok (left_by c t)) (λ _. none-read (left_by c t)) (λ _. none-read (left_by c t))
go_drain-read k c (outcome.Refused j e) t = none-read t
go_drain-read k c (outcome.Failed j) t = none-read t

task-read : (k : SubId) (c : ClientId) (q : Task) (io : List ℕ) (s : Stream) → ((x : Xfer) (wanted : ℕ) → q ≡ task.Transfer x wanted → x.writing ≡ false) → Reads k (go_task c q io s)
task-read k c (task.Transfer x wanted) io s y = transfer-read k c x wanted io s (y x wanted refl)
task-read k c task.Drain io s y = if-read k (is_disconnected s.state) (fails errno.Ebadfd (left_by c s)) (Makes act.Watch s (go_drain c)) (λ _. none-read (left_by c s))
    (λ _. (no_watch, λ v o q. go_drain-read k c o (after act.Watch v o s)))

go-read : (k : SubId) (c : ClientId) (io : List ℕ) (s : Stream) → AllFit dir.Capture s.sleepers → Reads k (go c io s)
go-read k c io s h = by (waiting_of c s.sleepers) refl
  where
    by : (q : Option Task) → waiting_of c s.sleepers ≡ q → Reads k (go_call q c io s)
    by None e = none-read s
    by (Some p) e = if-read k (nat_eq (length io) (length_of p s)) (go_task c p io s) (fails errno.Einval s)
        (λ _. task-read k c p io s (λ x wanted q. fit-of dir.Capture c s.sleepers x wanted h (e ∙ ap Some q))) (λ _. none-read s)

event-read : (k : SubId) (e : Call) (c : ClientId) (linked : Bool) (io : List ℕ) (s : Stream) → reads e ≡ true → AllFit dir.Capture s.sleepers → Reads k (program e c linked io s)
event-read k (call.Read l m n) c linked io s y h = if-read k (is_closed s.state && not (opens (call.Read l m n))) (fails errno.Enxio s) (event (call.Read l m n) c linked io s) (λ _. none-read s) (λ _. read-read k c l m n s)
event-read k call.Go c linked io s y h = if-read k (is_closed s.state && not (opens call.Go)) (fails errno.Enxio s) (event call.Go c linked io s) (λ _. none-read s) (λ _. go-read k c io s h)
event-read k _ c linked io s y h = absurd (cc)

-- ---- what the card has put, by position

get_or-drop : (i : ℕ) (fs : List Frame) → get_or (drop i fs) 0 [] ≡ get_or fs i []
get_or-drop zero fs = refl
get_or-drop (suc i) [] = refl
get_or-drop (suc i) (f ∷ fs) = get_or-drop i fs

-- at most a buffer behind the last put, the frame that was put there stands
recorded-stands : (l b p : ℕ) (fs : List Frame) (before : List Put) (z : Frame) → l ≤ p → p < l + length fs → l + length fs ≤ p + b → standing (put_at l fs before) b p z ≡ get_or fs (p - l) []
recorded-stands l b p fs before z low high near =
    let i : ℕ = p - l in
    let first : length (take (p - l) fs) ≡ p - l = length-take (p - l) fs ∙ omega (arith, high) in
    let rest : length (drop (p - l) fs) ≡ length fs - (p - l) = length-drop (p - l) fs in
    let split : put_at l fs before ≡ put_at (l + length (take (p - l) fs)) (drop (p - l) fs) (put_at l (take (p - l) fs) before) =
    ap (λ gs. put_at l gs before) (sym (take-append-drop (p - l) fs)) ∙ put_at-append l (take (p - l) fs) (drop (p - l) fs) before in
    let here : l + length (take (p - l) fs) + 0 ≡ p = omega (arith, first, low) in
    ap (λ qs. standing qs b p z) split
    ∙ standing-put_at_hit (drop (p - l) fs) (l + length (take (p - l) fs)) (put_at l (take (p - l) fs) before) b p 0 z [] (omega (arith, rest, near, low)) (omega (arith, rest, high, low)) (ap (λ q. q % b) here)
    ∙ get_or-drop (p - l) fs

puts-first : (l : ℕ) (f : Frame) (fs : List Frame) → put_at l (f ∷ fs) [] ≡ record { at = l; frame = f } ∷ put_at (l + 1) fs []
puts-first l f fs = put_at-onto (l + 1) fs (record { at = l; frame = f } ∷ [])

frame_at-before : (l p : ℕ) (fs : List Frame) → p < l → frame_at p (put_at l fs []) ≡ None
frame_at-before l p [] h = refl
frame_at-before l p (f ∷ fs) h =
    let apart : nat_eq l p ≡ false = grind (arith, nat_tests, h) in
    ap (frame_at p) (puts-first l f fs)
    ∙ ap (λ o. first_of o (if nat_eq l p then Some f else None)) (frame_at-before (l + 1) p fs (omega (arith, h)))
    ∙ ap (λ b. if b then Some f else None) apart

-- the last frame that was put at a position is the only one
frame_at-puts : (l p : ℕ) (fs : List Frame) → l ≤ p → p < l + length fs → frame_at p (put_at l fs []) ≡ Some (get_or fs (p - l) [])
frame_at-puts l p [] low high = absurd (omega (arith, low, high))
frame_at-puts l p (f ∷ fs) low high = by (cases_lt l p) (λ a b. frame_at-puts (l + 1) p fs a b)
  where
    by : (l < p) ⊎ (p ≤ l) → (l + 1 ≤ p → p < l + 1 + length fs → frame_at p (put_at (l + 1) fs []) ≡ Some (get_or fs (p - (l + 1)) [])) → frame_at p (put_at l (f ∷ fs) []) ≡ Some (get_or (f ∷ fs) (p - l) [])
    by (inl behind) later =
        let next : p - l ≡ suc (p - (l + 1)) = omega (arith, behind) in
        ap (frame_at p) (puts-first l f fs)
        ∙ ap (λ o. first_of o (if nat_eq l p then Some f else None)) (later (omega (arith, behind)) (omega (arith, high)))
        ∙ ap (λ i. Some (get_or (f ∷ fs) i [])) (sym next)
    by (inr at) later =
        let same : l ≡ p = omega (arith, low, at) in
        let here : nat_eq l p ≡ true = grind (arith, nat_tests, same) in
        let none : p - l ≡ 0 = omega (arith, same) in
        ap (frame_at p) (puts-first l f fs)
        ∙ ap (λ o. first_of o (if nat_eq l p then Some f else None)) (frame_at-before (l + 1) p fs (omega (arith, same)))
        ∙ ap (λ b. if b then Some f else None) here
        ∙ ap (λ i. Some (get_or (f ∷ fs) i [])) (sym none)

-- ---- a stream that was not prepared since it was set up anew

abbrev NoFrames : Answer → Stream → Type 0
NoFrames a s = a.frames ≡ []

no-read : (v : Dir) (t : State) (k : Option State) → is_idle t k ≡ true → permit kind.Read t v ≡ None → ⊥
no-read dir.Playback state.Closed k h e = cc
no-read dir.Playback state.Opened k h e = cc
no-read dir.Playback state.Setup k h e = cc
no-read dir.Playback state.Prepared k h e = cc
no-read dir.Playback state.Running k h e = cc
no-read dir.Playback state.Xrun k h e = cc
no-read dir.Playback state.Draining k h e = cc
no-read dir.Playback state.Paused k h e = cc
no-read dir.Playback state.Suspended k h e = cc
no-read dir.Playback state.Disconnected k h e = cc
no-read dir.Capture state.Closed k h e = cc
no-read dir.Capture state.Opened k h e = cc
no-read dir.Capture state.Setup k h e = cc
no-read dir.Capture state.Prepared k h e = cc
no-read dir.Capture state.Running k h e = cc
no-read dir.Capture state.Xrun k h e = cc
no-read dir.Capture state.Draining k h e = cc
no-read dir.Capture state.Paused k h e = cc
no-read dir.Capture state.Suspended k h e = cc
no-read dir.Capture state.Disconnected k h e = cc

unless-none : (k : SubId) (e : Option Errno) (s : Stream) (p : Program) → (e ≡ None → Always NoFrames k p) → Always NoFrames k (unless e s p)
unless-none k (Some e) s p f = refl
unless-none k None s p f = f refl

if-none : (k : SubId) (b : Bool) (p q : Program) → Always NoFrames k p → Always NoFrames k q → Always NoFrames k (cond b p q)
if-none k true p q f g = f
if-none k false p q f g = g

read-none : (k : SubId) (c : ClientId) (l : Layout) (m : Mode) (n : ℕ) (s : Stream) → is_idle s.state s.kept ≡ true → Always NoFrames k (read c l m n s)
read-none k c l m n s i =
    let x : Xfer = record { writing = false; layout = l; mode = m; rest = n; moved = 0 } in
    unless-none k (misfit s false l (nat_le n 1048576)) s (if nat_eq n 0 then says (reply.Frames 0) s else unless (table kind.Read s) s (updated_or_epipe s (start_reading c x)))
    (λ _. if-none k (nat_eq n 0) (says (reply.Frames 0) s) (unless (table kind.Read s) s (updated_or_epipe s (start_reading c x))) refl
    (unless-none k (table kind.Read s) s (updated_or_epipe s (start_reading c x)) (λ q. absurd (no-read s.dir s.state s.kept i q))))

transfer-none : (k : SubId) (c : ClientId) (x : Xfer) (wanted : ℕ) (io : List ℕ) (s : Stream) → is_idle s.state s.kept ≡ true → Always NoFrames k (go_transfer c x wanted io s)
transfer-none k c x wanted io s i = by s.state s.dir s.kept i
  where
    by : (t : State) (v : Dir) (q : Option State) → is_idle t q ≡ true → Always NoFrames k (go_transfer_in t v c x wanted io s)
    by state.Prepared v q h = absurd (cc)
    by state.Running v q h = absurd (cc)
    by state.Paused v q h = absurd (cc)
    by state.Suspended v q h = refl
    by state.Disconnected v q h = refl
    by state.Xrun v q h = refl
    by state.Draining v q h = absurd (cc)
    by state.Closed v q h = refl
    by state.Opened v q h = refl
    by state.Setup v q h = refl

drain-none : (k : SubId) (c : ClientId) (o : Outcome) (t : Stream) → Always NoFrames k (go_drain c o t)
drain-none k c outcome.Done t = if-none k (is_suspended t.state) (fails errno.Estrpipe (left_by c t)) (says reply.Ok (left_by c t)) refl refl
drain-none k c (outcome.Refused j e) t = refl
drain-none k c (outcome.Failed j) t = refl

task-none : (k : SubId) (c : ClientId) (p : Task) (io : List ℕ) (s : Stream) → is_idle s.state s.kept ≡ true → Always NoFrames k (go_task c p io s)
task-none k c (task.Transfer x wanted) io s i = transfer-none k c x wanted io s i
task-none k c task.Drain io s i = if-none k (is_disconnected s.state) (fails errno.Ebadfd (left_by c s)) (Makes act.Watch s (go_drain c)) refl (λ v o f. drain-none k c o (after act.Watch v o s))

go-none : (k : SubId) (c : ClientId) (io : List ℕ) (s : Stream) → is_idle s.state s.kept ≡ true → Always NoFrames k (go c io s)
go-none k c io s i = by (waiting_of c s.sleepers)
  where
    by : (q : Option Task) → Always NoFrames k (go_call q c io s)
    by None = refl
    by (Some p) = if-none k (nat_eq (length io) (length_of p s)) (go_task c p io s) (fails errno.Einval s) (task-none k c p io s i) refl

event-none : (k : SubId) (e : Call) (c : ClientId) (linked : Bool) (io : List ℕ) (s : Stream) → reads e ≡ true → is_idle s.state s.kept ≡ true → Always NoFrames k (program e c linked io s)
event-none k (call.Read l m n) c linked io s y i = if-none k (is_closed s.state && not (opens (call.Read l m n))) (fails errno.Enxio s) (event (call.Read l m n) c linked io s) refl (read-none k c l m n s i)
event-none k call.Go c linked io s y i = if-none k (is_closed s.state && not (opens call.Go)) (fails errno.Enxio s) (event call.Go c linked io s) refl (go-none k c io s i)
event-none k _ c linked io s y i = absurd (cc)

-- so it passes no position
none-passed : (p : ℕ) (a : Answer) (t : Stream) → a.frames ≡ [] → Passes p a t → ⊥
none-passed p a t e h = let size : length a.frames ≡ 0 = ap (λ (fs : List Frame). length fs) e in omega (arith, size, h.0, h.1)

-- ---- the law

-- what is read of a position that the card has put
recorded-read : (l : ℕ) (k : SubId) (e : Call) (c : ClientId) (linked : Bool) (io : List ℕ) (ps : List Part) (a : Answer) (b : ℕ) (before : List Put) (r t : Stream) (p : ℕ)
    → Sound r → Recorded l b before r → reads e ≡ true → Plays k (program e c linked io r) ps a t → Passes p a t
    → l ≤ p → p < t.at.card → t.at.card ≤ p + t.setup.buffer
    → IsPutSince before t.puts p (frame_passed p a t)
recorded-read l k e c linked io ps a b before r t p sound recorded y plays passes start behind near =
    let plain : is_plain e ≡ true = reads-plain e y in
    let told : IsRead a.frames t × NonePrepares ps = Plays-read k (program e c linked io r) ps a t plays (event-read k e c linked io r y recorded.fit) in
    let now : Recorded l b before t =
    Plays-kept (Recorded l b before) k (program e c linked io r) ps a t plays told.1 (program-kept is_prepare dir.Capture (Recorded l b before) (recorded-kept l b before) k e c linked io r plain sound recorded) in
    let high : p < l + length now.frames = omega (arith, behind, now.card) in
    let close : l + length now.frames ≤ p + b = omega (arith, near, now.card, now.buffer) in
    let inside : p + length a.frames - t.at.appl < length a.frames = omega (arith, passes.0, passes.1) in
    let there : t.at.appl - length a.frames + (p + length a.frames - t.at.appl) ≡ p = omega (arith, passes.0, passes.1, told.0.1) in
    let seen : get_or a.frames (p + length a.frames - t.at.appl) [] ≡ standing t.puts t.setup.buffer p (zero_frame t) =
    ap (λ fs. get_or fs (p + length a.frames - t.at.appl) []) told.0.0
    ∙ get_or-standing_at t.puts t.setup.buffer (t.at.appl - length a.frames) (length a.frames) (p + length a.frames - t.at.appl) (zero_frame t) [] inside
    ∙ ap (λ q. standing t.puts t.setup.buffer q (zero_frame t)) there in
    let put : standing t.puts t.setup.buffer p (zero_frame t) ≡ get_or now.frames (p - l) [] =
    ap (λ qs. standing qs t.setup.buffer p (zero_frame t)) now.puts ∙ ap (λ n. standing (put_at l now.frames before) n p (zero_frame t)) now.buffer
    ∙ recorded-stands l b p now.frames before (zero_frame t) start high close in
    (put_at l now.frames [], now.puts ∙ put_at-onto l now.frames before, frame_at-puts l p now.frames start high ∙ ap Some (sym put ∙ sym seen))
  where
    reads-plain : (x : Call) → reads x ≡ true → is_plain x ≡ true
    reads-plain (call.Read l m n) h = refl
    reads-plain call.Go h = refl
    reads-plain _ h = absurd (cc)

either-read : (l : ℕ) (k : SubId) (e : Call) (c : ClientId) (linked : Bool) (io : List ℕ) (ps : List Part) (a : Answer) (b : ℕ) (before : List Put) (r t : Stream) (p : ℕ)
    → Sound r → OrIdle (Recorded l b before) dir.Capture r → reads e ≡ true → Plays k (program e c linked io r) ps a t → Passes p a t
    → l ≤ p → p < t.at.card → t.at.card ≤ p + t.setup.buffer
    → IsPutSince before t.puts p (frame_passed p a t)
either-read l k e c linked io ps a b before r t p sound (inl q) y plays passes start behind near = recorded-read l k e c linked io ps a b before r t p sound q y plays passes start behind near
either-read l k e c linked io ps a b before r t p sound (inr q) y plays passes start behind near =
    absurd (none-passed p a t (Plays-always NoFrames k (program e c linked io r) ps a t plays (event-none k e c linked io r y q.idle)) passes)

pub behind-read : (k : SubId) (m : Moment) (e : Call) (c : ClientId) (linked : Bool) (io : List ℕ) (ps : List Part) (a : Answer) (ms : List Moment) (q s r t : Stream) (p : ℕ)
    → IsReached k dir.Capture q → Prepares m → Goes k m q s → Runs k GoesOn ms s r
    → reads e ≡ true → Goes k (Own e c linked io ps a) r t → Passes p a t
    → s.setup.boundary ≤ p → p < t.at.card → t.at.card ≤ p + t.setup.buffer
    → IsPutSince s.puts t.puts p (frame_passed p a t)
behind-read k m e c linked io ps a ms q s r t p from prepares goes runs y plays passes start behind near =
    let l : ℕ = s.setup.boundary in
    let b : ℕ = s.setup.buffer in
    let borne : IsBorne dir.Capture s = borne-on dir.Capture k m q s goes (reached k dir.Capture q from) in
    let at : s.at ≡ all_at s.setup.boundary = prepares-start k m q s prepares goes in
    let begins : Recorded l b s.puts s = record { way = borne.has.way; buffer = refl; frames = []; puts = refl; card = ap (λ q. q.card) at ∙ (let z : l ≡ l + 0 = omega arith in z); fit = borne.has.fit } in
    let both = recorded-runs l b s.puts k ms s r runs borne (inl begins) in
    either-read l k e c linked io ps a b s.puts r t p both.0.sound both.1 y plays passes start behind near

-- What an event moves between its bytes and its stream, by its program.
use Rattle.std.proofs.Common.{◌≡◌, ◌≢◌, ℕ, zero, suc, ◌+◌, ◌-◌, ◌*◌, ◌/◌, ◌≤◌, ◌<◌, Bool, true, false, cond, not, ◌&&◌, ◌||◌, nat_eq, nat_le, nat_lt, List, [], ◌∷◌, ◌++◌, length, take, drop, min, if◌then◌else◌, refl, sym, ap, subst, ◌∙◌, arith, length-drop}
use Rattle.std.proofs.Math.Nat.{mul-div_cancel}
use Rattle.std.proofs.lemmas.Bool.Decides.{nat_tests}
use Rattle.std.specs.declared.option.Option.{Option}
use Rattle.std.specs.declared.option.Option.TheVariants.{Some, None}
use Rattle.pcm_base.specs.declared.act.Act.{Act}
use Rattle.pcm_base.specs.declared.act.Act.TheVariants as act
use Rattle.pcm_base.specs.declared.act.Outcome.{Outcome}
use Rattle.pcm_base.specs.declared.act.Outcome.TheVariants as outcome
use Rattle.pcm_base.specs.declared.act.Updated.{Updated}
use Rattle.pcm_base.specs.declared.act.Updated.TheVariants as updated
use Rattle.pcm_base.specs.declared.call.Call.{Call}
use Rattle.pcm_base.specs.declared.call.Call.TheVariants as call
use Rattle.pcm_base.specs.declared.call.CallKind.TheVariants as kind
use Rattle.pcm_base.specs.declared.call.Layout.{Layout}
use Rattle.pcm_base.specs.declared.call.Layout.TheVariants as layout
use Rattle.pcm_base.specs.declared.call.Mode.{Mode}
use Rattle.pcm_base.specs.declared.call.Mode.TheVariants as mode
use Rattle.pcm_base.specs.declared.ids.ClientId.{ClientId}
use Rattle.pcm_base.specs.declared.ids.SubId.{SubId}
use Rattle.pcm_base.specs.declared.reply.Reply.{Reply}
use Rattle.pcm_base.specs.declared.reply.Reply.TheVariants as reply
use Rattle.pcm_base.specs.declared.sleeper.Task.{Task}
use Rattle.pcm_base.specs.declared.sleeper.Task.TheVariants as task
use Rattle.pcm_base.specs.declared.sleeper.Xfer.{Xfer}
use Rattle.pcm_base.specs.declared.state.Dir.{Dir}
use Rattle.pcm_base.specs.declared.state.Dir.TheVariants as dir
use Rattle.pcm_base.specs.declared.state.Errno.{Errno}
use Rattle.pcm_base.specs.declared.state.Errno.TheVariants as errno
use Rattle.pcm_base.specs.declared.state.State.{State}
use Rattle.pcm_base.specs.declared.state.State.TheVariants as state
use Rattle.pcm_base.specs.Boundary.{boundary_of}
use Rattle.pcm_base.specs.model.Acts.{acted, members_after, table}
use Rattle.pcm_base.specs.model.Allowed.{accepts, buffer_of}
use Rattle.pcm_base.specs.model.Software.{refuses_sw}
use Rattle.pcm_base.specs.model.Events.{event, go, go_drain, go_on, go_task, go_transfer, left_by, opens, program, waiting_of, watch, drain, drain_now, delay, rewound, forwarded, unplug_alone, closed, freed, set_sw, set_setup, setup_of, set_mappings, plan_set, page, is_busy, if_held, is_mapped_access, go_call, go_transfer_in}
use Rattle.pcm_base.specs.model.Frame.{Frame, frames_of, frames_across}
use Rattle.pcm_base.specs.model.Group.{group_step, put_stream, run, stream_of}
use Rattle.pcm_base.specs.model.PointerCalls.{on_by, sync_to}
use Rattle.pcm_base.specs.model.Program.{Answer, Program, Ends, Makes, act_alone, after_found, fails, making, or_epipe, says, unless, updated_or_epipe}
use Rattle.pcm_base.specs.model.Standing.{standing_at}
use Rattle.pcm_base.specs.model.Stream.{Member, Stream, avail, zero_frame}
use Rattle.pcm_base.specs.model.Transfer.{after_moves, after_start, frames_by, frames_or, is_whole, misfit, put_next, read, read_next, read_on, sleeping, start_reading, starting_halt, stuck, stuck_in, tells, waiting_for, write, write_from, write_on, write_plain}
use Rattle.pcm_base.specs.model.Update.{update}
use Rattle.pcm_base.specs.model.Words.{is_closed, is_disconnected, is_draining, is_paused, is_prepared, is_running, is_suspended, when, ◌then◌}
use Rattle.room_lock.specs.Moved.{Ever, IsMovedBy, Moves, MovesTask}

-- ---- lists

take-front : {A : Type 0} (fs gs : List A) (n : ℕ) → fs ++ take n gs ≡ take (length (fs ++ take n gs)) (fs ++ gs)
take-front [] [] zero = refl
take-front [] [] (suc n) = refl
take-front [] (g ∷ gs) zero = refl
take-front [] (g ∷ gs) (suc n) = ap (λ l. g ∷ l) (take-front [] gs n)
take-front (f ∷ fs) gs n = ap (λ l. f ∷ l) (take-front fs gs n)

both-fronts : {A : Type 0} (fs gs : List A) (n : ℕ) → (fs ++ take n gs) ++ drop n gs ≡ fs ++ gs
both-fronts [] [] zero = refl
both-fronts [] [] (suc n) = refl
both-fronts [] (g ∷ gs) zero = refl
both-fronts [] (g ∷ gs) (suc n) = ap (λ l. g ∷ l) (both-fronts [] gs n)
both-fronts (f ∷ fs) gs n = ap (λ l. f ∷ l) (both-fronts fs gs n)

count-standing : (s : Stream) (n p : ℕ) → length (standing_at s.puts s.setup.buffer p n (zero_frame s)) ≡ n
count-standing s zero p = refl
count-standing s (suc n) p = ap suc (count-standing s n (p + 1))

count-frames_of : (n w : ℕ) (bytes : List ℕ) → length (frames_of n w bytes) ≡ n
count-frames_of zero w bytes = refl
count-frames_of (suc n) w bytes = ap suc (count-frames_of n w (drop w bytes))

count-across : (n w : ℕ) (areas : List (List ℕ)) → length (frames_across n w areas) ≡ n
count-across zero w areas = refl
count-across (suc n) w areas = ap suc (count-across n w _)

pub count-by : (l : Layout) (s : Stream) (io : List ℕ) → length (frames_by l s io) ≡ length io / s.setup.frame_bytes
count-by layout.Interleaved s io = count-frames_of (length io / s.setup.frame_bytes) s.setup.frame_bytes io
count-by layout.Planar s io = count-across (length io / s.setup.frame_bytes) _ _

-- ---- programs

pub ever-unless : (P : Answer → Type 0) (e : Option Errno) (s : Stream) (p : Program) → ((r : Reply) → P (record { reply = r; first = 0; frames = [] })) → Ever P p → Ever P (unless e s p)
ever-unless P (Some e) s p says_so h = says_so (reply.Err e)
ever-unless P None s p says_so h = h

pub ever-if : (P : Answer → Type 0) (b : Bool) (p q : Program) → Ever P p → Ever P q → Ever P (cond b p q)
ever-if P true p q h k = h
ever-if P false p q h k = k

-- an answer that moved nothing has the property
abbrev pub Idle : (Answer → Type 0) → Type 0
Idle P = (r : Reply) → P (record { reply = r; first = 0; frames = [] })

pub ever-making : (P : Answer → Type 0) (a : Act) (s : Stream) (f : Stream → Program) → Idle P → ((t : Stream) → Ever P (f t)) → Ever P (making a s f)
ever-making P a s f idle h outcome.Done t = h t
ever-making P a s f idle h (outcome.Refused j e) t = idle (reply.Err e)
ever-making P a s f idle h (outcome.Failed j) t = idle (reply.Err errno.Eio)

ever-or_epipe : (P : Answer → Type 0) (f : Stream → Program) → Idle P → ((t : Stream) → Ever P (f t)) → (u : Updated) (t : Stream) → Ever P (after_found (or_epipe f) u t)
ever-or_epipe P f idle h updated.Nothing t = h t
ever-or_epipe P f idle h updated.DrainDone t = idle (reply.Err errno.Epipe)
ever-or_epipe P f idle h updated.StopXrun t = λ o v. idle (reply.Err errno.Epipe)

pub ever-updated : (P : Answer → Type 0) (s : Stream) (f : Stream → Program) → Idle P → ((t : Stream) → Ever P (f t)) → Ever P (updated_or_epipe s f)
ever-updated P s f idle h = ever-or_epipe P f idle h (update s).found (update s).stream

-- ---- transfers

-- the frames moved so far fit the transfer
record Fit (x : Xfer) (all fs : List Frame) : Type 0 where
  most : length fs ≤ x.rest
  frames : x.writing ≡ true → fs ≡ take (length fs) (drop x.moved all)

idle-moved : (x : Xfer) (all : List Frame) → Idle (IsMovedBy x all)
idle-moved x all r = record { first = λ ne. absurd (ne refl); most = omega arith; frames = λ w. none (drop x.moved all) }
  where
    none : (l : List Frame) → [] ≡ take 0 l
    none [] = refl
    none (f ∷ l) = refl

moved-tells : (r : Reply) (x : Xfer) (all fs : List Frame) (s : Stream) → Fit x all fs → Ever (IsMovedBy x all) (tells r x fs s)
moved-tells r x all fs s h = record { first = λ ne. by (nat_eq (length fs) 0) refl ne; most = h.most; frames = h.frames }
  where
    by : (b : Bool) → nat_eq (length fs) 0 ≡ b → length fs ≢ 0 → cond b 0 x.moved ≡ x.moved
    by true e ne = absurd (ne (let z : length fs ≡ 0 = grind (arith, nat_tests, e) in z))
    by false e ne = refl

moved-stuck : (c : ClientId) (x : Xfer) (all fs : List Frame) (r : ℕ) (s : Stream) → Fit x all fs → Ever (IsMovedBy x all) (stuck c x fs r s)
moved-stuck c x all fs r s h = by (not x.writing && is_draining s.state) x.mode
  where
    by : (b : Bool) (w : Mode) → Ever (IsMovedBy x all) (cond b (Makes (act.Stop state.Setup) s (λ o. tells (reply.Frames (x.moved + length fs)) x fs)) (stuck_in w c x fs r s))
    by true w = λ o t. moved-tells (reply.Frames (x.moved + length fs)) x all fs t h
    by false mode.NonBlock = moved-tells (frames_or (x.moved + length fs) errno.Eagain) x all fs s h
    by false mode.Block = moved-tells reply.Asleep x all fs (sleeping (waiting_for c x r (x.moved + length fs) (min r s.setup.sw.avail_min)) s) h

moved-after_moves : (c : ClientId) (x : Xfer) (all fs : List Frame) (r : ℕ) (s : Stream) → Fit x all fs → Ever (IsMovedBy x all) (after_moves c x fs r s)
moved-after_moves c x all fs r s h = ever-if (IsMovedBy x all) (nat_eq r 0) (tells (reply.Frames (x.moved + length fs)) x fs s) (stuck c x fs r s) (moved-tells (reply.Frames (x.moved + length fs)) x all fs s h) (moved-stuck c x all fs r s h)

-- frames that were moved, and those of the bytes that are left
record Left (x : Xfer) (all fs ws : List Frame) : Type 0 where
  are : fs ++ ws ≡ drop x.moved all
  most : length (drop x.moved all) ≤ x.rest

fit-next : (x : Xfer) (all fs ws : List Frame) (n : ℕ) → Left x all fs ws → Fit x all (fs ++ take n ws)
fit-next x all fs ws n h =
    let is = take-front fs ws n in
    let to : fs ++ take n ws ≡ take (length (fs ++ take n ws)) (drop x.moved all) = is ∙ ap (take (length (fs ++ take n ws))) h.are in
    let size : length (take (length (fs ++ take n ws)) (drop x.moved all)) ≤ length (drop x.moved all) = short (length (fs ++ take n ws)) (drop x.moved all) in
    let same : length (fs ++ take n ws) ≡ length (take (length (fs ++ take n ws)) (drop x.moved all)) = ap length to in
    let most = h.most in
    record { most = omega (arith, same, size, most); frames = λ w. to }
  where
    short : (k : ℕ) (l : List Frame) → length (take k l) ≤ length l
    short zero [] = omega arith
    short zero (f ∷ l) = omega arith
    short (suc k) [] = omega arith
    short (suc k) (f ∷ l) = let r = short k l in omega (arith, r)

left-next : (x : Xfer) (all fs ws : List Frame) (n : ℕ) → Left x all fs ws → Left x all (fs ++ take n ws) (drop n ws)
left-next x all fs ws n h = record { are = both-fronts fs ws n ∙ h.are; most = h.most }

fit-none : (x : Xfer) (all : List Frame) → Fit x all []
fit-none x all = let i = idle-moved x all reply.Ok in record { most = omega arith; frames = i.frames }

moved-plain : (c : ClientId) (x : Xfer) (all fs ws : List Frame) (s : Stream) → Left x all fs ws → Ever (IsMovedBy x all) (write_plain c x fs ws s)
moved-plain c x all fs ws s h = let n : ℕ = min (length ws) (avail s) in moved-after_moves c x all (fs ++ take n ws) (length ws - n) (put_next (take n ws) s) (fit-next x all fs ws n h)

moved-from : (c : ClientId) (x : Xfer) (all fs ws : List Frame) (s : Stream) (o : Option ℕ) → Left x all fs ws → Ever (IsMovedBy x all) (write_from c x fs ws s o)
moved-from c x all fs ws s None h = moved-plain c x all fs ws s h
moved-from c x all fs ws s (Some t) h = by
  where
    by : (o : Outcome) (v : Stream) → Ever (IsMovedBy x all) (after_start c x (fs ++ take t ws) (drop t ws) o v)
    by outcome.Done v = moved-plain c x all (fs ++ take t ws) (drop t ws) v (left-next x all fs ws t h)
    by (outcome.Refused j e) v = moved-tells (frames_or (x.moved + length (fs ++ take t ws)) e) x all (fs ++ take t ws) v (fit-next x all fs ws t h)
    by (outcome.Failed j) v = moved-tells (frames_or (x.moved + length (fs ++ take t ws)) errno.Eio) x all (fs ++ take t ws) v (fit-next x all fs ws t h)

moved-write_on : (c : ClientId) (x : Xfer) (all fs ws : List Frame) (s : Stream) → Left x all fs ws → Ever (IsMovedBy x all) (write_on c x fs ws s)
moved-write_on c x all fs ws s h = moved-from c x all fs ws s (starting_halt s (min (length ws) (avail s))) h

-- a read of what rests
moved-read_on : (c : ClientId) (x : Xfer) (all : List Frame) (s : Stream) → x.writing ≡ false → Ever (IsMovedBy x all) (read_on c x [] x.rest s)
moved-read_on c x all s reads =
    let n : ℕ = min x.rest (avail s) in
    let size = count-standing s n s.at.appl in
    moved-after_moves c x all (read_next n s) (x.rest - n) (on_by n s) (record { most = fewer x.rest (avail s) (length (read_next n s)) size; frames = λ w. absurd (let no : ⊥ = cc in no) })
  where
    fewer : (a b k : ℕ) → k ≡ min a b → k ≤ a
    fewer a b k e = omega (arith, e)

moved-write : (c : ClientId) (w : Layout) (m : Mode) (io : List ℕ) (s : Stream) → Ever (Moves (call.Write w m) c io s) (write c w m io s)
moved-write c w m io s =
    let n : ℕ = length io / s.setup.frame_bytes in
    let x : Xfer = record { writing = true; layout = w; mode = m; rest = n; moved = 0 } in
    let all : List Frame = frames_by w s io in
    let on : Stream → Program = write_on c x [] all in
    let left : Left x all [] all = record { are = whole all; most = (let e = count-by w s io in let d = ap length (sym (whole all)) in omega (arith, e, d)) } in
    ever-unless (IsMovedBy x all) (misfit s true w (is_whole s io)) s (if nat_eq n 0 then says (reply.Frames 0) s else unless (table kind.Write s) s (updated_or_epipe s on)) (idle-moved x all)
    (ever-if (IsMovedBy x all) (nat_eq n 0) (says (reply.Frames 0) s) (unless (table kind.Write s) s (updated_or_epipe s on)) (idle-moved x all (reply.Frames 0))
    (ever-unless (IsMovedBy x all) (table kind.Write s) s (updated_or_epipe s on) (idle-moved x all) (ever-updated (IsMovedBy x all) s on (idle-moved x all) (λ t. moved-write_on c x all [] all t left))))
  where
    whole : (l : List Frame) → l ≡ drop 0 l
    whole [] = refl
    whole (f ∷ l) = refl

moved-start_reading : (c : ClientId) (x : Xfer) (s : Stream) → x.writing ≡ false → Ever (IsMovedBy x []) (start_reading c x s)
moved-start_reading c x s reads = ever-if (IsMovedBy x []) (is_prepared s.state && nat_le s.setup.sw.start_threshold x.rest) (making act.Start s (read_on c x [] x.rest)) (read_on c x [] x.rest s)
    (ever-making (IsMovedBy x []) act.Start s (read_on c x [] x.rest) (idle-moved x []) (λ t. moved-read_on c x [] t reads)) (moved-read_on c x [] s reads)

moved-read : (c : ClientId) (w : Layout) (m : Mode) (n : ℕ) (io : List ℕ) (s : Stream) → Ever (Moves (call.Read w m n) c io s) (read c w m n s)
moved-read c w m n io s =
    let x : Xfer = record { writing = false; layout = w; mode = m; rest = n; moved = 0 } in
    ever-unless (IsMovedBy x []) (misfit s false w (nat_le n 1048576)) s (if nat_eq n 0 then says (reply.Frames 0) s else unless (table kind.Read s) s (updated_or_epipe s (start_reading c x))) (idle-moved x [])
    (ever-if (IsMovedBy x []) (nat_eq n 0) (says (reply.Frames 0) s) (unless (table kind.Read s) s (updated_or_epipe s (start_reading c x))) (idle-moved x [] (reply.Frames 0))
    (ever-unless (IsMovedBy x []) (table kind.Read s) s (updated_or_epipe s (start_reading c x)) (idle-moved x []) (ever-updated (IsMovedBy x []) s (start_reading c x) (idle-moved x []) (λ t. moved-start_reading c x t refl))))

-- ---- a call that goes on

rest-of : (b m r size : ℕ) → size ≡ (m + r) * b → size / b - m ≤ r
rest-of zero m r size e = let z : size ≡ 0 = e ∙ (let y : (m + r) * 0 ≡ 0 = grind arith in y) in none size z
  where
    none : (k : ℕ) → k ≡ 0 → k / 0 - m ≤ r
    none k e = subst (λ (j : ℕ). j / 0 - m ≤ r) (sym e) (omega arith)
rest-of (suc b) m r size e =
    let q : size / suc b ≡ m + r = ap (λ (k : ℕ). k / suc b) e ∙ mul-div_cancel (m + r) (let lt : 0 < suc b = omega arith in lt) in omega (arith, q)

-- a call that goes on leaves the frames of its bytes
left-frames : (c : ClientId) (l : Layout) (s : Stream) (io : List ℕ) → frames_by l (left_by c s) io ≡ frames_by l s io
left-frames c layout.Interleaved s io = refl
left-frames c layout.Planar s io = refl

moved-go_on : (c : ClientId) (x : Xfer) (io : List ℕ) (s : Stream) → length io ≡ (x.moved + x.rest) * s.setup.frame_bytes → Ever (IsMovedBy x (frames_by x.layout s io)) (go_on c x io (left_by c s))
moved-go_on c x io s size = by x.writing refl
  where
    all : List Frame
    all = frames_by x.layout s io

    most : length (drop x.moved all) ≤ x.rest
    most = let e = count-by x.layout s io in let d = length-drop x.moved all in let r = rest-of s.setup.frame_bytes x.moved x.rest (length io) size in omega (arith, e, d, r)

    by : (b : Bool) → x.writing ≡ b → Ever (IsMovedBy x all) (cond b (write_on c x [] (drop x.moved (frames_by x.layout (left_by c s) io)) (left_by c s)) (read_on c x [] x.rest (left_by c s)))
    by true w =
        subst (λ (l : List Frame). Ever (IsMovedBy x all) (write_on c x [] (drop x.moved l) (left_by c s))) (sym (left-frames c x.layout s io))
        (moved-write_on c x all [] (drop x.moved all) (left_by c s) (record { are = refl; most = most }))
    by false w = moved-read_on c x all (left_by c s) w

moved-go_transfer : (c : ClientId) (x : Xfer) (wanted : ℕ) (io : List ℕ) (s : Stream) → length io ≡ (x.moved + x.rest) * s.setup.frame_bytes → Ever (IsMovedBy x (frames_by x.layout s io)) (go_transfer c x wanted io s)
moved-go_transfer c x wanted io s size = by s.state s.dir
  where
    all : List Frame
    all = frames_by x.layout s io

    idle : Idle (IsMovedBy x all)
    idle = idle-moved x all

    goes : Ever (IsMovedBy x all) (go_on c x io (left_by c s))
    goes = moved-go_on c x io s size

    may : Ever (IsMovedBy x all) (if nat_lt (avail s) wanted then says reply.Asleep s else go_on c x io (left_by c s))
    may = ever-if (IsMovedBy x all) (nat_lt (avail s) wanted) (says reply.Asleep s) (go_on c x io (left_by c s)) (idle reply.Asleep) goes

    by : (t : State) (d : Dir) → Ever (IsMovedBy x all) (go_transfer_in t d c x wanted io s)
    by state.Prepared d = may
    by state.Running d = may
    by state.Paused d = may
    by state.Suspended d = idle (frames_or x.moved errno.Estrpipe)
    by state.Disconnected d = idle (frames_or x.moved errno.Ebadfd)
    by state.Xrun d = idle (frames_or x.moved errno.Epipe)
    by state.Draining dir.Playback = idle (frames_or x.moved errno.Epipe)
    by state.Draining dir.Capture = goes
    by state.Closed d = idle (frames_or x.moved errno.Ebadfd)
    by state.Opened d = idle (frames_or x.moved errno.Ebadfd)
    by state.Setup d = idle (frames_or x.moved errno.Ebadfd)

abbrev IsStill : Answer → Type 0
IsStill a = a.frames ≡ []

still-go_drain : (c : ClientId) (o : Outcome) (t : Stream) → Ever IsStill (go_drain c o t)
still-go_drain c outcome.Done t = ever-if IsStill (is_suspended t.state) (fails errno.Estrpipe (left_by c t)) (says reply.Ok (left_by c t)) refl refl
still-go_drain c (outcome.Refused j e) t = refl
still-go_drain c (outcome.Failed j) t = refl

moved-go : (c : ClientId) (io : List ℕ) (s : Stream) → Ever (Moves call.Go c io s) (go c io s)
moved-go c io s = by (waiting_of c s.sleepers)
  where
    by : (k : Option Task) → Ever (MovesTask k io s) (go_call k c io s)
    by None = refl
    by (Some (task.Transfer x wanted)) = one (nat_eq (length io) ((x.moved + x.rest) * s.setup.frame_bytes)) refl
      where
        one : (b : Bool) → nat_eq (length io) ((x.moved + x.rest) * s.setup.frame_bytes) ≡ b → Ever (IsMovedBy x (frames_by x.layout s io)) (cond b (go_transfer c x wanted io s) (fails errno.Einval s))
        one true e = moved-go_transfer c x wanted io s (let z : length io ≡ (x.moved + x.rest) * s.setup.frame_bytes = grind (arith, nat_tests, e) in z)
        one false e = idle-moved x (frames_by x.layout s io) (reply.Err errno.Einval)
    by (Some task.Drain) = ever-if IsStill (nat_eq (length io) 0) (go_task c task.Drain io s) (fails errno.Einval s)
        (ever-if IsStill (is_disconnected s.state) (fails errno.Ebadfd (left_by c s)) (Makes act.Watch s (go_drain c)) refl (still-go_drain c)) refl

-- ---- events

pub anything : (p : Program) → Ever (λ a. Unit {0}) p
anything (Ends a s) = tt
anything (Makes a s f) = λ o t. anything (f o t)

still-act_alone : (a : Act) (s : Stream) → Ever IsStill (act_alone a s)
still-act_alone a s = ever-making IsStill a s (says reply.Ok) (λ r. refl) (λ t. refl)

idle-still : Idle IsStill
idle-still r = refl

still-watch : (c : ClientId) (s : Stream) (o : Outcome) (t : Stream) → Ever IsStill (watch c s o t)
still-watch c s outcome.Done t = refl
still-watch c s (outcome.Refused j e) t = refl
still-watch c s (outcome.Failed j) t = refl

still-drain_now : (c : ClientId) (m : Mode) (s : Stream) → Ever IsStill (drain_now c m s)
still-drain_now c mode.NonBlock s = ever-making IsStill act.Drain s (λ t. fails errno.Eagain t) idle-still (λ t. refl)
still-drain_now c mode.Block s = ever-making IsStill act.Drain s (λ t. Makes act.Watch t (watch c t)) idle-still (λ t. still-watch c t)

still-drain : (c : ClientId) (m : Mode) (s : Stream) → Ever IsStill (drain c m s)
still-drain c m s =
    let p : Program = making act.Release s (drain_now c m) in
    ever-unless IsStill (table kind.Drain s) s (if is_paused s.state then p else drain_now c m s) idle-still
    (ever-if IsStill (is_paused s.state) p (drain_now c m s) (ever-making IsStill act.Release s (drain_now c m) idle-still (still-drain_now c m)) (still-drain_now c m s))

still-reports : (f : Updated → Stream → Program) → ((u : Updated) (t : Stream) → Ever IsStill (f u t)) → (u : Updated) (t : Stream) → Ever IsStill (after_found f u t)
still-reports f h updated.Nothing t = h updated.Nothing t
still-reports f h updated.DrainDone t = h updated.DrainDone t
still-reports f h updated.StopXrun t = λ o v. h updated.StopXrun v

still-updated : (e : Option Errno) (s : Stream) (f : Stream → Program) → ((t : Stream) → Ever IsStill (f t)) → Ever IsStill (unless e s (updated_or_epipe s f))
still-updated e s f h = ever-unless IsStill e s (updated_or_epipe s f) idle-still (ever-updated IsStill s f idle-still h)

moved-event : (e : Call) (c : ClientId) (l : Bool) (io : List ℕ) (s : Stream) → Ever (Moves e c io s) (event e c l io s)
moved-event call.OpenSub c l io s = ever-if IsStill (is_closed s.state) (says reply.Ok (record s { state = state.Opened })) (fails errno.Ebusy s) refl refl
moved-event call.CloseSub c l io s = ever-unless IsStill (when (l || nat_lt 0 s.mappings || is_busy s) errno.Ebusy) s (says reply.Ok (closed s)) idle-still refl
moved-event (call.HwParams g) c l io s = ever-unless IsStill (table kind.HwParams s then if_held s) s (if accepts s.model s.long_max g then says reply.Ok (set_setup (setup_of g s.long_max) state.Setup (boundary_of (buffer_of g) s.long_max) s) else fails errno.Einval (freed s)) idle-still (ever-if IsStill (accepts s.model s.long_max g) (says reply.Ok (set_setup (setup_of g s.long_max) state.Setup (boundary_of (buffer_of g) s.long_max) s)) (fails errno.Einval (freed s)) refl refl)
moved-event call.HwFree c l io s = ever-unless IsStill (table kind.HwFree s then if_held s) s (says reply.Ok (freed s)) idle-still refl
moved-event (call.SwParams w) c l io s = ever-unless IsStill (table kind.SwParams s then when (refuses_sw s.setup.buffer s.setup.boundary w) errno.Einval) s (says reply.Ok (set_sw w s)) idle-still refl
moved-event call.Prepare c l io s = still-act_alone (act.Prepare (is_paused s.state || is_suspended s.state)) s
moved-event call.Start c l io s = still-act_alone act.Start s
moved-event call.DropNow c l io s = ever-unless IsStill (table kind.DropNow s) s (act_alone (act.Stop state.Setup) s) idle-still (still-act_alone (act.Stop state.Setup) s)
moved-event (call.Drain m) c l io s = still-drain c m s
moved-event call.PausePush c l io s = still-act_alone act.Pause s
moved-event call.PauseRelease c l io s = still-act_alone act.Release s
moved-event call.Suspend c l io s = still-act_alone act.Suspend s
moved-event call.Resume c l io s = still-act_alone act.Resume s
moved-event call.Xrun c l io s = ever-unless IsStill (table kind.Xrun s) s (if is_running s.state then act_alone (act.Stop state.Xrun) s else says reply.Ok s) idle-still (ever-if IsStill (is_running s.state) (act_alone (act.Stop state.Xrun) s) (says reply.Ok s) (still-act_alone (act.Stop state.Xrun) s) refl)
moved-event (call.Write w m) c l io s = moved-write c w m io s
moved-event (call.Read w m n) c l io s = moved-read c w m n io s
moved-event (call.Rewind n) c l io s = ever-if IsStill (nat_eq n 0) (says (reply.Frames 0) s) (unless (table kind.Rewind s) s (updated_or_epipe s (rewound n))) refl (still-updated (table kind.Rewind s) s (rewound n) (λ t. refl))
moved-event (call.Forward n) c l io s = ever-if IsStill (nat_eq n 0) (says (reply.Frames 0) s) (unless (table kind.Forward s) s (updated_or_epipe s (forwarded n))) refl (still-updated (table kind.Forward s) s (forwarded n) (λ t. refl))
moved-event call.Hwsync c l io s = still-updated (table kind.Hwsync s) s (says reply.Ok) (λ t. refl)
moved-event call.Delay c l io s = still-updated (table kind.Delay s) s (λ t. says (delay t) t) (λ t. refl)
moved-event (call.SyncPtr p) c l io s = ever-unless IsStill (table kind.SyncPtr s then when (nat_le s.setup.boundary p) errno.Einval) s (says (reply.Ptrs (page (sync_to p s))) (sync_to p s)) idle-still refl
moved-event call.Status c l io s = still-reports (λ u t. says (reply.Ptrs (page t)) t) (λ u t. refl) (update s).found (update s).stream
moved-event call.PageNow c l io s = refl
moved-event call.Poll c l io s = refl
moved-event call.Map c l io s = ever-unless IsStill (table kind.Map s then (when (not (is_mapped_access s.setup.config)) errno.Einval then when (nat_le 65535 s.mappings) errno.Ebusy)) s (says reply.Ok (set_mappings (s.mappings + 1) s)) idle-still refl
moved-event call.Unmap c l io s = ever-unless IsStill (when (nat_eq s.mappings 0) errno.Einval) s (says reply.Ok (set_mappings (s.mappings - 1) s)) idle-still refl
moved-event (call.Store o) c l io s = anything (event (call.Store o) c l io s)
moved-event (call.Load o n) c l io s = anything (event (call.Load o n) c l io s)
moved-event (call.Link j) c l io s = refl
moved-event call.Unlink c l io s = ever-unless IsStill (when (not l) errno.Ealready) s (says reply.Ok s) idle-still refl
moved-event call.Go c l io s = moved-go c io s
moved-event (call.MoveBy n) c l io s = tt
moved-event call.Irq c l io s = still-reports (λ u. says reply.Ok) (λ u t. refl) (update s).found (update s).stream
moved-event (call.FailAt i) c l io s = ever-if IsStill (nat_le 1 i && nat_le i 64) (says reply.Ok (plan_set i s)) (fails errno.Einval s) refl refl
moved-event call.Give c l io s = anything (event call.Give c l io s)
moved-event call.Unplug c l io s = ever-unless IsStill (table kind.Unplug s) s (if s.card.runs then making (act.Stop state.Setup) s unplug_alone else unplug_alone s) idle-still (ever-if IsStill s.card.runs (making (act.Stop state.Setup) s unplug_alone) (unplug_alone s) (ever-making IsStill (act.Stop state.Setup) s unplug_alone idle-still (λ t. refl)) refl)

idle-moves : (e : Call) (c : ClientId) (io : List ℕ) (s : Stream) → Idle (Moves e c io s)
idle-moves (call.Write w m) c io s = idle-moved (record { writing = true; layout = w; mode = m; rest = length io / s.setup.frame_bytes; moved = 0 }) (frames_by w s io)
idle-moves (call.Read w m n) c io s = idle-moved (record { writing = false; layout = w; mode = m; rest = n; moved = 0 }) []
idle-moves call.Go c io s = by (waiting_of c s.sleepers)
  where
    by : (k : Option Task) → Idle (MovesTask k io s)
    by None = idle-still
    by (Some (task.Transfer x wanted)) = idle-moved x (frames_by x.layout s io)
    by (Some task.Drain) = idle-still
idle-moves (call.Store o) c io s = λ r. tt
idle-moves (call.Load o n) c io s = λ r. tt
idle-moves call.Give c io s = λ r. tt
idle-moves (call.MoveBy n) c io s = λ r. tt
idle-moves _ c io s = λ r. refl

pub ever-answer : (P : Answer → Type 0) (p : Program) (k : SubId) (ms : List Member) → Ever P p → P (run p k ms).answer
ever-answer P (Ends a s) k ms h = h
ever-answer P (Makes a s f) k ms h =
    let now = put_stream k s ms in
    let d = acted a now in
    let next = members_after d now in
    ever-answer P (f d.outcome (stream_of k next)) k next (h d.outcome (stream_of k next))

-- what a step moves
pub step_moves : (e : Call) (c : ClientId) (k : SubId) (io : List ℕ) (ms : List Member) → Moves e c io (stream_of k ms) (group_step e c k io ms).answer
step_moves e c k io ms =
    let s : Stream = stream_of k ms in
    let l : Bool = nat_lt 1 (length ms) in
    ever-answer (Moves e c io s) (program e c l io s) k ms
    (ever-if (Moves e c io s) (is_closed s.state && not (opens e)) (fails errno.Enxio s) (event e c l io s) (idle-moves e c io s (reply.Err errno.Enxio)) (moved-event e c l io s))

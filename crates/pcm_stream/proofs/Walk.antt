-- A walk of every program: what the changes of streams keep, each event keeps that makes no other change.
use Rattle.std.proofs.Common.{ℕ, zero, suc, ◌≡◌, ◌+◌, ◌-◌, ◌/◌, ◌≤◌, ◌<◌, Bool, true, false, cond, not, ◌&&◌, ◌||◌, nat_eq, nat_le, nat_lt, List, [], ◌∷◌, ◌++◌, length, take, drop, min, if◌then◌else◌, refl, sym, ap, ◌∙◌, subst, arith, length-take}
use Rattle.std.specs.declared.option.Option.{Option}
use Rattle.std.specs.declared.option.Option.TheVariants.{Some, None}
use Rattle.pcm_base.specs.declared.act.Act.{Act}
use Rattle.pcm_base.specs.declared.act.Act.TheVariants as act
use Rattle.pcm_base.specs.declared.act.Outcome.{Outcome}
use Rattle.pcm_base.specs.declared.act.Outcome.TheVariants as outcome
use Rattle.pcm_base.specs.declared.act.Updated.{Updated}
use Rattle.pcm_base.specs.declared.act.Updated.TheVariants as updated
use Rattle.pcm_base.specs.declared.act.Vote.{Vote}
use Rattle.pcm_base.specs.declared.call.Call.{Call}
use Rattle.pcm_base.specs.declared.call.Call.TheVariants as call
use Rattle.pcm_base.specs.declared.call.CallKind.TheVariants as kind
use Rattle.pcm_base.specs.declared.call.Layout.{Layout}
use Rattle.pcm_base.specs.declared.call.Mode.{Mode}
use Rattle.pcm_base.specs.declared.call.Mode.TheVariants as mode
use Rattle.pcm_base.specs.declared.config.SwParams.{SwParams}
use Rattle.pcm_base.specs.declared.ids.ClientId.{ClientId}
use Rattle.pcm_base.specs.declared.ids.SubId.{SubId}
use Rattle.pcm_base.specs.declared.reply.Reply.TheVariants as reply
use Rattle.pcm_base.specs.declared.sleeper.Task.{Task}
use Rattle.pcm_base.specs.declared.sleeper.Task.TheVariants as task
use Rattle.pcm_base.specs.declared.sleeper.Xfer.{Xfer}
use Rattle.pcm_base.specs.declared.state.Dir.{Dir}
use Rattle.pcm_base.specs.declared.state.Dir.TheVariants as dir
use Rattle.pcm_base.specs.declared.state.Errno.{Errno}
use Rattle.pcm_base.specs.declared.state.Errno.TheVariants as errno
use Rattle.pcm_base.specs.declared.state.State.{State}
use Rattle.pcm_base.specs.declared.state.State.TheVariants as state
use Rattle.pcm_base.specs.model.Acts.{after, table}
use Rattle.pcm_base.specs.model.Events.{delay, drain, drain_now, event, forwarded, go, go_call, go_drain, go_on, go_task, go_transfer, go_transfer_in, hands, is_mapped_access, left_by, length_of, opens, page, plan_set, program, rewound, set_mappings, set_sw, unplug_alone, unplugged, waiting_of, watch}
use Rattle.pcm_base.specs.model.Frame.{Frame}
use Rattle.pcm_base.specs.model.Movement.{move}
use Rattle.pcm_base.specs.model.PointerCalls.{back_by, hw_avail, on_by}
use Rattle.pcm_base.specs.model.Program.{Answer, Ends, Makes, Program, act_alone, after_found, fails, going_on, making, or_epipe, says, unless, updated_or_epipe, updating}
use Rattle.pcm_base.specs.model.Replay.{Fits, Part, Plays, joined}
use Rattle.pcm_base.specs.model.Software.{refuses_sw}
use Rattle.pcm_base.specs.model.Sound.{Sound, is_stop}
use Rattle.pcm_base.specs.model.Standing.{standing_at}
use Rattle.pcm_base.specs.model.Stream.{Stream, avail, is_bare, zero_frame}
use Rattle.pcm_base.specs.model.Transfer.{after_moves, after_start, beq, fits, frames_by, frames_in, is_filled, is_halt, is_whole, least, misfit, put_next, read, read_next, read_on, sleeping, start_reading, starting_halt, stuck, stuck_in, tells, waiting_for, write, write_from, write_on, write_plain}
use Rattle.pcm_base.specs.model.Update.{update}
use Rattle.pcm_base.specs.model.Words.{is_closed, is_disconnected, is_draining, is_paused, is_playback, is_prepared, is_running, is_suspended, when, ◌then◌}
use Rattle.pcm_laws.proofs.KeptByActs.{first_none}
use Rattle.pcm_laws.proofs.KeptByMoves.{Sound-update}
use Rattle.pcm_laws.proofs.KeptByPrograms.{Sound-left_by, Sound-on_by, Sound-put_next}
use Rattle.pcm_laws.proofs.KeptByVotes.{Sound-after}
use Rattle.pcm_stream.specs.KeepingUp.{NonePrepares, is_prepare}

-- these changes of a sound stream of this direction keep it, where its transfers in progress fit the direction
pub record IsKept (bars : Act → Outcome → Bool) (d : Dir) (P : Stream → Type 0) : Type 0 where
  pub way : (s : Stream) → P s → s.dir ≡ d
  pub fit : (c : ClientId) (x : Xfer) (wanted : ℕ) (s : Stream) → P s → waiting_of c s.sleepers ≡ Some (task.Transfer x wanted) → x.writing ≡ is_playback d
  pub updated : (s : Stream) → Sound s → P s → P (update s).stream
  pub acts : (k : SubId) (a : Act) (v : Vote) (o : Outcome) (s : Stream) → is_stop a ≡ true → Fits k s a v o → bars a o ≡ false → Sound s → P s → P (after a v o s)
  pub backs : (n : ℕ) (s : Stream) → n ≤ hw_avail s → Sound s → P s → P (back_by n s)
  pub ons : (n : ℕ) (s : Stream) → n ≤ avail s → Sound s → P s → P (on_by n s)
  pub puts : (fs : List Frame) (s : Stream) → is_playback d ≡ true → length fs ≤ avail s → Sound s → P s → P (put_next fs s)
  pub moves : (n : ℕ) (s : Stream) → Sound s → P s → P (move n s).stream
  pub sleeps : (c : ClientId) (x : Xfer) (rest m wanted : ℕ) (s : Stream) → x.writing ≡ is_playback d → P s → P (sleeping (waiting_for c x rest m wanted) s)
  pub drains : (c : ClientId) (s : Stream) → P s → P (sleeping (record { client = c; task = task.Drain }) s)
  pub leaves : (c : ClientId) (s : Stream) → P s → P (left_by c s)
  pub maps : (n : ℕ) (s : Stream) → P s → P (set_mappings n s)
  pub sws : (v : SwParams) (s : Stream) → P s → P (set_sw v s)
  pub plans : (n : ℕ) (s : Stream) → P s → P (plan_set n s)
  pub gives : (gs : List Frame) (s : Stream) → P s → P (record s { card = record s.card { to_give = gs } })
  pub unplugs : (s : Stream) → P s → P (unplugged s)

-- each stream with which member k's program ends, whatever fits and prepares nothing, has the property
abbrev pub Keeps : (Act → Outcome → Bool) → (Stream → Type 0) → SubId → Program → Type 0
Keeps bars P k (Ends a s) = P s
Keeps bars P k (Makes a s f) = (is_stop a ≡ true) × ((v : Vote) (o : Outcome) → Fits k s a v o → bars a o ≡ false → Keeps bars P k (f o (after a v o s)))

-- none of these joints is barred
abbrev pub NoneBarred : (Act → Outcome → Bool) → List Part → Type 0
NoneBarred bars [] = Unit {0}
NoneBarred bars (p ∷ ps) = (bars p.act p.outcome ≡ false) × NoneBarred bars ps

none-prepares : (ps : List Part) → NonePrepares ps → NoneBarred is_prepare ps
none-prepares [] h = tt
none-prepares (p ∷ ps) h = (h.0, none-prepares ps h.1)

abbrev pub bars_none : Act → Outcome → Bool
bars_none a o = false

pub none-barred : (ps : List Part) → NoneBarred bars_none ps
none-barred [] = tt
none-barred (p ∷ ps) = (refl, none-barred ps)

-- a program that keeps it, with any joints that fit
pub Plays-kept_by : (bars : Act → Outcome → Bool) (P : Stream → Type 0) (k : SubId) (p : Program) (ps : List Part) (b : Answer) (t : Stream) → Plays k p ps b t → NoneBarred bars ps → Keeps bars P k p → P t
Plays-kept_by bars P k (Ends a s) [] b t h n g = subst P (sym h.1) g
Plays-kept_by bars P k (Ends a s) (q ∷ ps) b t h n g = absurd h
Plays-kept_by bars P k (Makes a s f) [] b t h n g = absurd h
Plays-kept_by bars P k (Makes a s f) (q ∷ ps) b t h n g =
    let fit : Fits k s a q.vote q.outcome = subst (λ x. Fits k s x q.vote q.outcome) h.0 h.1 in
    let not_one : bars a q.outcome ≡ false = subst (λ x. bars x q.outcome ≡ false) h.0 n.0 in
    let next : Keeps bars P k (f q.outcome (joined q s)) = subst (λ x. Keeps bars P k (f q.outcome (joined (record { act = x; vote = q.vote; outcome = q.outcome }) s))) (sym h.0) (g.1 q.vote q.outcome fit not_one) in
    Plays-kept_by bars P k (f q.outcome (joined q s)) ps b t h.2 n.1 next

pub Plays-kept : (P : Stream → Type 0) (k : SubId) (p : Program) (ps : List Part) (b : Answer) (t : Stream) → Plays k p ps b t → NonePrepares ps → Keeps is_prepare P k p → P t
Plays-kept P k p ps b t h n g = Plays-kept_by is_prepare P k p ps b t h (none-prepares ps n) g

-- ---- words

pub unless-kept : (bars : Act → Outcome → Bool) (P : Stream → Type 0) (k : SubId) (e : Option Errno) (s : Stream) (p : Program) → P s → (e ≡ None → Keeps bars P k p) → Keeps bars P k (unless e s p)
unless-kept bars P k (Some e) s p h f = h
unless-kept bars P k None s p h f = f refl

pub if-kept : (bars : Act → Outcome → Bool) (P : Stream → Type 0) (k : SubId) (b : Bool) (p q : Program) → (b ≡ true → Keeps bars P k p) → (b ≡ false → Keeps bars P k q) → Keeps bars P k (cond b p q)
if-kept bars P k true p q f g = f refl
if-kept bars P k false p q f g = g refl

going_on-kept : (bars : Act → Outcome → Bool) (P : Stream → Type 0) (k : SubId) (f : Stream → Program) (o : Outcome) (t : Stream) → P t → Keeps bars P k (f t) → Keeps bars P k (going_on f o t)
going_on-kept bars P k f outcome.Done t h g = g
going_on-kept bars P k f (outcome.Refused j e) t h g = h
going_on-kept bars P k f (outcome.Failed j) t h g = h

making-kept : (bars : Act → Outcome → Bool) (d : Dir) (P : Stream → Type 0) (w : IsKept bars d P) (k : SubId) (a : Act) (s : Stream) (f : Stream → Program) → is_stop a ≡ true → Sound s → P s → ((t : Stream) → Sound t → P t → Keeps bars P k (f t)) → Keeps bars P k (making a s f)
making-kept bars d P w k a s f i sound h g = (
  i,
  λ v o q z.
      let t : P (after a v o s) = w.acts k a v o s i q z sound h in
      going_on-kept bars P k f o (after a v o s) t (g (after a v o s) (Sound-after k a v o s i q sound) t),
)

alone-kept : (bars : Act → Outcome → Bool) (d : Dir) (P : Stream → Type 0) (w : IsKept bars d P) (k : SubId) (a : Act) (s : Stream) → is_stop a ≡ true → Sound s → P s → Keeps bars P k (act_alone a s)
alone-kept bars d P w k a s i sound h = making-kept bars d P w k a s (says reply.Ok) i sound h (λ t g q. q)

found-kept : (bars : Act → Outcome → Bool) (d : Dir) (P : Stream → Type 0) (w : IsKept bars d P) (k : SubId) (f : Updated → Stream → Program) → ((u : Updated) (t : Stream) → Sound t → P t → Keeps bars P k (f u t)) → (u : Updated) (t : Stream) → Sound t → P t → Keeps bars P k (after_found f u t)
found-kept bars d P w k f g updated.Nothing t sound h = g updated.Nothing t sound h
found-kept bars d P w k f g updated.DrainDone t sound h = g updated.DrainDone t sound h
found-kept bars d P w k f g updated.StopXrun t sound h = (
  refl,
  λ v o q z.
      g updated.StopXrun (after (act.Stop state.Xrun) v o t) (Sound-after k (act.Stop state.Xrun) v o t refl q sound) (w.acts k (act.Stop state.Xrun) v o t refl q z sound h),
)

updating-kept : (bars : Act → Outcome → Bool) (d : Dir) (P : Stream → Type 0) (w : IsKept bars d P) (k : SubId) (s : Stream) (f : Updated → Stream → Program) → Sound s → P s → ((u : Updated) (t : Stream) → Sound t → P t → Keeps bars P k (f u t)) → Keeps bars P k (updating s f)
updating-kept bars d P w k s f sound h g = found-kept bars d P w k f g (update s).found (update s).stream (Sound-update s sound) (w.updated s sound h)

or_epipe-kept : (bars : Act → Outcome → Bool) (P : Stream → Type 0) (k : SubId) (f : Stream → Program) → ((t : Stream) → Sound t → P t → Keeps bars P k (f t)) → (u : Updated) (t : Stream) → Sound t → P t → Keeps bars P k (or_epipe f u t)
or_epipe-kept bars P k f g updated.Nothing t sound h = g t sound h
or_epipe-kept bars P k f g updated.DrainDone t sound h = h
or_epipe-kept bars P k f g updated.StopXrun t sound h = h

epipe-kept : (bars : Act → Outcome → Bool) (d : Dir) (P : Stream → Type 0) (w : IsKept bars d P) (k : SubId) (s : Stream) (f : Stream → Program) → Sound s → P s → ((t : Stream) → Sound t → P t → Keeps bars P k (f t)) → Keeps bars P k (updated_or_epipe s f)
epipe-kept bars d P w k s f sound h g = updating-kept bars d P w k s (or_epipe f) sound h (or_epipe-kept bars P k f g)

-- ---- transfers

stuck-kept : (bars : Act → Outcome → Bool) (d : Dir) (P : Stream → Type 0) (w : IsKept bars d P) (k : SubId) (c : ClientId) (x : Xfer) (fs : List Frame) (r : ℕ) (s : Stream) → x.writing ≡ is_playback d → Sound s → P s → Keeps bars P k (stuck c x fs r s)
stuck-kept bars d P w k c x fs r s y sound h = by (not x.writing && is_draining s.state) x.mode
  where
    by : (b : Bool) (m : Mode) → Keeps bars P k (cond b (Makes (act.Stop state.Setup) s (λ o. tells (reply.Frames (x.moved + length fs)) x fs)) (stuck_in m c x fs r s))
    by true m = (refl, λ v o q z. w.acts k (act.Stop state.Setup) v o s refl q z sound h)
    by false mode.NonBlock = h
    by false mode.Block = w.sleeps c x r (x.moved + length fs) (min r s.setup.sw.avail_min) s y h

moves-kept : (bars : Act → Outcome → Bool) (d : Dir) (P : Stream → Type 0) (w : IsKept bars d P) (k : SubId) (c : ClientId) (x : Xfer) (fs : List Frame) (r : ℕ) (s : Stream) → x.writing ≡ is_playback d → Sound s → P s → Keeps bars P k (after_moves c x fs r s)
moves-kept bars d P w k c x fs r s y sound h = if-kept bars P k (nat_eq r 0) (tells (reply.Frames (x.moved + length fs)) x fs s) (stuck c x fs r s) (λ _. h) (λ _. stuck-kept bars d P w k c x fs r s y sound h)

pub taken_fits : (n a : ℕ) (ws : List Frame) → n ≤ a → length (take n ws) ≤ a
taken_fits n a ws l = omega (arith, l, length-take n ws)

plain-kept : (bars : Act → Outcome → Bool) (d : Dir) (P : Stream → Type 0) (w : IsKept bars d P) (k : SubId) (c : ClientId) (x : Xfer) (fs ws : List Frame) (s : Stream) → x.writing ≡ is_playback d → is_playback d ≡ true → Sound s → P s → Keeps bars P k (write_plain c x fs ws s)
plain-kept bars d P w k c x fs ws s y i sound h =
    let n : ℕ = min (length ws) (avail s) in
    let few : length (take n ws) ≤ avail s = taken_fits n (avail s) ws (omega arith) in
    moves-kept bars d P w k c x (fs ++ take n ws) (length ws - n) (put_next (take n ws) s) y (Sound-put_next (take n ws) s few sound) (w.puts (take n ws) s i few sound h)

started-kept : (bars : Act → Outcome → Bool) (d : Dir) (P : Stream → Type 0) (w : IsKept bars d P) (k : SubId) (c : ClientId) (x : Xfer) (fs ws : List Frame) (o : Outcome) (s : Stream) → x.writing ≡ is_playback d → is_playback d ≡ true → Sound s → P s → Keeps bars P k (after_start c x fs ws o s)
started-kept bars d P w k c x fs ws outcome.Done s y i sound h = plain-kept bars d P w k c x fs ws s y i sound h
started-kept bars d P w k c x fs ws (outcome.Refused j e) s y i sound h = h
started-kept bars d P w k c x fs ws (outcome.Failed j) s y i sound h = h

inside : (a b : ℕ) → Some a ≡ Some b → a ≡ b
inside a b h = cc

least_below : (t : ℕ → Bool) (i n j : ℕ) → least t i n ≡ Some j → j < i + n
least_below t i zero j h = absurd (cc)
least_below t i (suc n) j h = by (t i) h (λ g. least_below t (i + 1) n j g)
  where
    by : (b : Bool) → cond b (Some i) (least t (i + 1) n) ≡ Some j → (least t (i + 1) n ≡ Some j → j < i + 1 + n) → j < i + suc n
    by true e f = let g : i ≡ j = inside i j e in omega (arith, g)
    by false e f = let g : j < i + 1 + n = f e in omega (arith, g)

pub halt_below : (s : Stream) (n j : ℕ) → starting_halt s n ≡ Some j → j ≤ n
halt_below s n j h = by (is_prepared s.state) h
  where
    by : (b : Bool) → cond b (least (λ i. is_halt s.setup.buffer s.at.appl n i && is_filled s i) 1 n) None ≡ Some j → j ≤ n
    by true e = let g : j < 1 + n = least_below (λ i. is_halt s.setup.buffer s.at.appl n i && is_filled s i) 1 n j e in omega (arith, g)
    by false e = absurd (cc)

from-kept : (bars : Act → Outcome → Bool) (d : Dir) (P : Stream → Type 0) (w : IsKept bars d P) (k : SubId) (c : ClientId) (x : Xfer) (fs ws : List Frame) (s : Stream) (o : Option ℕ) → ((t : ℕ) → o ≡ Some t → t ≤ avail s) → x.writing ≡ is_playback d → is_playback d ≡ true → Sound s → P s → Keeps bars P k (write_from c x fs ws s o)
from-kept bars d P w k c x fs ws s None l y i sound h = plain-kept bars d P w k c x fs ws s y i sound h
from-kept bars d P w k c x fs ws s (Some t) l y i sound h =
    let few : length (take t ws) ≤ avail s = taken_fits t (avail s) ws (l t refl) in
    let g : Sound (put_next (take t ws) s) = Sound-put_next (take t ws) s few sound in
    let q : P (put_next (take t ws) s) = w.puts (take t ws) s i few sound h in (
      refl,
      λ v o f z. started-kept bars d P w k c x (fs ++ take t ws) (drop t ws) o (after act.Start v o (put_next (take t ws) s)) y i
          (Sound-after k act.Start v o (put_next (take t ws) s) refl f g) (w.acts k act.Start v o (put_next (take t ws) s) refl f z g q),
    )

write_on-kept : (bars : Act → Outcome → Bool) (d : Dir) (P : Stream → Type 0) (w : IsKept bars d P) (k : SubId) (c : ClientId) (x : Xfer) (fs ws : List Frame) (s : Stream) → x.writing ≡ is_playback d → is_playback d ≡ true → Sound s → P s → Keeps bars P k (write_on c x fs ws s)
write_on-kept bars d P w k c x fs ws s y i sound h =
    let n : ℕ = min (length ws) (avail s) in
    from-kept bars d P w k c x fs ws s (starting_halt s n) (λ t e. let g : t ≤ min (length ws) (avail s) = halt_below s n t e in omega (arith, g)) y i sound h

read_on-kept : (bars : Act → Outcome → Bool) (d : Dir) (P : Stream → Type 0) (w : IsKept bars d P) (k : SubId) (c : ClientId) (x : Xfer) (fs : List Frame) (r : ℕ) (s : Stream) → x.writing ≡ is_playback d → Sound s → P s → Keeps bars P k (read_on c x fs r s)
read_on-kept bars d P w k c x fs r s y sound h =
    let n : ℕ = min r (avail s) in
    let few : n ≤ avail s = omega arith in
    moves-kept bars d P w k c x (fs ++ read_next n s) (r - n) (on_by n s) y (Sound-on_by n s few sound) (w.ons n s few sound h)

-- what is not refused has the stream's direction
fits-way : (s : Stream) (writing : Bool) (l : Layout) (whole : Bool) → misfit s writing l whole ≡ None → writing ≡ is_playback s.dir
fits-way s writing l whole h =
    same writing (is_playback s.dir) (no_refusal (not (beq writing (is_playback s.dir)))
    (first_none (when (not (beq writing (is_playback s.dir))) errno.Einval) (when (is_bare s) errno.Ebadfd then (when (not (fits l s.setup.config)) errno.Einval then when (not whole) errno.Einval)) h))
  where
    no_refusal : (b : Bool) → when b errno.Einval ≡ None → b ≡ false
    no_refusal true e = absurd (cc)
    no_refusal false e = refl

    same : (a b : Bool) → not (beq a b) ≡ false → a ≡ b
    same true true e = refl
    same true false e = absurd (cc)
    same false true e = absurd (cc)
    same false false e = refl

write-kept : (bars : Act → Outcome → Bool) (d : Dir) (P : Stream → Type 0) (w : IsKept bars d P) (k : SubId) (c : ClientId) (l : Layout) (m : Mode) (io : List ℕ) (s : Stream) → Sound s → P s → Keeps bars P k (write c l m io s)
write-kept bars d P w k c l m io s sound h =
    let n : ℕ = length io / s.setup.frame_bytes in
    let x : Xfer = record { writing = true; layout = l; mode = m; rest = n; moved = 0 } in
    let on : Stream → Program = write_on c x [] (frames_by l s io) in
    unless-kept bars P k (misfit s true l (is_whole s io)) s (if nat_eq n 0 then says (reply.Frames 0) s else unless (table kind.Write s) s (updated_or_epipe s on)) h
    (λ fits. if-kept bars P k (nat_eq n 0) (says (reply.Frames 0) s) (unless (table kind.Write s) s (updated_or_epipe s on)) (λ _. h)
    (λ _. let i : is_playback d ≡ true = ap is_playback (sym (w.way s h)) ∙ sym (fits-way s true l (is_whole s io) fits) in
    unless-kept bars P k (table kind.Write s) s (updated_or_epipe s on) h (λ _. epipe-kept bars d P w k s on sound h (λ t g q. write_on-kept bars d P w k c x [] (frames_by l s io) t (sym i) i g q))))

reading-kept : (bars : Act → Outcome → Bool) (d : Dir) (P : Stream → Type 0) (w : IsKept bars d P) (k : SubId) (c : ClientId) (x : Xfer) (s : Stream) → x.writing ≡ is_playback d → Sound s → P s → Keeps bars P k (start_reading c x s)
reading-kept bars d P w k c x s y sound h = if-kept bars P k (is_prepared s.state && nat_le s.setup.sw.start_threshold x.rest) (making act.Start s (read_on c x [] x.rest)) (read_on c x [] x.rest s)
    (λ _. making-kept bars d P w k act.Start s (read_on c x [] x.rest) refl sound h (λ t g q. read_on-kept bars d P w k c x [] x.rest t y g q)) (λ _. read_on-kept bars d P w k c x [] x.rest s y sound h)

read-kept : (bars : Act → Outcome → Bool) (d : Dir) (P : Stream → Type 0) (w : IsKept bars d P) (k : SubId) (c : ClientId) (l : Layout) (m : Mode) (n : ℕ) (s : Stream) → Sound s → P s → Keeps bars P k (read c l m n s)
read-kept bars d P w k c l m n s sound h =
    let x : Xfer = record { writing = false; layout = l; mode = m; rest = n; moved = 0 } in
    unless-kept bars P k (misfit s false l (nat_le n 1048576)) s (if nat_eq n 0 then says (reply.Frames 0) s else unless (table kind.Read s) s (updated_or_epipe s (start_reading c x))) h
    (λ fits. if-kept bars P k (nat_eq n 0) (says (reply.Frames 0) s) (unless (table kind.Read s) s (updated_or_epipe s (start_reading c x))) (λ _. h)
    (λ _. let i : is_playback d ≡ false = ap is_playback (sym (w.way s h)) ∙ sym (fits-way s false l (nat_le n 1048576) fits) in
    unless-kept bars P k (table kind.Read s) s (updated_or_epipe s (start_reading c x)) h (λ _. epipe-kept bars d P w k s (start_reading c x) sound h (λ t g q. reading-kept bars d P w k c x t (sym i) g q))))

-- ---- drains, and calls that go on

watch-kept : (bars : Act → Outcome → Bool) (d : Dir) (P : Stream → Type 0) (w : IsKept bars d P) (k : SubId) (c : ClientId) (s : Stream) (o : Outcome) (t : Stream) → P t → Keeps bars P k (watch c s o t)
watch-kept bars d P w k c s outcome.Done t h = h
watch-kept bars d P w k c s (outcome.Refused j e) t h = w.drains c t h
watch-kept bars d P w k c s (outcome.Failed j) t h = w.drains c t h

drain_now-kept : (bars : Act → Outcome → Bool) (d : Dir) (P : Stream → Type 0) (w : IsKept bars d P) (k : SubId) (c : ClientId) (m : Mode) (s : Stream) → Sound s → P s → Keeps bars P k (drain_now c m s)
drain_now-kept bars d P w k c mode.NonBlock s sound h = making-kept bars d P w k act.Drain s (λ t. fails errno.Eagain t) refl sound h (λ t g q. q)
drain_now-kept bars d P w k c mode.Block s sound h = making-kept bars d P w k act.Drain s (λ t. Makes act.Watch t (watch c t)) refl sound h
    (λ t g q. (refl, λ v o f z. watch-kept bars d P w k c t o (after act.Watch v o t) (w.acts k act.Watch v o t refl f z g q)))

drain-kept : (bars : Act → Outcome → Bool) (d : Dir) (P : Stream → Type 0) (w : IsKept bars d P) (k : SubId) (c : ClientId) (m : Mode) (s : Stream) → Sound s → P s → Keeps bars P k (drain c m s)
drain-kept bars d P w k c m s sound h =
    let p : Program = making act.Release s (drain_now c m) in
    unless-kept bars P k (table kind.Drain s) s (if is_paused s.state then p else drain_now c m s) h
    (λ _. if-kept bars P k (is_paused s.state) p (drain_now c m s) (λ _. making-kept bars d P w k act.Release s (drain_now c m) refl sound h (λ t g q. drain_now-kept bars d P w k c m t g q)) (λ _. drain_now-kept bars d P w k c m s sound h))

go_on-kept : (bars : Act → Outcome → Bool) (d : Dir) (P : Stream → Type 0) (w : IsKept bars d P) (k : SubId) (c : ClientId) (x : Xfer) (io : List ℕ) (s : Stream) → x.writing ≡ is_playback d → Sound s → P s → Keeps bars P k (go_on c x io s)
go_on-kept bars d P w k c x io s y sound h =
    let ws : List Frame = drop x.moved (frames_by x.layout s io) in
    if-kept bars P k x.writing (write_on c x [] ws s) (read_on c x [] x.rest s) (λ e. write_on-kept bars d P w k c x [] ws s y (sym y ∙ e) sound h) (λ _. read_on-kept bars d P w k c x [] x.rest s y sound h)

transfer-kept : (bars : Act → Outcome → Bool) (d : Dir) (P : Stream → Type 0) (w : IsKept bars d P) (k : SubId) (c : ClientId) (x : Xfer) (wanted : ℕ) (io : List ℕ) (s : Stream) → x.writing ≡ is_playback d → Sound s → P s → Keeps bars P k (go_transfer c x wanted io s)
transfer-kept bars d P w k c x wanted io s y sound h = by s.state s.dir
  where
    gone : P (left_by c s)
    gone = w.leaves c s h

    on : Keeps bars P k (go_on c x io (left_by c s))
    on = go_on-kept bars d P w k c x io (left_by c s) y (Sound-left_by c s sound) (w.leaves c s h)

    may : Keeps bars P k (if nat_lt (avail s) wanted then says reply.Asleep s else go_on c x io (left_by c s))
    may = if-kept bars P k (nat_lt (avail s) wanted) (says reply.Asleep s) (go_on c x io (left_by c s)) (λ _. h)
        (λ _. go_on-kept bars d P w k c x io (left_by c s) y (Sound-left_by c s sound) (w.leaves c s h))

    by : (t : State) (v : Dir) → Keeps bars P k (go_transfer_in t v c x wanted io s)
    by state.Prepared v = may
    by state.Running v = may
    by state.Paused v = may
    by state.Suspended v = gone
    by state.Disconnected v = gone
    by state.Xrun v = gone
    by state.Draining dir.Playback = gone
    by state.Draining dir.Capture = on
    by state.Closed v = gone
    by state.Opened v = gone
    by state.Setup v = gone

go_drain-kept : (bars : Act → Outcome → Bool) (d : Dir) (P : Stream → Type 0) (w : IsKept bars d P) (k : SubId) (c : ClientId) (o : Outcome) (t : Stream) → P t → Keeps bars P k (go_drain c o t)
go_drain-kept bars d P w k c outcome.Done t h =
    if-kept bars P k (is_suspended t.state) (fails errno.Estrpipe (left_by c t)) (says reply.Ok (left_by c t)) (λ _. w.leaves c t h) (λ _. w.leaves c t h)
go_drain-kept bars d P w k c (outcome.Refused j e) t h = h
go_drain-kept bars d P w k c (outcome.Failed j) t h = h

task-kept : (bars : Act → Outcome → Bool) (d : Dir) (P : Stream → Type 0) (w : IsKept bars d P) (k : SubId) (c : ClientId) (q : Task) (io : List ℕ) (s : Stream) → ((x : Xfer) (wanted : ℕ) → q ≡ task.Transfer x wanted → x.writing ≡ is_playback d) → Sound s → P s → Keeps bars P k (go_task c q io s)
task-kept bars d P w k c (task.Transfer x wanted) io s y sound h = transfer-kept bars d P w k c x wanted io s (y x wanted refl) sound h
task-kept bars d P w k c task.Drain io s y sound h = if-kept bars P k (is_disconnected s.state) (fails errno.Ebadfd (left_by c s)) (Makes act.Watch s (go_drain c)) (λ _. w.leaves c s h)
    (λ _. (refl, λ v o q z. go_drain-kept bars d P w k c o (after act.Watch v o s) (w.acts k act.Watch v o s refl q z sound h)))

go-kept : (bars : Act → Outcome → Bool) (d : Dir) (P : Stream → Type 0) (w : IsKept bars d P) (k : SubId) (c : ClientId) (io : List ℕ) (s : Stream) → Sound s → P s → Keeps bars P k (go c io s)
go-kept bars d P w k c io s sound h = by (waiting_of c s.sleepers) refl
  where
    by : (q : Option Task) → waiting_of c s.sleepers ≡ q → Keeps bars P k (go_call q c io s)
    by None e = h
    by (Some p) e = if-kept bars P k (nat_eq (length io) (length_of p s)) (go_task c p io s) (fails errno.Einval s)
        (λ _. task-kept bars d P w k c p io s (λ x wanted q. w.fit c x wanted s h (e ∙ ap Some q)) sound h) (λ _. h)

-- ---- events

-- events that give no other buffer, store nothing and set no application position
abbrev pub is_plain : Call → Bool
is_plain call.OpenSub = false
is_plain call.CloseSub = false
is_plain (call.HwParams g) = false
is_plain call.HwFree = false
is_plain (call.SyncPtr p) = false
is_plain (call.Store o) = false
is_plain _ = true

act_unless-kept : (bars : Act → Outcome → Bool) (d : Dir) (P : Stream → Type 0) (w : IsKept bars d P) (k : SubId) (e : Option Errno) (a : Act) (s : Stream) → is_stop a ≡ true → Sound s → P s → Keeps bars P k (unless e s (act_alone a s))
act_unless-kept bars d P w k e a s i sound h = unless-kept bars P k e s (act_alone a s) h (λ _. alone-kept bars d P w k a s i sound h)

event-kept : (bars : Act → Outcome → Bool) (d : Dir) (P : Stream → Type 0) (w : IsKept bars d P) (k : SubId) (e : Call) (c : ClientId) (l : Bool) (io : List ℕ) (s : Stream) → is_plain e ≡ true → Sound s → P s → Keeps bars P k (event e c l io s)
event-kept bars d P w k call.OpenSub c l io s f sound h = absurd (cc)
event-kept bars d P w k call.CloseSub c l io s f sound h = absurd (cc)
event-kept bars d P w k (call.HwParams g) c l io s f sound h = absurd (cc)
event-kept bars d P w k call.HwFree c l io s f sound h = absurd (cc)
event-kept bars d P w k (call.SwParams v) c l io s f sound h = unless-kept bars P k (table kind.SwParams s then when (refuses_sw s.setup.buffer s.setup.boundary v) errno.Einval) s (says reply.Ok (set_sw v s)) h (λ _. w.sws v s h)
event-kept bars d P w k call.Prepare c l io s f sound h = alone-kept bars d P w k (act.Prepare (is_paused s.state || is_suspended s.state)) s refl sound h
event-kept bars d P w k call.Start c l io s f sound h = alone-kept bars d P w k act.Start s refl sound h
event-kept bars d P w k call.DropNow c l io s f sound h = act_unless-kept bars d P w k (table kind.DropNow s) (act.Stop state.Setup) s refl sound h
event-kept bars d P w k (call.Drain m) c l io s f sound h = drain-kept bars d P w k c m s sound h
event-kept bars d P w k call.PausePush c l io s f sound h = alone-kept bars d P w k act.Pause s refl sound h
event-kept bars d P w k call.PauseRelease c l io s f sound h = alone-kept bars d P w k act.Release s refl sound h
event-kept bars d P w k call.Suspend c l io s f sound h = alone-kept bars d P w k act.Suspend s refl sound h
event-kept bars d P w k call.Resume c l io s f sound h = alone-kept bars d P w k act.Resume s refl sound h
event-kept bars d P w k call.Xrun c l io s f sound h = unless-kept bars P k (table kind.Xrun s) s (if is_running s.state then act_alone (act.Stop state.Xrun) s else says reply.Ok s) h
    (λ _. if-kept bars P k (is_running s.state) (act_alone (act.Stop state.Xrun) s) (says reply.Ok s) (λ _. alone-kept bars d P w k (act.Stop state.Xrun) s refl sound h) (λ _. h))
event-kept bars d P w k (call.Write a m) c l io s f sound h = write-kept bars d P w k c a m io s sound h
event-kept bars d P w k (call.Read a m n) c l io s f sound h = read-kept bars d P w k c a m n s sound h
event-kept bars d P w k (call.Rewind n) c l io s f sound h = if-kept bars P k (nat_eq n 0) (says (reply.Frames 0) s) (unless (table kind.Rewind s) s (updated_or_epipe s (rewound n))) (λ _. h)
    (λ _. unless-kept bars P k (table kind.Rewind s) s (updated_or_epipe s (rewound n)) h (λ _. epipe-kept bars d P w k s (rewound n) sound h (λ t g q. w.backs (min n (hw_avail t)) t (omega arith) g q)))
event-kept bars d P w k (call.Forward n) c l io s f sound h = if-kept bars P k (nat_eq n 0) (says (reply.Frames 0) s) (unless (table kind.Forward s) s (updated_or_epipe s (forwarded n))) (λ _. h)
    (λ _. unless-kept bars P k (table kind.Forward s) s (updated_or_epipe s (forwarded n)) h (λ _. epipe-kept bars d P w k s (forwarded n) sound h (λ t g q. w.ons (min n (avail t)) t (omega arith) g q)))
event-kept bars d P w k call.Hwsync c l io s f sound h = unless-kept bars P k (table kind.Hwsync s) s (updated_or_epipe s (says reply.Ok)) h (λ _. epipe-kept bars d P w k s (says reply.Ok) sound h (λ t g q. q))
event-kept bars d P w k call.Delay c l io s f sound h = unless-kept bars P k (table kind.Delay s) s (updated_or_epipe s (λ t. says (delay t) t)) h (λ _. epipe-kept bars d P w k s (λ t. says (delay t) t) sound h (λ t g q. q))
event-kept bars d P w k (call.SyncPtr p) c l io s f sound h = absurd (cc)
event-kept bars d P w k call.Status c l io s f sound h = updating-kept bars d P w k s (λ u t. says (reply.Ptrs (page t)) t) sound h (λ u t g q. q)
event-kept bars d P w k call.PageNow c l io s f sound h = h
event-kept bars d P w k call.Poll c l io s f sound h = h
event-kept bars d P w k call.Map c l io s f sound h = unless-kept bars P k (table kind.Map s then (when (not (is_mapped_access s.setup.config)) errno.Einval then when (nat_le 65535 s.mappings) errno.Ebusy)) s (says reply.Ok (set_mappings (s.mappings + 1) s)) h (λ _. w.maps (s.mappings + 1) s h)
event-kept bars d P w k call.Unmap c l io s f sound h = unless-kept bars P k (when (nat_eq s.mappings 0) errno.Einval) s (says reply.Ok (set_mappings (s.mappings - 1) s)) h (λ _. w.maps (s.mappings - 1) s h)
event-kept bars d P w k (call.Store o) c l io s f sound h = absurd (cc)
event-kept bars d P w k (call.Load o n) c l io s f sound h = unless-kept bars P k (when (nat_eq s.mappings 0 || nat_lt s.setup.buffer (o + n)) errno.Einval) s (hands (reply.Frames n) (standing_at s.puts s.setup.buffer o n (zero_frame s)) s) h (λ _. h)
event-kept bars d P w k (call.Link j) c l io s f sound h = h
event-kept bars d P w k call.Unlink c l io s f sound h = unless-kept bars P k (when (not l) errno.Ealready) s (says reply.Ok s) h (λ _. h)
event-kept bars d P w k call.Go c l io s f sound h = go-kept bars d P w k c io s sound h
event-kept bars d P w k (call.MoveBy n) c l io s f sound h = w.moves n s sound h
event-kept bars d P w k call.Irq c l io s f sound h = updating-kept bars d P w k s (λ u. says reply.Ok) sound h (λ u t g q. q)
event-kept bars d P w k (call.FailAt i) c l io s f sound h = if-kept bars P k (nat_le 1 i && nat_le i 64) (says reply.Ok (plan_set i s)) (fails errno.Einval s) (λ _. w.plans i s h) (λ _. h)
event-kept bars d P w k call.Give c l io s f sound h = unless-kept bars P k (when (is_bare s || is_playback s.dir || not (is_whole s io)) errno.Einval) s (hands reply.Ok (frames_in s io) (record s { card = record s.card { to_give = frames_in s io } })) h (λ _. w.gives (frames_in s io) s h)
event-kept bars d P w k call.Unplug c l io s f sound h = unless-kept bars P k (table kind.Unplug s) s (if s.card.runs then making (act.Stop state.Setup) s unplug_alone else unplug_alone s) h
    (λ _. if-kept bars P k s.card.runs (making (act.Stop state.Setup) s unplug_alone) (unplug_alone s) (λ _. making-kept bars d P w k (act.Stop state.Setup) s unplug_alone refl sound h (λ t g q. w.unplugs t q)) (λ _. w.unplugs s h))

pub program-kept : (bars : Act → Outcome → Bool) (d : Dir) (P : Stream → Type 0) (w : IsKept bars d P) (k : SubId) (e : Call) (c : ClientId) (l : Bool) (io : List ℕ) (s : Stream) → is_plain e ≡ true → Sound s → P s → Keeps bars P k (program e c l io s)
program-kept bars d P w k e c l io s f sound h = if-kept bars P k (is_closed s.state && not (opens e)) (fails errno.Enxio s) (event e c l io s) (λ _. h) (λ _. event-kept bars d P w k e c l io s f sound h)

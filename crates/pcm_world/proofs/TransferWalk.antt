-- A walk of the programs that may wait: what their answers tell, and who waits afterwards.
use Rattle.std.proofs.Common.{◌≡◌, ◌≢◌, ℕ, zero, suc, ◌+◌, ◌-◌, ◌≤◌, Bool, true, false, cond, not, ◌&&◌, nat_eq, nat_le, List, [], ◌∷◌, ◌++◌, length, take, drop, min, refl, ap, ◌∙◌, subst, arith, length-take, length-drop, length-append}
use Rattle.std.proofs.lemmas.Bool.Decides.{nat_tests}
use Rattle.std.proofs.lemmas.List.{length-replicate}
use Rattle.std.specs.declared.option.Option.{Option}
use Rattle.std.specs.declared.option.Option.TheVariants.{Some, None}
use Rattle.pcm_base.specs.declared.act.Act.{Act}
use Rattle.pcm_base.specs.declared.act.Act.TheVariants as act
use Rattle.pcm_base.specs.declared.act.Outcome.{Outcome}
use Rattle.pcm_base.specs.declared.act.Outcome.TheVariants as outcome
use Rattle.pcm_base.specs.declared.act.Updated.{Updated}
use Rattle.pcm_base.specs.declared.act.Updated.TheVariants as updated
use Rattle.pcm_base.specs.declared.act.Vote.{Vote}
use Rattle.pcm_base.specs.declared.call.Mode.{Mode}
use Rattle.pcm_base.specs.declared.call.Mode.TheVariants as mode
use Rattle.pcm_base.specs.declared.ids.ClientId.{ClientId}
use Rattle.pcm_base.specs.declared.reply.Reply.{Reply}
use Rattle.pcm_base.specs.declared.reply.Reply.TheVariants as reply
use Rattle.pcm_base.specs.declared.sleeper.Task.TheVariants as task
use Rattle.pcm_base.specs.declared.sleeper.Xfer.{Xfer}
use Rattle.pcm_base.specs.declared.state.Errno.{Errno}
use Rattle.pcm_base.specs.declared.state.Errno.TheVariants as errno
use Rattle.pcm_base.specs.declared.state.State.TheVariants as state
use Rattle.pcm_base.specs.model.Acts.{after}
use Rattle.pcm_base.specs.model.Frame.{Frame}
use Rattle.pcm_base.specs.model.PointerCalls.{on_by}
use Rattle.pcm_base.specs.model.Program.{Answer, Ends, Makes, Program, after_found, going_on, making, or_epipe, unless, updated_or_epipe}
use Rattle.pcm_base.specs.model.Standing.{standing_at}
use Rattle.pcm_base.specs.model.Stream.{Setup, Stream, Waiting, avail, zero_frame}
use Rattle.pcm_base.specs.model.Transfer.{after_moves, after_start, frames_or, put_next, read_next, read_on, start_reading, starting_halt, stuck, stuck_in, tells, waiting_for, write_from, write_on, write_plain}
use Rattle.pcm_base.specs.model.Update.{Refreshed, found, moved_up, settled, update}
use Rattle.pcm_base.specs.model.Words.{is_draining, is_prepared}
use Rattle.pcm_laws.proofs.Leaves.{IsSameBesideActs-after}
use Rattle.pcm_laws.specs.Steps.{IsSameBesideActs}
use Rattle.pcm_stream.proofs.MoveLemmas.{AreWide-append, AreWide-standing_at}
use Rattle.pcm_stream.proofs.Walk.{halt_below}
use Rattle.pcm_stream.specs.Wide.{AreWide}
use Rattle.pcm_world.specs.Waiting.{IsFurther, IsTransferTold}
use Rattle.pcm_world.proofs.WideLemmas.{HasWidePuts, wide-after, wide-update}

-- each answer and stream with which the program ends, whatever its acts come to
abbrev pub Keeps : (Answer → Stream → Type 0) → Program → Type 0
Keeps P (Ends a s) = P a s
Keeps P (Makes a s f) = (v : Vote) (o : Outcome) → Keeps P (f o (after a v o s))

pub keeps-unless : (P : Answer → Stream → Type 0) (e : Option Errno) (s : Stream) (p : Program) → ((r : Errno) → P (record { reply = reply.Err r; first = 0; frames = [] }) s) → (e ≡ None → Keeps P p) → Keeps P (unless e s p)
keeps-unless P (Some r) s p f g = f r
keeps-unless P None s p f g = g refl

pub keeps-if : (P : Answer → Stream → Type 0) (b : Bool) (p q : Program) → (b ≡ true → Keeps P p) → (b ≡ false → Keeps P q) → Keeps P (cond b p q)
keeps-if P true p q f g = f refl
keeps-if P false p q f g = g refl

-- ---- on the way

-- the stream on which a transfer is on its way: ps are the calls in progress, and its frames are those of s
pub record IsOn (y : Xfer) (ps : List Waiting) (s t : Stream) : Type 0 where
  pub sleepers : t.sleepers ≡ ps
  pub config : t.setup.config ≡ s.setup.config
  pub frame_bytes : t.setup.frame_bytes ≡ s.setup.frame_bytes
  pub puts : y.writing ≡ false → HasWidePuts t

-- who waits in the end
abbrev pub IsLeftBy : ClientId → Xfer → List Waiting → Reply → ℕ → List Waiting → Type 0
IsLeftBy c y ps reply.Asleep n qs = (x : Xfer) × (wanted : ℕ) × (qs ≡ ps ++ record { client = c; task = task.Transfer x wanted } ∷ []) × IsFurther y n x
IsLeftBy c y ps _ n qs = qs ≡ ps

pub record IsEnd (c : ClientId) (y : Xfer) (ps : List Waiting) (s : Stream) (a : Answer) (t : Stream) : Type 0 where
  pub left : IsLeftBy c y ps a.reply (length a.frames) t.sleepers
  pub config : t.setup.config ≡ s.setup.config
  pub frame_bytes : t.setup.frame_bytes ≡ s.setup.frame_bytes
  pub told : IsTransferTold y s a

-- so many frames were moved, and the rest is left
pub record IsUnderWay (y : Xfer) (s : Stream) (fs : List Frame) (rest : ℕ) : Type 0 where
  pub all : length fs + rest ≡ y.rest
  pub wide : y.writing ≡ false → AreWide s.setup.frame_bytes fs

on-after : (y : Xfer) (ps : List Waiting) (s : Stream) (a : Act) (v : Vote) (o : Outcome) (t : Stream) → IsOn y ps s t → IsOn y ps s (after a v o t)
on-after y ps s a v o t h =
    let same : IsSameBesideActs t (after a v o t) = IsSameBesideActs-after a v o t in
    record {
      sleepers = same.sleepers ∙ h.sleepers;
      config = ap (λ (x : Setup). x.config) same.setup ∙ h.config;
      frame_bytes = ap (λ (x : Setup). x.frame_bytes) same.setup ∙ h.frame_bytes;
      puts = λ r. wide-after a v o t (h.puts r);
    }

sleepers-settled : (u : Updated) (s : Stream) → (settled u s).sleepers ≡ s.sleepers
sleepers-settled updated.Nothing s = refl
sleepers-settled updated.StopXrun s = refl
sleepers-settled updated.DrainDone s = refl

setup-settled : (u : Updated) (s : Stream) → (settled u s).setup ≡ s.setup
setup-settled updated.Nothing s = refl
setup-settled updated.StopXrun s = refl
setup-settled updated.DrainDone s = refl

updates-keep : (A : Type 0) (f : Stream → A) (s : Stream) → f (settled (found (moved_up s)) (moved_up s)) ≡ f s → f (update s).stream ≡ f s
updates-keep A f s e = by s.card.runs
  where
    by : (b : Bool) → f (cond b (record { found = found (moved_up s); stream = settled (found (moved_up s)) (moved_up s) }) (let r : Refreshed = record { found = updated.Nothing; stream = s } in r)).stream ≡ f s
    by true = e
    by false = refl

pub sleepers-update : (s : Stream) → (update s).stream.sleepers ≡ s.sleepers
sleepers-update s = updates-keep (List Waiting) (λ t. t.sleepers) s (sleepers-settled (found (moved_up s)) (moved_up s))

pub setup-update : (s : Stream) → (update s).stream.setup ≡ s.setup
setup-update s = updates-keep Setup (λ t. t.setup) s (setup-settled (found (moved_up s)) (moved_up s))

on-update : (y : Xfer) (ps : List Waiting) (s t : Stream) → IsOn y ps s t → IsOn y ps s (update t).stream
on-update y ps s t h = record {
  sleepers = sleepers-update t ∙ h.sleepers;
  config = ap (λ (x : Setup). x.config) (setup-update t) ∙ h.config;
  frame_bytes = ap (λ (x : Setup). x.frame_bytes) (setup-update t) ∙ h.frame_bytes;
  puts = λ r. wide-update t (h.puts r);
}

-- ---- answers

none-moved : (y : Xfer) (s : Stream) (r : Reply) → ((n : ℕ) → r ≡ reply.Frames n → n ≡ y.moved) → IsTransferTold y s (record { reply = r; first = 0; frames = [] })
none-moved y s r h = record {
  count = λ n e. let k : n ≡ y.moved = h n e in omega (arith, k);
  first = λ some. absurd (some refl);
  most = omega arith;
  wide = λ _. tt;
}

ends-fails : (c : ClientId) (y : Xfer) (ps : List Waiting) (s t : Stream) (e : Errno) → IsOn y ps s t → IsEnd c y ps s (record { reply = reply.Err e; first = 0; frames = [] }) t
ends-fails c y ps s t e h = record { left = h.sleepers; config = h.config; frame_bytes = h.frame_bytes; told = none-moved y s (reply.Err e) (λ n q. absurd (let no : ⊥ = cc in no)) }

first_of : (y : Xfer) (n : ℕ) → n ≢ 0 → cond (nat_eq n 0) 0 y.moved ≡ y.moved
first_of y n some = by (nat_eq n 0) refl
  where
    by : (b : Bool) → nat_eq n 0 ≡ b → cond b 0 y.moved ≡ y.moved
    by true e = absurd (some (grind (arith, nat_tests, e)))
    by false e = refl

told-frames : (y : Xfer) (s : Stream) (fs : List Frame) (rest : ℕ) (r : Reply) → ((n : ℕ) → r ≡ reply.Frames n → n ≡ y.moved + length fs) → IsUnderWay y s fs rest
    → IsTransferTold y s (record { reply = r; first = cond (nat_eq (length fs) 0) 0 y.moved; frames = fs })
told-frames y s fs rest r count w = record {
  count = count;
  first = λ some. first_of y (length fs) some;
  most = omega (arith, w.all);
  wide = w.wide;
}

frames-are : (m n : ℕ) → reply.Frames m ≡ reply.Frames n → n ≡ m
frames-are m n e = cc

frames_or-count : (m n : ℕ) (e : Errno) → frames_or m e ≡ reply.Frames n → n ≡ m
frames_or-count m n e h = by (nat_eq m 0) h
  where
    by : (b : Bool) → cond b (reply.Err e) (reply.Frames m) ≡ reply.Frames n → n ≡ m
    by true q = absurd (let no : ⊥ = cc in no)
    by false q = frames-are m n q

-- an answer that is not Asleep
left-awake : (c : ClientId) (y : Xfer) (ps : List Waiting) (m n : ℕ) (e : Errno) (qs : List Waiting) → qs ≡ ps → IsLeftBy c y ps (frames_or m e) n qs
left-awake c y ps m n e qs h = by (nat_eq m 0)
  where
    by : (b : Bool) → IsLeftBy c y ps (cond b (reply.Err e) (reply.Frames m)) n qs
    by true = h
    by false = h

ends-frames_or : (c : ClientId) (y : Xfer) (ps : List Waiting) (s t : Stream) (fs : List Frame) (rest : ℕ) (e : Errno) → IsUnderWay y s fs rest → IsOn y ps s t → Keeps (IsEnd c y ps s) (tells (frames_or (y.moved + length fs) e) y fs t)
ends-frames_or c y ps s t fs rest e w h = record {
  left = left-awake c y ps (y.moved + length fs) (length fs) e t.sleepers h.sleepers;
  config = h.config;
  frame_bytes = h.frame_bytes;
  told = told-frames y s fs rest (frames_or (y.moved + length fs) e) (λ n q. frames_or-count (y.moved + length fs) n e q) w;
}

ends-frames : (c : ClientId) (y : Xfer) (ps : List Waiting) (s t : Stream) (fs : List Frame) (rest : ℕ) → IsUnderWay y s fs rest → IsOn y ps s t → Keeps (IsEnd c y ps s) (tells (reply.Frames (y.moved + length fs)) y fs t)
ends-frames c y ps s t fs rest w h = record {
  left = h.sleepers;
  config = h.config;
  frame_bytes = h.frame_bytes;
  told = told-frames y s fs rest (reply.Frames (y.moved + length fs)) (λ n q. frames-are (y.moved + length fs) n q) w;
}

-- ---- the loop

walks-stuck : (c : ClientId) (y : Xfer) (ps : List Waiting) (s t : Stream) (fs : List Frame) (rest : ℕ) → IsUnderWay y s fs rest → IsOn y ps s t → Keeps (IsEnd c y ps s) (stuck c y fs rest t)
walks-stuck c y ps s t fs rest w h = by (not y.writing && is_draining t.state) y.mode
  where
    by : (b : Bool) (m : Mode) → Keeps (IsEnd c y ps s) (cond b (Makes (act.Stop state.Setup) t (λ o. tells (reply.Frames (y.moved + length fs)) y fs)) (stuck_in m c y fs rest t))
    by true m = λ v o. ends-frames c y ps s (after (act.Stop state.Setup) v o t) fs rest w (on-after y ps s (act.Stop state.Setup) v o t h)
    by false mode.NonBlock = ends-frames_or c y ps s t fs rest errno.Eagain w h
    by false mode.Block = record {
      left = (
        record y { rest = rest; moved = y.moved + length fs },
        min rest t.setup.sw.avail_min,
        ap (λ (qs : List Waiting). qs ++ waiting_for c y rest (y.moved + length fs) (min rest t.setup.sw.avail_min) ∷ []) h.sleepers,
        record { writing = refl; layout = refl; moved = refl; all = omega (arith, w.all) },
      );
      config = h.config;
      frame_bytes = h.frame_bytes;
      told = told-frames y s fs rest reply.Asleep (λ n q. absurd (let no : ⊥ = cc in no)) w;
    }

walks-moves : (c : ClientId) (y : Xfer) (ps : List Waiting) (s t : Stream) (fs : List Frame) (rest : ℕ) → IsUnderWay y s fs rest → IsOn y ps s t → Keeps (IsEnd c y ps s) (after_moves c y fs rest t)
walks-moves c y ps s t fs rest w h = keeps-if (IsEnd c y ps s) (nat_eq rest 0) (tells (reply.Frames (y.moved + length fs)) y fs t) (stuck c y fs rest t) (λ _. ends-frames c y ps s t fs rest w h) (λ _. walks-stuck c y ps s t fs rest w h)

-- more frames of a write
written : (y : Xfer) (s : Stream) (fs ws : List Frame) (n : ℕ) → y.writing ≡ true → n ≤ length ws → IsUnderWay y s fs (length ws) → IsUnderWay y s (fs ++ take n ws) (length ws - n)
written y s fs ws n way few w = record {
  all = omega (arith, few, w.all, length-append fs (take n ws), length-take n ws);
  wide = λ r. absurd (let no : ⊥ = cc in no);
}

on-put : (y : Xfer) (ps : List Waiting) (s t : Stream) (fs : List Frame) → y.writing ≡ true → IsOn y ps s t → IsOn y ps s (put_next fs t)
on-put y ps s t fs way h = record { sleepers = h.sleepers; config = h.config; frame_bytes = h.frame_bytes; puts = λ r. absurd (let no : ⊥ = cc in no) }

walks-plain : (c : ClientId) (y : Xfer) (ps : List Waiting) (s t : Stream) (fs ws : List Frame) → y.writing ≡ true → IsUnderWay y s fs (length ws) → IsOn y ps s t → Keeps (IsEnd c y ps s) (write_plain c y fs ws t)
walks-plain c y ps s t fs ws way w h =
    let n : ℕ = min (length ws) (avail t) in
    walks-moves c y ps s (put_next (take n ws) t) (fs ++ take n ws) (length ws - n) (written y s fs ws n way (omega arith) w) (on-put y ps s t (take n ws) way h)

walks-started : (c : ClientId) (y : Xfer) (ps : List Waiting) (s t : Stream) (fs ws : List Frame) (o : Outcome) → y.writing ≡ true → IsUnderWay y s fs (length ws) → IsOn y ps s t → Keeps (IsEnd c y ps s) (after_start c y fs ws o t)
walks-started c y ps s t fs ws outcome.Done way w h = walks-plain c y ps s t fs ws way w h
walks-started c y ps s t fs ws (outcome.Refused j e) way w h = ends-frames_or c y ps s t fs (length ws) e w h
walks-started c y ps s t fs ws (outcome.Failed j) way w h = ends-frames_or c y ps s t fs (length ws) errno.Eio w h

left-over : (y : Xfer) (s : Stream) (fs ws : List Frame) (n : ℕ) → n ≤ length ws → IsUnderWay y s (fs ++ take n ws) (length ws - n) → IsUnderWay y s (fs ++ take n ws) (length (drop n ws))
left-over y s fs ws n few w = record { all = omega (arith, w.all, few, length-drop n ws); wide = w.wide }

walks-from : (c : ClientId) (y : Xfer) (ps : List Waiting) (s t : Stream) (fs ws : List Frame) (o : Option ℕ) → ((n : ℕ) → o ≡ Some n → n ≤ length ws) → y.writing ≡ true → IsUnderWay y s fs (length ws) → IsOn y ps s t
    → Keeps (IsEnd c y ps s) (write_from c y fs ws t o)
walks-from c y ps s t fs ws None few way w h = walks-plain c y ps s t fs ws way w h
walks-from c y ps s t fs ws (Some n) few way w h = λ v o.
    walks-started c y ps s (after act.Start v o (put_next (take n ws) t)) (fs ++ take n ws) (drop n ws) o way
    (left-over y s fs ws n (few n refl) (written y s fs ws n way (few n refl) w))
    (on-after y ps s act.Start v o (put_next (take n ws) t) (on-put y ps s t (take n ws) way h))

pub walks-write : (c : ClientId) (y : Xfer) (ps : List Waiting) (s t : Stream) (fs ws : List Frame) → y.writing ≡ true → IsUnderWay y s fs (length ws) → IsOn y ps s t → Keeps (IsEnd c y ps s) (write_on c y fs ws t)
walks-write c y ps s t fs ws way w h =
    let m : ℕ = min (length ws) (avail t) in
    walks-from c y ps s t fs ws (starting_halt t m) (λ n e. let g : n ≤ m = halt_below t m n e in omega (arith, g)) way w h

-- more frames of a read
length-read : (n : ℕ) (t : Stream) → length (read_next n t) ≡ n
length-read n t = counted t.at.appl n
  where
    counted : (p n : ℕ) → length (standing_at t.puts t.setup.buffer p n (zero_frame t)) ≡ n
    counted p zero = refl
    counted p (suc n) = ap suc (counted (p + 1) n)

read-wide : (y : Xfer) (ps : List Waiting) (s t : Stream) (n : ℕ) → y.writing ≡ false → IsOn y ps s t → AreWide s.setup.frame_bytes (read_next n t)
read-wide y ps s t n r h = subst (λ (b : ℕ). AreWide b (read_next n t)) h.frame_bytes
    (AreWide-standing_at t.setup.frame_bytes t.puts t.setup.buffer t.at.appl n (zero_frame t) (h.puts r) (length-replicate t.setup.frame_bytes 0))

pub walks-read : (c : ClientId) (y : Xfer) (ps : List Waiting) (s t : Stream) (fs : List Frame) (rest : ℕ) → IsUnderWay y s fs rest → IsOn y ps s t → Keeps (IsEnd c y ps s) (read_on c y fs rest t)
walks-read c y ps s t fs rest w h =
    let n : ℕ = min rest (avail t) in
    walks-moves c y ps s (on_by n t) (fs ++ read_next n t) (rest - n)
    (record { all = omega (arith, w.all, length-append fs (read_next n t), length-read n t); wide = λ r. AreWide-append s.setup.frame_bytes fs (read_next n t) (w.wide r) (read-wide y ps s t n r h) })
    (record { sleepers = h.sleepers; config = h.config; frame_bytes = h.frame_bytes; puts = h.puts })

-- ---- how transfers begin

walks-going_on : (c : ClientId) (y : Xfer) (ps : List Waiting) (s t : Stream) (f : Stream → Program) (o : Outcome) → IsOn y ps s t → Keeps (IsEnd c y ps s) (f t) → Keeps (IsEnd c y ps s) (going_on f o t)
walks-going_on c y ps s t f outcome.Done h k = k
walks-going_on c y ps s t f (outcome.Refused j e) h k = ends-fails c y ps s t e h
walks-going_on c y ps s t f (outcome.Failed j) h k = ends-fails c y ps s t errno.Eio h

walks-making : (c : ClientId) (y : Xfer) (ps : List Waiting) (s t : Stream) (a : Act) (f : Stream → Program) → IsOn y ps s t → ((u : Stream) → IsOn y ps s u → Keeps (IsEnd c y ps s) (f u)) → Keeps (IsEnd c y ps s) (making a t f)
walks-making c y ps s t a f h k = λ v o. let g : IsOn y ps s (after a v o t) = on-after y ps s a v o t h in walks-going_on c y ps s (after a v o t) f o g (k (after a v o t) g)

walks-or_epipe : (c : ClientId) (y : Xfer) (ps : List Waiting) (s t : Stream) (f : Stream → Program) (u : Updated) → IsOn y ps s t → ((r : Stream) → IsOn y ps s r → Keeps (IsEnd c y ps s) (f r)) → Keeps (IsEnd c y ps s) (or_epipe f u t)
walks-or_epipe c y ps s t f updated.Nothing h k = k t h
walks-or_epipe c y ps s t f updated.DrainDone h k = ends-fails c y ps s t errno.Epipe h
walks-or_epipe c y ps s t f updated.StopXrun h k = ends-fails c y ps s t errno.Epipe h

walks-found : (c : ClientId) (y : Xfer) (ps : List Waiting) (s t : Stream) (f : Stream → Program) (u : Updated) → IsOn y ps s t → ((r : Stream) → IsOn y ps s r → Keeps (IsEnd c y ps s) (f r)) → Keeps (IsEnd c y ps s) (after_found (or_epipe f) u t)
walks-found c y ps s t f updated.Nothing h k = walks-or_epipe c y ps s t f updated.Nothing h k
walks-found c y ps s t f updated.DrainDone h k = walks-or_epipe c y ps s t f updated.DrainDone h k
walks-found c y ps s t f updated.StopXrun h k = λ v o. walks-or_epipe c y ps s (after (act.Stop state.Xrun) v o t) f updated.StopXrun (on-after y ps s (act.Stop state.Xrun) v o t h) k

pub walks-updated : (c : ClientId) (y : Xfer) (ps : List Waiting) (s t : Stream) (f : Stream → Program) → IsOn y ps s t → ((r : Stream) → IsOn y ps s r → Keeps (IsEnd c y ps s) (f r)) → Keeps (IsEnd c y ps s) (updated_or_epipe t f)
walks-updated c y ps s t f h k = walks-found c y ps s (update t).stream f (update t).found (on-update y ps s t h) k

pub walks-start_reading : (c : ClientId) (y : Xfer) (ps : List Waiting) (s t : Stream) → IsOn y ps s t → Keeps (IsEnd c y ps s) (start_reading c y t)
walks-start_reading c y ps s t h = keeps-if (IsEnd c y ps s) (is_prepared t.state && nat_le t.setup.sw.start_threshold y.rest) (making act.Start t (read_on c y [] y.rest)) (read_on c y [] y.rest t)
    (λ _. walks-making c y ps s t act.Start (read_on c y [] y.rest) h (λ u g. walks-read c y ps s u [] y.rest (nothing-yet y s) g))
    (λ _. walks-read c y ps s t [] y.rest (nothing-yet y s) h)
  where
    nothing-yet : (y : Xfer) (s : Stream) → IsUnderWay y s [] y.rest
    nothing-yet y s = record { all = omega arith; wide = λ _. tt }

-- Transfers, drains and calls that go on keep each stream sound.
use Rattle.std.proofs.Common.{ℕ, zero, suc, ◌≡◌, ◌+◌, ◌-◌, ◌/◌, ◌%◌, ◌≤◌, ◌<◌, Bool, true, false, cond, not, ◌&&◌, nat_eq, nat_le, nat_lt, List, [], ◌∷◌, ◌++◌, length, take, drop, min, if◌then◌else◌, refl, ap, ◌∙◌, arith, length-take}
use Rattle.std.specs.declared.option.Option.{Option}
use Rattle.std.specs.declared.option.Option.TheVariants.{Some, None}
use Rattle.pcm_base.specs.declared.act.Act.{Act}
use Rattle.pcm_base.specs.declared.act.Act.TheVariants as act
use Rattle.pcm_base.specs.declared.act.Outcome.{Outcome}
use Rattle.pcm_base.specs.declared.act.Outcome.TheVariants as outcome
use Rattle.pcm_base.specs.declared.act.Updated.{Updated}
use Rattle.pcm_base.specs.declared.act.Updated.TheVariants as updated
use Rattle.pcm_base.specs.declared.call.CallKind.TheVariants as kind
use Rattle.pcm_base.specs.declared.call.Layout.{Layout}
use Rattle.pcm_base.specs.declared.call.Mode.{Mode}
use Rattle.pcm_base.specs.declared.call.Mode.TheVariants as mode
use Rattle.pcm_base.specs.declared.config.Config.{Config}
use Rattle.pcm_base.specs.declared.ids.ClientId.{ClientId}
use Rattle.pcm_base.specs.declared.ids.SubId.{SubId}
use Rattle.pcm_base.specs.declared.reply.Reply.TheVariants as reply
use Rattle.pcm_base.specs.declared.sleeper.Task.{Task}
use Rattle.pcm_base.specs.declared.sleeper.Task.TheVariants as task
use Rattle.pcm_base.specs.declared.sleeper.Xfer.{Xfer}
use Rattle.pcm_base.specs.declared.state.Dir.{Dir}
use Rattle.pcm_base.specs.declared.state.Dir.TheVariants as dir
use Rattle.pcm_base.specs.declared.state.Errno.{Errno}
use Rattle.pcm_base.specs.declared.state.Errno.TheVariants as errno
use Rattle.pcm_base.specs.declared.state.State.{State}
use Rattle.pcm_base.specs.declared.state.State.TheVariants as state
use Rattle.pcm_base.specs.model.Acts.{after, table}
use Rattle.pcm_base.specs.model.Events.{drain, drain_now, go, go_drain, go_on, go_task, go_transfer, left_by, length_of, others_than, waiting_of, watch, go_call, go_transfer_in}
use Rattle.pcm_base.specs.model.Frame.{Frame}
use Rattle.pcm_base.specs.model.PointerCalls.{back_by, hw_avail, on_by, sync_to}
use Rattle.pcm_base.specs.model.Program.{Makes, Program, act_alone, after_found, fails, going_on, making, or_epipe, says, unless, updated_or_epipe, updating}
use Rattle.pcm_base.specs.model.Sound.{IsBare, IsConfigured, IsPlaced, KeepsSound, Sound, is_stop}
use Rattle.pcm_base.specs.model.Standing.{Put}
use Rattle.pcm_base.specs.model.Stream.{Positions, Stream, Waiting, all_at, avail, head, head_of}
use Rattle.pcm_base.specs.model.Transfer.{after_moves, after_start, frames_by, frames_or, is_filled, is_halt, is_whole, least, misfit, put_next, read, read_next, read_on, sleeping, start_reading, starting_halt, stuck, tells, waiting_for, write, write_from, write_on, write_plain, stuck_in}
use Rattle.pcm_base.specs.model.Update.{update}
use Rattle.pcm_base.specs.model.Words.{is_disconnected, is_draining, is_paused, is_prepared, is_suspended, ◌then◌}
use Rattle.pcm_laws.proofs.KeptByMoves.{Sound-as, IsShaped-as, IsConfigured-at, Sound-update, IsConfigured-back_by, IsConfigured-on_by, IsConfigured-put_next, IsConfigured-sync_to}
use Rattle.pcm_laws.proofs.KeptByVotes.{Sound-after}

-- walks

pub KeepsSound-unless : (k : SubId) (e : Option Errno) (s : Stream) (p : Program) → Sound s → (e ≡ None → KeepsSound k p) → KeepsSound k (unless e s p)
KeepsSound-unless k (Some e) s p h f = h
KeepsSound-unless k None s p h f = f refl

pub KeepsSound-if : (k : SubId) (b : Bool) (p q : Program) → (b ≡ true → KeepsSound k p) → (b ≡ false → KeepsSound k q) → KeepsSound k (cond b p q)
KeepsSound-if k true p q f g = f refl
KeepsSound-if k false p q f g = g refl

pub KeepsSound-going_on : (k : SubId) (f : Stream → Program) (o : Outcome) (t : Stream) → Sound t → KeepsSound k (f t) → KeepsSound k (going_on f o t)
KeepsSound-going_on k f outcome.Done t h g = g
KeepsSound-going_on k f (outcome.Refused j e) t h g = h
KeepsSound-going_on k f (outcome.Failed j) t h g = h

pub KeepsSound-making : (k : SubId) (a : Act) (s : Stream) (f : Stream → Program) → is_stop a ≡ true → Sound s → ((t : Stream) → Sound t → KeepsSound k (f t)) → KeepsSound k (making a s f)
KeepsSound-making k a s f i h g = (h, i, λ v o q. let t : Sound (after a v o s) = Sound-after k a v o s i q h in KeepsSound-going_on k f o (after a v o s) t (g (after a v o s) t))

pub KeepsSound-act_alone : (k : SubId) (a : Act) (s : Stream) → is_stop a ≡ true → Sound s → KeepsSound k (act_alone a s)
KeepsSound-act_alone k a s i h = KeepsSound-making k a s (says reply.Ok) i h (λ t g. g)

pub KeepsSound-after_found : (k : SubId) (f : Updated → Stream → Program) → ((u : Updated) (t : Stream) → Sound t → KeepsSound k (f u t)) → (u : Updated) (t : Stream) → Sound t → KeepsSound k (after_found f u t)
KeepsSound-after_found k f g updated.Nothing t h = g updated.Nothing t h
KeepsSound-after_found k f g updated.DrainDone t h = g updated.DrainDone t h
KeepsSound-after_found k f g updated.StopXrun t h = (h, refl, λ v o q. g updated.StopXrun (after (act.Stop state.Xrun) v o t) (Sound-after k (act.Stop state.Xrun) v o t refl q h))

pub KeepsSound-updating : (k : SubId) (s : Stream) (f : Updated → Stream → Program) → Sound s → ((u : Updated) (t : Stream) → Sound t → KeepsSound k (f u t)) → KeepsSound k (updating s f)
KeepsSound-updating k s f h g = KeepsSound-after_found k f g (update s).found (update s).stream (Sound-update s h)

pub KeepsSound-or_epipe : (k : SubId) (f : Stream → Program) → ((t : Stream) → Sound t → KeepsSound k (f t)) → (u : Updated) (t : Stream) → Sound t → KeepsSound k (or_epipe f u t)
KeepsSound-or_epipe k f g updated.Nothing t h = g t h
KeepsSound-or_epipe k f g updated.DrainDone t h = h
KeepsSound-or_epipe k f g updated.StopXrun t h = h

pub KeepsSound-updated_or_epipe : (k : SubId) (s : Stream) (f : Stream → Program) → Sound s → ((t : Stream) → Sound t → KeepsSound k (f t)) → KeepsSound k (updated_or_epipe s f)
KeepsSound-updated_or_epipe k s f h g = KeepsSound-updating k s (or_epipe f) h (KeepsSound-or_epipe k f g)

-- a stream without a configuration stands at 0, and a client can move nothing there

abbrev appl_at : ℕ → Positions → Positions
appl_at x p = record p { appl = x }

bare_appl : (x : ℕ) (s : Stream) → IsBare s → x ≡ 0 → appl_at x s.at ≡ all_at 0
bare_appl x s q e = ap (appl_at x) q.at ∙ ap (λ n. appl_at n (all_at 0)) e

bare_none : (s : Stream) → IsBare s → s.at.appl ≡ 0
bare_none s q = ap (λ p. p.appl) q.at

head_zero : (d : Dir) (b h : ℕ) → b ≡ 0 → h ≡ 0 → head_of d b h ≡ 0
head_zero dir.Playback b h e f = omega (arith, e, f)
head_zero dir.Capture b h e f = f

bare_head : (s : Stream) → IsBare s → head s ≡ 0
bare_head s q = head_zero s.dir s.setup.buffer s.at.hw (ap (λ c. c.buffer) q.setup) (ap (λ p. p.hw) q.at)

bare_avail : (s : Stream) → IsBare s → avail s ≡ 0
bare_avail s q = let e : head s ≡ 0 = bare_head s q in omega (arith, e)

-- changes that touch nothing of soundness, or a position within its bounds

pub Sound-back_by : (n : ℕ) (s : Stream) → n ≤ hw_avail s → Sound s → Sound (back_by n s)
Sound-back_by n s l h = Sound-as s (back_by n s) refl (λ c q. IsConfigured-back_by c n s l q) (λ q. record { state = q.state; setup = q.setup; at = bare_appl (s.at.appl - n) s q (let z : s.at.appl ≡ 0 = bare_none s q in omega (arith, z)); moved = q.moved; stands = q.stands; unmapped = q.unmapped; taken = q.taken; to_give = q.to_give; kept = q.kept }) h

pub Sound-on_by : (n : ℕ) (s : Stream) → n ≤ avail s → Sound s → Sound (on_by n s)
Sound-on_by n s l h = Sound-as s (on_by n s) refl (λ c q. IsConfigured-on_by c n s l q) (λ q. record { state = q.state; setup = q.setup; at = bare_appl (s.at.appl + n) s q (let z : s.at.appl ≡ 0 = bare_none s q in let a : avail s ≡ 0 = bare_avail s q in omega (arith, z, a, l)); moved = q.moved; stands = q.stands; unmapped = q.unmapped; taken = q.taken; to_give = q.to_give; kept = q.kept }) h

pub Sound-sync_to : (n : ℕ) (s : Stream) → Sound s → Sound (sync_to n s)
Sound-sync_to n s h = Sound-as s (sync_to n s) refl (λ c q. IsConfigured-sync_to c n s q) (λ q. record { state = q.state; setup = q.setup; at = bare_appl (head s - (head s - n) % s.setup.boundary) s q (let a : head s ≡ 0 = bare_head s q in omega (arith, a)); moved = q.moved; stands = q.stands; unmapped = q.unmapped; taken = q.taken; to_give = q.to_give; kept = q.kept }) h

pub Sound-put_next : (fs : List Frame) (s : Stream) → length fs ≤ avail s → Sound s → Sound (put_next fs s)
Sound-put_next fs s l h = Sound-as s (put_next fs s) refl (λ c q. IsConfigured-put_next c fs s l q) (λ q. record { state = q.state; setup = q.setup; at = bare_appl (s.at.appl + length fs) s q (let z : s.at.appl ≡ 0 = bare_none s q in let a : avail s ≡ 0 = bare_avail s q in omega (arith, z, a, l)); moved = q.moved; stands = q.stands; unmapped = q.unmapped; taken = q.taken; to_give = q.to_give; kept = q.kept }) h

-- other sleepers, puts, plan, and frames to give
pub IsConfigured-changed : (c : Config) (s : Stream) (qs : List Put) (ps : List Waiting) (m : ℕ) (plan : List Bool) (gs : List Frame) → IsConfigured c s → IsConfigured c (record s { puts = qs; sleepers = ps; mappings = m; card = record s.card { plan = plan; to_give = gs } })
IsConfigured-changed c s qs ps m plan gs h =
    let p : IsPlaced s = h.placed in
    let t : Stream = record s { puts = qs; sleepers = ps; mappings = m; card = record s.card { plan = plan; to_give = gs } } in
    IsConfigured-at c s t (IsShaped-as c s t refl refl refl h.shaped)
    (record { reported = p.reported; near = p.near; origin = p.origin; filled = p.filled; written = p.written; fewer = p.fewer }) refl refl refl refl h

pub Sound-sleepers : (ps : List Waiting) (s : Stream) → Sound s → Sound (record s { sleepers = ps })
Sound-sleepers ps s h = Sound-as s (record s { sleepers = ps }) refl (λ c q. IsConfigured-changed c s s.puts ps s.mappings s.card.plan s.card.to_give q) (λ q. record { state = q.state; setup = q.setup; at = q.at; moved = q.moved; stands = q.stands; unmapped = q.unmapped; taken = q.taken; to_give = q.to_give; kept = q.kept }) h

pub Sound-puts : (qs : List Put) (s : Stream) → Sound s → Sound (record s { puts = qs })
Sound-puts qs s h = Sound-as s (record s { puts = qs }) refl (λ c q. IsConfigured-changed c s qs s.sleepers s.mappings s.card.plan s.card.to_give q) (λ q. record { state = q.state; setup = q.setup; at = q.at; moved = q.moved; stands = q.stands; unmapped = q.unmapped; taken = q.taken; to_give = q.to_give; kept = q.kept }) h

pub Sound-plan : (plan : List Bool) (s : Stream) → Sound s → Sound (record s { card = record s.card { plan = plan } })
Sound-plan plan s h = Sound-as s (record s { card = record s.card { plan = plan } }) refl (λ c q. IsConfigured-changed c s s.puts s.sleepers s.mappings plan s.card.to_give q) (λ q. record { state = q.state; setup = q.setup; at = q.at; moved = q.moved; stands = q.stands; unmapped = q.unmapped; taken = q.taken; to_give = q.to_give; kept = q.kept }) h

-- transfers

pub KeepsSound-stuck : (k : SubId) (c : ClientId) (x : Xfer) (fs : List Frame) (r : ℕ) (s : Stream) → Sound s → KeepsSound k (stuck c x fs r s)
KeepsSound-stuck k c x fs r s h = by (not x.writing && is_draining s.state) x.mode
  where
    by : (b : Bool) (w : Mode) → KeepsSound k (cond b (Makes (act.Stop state.Setup) s (λ o. tells (reply.Frames (x.moved + length fs)) x fs)) (stuck_in w c x fs r s))
    by true w = (h, refl, λ v o q. Sound-after k (act.Stop state.Setup) v o s refl q h)
    by false mode.NonBlock = h
    by false mode.Block = Sound-sleepers (s.sleepers ++ waiting_for c x r (x.moved + length fs) (min r s.setup.sw.avail_min) ∷ []) s h

pub KeepsSound-after_moves : (k : SubId) (c : ClientId) (x : Xfer) (fs : List Frame) (r : ℕ) (s : Stream) → Sound s → KeepsSound k (after_moves c x fs r s)
KeepsSound-after_moves k c x fs r s h = KeepsSound-if k (nat_eq r 0) (tells (reply.Frames (x.moved + length fs)) x fs s) (stuck c x fs r s) (λ _. h) (λ _. KeepsSound-stuck k c x fs r s h)

taken_fits : (n a : ℕ) (ws : List Frame) → n ≤ a → length (take n ws) ≤ a
taken_fits n a ws l = omega (arith, l, length-take n ws)

pub KeepsSound-write_plain : (k : SubId) (c : ClientId) (x : Xfer) (fs ws : List Frame) (s : Stream) → Sound s → KeepsSound k (write_plain c x fs ws s)
KeepsSound-write_plain k c x fs ws s h =
    let n : ℕ = min (length ws) (avail s) in
    KeepsSound-after_moves k c x (fs ++ take n ws) (length ws - n) (put_next (take n ws) s) (Sound-put_next (take n ws) s (taken_fits n (avail s) ws (omega arith)) h)

pub KeepsSound-after_start : (k : SubId) (c : ClientId) (x : Xfer) (fs ws : List Frame) (o : Outcome) (s : Stream) → Sound s → KeepsSound k (after_start c x fs ws o s)
KeepsSound-after_start k c x fs ws outcome.Done s h = KeepsSound-write_plain k c x fs ws s h
KeepsSound-after_start k c x fs ws (outcome.Refused j e) s h = h
KeepsSound-after_start k c x fs ws (outcome.Failed j) s h = h

pub KeepsSound-write_from : (k : SubId) (c : ClientId) (x : Xfer) (fs ws : List Frame) (s : Stream) (o : Option ℕ) → ((t : ℕ) → o ≡ Some t → t ≤ avail s) → Sound s → KeepsSound k (write_from c x fs ws s o)
KeepsSound-write_from k c x fs ws s None l h = KeepsSound-write_plain k c x fs ws s h
KeepsSound-write_from k c x fs ws s (Some t) l h =
    let g : Sound (put_next (take t ws) s) = Sound-put_next (take t ws) s (taken_fits t (avail s) ws (l t refl)) h in
    (g, refl, λ v o q. KeepsSound-after_start k c x (fs ++ take t ws) (drop t ws) o (after act.Start v o (put_next (take t ws) s)) (Sound-after k act.Start v o (put_next (take t ws) s) refl q g))

inside : (a b : ℕ) → Some a ≡ Some b → a ≡ b
inside a b h = cc

least_below : (t : ℕ → Bool) (i n j : ℕ) → least t i n ≡ Some j → j < i + n
least_below t i zero j h = absurd (cc)
least_below t i (suc n) j h = by (t i) h (λ g. least_below t (i + 1) n j g)
  where
    by : (b : Bool) → cond b (Some i) (least t (i + 1) n) ≡ Some j → (least t (i + 1) n ≡ Some j → j < i + 1 + n) → j < i + suc n
    by true e f = let g : i ≡ j = inside i j e in omega (arith, g)
    by false e f = let g : j < i + 1 + n = f e in omega (arith, g)

halt_below : (s : Stream) (n j : ℕ) → starting_halt s n ≡ Some j → j ≤ n
halt_below s n j h = by (is_prepared s.state) h
  where
    by : (b : Bool) → cond b (least (λ i. is_halt s.setup.buffer s.at.appl n i && is_filled s i) 1 n) None ≡ Some j → j ≤ n
    by true e = let g : j < 1 + n = least_below (λ i. is_halt s.setup.buffer s.at.appl n i && is_filled s i) 1 n j e in omega (arith, g)
    by false e = absurd (cc)

pub KeepsSound-write_on : (k : SubId) (c : ClientId) (x : Xfer) (fs ws : List Frame) (s : Stream) → Sound s → KeepsSound k (write_on c x fs ws s)
KeepsSound-write_on k c x fs ws s h =
    let n : ℕ = min (length ws) (avail s) in
    KeepsSound-write_from k c x fs ws s (starting_halt s n) (λ t e. let g : t ≤ min (length ws) (avail s) = halt_below s n t e in omega (arith, g)) h

pub KeepsSound-read_on : (k : SubId) (c : ClientId) (x : Xfer) (fs : List Frame) (r : ℕ) (s : Stream) → Sound s → KeepsSound k (read_on c x fs r s)
KeepsSound-read_on k c x fs r s h =
    let n : ℕ = min r (avail s) in
    KeepsSound-after_moves k c x (fs ++ read_next n s) (r - n) (on_by n s) (Sound-on_by n s (omega arith) h)

pub KeepsSound-write : (k : SubId) (c : ClientId) (w : Layout) (m : Mode) (io : List ℕ) (s : Stream) → Sound s → KeepsSound k (write c w m io s)
KeepsSound-write k c w m io s h =
    let n : ℕ = length io / s.setup.frame_bytes in
    let x : Xfer = record { writing = true; layout = w; mode = m; rest = n; moved = 0 } in
    let on : Stream → Program = write_on c x [] (frames_by w s io) in
    KeepsSound-unless k (misfit s true w (is_whole s io)) s (if nat_eq n 0 then says (reply.Frames 0) s else unless (table kind.Write s) s (updated_or_epipe s on)) h
    (λ _. KeepsSound-if k (nat_eq n 0) (says (reply.Frames 0) s) (unless (table kind.Write s) s (updated_or_epipe s on)) (λ _. h)
    (λ _. KeepsSound-unless k (table kind.Write s) s (updated_or_epipe s on) h (λ _. KeepsSound-updated_or_epipe k s on h (λ t g. KeepsSound-write_on k c x [] (frames_by w s io) t g))))

pub KeepsSound-start_reading : (k : SubId) (c : ClientId) (x : Xfer) (s : Stream) → Sound s → KeepsSound k (start_reading c x s)
KeepsSound-start_reading k c x s h = KeepsSound-if k (is_prepared s.state && nat_le s.setup.sw.start_threshold x.rest) (making act.Start s (read_on c x [] x.rest)) (read_on c x [] x.rest s)
    (λ _. KeepsSound-making k act.Start s (read_on c x [] x.rest) refl h (λ t g. KeepsSound-read_on k c x [] x.rest t g)) (λ _. KeepsSound-read_on k c x [] x.rest s h)

pub KeepsSound-read : (k : SubId) (c : ClientId) (w : Layout) (m : Mode) (n : ℕ) (s : Stream) → Sound s → KeepsSound k (read c w m n s)
KeepsSound-read k c w m n s h =
    let x : Xfer = record { writing = false; layout = w; mode = m; rest = n; moved = 0 } in
    KeepsSound-unless k (misfit s false w (nat_le n 1048576)) s (if nat_eq n 0 then says (reply.Frames 0) s else unless (table kind.Read s) s (updated_or_epipe s (start_reading c x))) h
    (λ _. KeepsSound-if k (nat_eq n 0) (says (reply.Frames 0) s) (unless (table kind.Read s) s (updated_or_epipe s (start_reading c x))) (λ _. h)
    (λ _. KeepsSound-unless k (table kind.Read s) s (updated_or_epipe s (start_reading c x)) h (λ _. KeepsSound-updated_or_epipe k s (start_reading c x) h (λ t g. KeepsSound-start_reading k c x t g))))

-- drains

pub KeepsSound-watch : (k : SubId) (c : ClientId) (s : Stream) (o : Outcome) (t : Stream) → Sound t → KeepsSound k (watch c s o t)
KeepsSound-watch k c s outcome.Done t h = h
KeepsSound-watch k c s (outcome.Refused j e) t h = Sound-sleepers (t.sleepers ++ record { client = c; task = task.Drain } ∷ []) t h
KeepsSound-watch k c s (outcome.Failed j) t h = Sound-sleepers (t.sleepers ++ record { client = c; task = task.Drain } ∷ []) t h

pub KeepsSound-drain_now : (k : SubId) (c : ClientId) (m : Mode) (s : Stream) → Sound s → KeepsSound k (drain_now c m s)
KeepsSound-drain_now k c mode.NonBlock s h = KeepsSound-making k act.Drain s (λ t. fails errno.Eagain t) refl h (λ t g. g)
KeepsSound-drain_now k c mode.Block s h = KeepsSound-making k act.Drain s (λ t. Makes act.Watch t (watch c t)) refl h
    (λ t g. (g, refl, λ v o q. KeepsSound-watch k c t o (after act.Watch v o t) (Sound-after k act.Watch v o t refl q g)))

pub KeepsSound-drain : (k : SubId) (c : ClientId) (m : Mode) (s : Stream) → Sound s → KeepsSound k (drain c m s)
KeepsSound-drain k c m s h =
    let p : Program = making act.Release s (drain_now c m) in
    KeepsSound-unless k (table kind.Drain s) s (if is_paused s.state then p else drain_now c m s) h
    (λ _. KeepsSound-if k (is_paused s.state) p (drain_now c m s) (λ _. KeepsSound-making k act.Release s (drain_now c m) refl h (λ t g. KeepsSound-drain_now k c m t g)) (λ _. KeepsSound-drain_now k c m s h))

-- going on

pub Sound-left_by : (c : ClientId) (s : Stream) → Sound s → Sound (left_by c s)
Sound-left_by c s h = Sound-sleepers (others_than c s.sleepers) s h

pub KeepsSound-go_on : (k : SubId) (c : ClientId) (x : Xfer) (io : List ℕ) (s : Stream) → Sound s → KeepsSound k (go_on c x io s)
KeepsSound-go_on k c x io s h =
    let ws : List Frame = drop x.moved (frames_by x.layout s io) in
    KeepsSound-if k x.writing (write_on c x [] ws s) (read_on c x [] x.rest s) (λ _. KeepsSound-write_on k c x [] ws s h) (λ _. KeepsSound-read_on k c x [] x.rest s h)

pub KeepsSound-go_transfer : (k : SubId) (c : ClientId) (x : Xfer) (wanted : ℕ) (io : List ℕ) (s : Stream) → Sound s → KeepsSound k (go_transfer c x wanted io s)
KeepsSound-go_transfer k c x wanted io s h = by s.state s.dir
  where
    gone : Sound (left_by c s)
    gone = Sound-left_by c s h

    may : KeepsSound k (if nat_lt (avail s) wanted then says reply.Asleep s else go_on c x io (left_by c s))
    may = KeepsSound-if k (nat_lt (avail s) wanted) (says reply.Asleep s) (go_on c x io (left_by c s)) (λ _. h) (λ _. KeepsSound-go_on k c x io (left_by c s) (Sound-left_by c s h))

    by : (t : State) (d : Dir) → KeepsSound k (go_transfer_in t d c x wanted io s)
    by state.Prepared d = may
    by state.Running d = may
    by state.Paused d = may
    by state.Suspended d = gone
    by state.Disconnected d = gone
    by state.Xrun d = gone
    by state.Draining dir.Playback = gone
    by state.Draining dir.Capture = KeepsSound-go_on k c x io (left_by c s) gone
    by state.Closed d = gone
    by state.Opened d = gone
    by state.Setup d = gone

pub KeepsSound-go_drain : (k : SubId) (c : ClientId) (o : Outcome) (t : Stream) → Sound t → KeepsSound k (go_drain c o t)
KeepsSound-go_drain k c outcome.Done t h = KeepsSound-if k (is_suspended t.state) (fails errno.Estrpipe (left_by c t)) (says reply.Ok (left_by c t)) (λ _. Sound-left_by c t h) (λ _. Sound-left_by c t h)
KeepsSound-go_drain k c (outcome.Refused j e) t h = h
KeepsSound-go_drain k c (outcome.Failed j) t h = h

pub KeepsSound-go_task : (k : SubId) (c : ClientId) (q : Task) (io : List ℕ) (s : Stream) → Sound s → KeepsSound k (go_task c q io s)
KeepsSound-go_task k c (task.Transfer x wanted) io s h = KeepsSound-go_transfer k c x wanted io s h
KeepsSound-go_task k c task.Drain io s h = KeepsSound-if k (is_disconnected s.state) (fails errno.Ebadfd (left_by c s)) (Makes act.Watch s (go_drain c)) (λ _. Sound-left_by c s h)
    (λ _. (h, refl, λ v o q. KeepsSound-go_drain k c o (after act.Watch v o s) (Sound-after k act.Watch v o s refl q h)))

pub KeepsSound-go : (k : SubId) (c : ClientId) (io : List ℕ) (s : Stream) → Sound s → KeepsSound k (go c io s)
KeepsSound-go k c io s h = by (waiting_of c s.sleepers)
  where
    by : (q : Option Task) → KeepsSound k (go_call q c io s)
    by None = h
    by (Some p) = KeepsSound-if k (nat_eq (length io) (length_of p s)) (go_task c p io s) (fails errno.Einval s) (λ _. KeepsSound-go_task k c p io s h) (λ _. h)

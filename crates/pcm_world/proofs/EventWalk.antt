-- What every event leaves of the calls in progress on its stream.
use Rattle.std.proofs.Common.{◌≡◌, ◌≢◌, ℕ, ◌+◌, ◌-◌, ◌*◌, ◌/◌, ◌%◌, ◌<◌, Bool, true, false, cond, not, ◌&&◌, ◌||◌, nat_eq, nat_le, nat_lt, List, [], ◌∷◌, ◌++◌, length, drop, min, if◌then◌else◌, refl, sym, ap, ◌∙◌, subst, arith, length-drop}
use Rattle.std.proofs.Math.Nat.{mul-div_cancel}
use Rattle.std.proofs.lemmas.Bool.Decides.{nat_tests}
use Rattle.std.specs.declared.option.Option.{Option}
use Rattle.std.specs.declared.option.Option.TheVariants.{Some, None}
use Rattle.pcm_base.specs.Boundary.{boundary_of}
use Rattle.pcm_base.specs.declared.act.Act.{Act}
use Rattle.pcm_base.specs.declared.act.Act.TheVariants as act
use Rattle.pcm_base.specs.declared.act.Outcome.{Outcome}
use Rattle.pcm_base.specs.declared.act.Outcome.TheVariants as outcome
use Rattle.pcm_base.specs.declared.act.Updated.{Updated}
use Rattle.pcm_base.specs.declared.act.Updated.TheVariants as updated
use Rattle.pcm_base.specs.declared.act.Vote.{Vote}
use Rattle.pcm_base.specs.declared.call.Call.{Call}
use Rattle.pcm_base.specs.declared.call.Call.TheVariants as call
use Rattle.pcm_base.specs.declared.call.CallKind.TheVariants as kind
use Rattle.pcm_base.specs.declared.call.Layout.{Layout}
use Rattle.pcm_base.specs.declared.call.Mode.{Mode}
use Rattle.pcm_base.specs.declared.call.Mode.TheVariants as mode
use Rattle.pcm_base.specs.declared.ids.ClientId.{ClientId}
use Rattle.pcm_base.specs.declared.reply.Reply.{Reply}
use Rattle.pcm_base.specs.declared.reply.Reply.TheVariants as reply
use Rattle.pcm_base.specs.declared.sleeper.Task.{Task}
use Rattle.pcm_base.specs.declared.sleeper.Task.TheVariants as task
use Rattle.pcm_base.specs.declared.sleeper.Xfer.{Xfer}
use Rattle.pcm_base.specs.declared.state.Dir.{Dir}
use Rattle.pcm_base.specs.declared.state.Dir.TheVariants as dir
use Rattle.pcm_base.specs.declared.state.Errno.{Errno}
use Rattle.pcm_base.specs.declared.state.Errno.TheVariants as errno
use Rattle.pcm_base.specs.declared.state.State.{State}
use Rattle.pcm_base.specs.declared.state.State.TheVariants as state
use Rattle.pcm_base.specs.model.Acts.{after, table}
use Rattle.pcm_base.specs.model.Allowed.{accepts, buffer_of}
use Rattle.pcm_base.specs.model.Events.{closed, delay, drain, drain_now, event, forwarded, freed, go, go_call, go_drain, go_on, go_task, go_transfer, go_transfer_in, hands, if_held, is_busy, is_mapped_access, left_by, length_of, opens, others_than, page, plan_set, poll, program, rewound, set_mappings, set_setup, set_sw, setup_of, unplug_alone, unplugged, waiting_of, watch}
use Rattle.pcm_base.specs.model.Frame.{Frame}
use Rattle.pcm_base.specs.model.Movement.{Movement, carried, carried_by, carried_frames, move, taken_bytes}
use Rattle.pcm_base.specs.model.PointerCalls.{back_by, hw_avail, on_by, sync_to}
use Rattle.pcm_base.specs.model.Program.{Answer, Ends, Makes, Program, act_alone, after_found, fails, going_on, making, or_epipe, says, unless, updated_or_epipe, updating}
use Rattle.pcm_base.specs.model.Software.{refuses_sw}
use Rattle.pcm_base.specs.model.Standing.{put_at, standing_at}
use Rattle.pcm_base.specs.model.Stream.{Setup, Stream, Waiting, avail, is_bare, zero_frame}
use Rattle.pcm_base.specs.model.Transfer.{beq, fits, frames_by, frames_in, frames_or, is_whole, misfit, read, read_on, sleeping, start_reading, write, write_on}
use Rattle.pcm_base.specs.model.Update.{update}
use Rattle.pcm_base.specs.model.Words.{is_closed, is_disconnected, is_paused, is_playback, is_running, is_suspended, when, ◌then◌}
use Rattle.pcm_base.specs.model.World.{is_go}
use Rattle.pcm_laws.proofs.CallsInProgress.{free-others_than}
use Rattle.pcm_laws.proofs.Leaves.{IsSameBesideActs-after}
use Rattle.pcm_laws.specs.Steps.{IsSameBesideActs}
use Rattle.pcm_laws.specs.Waiting.{HaveDistinctClients}
use Rattle.pcm_stream.proofs.LayoutLemmas.{length-by}
use Rattle.pcm_world.specs.Waiting.{AreWritten, IsEntered, IsLeftWaiting, IsOwn, IsSameFrames, IsStepped, IsTold, task_begun}
use Rattle.pcm_world.proofs.TransferWalk.{IsEnd, IsLeftBy, Keeps, keeps-if, keeps-unless, setup-update, sleepers-update, walks-read, walks-start_reading, walks-updated, walks-write}
use Rattle.pcm_world.proofs.WideLemmas.{HasWidePuts}

-- ---- calls in progress

pub waiting-append_other : (d : ClientId) (p : Waiting) (ps : List Waiting) → nat_eq p.client.0 d.0 ≡ false → waiting_of d (ps ++ p ∷ []) ≡ waiting_of d ps
waiting-append_other d p [] n = ap (λ (b : Bool). cond b (Some p.task) None) n
waiting-append_other d p (q ∷ ps) n = ap (λ (o : Option Task). cond (nat_eq q.client.0 d.0) (Some q.task) o) (waiting-append_other d p ps n)

same_number : (n : ℕ) → nat_eq n n ≡ true
same_number n = grind (arith, nat_tests)

swapped : (a b : ℕ) → nat_eq a b ≡ false → nat_eq b a ≡ false
swapped a b h = grind (arith, nat_tests, h)

none-then : (b : Bool) (t : Task) (o : Option Task) → cond b (Some t) o ≡ None → (b ≡ false) × (o ≡ None)
none-then true t o h = absurd (let no : ⊥ = cc in no)
none-then false t o h = (refl, h)

pub waiting-append_own : (c : ClientId) (t : Task) (ps : List Waiting) → waiting_of c ps ≡ None → waiting_of c (ps ++ record { client = c; task = t } ∷ []) ≡ Some t
waiting-append_own c t [] h = ap (λ (b : Bool). cond b (Some t) None) (same_number c.0)
waiting-append_own c t (q ∷ ps) h =
    let r = none-then (nat_eq q.client.0 c.0) q.task (waiting_of c ps) h in
    ap (λ (b : Bool). cond b (Some q.task) (waiting_of c (ps ++ record { client = c; task = t } ∷ []))) r.0 ∙ waiting-append_own c t ps r.1

pub waiting-others_than : (c d : ClientId) (ps : List Waiting) → nat_eq d.0 c.0 ≡ false → waiting_of d (others_than c ps) ≡ waiting_of d ps
waiting-others_than c d [] n = refl
waiting-others_than c d (p ∷ ps) n = by (nat_eq p.client.0 c.0) refl (waiting-others_than c d ps n)
  where
    by : (b : Bool) → nat_eq p.client.0 c.0 ≡ b → waiting_of d (others_than c ps) ≡ waiting_of d ps → waiting_of d (cond b ps (p ∷ others_than c ps)) ≡ cond (nat_eq p.client.0 d.0) (Some p.task) (waiting_of d ps)
    by true e h = let not_d : nat_eq p.client.0 d.0 ≡ false = grind (arith, nat_tests, e, n) in sym (ap (λ (b : Bool). cond b (Some p.task) (waiting_of d ps)) not_d)
    by false e h = ap (λ (o : Option Task). cond (nat_eq p.client.0 d.0) (Some p.task) o) h

-- ---- answers that are not Asleep

abbrev pub IsAwake : Reply → Type 0
IsAwake reply.Asleep = ⊥
IsAwake _ = Unit {0}

awake-left : (r : Reply) (begun : Option Task) (n : ℕ) (o : Option Task) → IsAwake r → o ≡ None → IsLeftWaiting r begun n o
awake-left reply.Ok begun n o w h = h
awake-left (reply.Frames m) begun n o w h = h
awake-left (reply.Moved m) begun n o w h = h
awake-left (reply.Delay m) begun n o w h = h
awake-left (reply.Ptrs p) begun n o w h = h
awake-left (reply.Poll p) begun n o w h = h
awake-left reply.Asleep begun n o w h = absurd w
awake-left (reply.Err e) begun n o w h = h
awake-left (reply.Late m) begun n o w h = h
awake-left reply.Idle begun n o w h = h
awake-left (reply.Limit m) begun n o w h = h
awake-left (reply.Busy c) begun n o w h = h
awake-left reply.Memory begun n o w h = h

not-asleep : (r : Reply) → IsAwake r → r ≢ reply.Asleep
not-asleep r w e = let no : ⊥ = subst IsAwake e w in no

stepped-awake : (e : Call) (c : ClientId) (io : List ℕ) (s : Stream) (a : Answer) (t : Stream) → IsAwake a.reply → ((d : ClientId) → nat_eq d.0 c.0 ≡ false → waiting_of d t.sleepers ≡ waiting_of d s.sleepers)
    → waiting_of c t.sleepers ≡ None → (is_busy s ≡ true → IsSameFrames s t) → IsTold (task_begun e c io s) s a → IsStepped e c io s a t
stepped-awake e c io s a t w others free busy told = record {
  others = others;
  caller = awake-left a.reply (task_begun e c io s) (length a.frames) (waiting_of c t.sleepers) w free;
  busy = busy;
  asleep = λ q. absurd (not-asleep a.reply w q);
  told = told;
  written = λ q. absurd (not-asleep a.reply w q);
}

-- ---- the end of a transfer

-- those in progress beside the caller's
record IsBesideCaller (c : ClientId) (ps qs : List Waiting) : Type 0 where
  pub others : (d : ClientId) → nat_eq d.0 c.0 ≡ false → waiting_of d ps ≡ waiting_of d qs
  pub free : waiting_of c ps ≡ None

beside-itself : (c : ClientId) (ps : List Waiting) → waiting_of c ps ≡ None → IsBesideCaller c ps ps
beside-itself c ps h = record { others = λ d n. refl; free = h }

beside-gone : (c : ClientId) (ps : List Waiting) → HaveDistinctClients ps → IsBesideCaller c (others_than c ps) ps
beside-gone c ps h = record { others = λ d n. waiting-others_than c d ps n; free = (free-others_than c ps h).free }

-- who waits at the end
record IsLeft (c : ClientId) (r : Reply) (y : Xfer) (v n : ℕ) (qs ts : List Waiting) : Type 0 where
  pub others : (d : ClientId) → nat_eq d.0 c.0 ≡ false → waiting_of d ts ≡ waiting_of d qs
  pub caller : IsLeftWaiting r (Some (task.Transfer y v)) n (waiting_of c ts)

awake-ends : (c : ClientId) (r : Reply) (y : Xfer) (v n : ℕ) (ps qs ts : List Waiting) → IsBesideCaller c ps qs → IsAwake r → ts ≡ ps → IsLeft c r y v n qs ts
awake-ends c r y v n ps qs ts b w h = record {
  others = λ d m. ap (waiting_of d) h ∙ b.others d m;
  caller = awake-left r (Some (task.Transfer y v)) n (waiting_of c ts) w (ap (waiting_of c) h ∙ b.free);
}

ends-left : (c : ClientId) (r : Reply) (y : Xfer) (v n : ℕ) (ps qs ts : List Waiting) → IsBesideCaller c ps qs → IsLeftBy c y ps r n ts → IsLeft c r y v n qs ts
ends-left c reply.Ok y v n ps qs ts b h = awake-ends c reply.Ok y v n ps qs ts b tt h
ends-left c (reply.Frames m) y v n ps qs ts b h = awake-ends c (reply.Frames m) y v n ps qs ts b tt h
ends-left c (reply.Moved m) y v n ps qs ts b h = awake-ends c (reply.Moved m) y v n ps qs ts b tt h
ends-left c (reply.Delay m) y v n ps qs ts b h = awake-ends c (reply.Delay m) y v n ps qs ts b tt h
ends-left c (reply.Ptrs p) y v n ps qs ts b h = awake-ends c (reply.Ptrs p) y v n ps qs ts b tt h
ends-left c (reply.Poll p) y v n ps qs ts b h = awake-ends c (reply.Poll p) y v n ps qs ts b tt h
ends-left c reply.Asleep y v n ps qs ts b h =
    let p : Waiting = record { client = c; task = task.Transfer h.0 h.1 } in
    record {
      others = λ d m. ap (waiting_of d) h.2 ∙ (waiting-append_other d p ps (swapped d.0 c.0 m) ∙ b.others d m);
      caller = subst (λ (o : Option Task). IsLeftWaiting reply.Asleep (Some (task.Transfer y v)) n o) (sym (ap (waiting_of c) h.2 ∙ waiting-append_own c (task.Transfer h.0 h.1) ps b.free)) h.3;
    }
ends-left c (reply.Err e) y v n ps qs ts b h = awake-ends c (reply.Err e) y v n ps qs ts b tt h
ends-left c (reply.Late m) y v n ps qs ts b h = awake-ends c (reply.Late m) y v n ps qs ts b tt h
ends-left c reply.Idle y v n ps qs ts b h = awake-ends c reply.Idle y v n ps qs ts b tt h
ends-left c (reply.Limit m) y v n ps qs ts b h = awake-ends c (reply.Limit m) y v n ps qs ts b tt h
ends-left c (reply.Busy d) y v n ps qs ts b h = awake-ends c (reply.Busy d) y v n ps qs ts b tt h
ends-left c reply.Memory y v n ps qs ts b h = awake-ends c reply.Memory y v n ps qs ts b tt h

stepped-end : (e : Call) (c : ClientId) (io : List ℕ) (s : Stream) (y : Xfer) (v : ℕ) (ps : List Waiting) (a : Answer) (t : Stream) → task_begun e c io s ≡ Some (task.Transfer y v) → IsBesideCaller c ps s.sleepers
    → AreWritten e io s → IsEnd c y ps s a t → IsStepped e c io s a t
stepped-end e c io s y v ps a t begun b written h =
    let left : IsLeft c a.reply y v (length a.frames) s.sleepers t.sleepers = ends-left c a.reply y v (length a.frames) ps s.sleepers t.sleepers b h.left in
    record {
      others = left.others;
      caller = subst (λ (o : Option Task). IsLeftWaiting a.reply o (length a.frames) (waiting_of c t.sleepers)) (sym begun) left.caller;
      busy = λ _. record { config = h.config; frame_bytes = h.frame_bytes };
      asleep = λ _. record { config = h.config; frame_bytes = h.frame_bytes };
      told = subst (λ (o : Option Task). IsTold o s a) (sym begun) h.told;
      written = λ _. written;
    }

-- a program whose ends are so, has these ends
keeps-as : (P Q : Answer → Stream → Type 0) (p : Program) → ((a : Answer) (t : Stream) → P a t → Q a t) → Keeps P p → Keeps Q p
keeps-as P Q (Ends a s) f h = f a s h
keeps-as P Q (Makes a s g) f h = λ v o. keeps-as P Q (g o (after a v o s)) f (h v o)

-- ---- reads and writes

stepped-refused : (e : Call) (c : ClientId) (io : List ℕ) (s : Stream) (y : Xfer) (v : ℕ) (r : Errno) → task_begun e c io s ≡ Some (task.Transfer y v) → waiting_of c s.sleepers ≡ None
    → IsStepped e c io s (record { reply = reply.Err r; first = 0; frames = [] }) s
stepped-refused e c io s y v r begun free =
    stepped-awake e c io s (record { reply = reply.Err r; first = 0; frames = [] }) s tt (λ d n. refl) free (λ _. record { config = refl; frame_bytes = refl })
    (subst (λ (o : Option Task). IsTold o s (record { reply = reply.Err r; first = 0; frames = [] })) (sym begun)
    (record { count = λ n q. absurd (let no : ⊥ = cc in no); first = λ some. absurd (some refl); most = omega arith; wide = λ _. tt }))

stepped-none : (e : Call) (c : ClientId) (io : List ℕ) (s : Stream) (y : Xfer) (v : ℕ) → task_begun e c io s ≡ Some (task.Transfer y v) → y.moved ≡ 0 → waiting_of c s.sleepers ≡ None
    → IsStepped e c io s (record { reply = reply.Frames 0; first = 0; frames = [] }) s
stepped-none e c io s y v begun z free =
    stepped-awake e c io s (record { reply = reply.Frames 0; first = 0; frames = [] }) s tt (λ d n. refl) free (λ _. record { config = refl; frame_bytes = refl })
    (subst (λ (o : Option Task). IsTold o s (record { reply = reply.Frames 0; first = 0; frames = [] })) (sym begun)
    (record { count = λ n q. let k : 0 ≡ n = cc in omega (arith, k, z); first = λ some. absurd (some refl); most = omega arith; wide = λ _. tt }))

pub whole-by : (s : Stream) (w : Bool) (l : Layout) (whole : Bool) → misfit s w l whole ≡ None → (is_bare s ≡ false) × (whole ≡ true)
whole-by s w l whole h = by (not (beq w (is_playback s.dir))) (is_bare s) (not (fits l s.setup.config)) whole h
  where
    by : (a b f g : Bool) → (when a errno.Einval then (when b errno.Ebadfd then (when f errno.Einval then when (not g) errno.Einval))) ≡ None → (b ≡ false) × (g ≡ true)
    by true b f g q = absurd (let no : ⊥ = cc in no)
    by false true f g q = absurd (let no : ⊥ = cc in no)
    by false false true g q = absurd (let no : ⊥ = cc in no)
    by false false false true q = (refl, refl)
    by false false false false q = absurd (let no : ⊥ = cc in no)

steps-write : (c : ClientId) (w : Layout) (m : Mode) (io : List ℕ) (s : Stream) → waiting_of c s.sleepers ≡ None → Keeps (IsStepped (call.Write w m) c io s) (write c w m io s)
steps-write c w m io s free =
    let e : Call = call.Write w m in
    let n : ℕ = length io / s.setup.frame_bytes in
    let x : Xfer = record { writing = true; layout = w; mode = m; rest = n; moved = 0 } in
    let on : Stream → Program = write_on c x [] (frames_by w s io) in
    let P : Answer → Stream → Type 0 = IsStepped e c io s in
    keeps-unless (IsStepped e c io s) (misfit s true w (is_whole s io)) s (if nat_eq n 0 then says (reply.Frames 0) s else unless (table kind.Write s) s (updated_or_epipe s on)) (λ r. stepped-refused e c io s x 0 r refl free)
    (λ fit. keeps-if (IsStepped e c io s) (nat_eq n 0) (says (reply.Frames 0) s) (unless (table kind.Write s) s (updated_or_epipe s on)) (λ _. stepped-none e c io s x 0 refl refl free)
    (λ _. keeps-unless (IsStepped e c io s) (table kind.Write s) s (updated_or_epipe s on) (λ r. stepped-refused e c io s x 0 r refl free)
    (λ _. let whole : length io % s.setup.frame_bytes ≡ 0 = grind (arith, nat_tests, (whole-by s true w (is_whole s io) fit).1) in
    keeps-as (IsEnd c x s.sleepers s) (IsStepped e c io s) (updated_or_epipe s on) (λ a t h. stepped-end e c io s x 0 s.sleepers a t refl (beside-itself c s.sleepers free) whole h)
    (walks-updated c x s.sleepers s s on (record { sleepers = refl; config = refl; frame_bytes = refl; puts = λ r. absurd (let no : ⊥ = cc in no) })
    (λ t h. walks-write c x s.sleepers s t [] (frames_by w s io) refl (record { all = (let n : length (frames_by w s io) ≡ length io / s.setup.frame_bytes = length-by w s io in omega (arith, n)); wide = λ _. tt }) h)))))

steps-read : (c : ClientId) (w : Layout) (m : Mode) (n : ℕ) (io : List ℕ) (s : Stream) → waiting_of c s.sleepers ≡ None → (is_bare s ≡ false → HasWidePuts s) → Keeps (IsStepped (call.Read w m n) c io s) (read c w m n s)
steps-read c w m n io s free puts =
    let e : Call = call.Read w m n in
    let x : Xfer = record { writing = false; layout = w; mode = m; rest = n; moved = 0 } in
    let on : Stream → Program = start_reading c x in
    keeps-unless (IsStepped e c io s) (misfit s false w (nat_le n 1048576)) s (if nat_eq n 0 then says (reply.Frames 0) s else unless (table kind.Read s) s (updated_or_epipe s on)) (λ r. stepped-refused e c io s x 0 r refl free)
    (λ fit. keeps-if (IsStepped e c io s) (nat_eq n 0) (says (reply.Frames 0) s) (unless (table kind.Read s) s (updated_or_epipe s on)) (λ _. stepped-none e c io s x 0 refl refl free)
    (λ _. keeps-unless (IsStepped e c io s) (table kind.Read s) s (updated_or_epipe s on) (λ r. stepped-refused e c io s x 0 r refl free)
    (λ _. keeps-as (IsEnd c x s.sleepers s) (IsStepped e c io s) (updated_or_epipe s on) (λ a t h. stepped-end e c io s x 0 s.sleepers a t refl (beside-itself c s.sleepers free) tt h)
    (walks-updated c x s.sleepers s s on (record { sleepers = refl; config = refl; frame_bytes = refl; puts = λ _. puts (whole-by s false w (nat_le n 1048576) fit).0 })
    (λ t h. walks-start_reading c x s.sleepers s t h)))))

-- ---- beside acts

record IsBeside (s t : Stream) : Type 0 where
  pub sleepers : t.sleepers ≡ s.sleepers
  pub frames : IsSameFrames s t

beside-after : (s t : Stream) (a : Act) (v : Vote) (o : Outcome) → IsBeside s t → IsBeside s (after a v o t)
beside-after s t a v o h =
    let same : IsSameBesideActs t (after a v o t) = IsSameBesideActs-after a v o t in
    record {
      sleepers = same.sleepers ∙ h.sleepers;
      frames = record { config = ap (λ (x : Setup). x.config) same.setup ∙ h.frames.config; frame_bytes = ap (λ (x : Setup). x.frame_bytes) same.setup ∙ h.frames.frame_bytes };
    }

beside-update : (s t : Stream) → IsBeside s t → IsBeside s (update t).stream
beside-update s t h = record {
  sleepers = sleepers-update t ∙ h.sleepers;
  frames = record { config = ap (λ (x : Setup). x.config) (setup-update t) ∙ h.frames.config; frame_bytes = ap (λ (x : Setup). x.frame_bytes) (setup-update t) ∙ h.frames.frame_bytes };
}

beside-self : (s : Stream) → IsBeside s s
beside-self s = record { sleepers = refl; frames = record { config = refl; frame_bytes = refl } }

-- ---- events that never sleep

-- the end of an event of client c, which has no call in progress on the stream
record IsQuiet (s : Stream) (a : Answer) (t : Stream) : Type 0 where
  pub awake : IsAwake a.reply
  pub sleepers : t.sleepers ≡ s.sleepers
  pub busy : is_busy s ≡ true → IsSameFrames s t

quiet-says : (s : Stream) (a : Answer) (t : Stream) → IsAwake a.reply → IsBeside s t → IsQuiet s a t
quiet-says s a t w h = record { awake = w; sleepers = h.sleepers; busy = λ _. h.frames }

quiet-unless : (s t : Stream) (e : Option Errno) (p : Program) → IsBeside s t → (e ≡ None → Keeps (IsQuiet s) p) → Keeps (IsQuiet s) (unless e t p)
quiet-unless s t e p h k = keeps-unless (IsQuiet s) e t p (λ r. quiet-says s (record { reply = reply.Err r; first = 0; frames = [] }) t tt h) k

quiet-if : (s : Stream) (b : Bool) (p q : Program) → Keeps (IsQuiet s) p → Keeps (IsQuiet s) q → Keeps (IsQuiet s) (cond b p q)
quiet-if s b p q h k = keeps-if (IsQuiet s) b p q (λ _. h) (λ _. k)

quiet-going_on : (s t : Stream) (f : Stream → Program) (o : Outcome) → IsBeside s t → Keeps (IsQuiet s) (f t) → Keeps (IsQuiet s) (going_on f o t)
quiet-going_on s t f outcome.Done h k = k
quiet-going_on s t f (outcome.Refused j e) h k = quiet-says s (record { reply = reply.Err e; first = 0; frames = [] }) t tt h
quiet-going_on s t f (outcome.Failed j) h k = quiet-says s (record { reply = reply.Err errno.Eio; first = 0; frames = [] }) t tt h

quiet-making : (s t : Stream) (a : Act) (f : Stream → Program) → IsBeside s t → ((u : Stream) → IsBeside s u → Keeps (IsQuiet s) (f u)) → Keeps (IsQuiet s) (making a t f)
quiet-making s t a f h k = λ v o. let g : IsBeside s (after a v o t) = beside-after s t a v o h in quiet-going_on s (after a v o t) f o g (k (after a v o t) g)

quiet-alone : (s : Stream) (a : Act) → Keeps (IsQuiet s) (act_alone a s)
quiet-alone s a = quiet-making s s a (says reply.Ok) (beside-self s) (λ u h. quiet-says s (record { reply = reply.Ok; first = 0; frames = [] }) u tt h)

quiet-act : (s : Stream) (e : Option Errno) (a : Act) → Keeps (IsQuiet s) (unless e s (act_alone a s))
quiet-act s e a = quiet-unless s s e (act_alone a s) (beside-self s) (λ _. quiet-alone s a)

quiet-found : (s t : Stream) (f : Updated → Stream → Program) (u : Updated) → IsBeside s t → ((u : Updated) (r : Stream) → IsBeside s r → Keeps (IsQuiet s) (f u r)) → Keeps (IsQuiet s) (after_found f u t)
quiet-found s t f updated.Nothing h k = k updated.Nothing t h
quiet-found s t f updated.DrainDone h k = k updated.DrainDone t h
quiet-found s t f updated.StopXrun h k = λ v o. k updated.StopXrun (after (act.Stop state.Xrun) v o t) (beside-after s t (act.Stop state.Xrun) v o h)

quiet-updating : (s : Stream) (f : Updated → Stream → Program) → ((u : Updated) (r : Stream) → IsBeside s r → Keeps (IsQuiet s) (f u r)) → Keeps (IsQuiet s) (updating s f)
quiet-updating s f k = quiet-found s (update s).stream f (update s).found (beside-update s s (beside-self s)) k

quiet-or_epipe : (s : Stream) (f : Stream → Program) → ((r : Stream) → IsBeside s r → Keeps (IsQuiet s) (f r)) → (u : Updated) (r : Stream) → IsBeside s r → Keeps (IsQuiet s) (or_epipe f u r)
quiet-or_epipe s f k updated.Nothing r h = k r h
quiet-or_epipe s f k updated.DrainDone r h = quiet-says s (record { reply = reply.Err errno.Epipe; first = 0; frames = [] }) r tt h
quiet-or_epipe s f k updated.StopXrun r h = quiet-says s (record { reply = reply.Err errno.Epipe; first = 0; frames = [] }) r tt h

quiet-updated : (s : Stream) (e : Option Errno) (f : Stream → Program) → ((r : Stream) → IsBeside s r → Keeps (IsQuiet s) (f r)) → Keeps (IsQuiet s) (unless e s (updated_or_epipe s f))
quiet-updated s e f k = quiet-unless s s e (updated_or_epipe s f) (beside-self s) (λ _. quiet-updating s (or_epipe f) (quiet-or_epipe s f k))

-- a stream that is set up anew has no call in progress
not_busy : (a b : Option Errno) (s : Stream) → (a then (b then when (is_busy s) errno.Ebusy)) ≡ None → is_busy s ≡ false
not_busy (Some e) b s h = absurd (let no : ⊥ = cc in no)
not_busy None (Some e) s h = absurd (let no : ⊥ = cc in no)
not_busy None None s h = by (is_busy s) h
  where
    by : (b : Bool) → when b errno.Ebusy ≡ None → b ≡ false
    by true q = absurd (let no : ⊥ = cc in no)
    by false q = refl

not_busy-close : (a b c : Bool) → when ((a || b) || c) errno.Ebusy ≡ None → c ≡ false
not_busy-close true b c h = absurd (let no : ⊥ = cc in no)
not_busy-close false true c h = absurd (let no : ⊥ = cc in no)
not_busy-close false false true h = absurd (let no : ⊥ = cc in no)
not_busy-close false false false h = refl

quiet-set : (s : Stream) (r : Reply) (t : Stream) → IsAwake r → t.sleepers ≡ s.sleepers → is_busy s ≡ false → IsQuiet s (record { reply = r; first = 0; frames = [] }) t
quiet-set s r t w e h = record { awake = w; sleepers = e; busy = λ b. absurd (let no : ⊥ = cc in no) }

awake-poll : (s : Stream) → IsAwake (poll s)
awake-poll s = tt

awake-delay : (s : Stream) (d : Dir) → IsAwake (elim d as (λ _. Reply) [ dir.Playback ↦ delay (record s { dir = dir.Playback }) | dir.Capture ↦ delay (record s { dir = dir.Capture }) ])
awake-delay s dir.Playback = tt
awake-delay s dir.Capture = tt

quiet-delay : (s t : Stream) → IsBeside s t → Keeps (IsQuiet s) (says (delay t) t)
quiet-delay s t h = quiet-says s (record { reply = delay t; first = 0; frames = [] }) t (by t.dir) h
  where
    by : (d : Dir) → IsAwake (delay (record t { dir = d }))
    by dir.Playback = tt
    by dir.Capture = tt

quiet-movement : (s : Stream) (b : Bool) (x y : Movement) → IsQuiet s (record { reply = x.reply; first = 0; frames = x.frames }) x.stream → IsQuiet s (record { reply = y.reply; first = 0; frames = y.frames }) y.stream
    → IsQuiet s (record { reply = (cond b x y).reply; first = 0; frames = (cond b x y).frames }) (cond b x y).stream
quiet-movement s true x y h k = h
quiet-movement s false x y h k = k

beside-carried : (n : ℕ) (s : Stream) (w : Dir) → IsBeside s (carried_by w n s)
beside-carried n s dir.Playback = record { sleepers = refl; frames = record { config = refl; frame_bytes = refl } }
beside-carried n s dir.Capture = record { sleepers = refl; frames = record { config = refl; frame_bytes = refl } }

quiet-move : (n : ℕ) (s : Stream) → IsQuiet s (record { reply = (move n s).reply; first = 0; frames = (move n s).frames }) (move n s).stream
quiet-move n s =
    let idle : Movement = record { reply = reply.Idle; frames = []; stream = s } in
    let late : Movement = record { reply = reply.Late (s.setup.buffer - 1 - (s.at.card - s.at.hw)); frames = []; stream = s } in
    let limit : Movement = record { reply = reply.Limit (taken_bytes n s); frames = []; stream = s } in
    let moved : Movement = record { reply = reply.Moved n; frames = carried_frames n s; stream = carried n s } in
    let many : Bool = nat_lt 67108864 (taken_bytes n s) in
    let far : Bool = nat_le (s.at.hw + s.setup.buffer) (s.at.card + n) in
    quiet-movement s (not s.card.runs) idle (cond far late (cond many limit moved)) (quiet-says s (record { reply = reply.Idle; first = 0; frames = [] }) s tt (beside-self s))
    (quiet-movement s far late (cond many limit moved) (quiet-says s (record { reply = late.reply; first = 0; frames = [] }) s tt (beside-self s))
    (quiet-movement s many limit moved (quiet-says s (record { reply = limit.reply; first = 0; frames = [] }) s tt (beside-self s))
    (quiet-says s (record { reply = reply.Moved n; first = 0; frames = carried_frames n s }) (carried n s) tt (beside-carried n s s.dir))))

-- the events that may sleep
abbrev pub may_sleep : Call → Bool
may_sleep (call.Write w m) = true
may_sleep (call.Read w m n) = true
may_sleep (call.Drain m) = true
may_sleep call.Go = true
may_sleep _ = false

done : (s t : Stream) (r : Reply) → IsAwake r → IsBeside s t → Keeps (IsQuiet s) (says r t)
done s t r w h = quiet-says s (record { reply = r; first = 0; frames = [] }) t w h

quiet-event : (e : Call) (c : ClientId) (l : Bool) (io : List ℕ) (s : Stream) → may_sleep e ≡ false → Keeps (IsQuiet s) (event e c l io s)
quiet-event call.OpenSub c l io s f = quiet-if s (is_closed s.state) (says reply.Ok (record s { state = state.Opened })) (fails errno.Ebusy s)
    (done s (record s { state = state.Opened }) reply.Ok tt (record { sleepers = refl; frames = record { config = refl; frame_bytes = refl } })) (done s s (reply.Err errno.Ebusy) tt (beside-self s))
quiet-event call.CloseSub c l io s f = quiet-unless s s (when (l || nat_lt 0 s.mappings || is_busy s) errno.Ebusy) (says reply.Ok (closed s)) (beside-self s)
    (λ e. quiet-set s reply.Ok (closed s) tt refl (not_busy-close l (nat_lt 0 s.mappings) (is_busy s) e))
quiet-event (call.HwParams g) c l io s f =
    let set : Stream = set_setup (setup_of g s.long_max) state.Setup (boundary_of (buffer_of g) s.long_max) s in
    quiet-unless s s (table kind.HwParams s then if_held s) (if accepts s.model s.long_max g then says reply.Ok set else fails errno.Einval (freed s)) (beside-self s)
    (λ e. quiet-if s (accepts s.model s.long_max g) (says reply.Ok set) (fails errno.Einval (freed s))
    (quiet-set s reply.Ok set tt refl (not_busy (table kind.HwParams s) (when (nat_lt 0 s.mappings) errno.Ebadfd) s e))
    (quiet-set s (reply.Err errno.Einval) (freed s) tt refl (not_busy (table kind.HwParams s) (when (nat_lt 0 s.mappings) errno.Ebadfd) s e)))
quiet-event call.HwFree c l io s f = quiet-unless s s (table kind.HwFree s then if_held s) (says reply.Ok (freed s)) (beside-self s)
    (λ e. quiet-set s reply.Ok (freed s) tt refl (not_busy (table kind.HwFree s) (when (nat_lt 0 s.mappings) errno.Ebadfd) s e))
quiet-event (call.SwParams w) c l io s f = quiet-unless s s (table kind.SwParams s then when (refuses_sw s.setup.buffer s.setup.boundary w) errno.Einval) (says reply.Ok (set_sw w s)) (beside-self s)
    (λ _. done s (set_sw w s) reply.Ok tt (record { sleepers = refl; frames = record { config = refl; frame_bytes = refl } }))
quiet-event call.Prepare c l io s f = quiet-alone s (act.Prepare (is_paused s.state || is_suspended s.state))
quiet-event call.Start c l io s f = quiet-alone s act.Start
quiet-event call.DropNow c l io s f = quiet-act s (table kind.DropNow s) (act.Stop state.Setup)
quiet-event (call.Drain m) c l io s f = absurd (let no : ⊥ = cc in no)
quiet-event call.PausePush c l io s f = quiet-alone s act.Pause
quiet-event call.PauseRelease c l io s f = quiet-alone s act.Release
quiet-event call.Suspend c l io s f = quiet-alone s act.Suspend
quiet-event call.Resume c l io s f = quiet-alone s act.Resume
quiet-event call.Xrun c l io s f = quiet-unless s s (table kind.Xrun s) (if is_running s.state then act_alone (act.Stop state.Xrun) s else says reply.Ok s) (beside-self s)
    (λ _. quiet-if s (is_running s.state) (act_alone (act.Stop state.Xrun) s) (says reply.Ok s) (quiet-alone s (act.Stop state.Xrun)) (done s s reply.Ok tt (beside-self s)))
quiet-event (call.Write w m) c l io s f = absurd (let no : ⊥ = cc in no)
quiet-event (call.Read w m n) c l io s f = absurd (let no : ⊥ = cc in no)
quiet-event (call.Rewind n) c l io s f = quiet-if s (nat_eq n 0) (says (reply.Frames 0) s) (unless (table kind.Rewind s) s (updated_or_epipe s (rewound n))) (done s s (reply.Frames 0) tt (beside-self s))
    (quiet-updated s (table kind.Rewind s) (rewound n) (λ t h. done s (back_by (min n (hw_avail t)) t) (reply.Frames (min n (hw_avail t))) tt (record { sleepers = h.sleepers; frames = record { config = h.frames.config; frame_bytes = h.frames.frame_bytes } })))
quiet-event (call.Forward n) c l io s f = quiet-if s (nat_eq n 0) (says (reply.Frames 0) s) (unless (table kind.Forward s) s (updated_or_epipe s (forwarded n))) (done s s (reply.Frames 0) tt (beside-self s))
    (quiet-updated s (table kind.Forward s) (forwarded n) (λ t h. done s (on_by (min n (avail t)) t) (reply.Frames (min n (avail t))) tt (record { sleepers = h.sleepers; frames = record { config = h.frames.config; frame_bytes = h.frames.frame_bytes } })))
quiet-event call.Hwsync c l io s f = quiet-updated s (table kind.Hwsync s) (says reply.Ok) (λ t h. done s t reply.Ok tt h)
quiet-event call.Delay c l io s f = quiet-updated s (table kind.Delay s) (λ t. says (delay t) t) (λ t h. quiet-delay s t h)
quiet-event (call.SyncPtr p) c l io s f = quiet-unless s s (table kind.SyncPtr s then when (nat_le s.setup.boundary p) errno.Einval) (says (reply.Ptrs (page (sync_to p s))) (sync_to p s)) (beside-self s)
    (λ _. done s (sync_to p s) (reply.Ptrs (page (sync_to p s))) tt (record { sleepers = refl; frames = record { config = refl; frame_bytes = refl } }))
quiet-event call.Status c l io s f = quiet-updating s (λ u t. says (reply.Ptrs (page t)) t) (λ u t h. done s t (reply.Ptrs (page t)) tt h)
quiet-event call.PageNow c l io s f = done s s (reply.Ptrs (page s)) tt (beside-self s)
quiet-event call.Poll c l io s f = done s s (poll s) tt (beside-self s)
quiet-event call.Map c l io s f = quiet-unless s s (table kind.Map s then (when (not (is_mapped_access s.setup.config)) errno.Einval then when (nat_le 65535 s.mappings) errno.Ebusy)) (says reply.Ok (set_mappings (s.mappings + 1) s)) (beside-self s)
    (λ _. done s (set_mappings (s.mappings + 1) s) reply.Ok tt (record { sleepers = refl; frames = record { config = refl; frame_bytes = refl } }))
quiet-event call.Unmap c l io s f = quiet-unless s s (when (nat_eq s.mappings 0) errno.Einval) (says reply.Ok (set_mappings (s.mappings - 1) s)) (beside-self s)
    (λ _. done s (set_mappings (s.mappings - 1) s) reply.Ok tt (record { sleepers = refl; frames = record { config = refl; frame_bytes = refl } }))
quiet-event (call.Store o) c l io s f =
    let n : ℕ = length io / s.setup.frame_bytes in
    quiet-unless s s (when (not (is_playback s.dir) || nat_eq s.mappings 0 || not (is_whole s io) || nat_lt s.setup.buffer (o + n)) errno.Einval)
    (hands (reply.Frames n) (frames_in s io) (record s { puts = put_at o (frames_in s io) s.puts })) (beside-self s)
    (λ _. quiet-says s (record { reply = reply.Frames n; first = 0; frames = frames_in s io }) (record s { puts = put_at o (frames_in s io) s.puts }) tt (record { sleepers = refl; frames = record { config = refl; frame_bytes = refl } }))
quiet-event (call.Load o n) c l io s f =
    quiet-unless s s (when (nat_eq s.mappings 0 || nat_lt s.setup.buffer (o + n)) errno.Einval) (hands (reply.Frames n) (standing_at s.puts s.setup.buffer o n (zero_frame s)) s) (beside-self s)
    (λ _. quiet-says s (record { reply = reply.Frames n; first = 0; frames = standing_at s.puts s.setup.buffer o n (zero_frame s) }) s tt (beside-self s))
quiet-event (call.Link j) c l io s f = done s s reply.Ok tt (beside-self s)
quiet-event call.Unlink c l io s f = quiet-unless s s (when (not l) errno.Ealready) (says reply.Ok s) (beside-self s) (λ _. done s s reply.Ok tt (beside-self s))
quiet-event call.Go c l io s f = absurd (let no : ⊥ = cc in no)
quiet-event (call.MoveBy n) c l io s f = quiet-move n s
quiet-event call.Irq c l io s f = quiet-updating s (λ u. says reply.Ok) (λ u t h. done s t reply.Ok tt h)
quiet-event (call.FailAt i) c l io s f = quiet-if s (nat_le 1 i && nat_le i 64) (says reply.Ok (plan_set i s)) (fails errno.Einval s)
    (done s (plan_set i s) reply.Ok tt (record { sleepers = refl; frames = record { config = refl; frame_bytes = refl } })) (done s s (reply.Err errno.Einval) tt (beside-self s))
quiet-event call.Give c l io s f =
    let t : Stream = record s { card = record s.card { to_give = frames_in s io } } in
    quiet-unless s s (when (is_bare s || is_playback s.dir || not (is_whole s io)) errno.Einval) (hands reply.Ok (frames_in s io) t) (beside-self s)
    (λ _. quiet-says s (record { reply = reply.Ok; first = 0; frames = frames_in s io }) t tt (record { sleepers = refl; frames = record { config = refl; frame_bytes = refl } }))
quiet-event call.Unplug c l io s f = quiet-unless s s (table kind.Unplug s) (if s.card.runs then making (act.Stop state.Setup) s unplug_alone else unplug_alone s) (beside-self s)
    (λ _. quiet-if s s.card.runs (making (act.Stop state.Setup) s unplug_alone) (unplug_alone s)
    (quiet-making s s (act.Stop state.Setup) unplug_alone (beside-self s) (λ t h. done s (unplugged t) reply.Ok tt (record { sleepers = h.sleepers; frames = record { config = h.frames.config; frame_bytes = h.frames.frame_bytes } })))
    (done s (unplugged s) reply.Ok tt (record { sleepers = refl; frames = record { config = refl; frame_bytes = refl } })))

never-told : (e : Call) (c : ClientId) (io : List ℕ) (s : Stream) (a : Answer) → may_sleep e ≡ false → IsTold (task_begun e c io s) s a
never-told e c io s a f = subst (λ (o : Option Task). IsTold o s a) (sym (none-begun e f)) tt
  where
    none-begun : (e : Call) → may_sleep e ≡ false → task_begun e c io s ≡ None
    none-begun call.OpenSub f = refl
    none-begun call.CloseSub f = refl
    none-begun (call.HwParams g) f = refl
    none-begun call.HwFree f = refl
    none-begun (call.SwParams w) f = refl
    none-begun call.Prepare f = refl
    none-begun call.Start f = refl
    none-begun call.DropNow f = refl
    none-begun (call.Drain m) f = absurd (let no : ⊥ = cc in no)
    none-begun call.PausePush f = refl
    none-begun call.PauseRelease f = refl
    none-begun call.Suspend f = refl
    none-begun call.Resume f = refl
    none-begun call.Xrun f = refl
    none-begun (call.Write w m) f = absurd (let no : ⊥ = cc in no)
    none-begun (call.Read w m n) f = absurd (let no : ⊥ = cc in no)
    none-begun (call.Rewind n) f = refl
    none-begun (call.Forward n) f = refl
    none-begun call.Hwsync f = refl
    none-begun call.Delay f = refl
    none-begun (call.SyncPtr p) f = refl
    none-begun call.Status f = refl
    none-begun call.PageNow f = refl
    none-begun call.Poll f = refl
    none-begun call.Map f = refl
    none-begun call.Unmap f = refl
    none-begun (call.Store o) f = refl
    none-begun (call.Load o n) f = refl
    none-begun (call.Link j) f = refl
    none-begun call.Unlink f = refl
    none-begun call.Go f = absurd (let no : ⊥ = cc in no)
    none-begun (call.MoveBy n) f = refl
    none-begun call.Irq f = refl
    none-begun (call.FailAt i) f = refl
    none-begun call.Give f = refl
    none-begun call.Unplug f = refl

stepped-quiet : (e : Call) (c : ClientId) (io : List ℕ) (s : Stream) (a : Answer) (t : Stream) → may_sleep e ≡ false → waiting_of c s.sleepers ≡ None → IsQuiet s a t → IsStepped e c io s a t
stepped-quiet e c io s a t f free h = stepped-awake e c io s a t h.awake (λ d n. ap (waiting_of d) h.sleepers) (ap (waiting_of c) h.sleepers ∙ free) h.busy (never-told e c io s a f)

-- ---- drains

drain-answer : (e : Call) (c : ClientId) (io : List ℕ) (s : Stream) (r : Reply) (t : Stream) → task_begun e c io s ≡ Some task.Drain → IsAwake r → waiting_of c s.sleepers ≡ None → IsBeside s t → IsStepped e c io s (record { reply = r; first = 0; frames = [] }) t
drain-answer e c io s r t begun w free h =
    stepped-awake e c io s (record { reply = r; first = 0; frames = [] }) t w (λ d n. ap (waiting_of d) h.sleepers) (ap (waiting_of c) h.sleepers ∙ free) (λ _. h.frames)
    (subst (λ (o : Option Task). IsTold o s (record { reply = r; first = 0; frames = [] })) (sym begun) tt)

drain-asleep : (c : ClientId) (m : Mode) (io : List ℕ) (s t : Stream) → waiting_of c s.sleepers ≡ None → IsBeside s t → IsStepped (call.Drain m) c io s (record { reply = reply.Asleep; first = 0; frames = [] }) (sleeping (record { client = c; task = task.Drain }) t)
drain-asleep c m io s t free h = record {
  others = λ d n. waiting-append_other d (record { client = c; task = task.Drain }) t.sleepers (swapped d.0 c.0 n) ∙ ap (waiting_of d) h.sleepers;
  caller = subst (λ (o : Option Task). IsLeftWaiting reply.Asleep (Some task.Drain) 0 o) (sym (waiting-append_own c task.Drain t.sleepers (ap (waiting_of c) h.sleepers ∙ free))) tt;
  busy = λ _. record { config = h.frames.config; frame_bytes = h.frames.frame_bytes };
  asleep = λ _. record { config = h.frames.config; frame_bytes = h.frames.frame_bytes };
  told = tt;
  written = λ _. tt;
}

steps-watch : (c : ClientId) (m : Mode) (io : List ℕ) (s u : Stream) (o : Outcome) (t : Stream) → waiting_of c s.sleepers ≡ None → IsBeside s t → Keeps (IsStepped (call.Drain m) c io s) (watch c u o t)
steps-watch c m io s u outcome.Done t free h = drain-answer (call.Drain m) c io s reply.Ok t refl tt free h
steps-watch c m io s u (outcome.Refused j e) t free h = drain-asleep c m io s t free h
steps-watch c m io s u (outcome.Failed j) t free h = drain-asleep c m io s t free h

drain-going_on : (c : ClientId) (m : Mode) (io : List ℕ) (s t : Stream) (f : Stream → Program) (o : Outcome) → waiting_of c s.sleepers ≡ None → IsBeside s t → Keeps (IsStepped (call.Drain m) c io s) (f t) → Keeps (IsStepped (call.Drain m) c io s) (going_on f o t)
drain-going_on c m io s t f outcome.Done free h k = k
drain-going_on c m io s t f (outcome.Refused j e) free h k = drain-answer (call.Drain m) c io s (reply.Err e) t refl tt free h
drain-going_on c m io s t f (outcome.Failed j) free h k = drain-answer (call.Drain m) c io s (reply.Err errno.Eio) t refl tt free h

steps-drain_now : (c : ClientId) (m : Mode) (io : List ℕ) (s t : Stream) → waiting_of c s.sleepers ≡ None → IsBeside s t → Keeps (IsStepped (call.Drain m) c io s) (drain_now c m t)
steps-drain_now c mode.NonBlock io s t free h = λ v o.
    let g : IsBeside s (after act.Drain v o t) = beside-after s t act.Drain v o h in
    drain-going_on c mode.NonBlock io s (after act.Drain v o t) (λ u. fails errno.Eagain u) o free g (drain-answer (call.Drain mode.NonBlock) c io s (reply.Err errno.Eagain) (after act.Drain v o t) refl tt free g)
steps-drain_now c mode.Block io s t free h = λ v o.
    let u : Stream = after act.Drain v o t in
    let g : IsBeside s u = beside-after s t act.Drain v o h in
    drain-going_on c mode.Block io s u (λ r. Makes act.Watch r (watch c r)) o free g (λ w p. steps-watch c mode.Block io s u p (after act.Watch w p u) free (beside-after s u act.Watch w p g))

steps-drain : (c : ClientId) (m : Mode) (io : List ℕ) (s : Stream) → waiting_of c s.sleepers ≡ None → Keeps (IsStepped (call.Drain m) c io s) (drain c m s)
steps-drain c m io s free =
    let e : Call = call.Drain m in
    keeps-unless (IsStepped e c io s) (table kind.Drain s) s (if is_paused s.state then making act.Release s (drain_now c m) else drain_now c m s) (λ r. drain-answer e c io s (reply.Err r) s refl tt free (beside-self s))
    (λ _. keeps-if (IsStepped e c io s) (is_paused s.state) (making act.Release s (drain_now c m)) (drain_now c m s)
    (λ _. λ v o. let g : IsBeside s (after act.Release v o s) = beside-after s s act.Release v o (beside-self s) in
    drain-going_on c m io s (after act.Release v o s) (drain_now c m) o free g (steps-drain_now c m io s (after act.Release v o s) free g))
    (λ _. steps-drain_now c m io s s free (beside-self s)))

-- ---- calls that go on

-- the end of one that is left
go-left : (c : ClientId) (io : List ℕ) (s : Stream) (x : Xfer) (v : ℕ) (e : Errno) → waiting_of c s.sleepers ≡ Some (task.Transfer x v) → HaveDistinctClients s.sleepers
    → Keeps (IsStepped call.Go c io s) (says (frames_or x.moved e) (left_by c s))
go-left c io s x v e begun d = by (nat_eq x.moved 0)
  where
    told : (r : Reply) → ((n : ℕ) → r ≡ reply.Frames n → n ≡ x.moved) → IsTold (waiting_of c s.sleepers) s (record { reply = r; first = 0; frames = [] })
    told r count = subst (λ (o : Option Task). IsTold o s (record { reply = r; first = 0; frames = [] })) (sym begun)
        (record { count = λ n q. let k : n ≡ x.moved = count n q in omega (arith, k); first = λ some. absurd (some refl); most = omega arith; wide = λ _. tt })

    gone : (r : Reply) → IsAwake r → ((n : ℕ) → r ≡ reply.Frames n → n ≡ x.moved) → IsStepped call.Go c io s (record { reply = r; first = 0; frames = [] }) (left_by c s)
    gone r w count = stepped-awake call.Go c io s (record { reply = r; first = 0; frames = [] }) (left_by c s) w (λ f n. waiting-others_than c f s.sleepers n) (free-others_than c s.sleepers d).free
        (λ _. record { config = refl; frame_bytes = refl }) (told r count)

    by : (b : Bool) → IsStepped call.Go c io s (record { reply = cond b (reply.Err e) (reply.Frames x.moved); first = 0; frames = [] }) (left_by c s)
    by true = gone (reply.Err e) tt (λ n q. absurd (let no : ⊥ = cc in no))
    by false = gone (reply.Frames x.moved) tt (λ n q. let k : x.moved ≡ n = cc in sym k)

-- one that sleeps on
go-asleep : (c : ClientId) (io : List ℕ) (s : Stream) (x : Xfer) (v : ℕ) → waiting_of c s.sleepers ≡ Some (task.Transfer x v) → IsStepped call.Go c io s (record { reply = reply.Asleep; first = 0; frames = [] }) s
go-asleep c io s x v begun = record {
  others = λ d n. refl;
  caller = subst (λ (o : Option Task). IsLeftWaiting reply.Asleep o 0 o) (sym begun) (record { writing = refl; layout = refl; moved = omega arith; all = refl });
  busy = λ _. record { config = refl; frame_bytes = refl };
  asleep = λ _. record { config = refl; frame_bytes = refl };
  told = subst (λ (o : Option Task). IsTold o s (record { reply = reply.Asleep; first = 0; frames = [] })) (sym begun)
      (record { count = λ n q. absurd (let no : ⊥ = cc in no); first = λ some. absurd (some refl); most = omega arith; wide = λ _. tt });
  written = λ _. tt;
}

-- what rests of a write
rest-frames : (w : Layout) (s : Stream) (io : List ℕ) (moved rest : ℕ) → length io ≡ (moved + rest) * s.setup.frame_bytes → 0 < s.setup.frame_bytes → length (drop moved (frames_by w s io)) ≡ rest
rest-frames w s io moved rest size some =
    let all : length (frames_by w s io) ≡ moved + rest = length-by w s io ∙ ap (λ (n : ℕ). n / s.setup.frame_bytes) size ∙ mul-div_cancel (moved + rest) some in
    omega (arith, all, length-drop moved (frames_by w s io))

steps-go_on : (c : ClientId) (io : List ℕ) (s : Stream) (x : Xfer) (v : ℕ) → waiting_of c s.sleepers ≡ Some (task.Transfer x v) → HaveDistinctClients s.sleepers
    → IsOwn (Some (task.Transfer x v)) io s → (is_bare s ≡ false → HasWidePuts s) → Keeps (IsStepped call.Go c io s) (go_on c x io (left_by c s))
steps-go_on c io s x v begun d own puts =
    let gone : Stream = left_by c s in
    let ps : List Waiting = others_than c s.sleepers in
    let ws : List Frame = drop x.moved (frames_by x.layout gone io) in
    keeps-as (IsEnd c x ps s) (IsStepped call.Go c io s) (go_on c x io gone) (λ a t h. stepped-end call.Go c io s x v ps a t begun (beside-gone c s.sleepers d) tt h)
    (keeps-if (IsEnd c x ps s) x.writing (write_on c x [] ws gone) (read_on c x [] x.rest gone)
    (λ way. walks-write c x ps s gone [] ws way (record { all = (let n : length ws ≡ x.rest = rest-frames x.layout gone io x.moved x.rest own.0 own.1 in omega (arith, n)); wide = λ _. tt })
    (record { sleepers = refl; config = refl; frame_bytes = refl; puts = λ r. absurd (let no : ⊥ = cc in no) }))
    (λ way. walks-read c x ps s gone [] x.rest (record { all = omega arith; wide = λ _. tt })
    (record { sleepers = refl; config = refl; frame_bytes = refl; puts = λ _. puts own.2 })))

steps-transfer : (c : ClientId) (io : List ℕ) (s : Stream) (x : Xfer) (v : ℕ) → waiting_of c s.sleepers ≡ Some (task.Transfer x v) → HaveDistinctClients s.sleepers
    → IsOwn (Some (task.Transfer x v)) io s → (is_bare s ≡ false → HasWidePuts s) → Keeps (IsStepped call.Go c io s) (go_transfer c x v io s)
steps-transfer c io s x v begun d own puts = by s.state s.dir
  where
    on : Keeps (IsStepped call.Go c io s) (go_on c x io (left_by c s))
    on = steps-go_on c io s x v begun d own puts

    may : Keeps (IsStepped call.Go c io s) (if nat_lt (avail s) v then says reply.Asleep s else go_on c x io (left_by c s))
    may = keeps-if (IsStepped call.Go c io s) (nat_lt (avail s) v) (says reply.Asleep s) (go_on c x io (left_by c s)) (λ _. go-asleep c io s x v begun) (λ _. steps-go_on c io s x v begun d own puts)

    by : (t : State) (w : Dir) → Keeps (IsStepped call.Go c io s) (go_transfer_in t w c x v io s)
    by state.Prepared w = may
    by state.Running w = may
    by state.Paused w = may
    by state.Suspended w = go-left c io s x v errno.Estrpipe begun d
    by state.Disconnected w = go-left c io s x v errno.Ebadfd begun d
    by state.Xrun w = go-left c io s x v errno.Epipe begun d
    by state.Draining dir.Playback = go-left c io s x v errno.Epipe begun d
    by state.Draining dir.Capture = on
    by state.Closed w = go-left c io s x v errno.Ebadfd begun d
    by state.Opened w = go-left c io s x v errno.Ebadfd begun d
    by state.Setup w = go-left c io s x v errno.Ebadfd begun d

-- a drain that goes on
drain-left : (c : ClientId) (io : List ℕ) (s : Stream) (r : Reply) (t : Stream) → waiting_of c s.sleepers ≡ Some task.Drain → HaveDistinctClients s.sleepers → IsAwake r → IsBeside s t
    → IsStepped call.Go c io s (record { reply = r; first = 0; frames = [] }) (left_by c t)
drain-left c io s r t begun d w h =
    let ps : others_than c t.sleepers ≡ others_than c s.sleepers = ap (others_than c) h.sleepers in
    stepped-awake call.Go c io s (record { reply = r; first = 0; frames = [] }) (left_by c t) w
    (λ f n. ap (waiting_of f) ps ∙ waiting-others_than c f s.sleepers n) (ap (waiting_of c) ps ∙ (free-others_than c s.sleepers d).free)
    (λ _. record { config = h.frames.config; frame_bytes = h.frames.frame_bytes })
    (subst (λ (o : Option Task). IsTold o s (record { reply = r; first = 0; frames = [] })) (sym begun) tt)

drain-on : (c : ClientId) (io : List ℕ) (s t : Stream) → waiting_of c s.sleepers ≡ Some task.Drain → IsBeside s t → IsStepped call.Go c io s (record { reply = reply.Asleep; first = 0; frames = [] }) t
drain-on c io s t begun h = record {
  others = λ d n. ap (waiting_of d) h.sleepers;
  caller = subst (λ (o : Option Task). IsLeftWaiting reply.Asleep (waiting_of c s.sleepers) 0 o) (sym (ap (waiting_of c) h.sleepers)) (subst (λ (o : Option Task). IsLeftWaiting reply.Asleep o 0 o) (sym begun) tt);
  busy = λ _. h.frames;
  asleep = λ _. h.frames;
  told = subst (λ (o : Option Task). IsTold o s (record { reply = reply.Asleep; first = 0; frames = [] })) (sym begun) tt;
  written = λ _. tt;
}

steps-go_drain : (c : ClientId) (io : List ℕ) (s : Stream) (o : Outcome) (t : Stream) → waiting_of c s.sleepers ≡ Some task.Drain → HaveDistinctClients s.sleepers → IsBeside s t → Keeps (IsStepped call.Go c io s) (go_drain c o t)
steps-go_drain c io s outcome.Done t begun d h = keeps-if (IsStepped call.Go c io s) (is_suspended t.state) (fails errno.Estrpipe (left_by c t)) (says reply.Ok (left_by c t))
    (λ _. drain-left c io s (reply.Err errno.Estrpipe) t begun d tt h) (λ _. drain-left c io s reply.Ok t begun d tt h)
steps-go_drain c io s (outcome.Refused j e) t begun d h = drain-on c io s t begun h
steps-go_drain c io s (outcome.Failed j) t begun d h = drain-on c io s t begun h

steps-go_task : (c : ClientId) (io : List ℕ) (s : Stream) (q : Task) → waiting_of c s.sleepers ≡ Some q → HaveDistinctClients s.sleepers → IsOwn (Some q) io s → (is_bare s ≡ false → HasWidePuts s)
    → Keeps (IsStepped call.Go c io s) (go_task c q io s)
steps-go_task c io s (task.Transfer x v) begun d own puts = steps-transfer c io s x v begun d own puts
steps-go_task c io s task.Drain begun d own puts = keeps-if (IsStepped call.Go c io s) (is_disconnected s.state) (fails errno.Ebadfd (left_by c s)) (Makes act.Watch s (go_drain c))
    (λ _. drain-left c io s (reply.Err errno.Ebadfd) s begun d tt (beside-self s)) (λ _. λ v o. steps-go_drain c io s o (after act.Watch v o s) begun d (beside-after s s act.Watch v o (beside-self s)))

own-length : (q : Task) (io : List ℕ) (s : Stream) → IsOwn (Some q) io s → length io ≡ length_of q s
own-length (task.Transfer x v) io s h = h.0
own-length task.Drain io s h = h

steps-go : (c : ClientId) (io : List ℕ) (s : Stream) → HaveDistinctClients s.sleepers → IsOwn (waiting_of c s.sleepers) io s → (is_bare s ≡ false → HasWidePuts s) → Keeps (IsStepped call.Go c io s) (go c io s)
steps-go c io s d own puts = by (waiting_of c s.sleepers) refl own
  where
    by : (q : Option Task) → waiting_of c s.sleepers ≡ q → IsOwn q io s
        → Keeps (IsStepped call.Go c io s) (go_call q c io s)
    by None e o = absurd o
    by (Some p) e o = keeps-if (IsStepped call.Go c io s) (nat_eq (length io) (length_of p s)) (go_task c p io s) (fails errno.Einval s) (λ _. steps-go_task c io s p e d o puts)
        (λ other. absurd (let size : length io ≡ length_of p s = own-length p io s o in let no : ⊥ = grind (arith, nat_tests, size, other) in no))

-- ---- every event

quiet-steps : (e : Call) (c : ClientId) (l : Bool) (io : List ℕ) (s : Stream) → is_go e ≡ false → may_sleep e ≡ false → IsEntered e c io s → Keeps (IsStepped e c io s) (event e c l io s)
quiet-steps e c l io s g f h = keeps-as (IsQuiet s) (IsStepped e c io s) (event e c l io s) (λ a t q. stepped-quiet e c io s a t f (h.free g) q) (quiet-event e c l io s f)

steps-event : (e : Call) (c : ClientId) (l : Bool) (io : List ℕ) (s : Stream) → IsEntered e c io s → Keeps (IsStepped e c io s) (event e c l io s)
steps-event (call.Drain m) c l io s h = steps-drain c m io s (h.free refl)
steps-event (call.Write w m) c l io s h = steps-write c w m io s (h.free refl)
steps-event (call.Read w m n) c l io s h = steps-read c w m n io s (h.free refl) h.puts
steps-event call.Go c l io s h = steps-go c io s h.distinct h.own h.puts
steps-event call.OpenSub c l io s h = quiet-steps call.OpenSub c l io s refl refl h
steps-event call.CloseSub c l io s h = quiet-steps call.CloseSub c l io s refl refl h
steps-event (call.HwParams g) c l io s h = quiet-steps (call.HwParams g) c l io s refl refl h
steps-event call.HwFree c l io s h = quiet-steps call.HwFree c l io s refl refl h
steps-event (call.SwParams w) c l io s h = quiet-steps (call.SwParams w) c l io s refl refl h
steps-event call.Prepare c l io s h = quiet-steps call.Prepare c l io s refl refl h
steps-event call.Start c l io s h = quiet-steps call.Start c l io s refl refl h
steps-event call.DropNow c l io s h = quiet-steps call.DropNow c l io s refl refl h
steps-event call.PausePush c l io s h = quiet-steps call.PausePush c l io s refl refl h
steps-event call.PauseRelease c l io s h = quiet-steps call.PauseRelease c l io s refl refl h
steps-event call.Suspend c l io s h = quiet-steps call.Suspend c l io s refl refl h
steps-event call.Resume c l io s h = quiet-steps call.Resume c l io s refl refl h
steps-event call.Xrun c l io s h = quiet-steps call.Xrun c l io s refl refl h
steps-event (call.Rewind n) c l io s h = quiet-steps (call.Rewind n) c l io s refl refl h
steps-event (call.Forward n) c l io s h = quiet-steps (call.Forward n) c l io s refl refl h
steps-event call.Hwsync c l io s h = quiet-steps call.Hwsync c l io s refl refl h
steps-event call.Delay c l io s h = quiet-steps call.Delay c l io s refl refl h
steps-event (call.SyncPtr p) c l io s h = quiet-steps (call.SyncPtr p) c l io s refl refl h
steps-event call.Status c l io s h = quiet-steps call.Status c l io s refl refl h
steps-event call.PageNow c l io s h = quiet-steps call.PageNow c l io s refl refl h
steps-event call.Poll c l io s h = quiet-steps call.Poll c l io s refl refl h
steps-event call.Map c l io s h = quiet-steps call.Map c l io s refl refl h
steps-event call.Unmap c l io s h = quiet-steps call.Unmap c l io s refl refl h
steps-event (call.Store o) c l io s h = quiet-steps (call.Store o) c l io s refl refl h
steps-event (call.Load o n) c l io s h = quiet-steps (call.Load o n) c l io s refl refl h
steps-event (call.Link j) c l io s h = quiet-steps (call.Link j) c l io s refl refl h
steps-event call.Unlink c l io s h = quiet-steps call.Unlink c l io s refl refl h
steps-event (call.MoveBy n) c l io s h = quiet-steps (call.MoveBy n) c l io s refl refl h
steps-event call.Irq c l io s h = quiet-steps call.Irq c l io s refl refl h
steps-event (call.FailAt i) c l io s h = quiet-steps (call.FailAt i) c l io s refl refl h
steps-event call.Give c l io s h = quiet-steps call.Give c l io s refl refl h
steps-event call.Unplug c l io s h = quiet-steps call.Unplug c l io s refl refl h

pub steps-program : (e : Call) (c : ClientId) (l : Bool) (io : List ℕ) (s : Stream) → IsEntered e c io s → Keeps (IsStepped e c io s) (program e c l io s)
steps-program e c l io s h = keeps-if (IsStepped e c io s) (is_closed s.state && not (opens e)) (fails errno.Enxio s) (event e c l io s) (λ closed. absurd (let two : true ≡ false = sym closed ∙ h.opened in let no : ⊥ = cc in no)) (λ _. steps-event e c l io s h)

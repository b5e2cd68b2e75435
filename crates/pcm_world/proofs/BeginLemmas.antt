-- A call that begins: what its step is lent, and what it has read in the end.
use Rattle.std.proofs.Common.{◌≡◌, ℕ, ◌+◌, ◌*◌, Bool, true, false, cond, not, ◌||◌, ◌&&◌, nat_eq, nat_le, nat_lt, List, [], length, Option, Some, None, IfSome, option_map, refl, sym, ap, ◌∙◌, subst, arith}
use Rattle.std.proofs.lemmas.Bool.Decides.{nat_tests}
use Rattle.std.proofs.lemmas.List.{length-replicate}
use Rattle.pcm_base.specs.declared.call.Call.{Call}
use Rattle.pcm_base.specs.declared.call.Call.TheVariants as call
use Rattle.pcm_base.specs.declared.call.CallKind.TheVariants as kind
use Rattle.pcm_base.specs.declared.call.Layout.{Layout}
use Rattle.pcm_base.specs.declared.config.Config.{Config}
use Rattle.pcm_base.specs.declared.config.Shape.{Shape}
use Rattle.pcm_base.specs.declared.ids.ClientId.{ClientId}
use Rattle.pcm_base.specs.declared.ids.SubId.{SubId}
use Rattle.pcm_base.specs.declared.reply.Reply.{Reply}
use Rattle.pcm_base.specs.declared.reply.Reply.TheVariants as reply
use Rattle.pcm_base.specs.declared.state.Errno.{Errno}
use Rattle.pcm_base.specs.declared.state.Errno.TheVariants as errno
use Rattle.pcm_base.specs.declared.call.Mode.{Mode}
use Rattle.pcm_base.specs.model.Acts.{table}
use Rattle.pcm_base.specs.model.Allowed.{shape_of}
use Rattle.pcm_base.specs.model.Events.{event, hands, opens, program}
use Rattle.pcm_base.specs.model.Group.{GroupStep, Run, group_step, mark, run, stream_of}
use Rattle.pcm_base.specs.model.Program.{Answer, Ends, Program, fails, says, unless, updated_or_epipe}
use Rattle.pcm_base.specs.model.Sleep.{wake, woken}
use Rattle.pcm_base.specs.model.Sound.{Sound, SoundAt}
use Rattle.pcm_base.specs.model.Stream.{Member, Stream, is_bare}
use Rattle.pcm_base.specs.model.Transfer.{channels_of, misfit, start_reading}
use Rattle.pcm_base.specs.model.Words.{is_closed, when}
use Rattle.pcm_stream.specs.Buffer.{loaded_from}
use Rattle.pcm_stream.specs.StandsFor.{IsShapeOf}
use Rattle.mmap_pages.specs.Mapped.{load_refusal}
use Rattle.pcm_group.specs.Bytes.{HasLength}
use Rattle.pcm_world.specs.Bytes.{length_begun, lent_bytes}
use Rattle.pcm_world.proofs.EventWalk.{whole-by}

-- ---- the sizes

pub record IsShapeAt (shape : Option Shape) (s : Stream) : Type 0 where
  pub is : shape ≡ option_map (λ (c : Config). shape_of c s.long_max) s.setup.config
  pub frames : IfSome shape (IsShapeOf s)

pub record HasShape (shape : Option Shape) (s : Stream) (h : Shape) : Type 0 where
  pub is : shape ≡ Some h
  pub frame_bytes : s.setup.frame_bytes ≡ h.frame_bytes
  pub channels : channels_of s.setup.config ≡ h.channels
  pub buffer : s.setup.buffer ≡ h.buffer

pub shape-some : (shape : Option Shape) (s : Stream) → is_bare s ≡ false → IsShapeAt shape s → (h : Shape) × HasShape shape s h
shape-some shape s set h = by s.setup.config refl set
  where
    by : (o : Option Config) → s.setup.config ≡ o → (elim o as (λ _. Bool) [ None ↦ true | Some c ↦ false ]) ≡ false → (h : Shape) × HasShape shape s h
    by None e f = absurd (let no : ⊥ = cc in no)
    by (Some c) e f =
        let is : shape ≡ Some (shape_of c s.long_max) = h.is ∙ ap (λ (o : Option Config). option_map (λ (c : Config). shape_of c s.long_max) o) e in
        let of : IsShapeOf s (shape_of c s.long_max) = subst (λ (o : Option Shape). IfSome o (IsShapeOf s)) is h.frames in
        (shape_of c s.long_max, record { is = is; frame_bytes = of.frame_bytes; channels = ap channels_of e; buffer = of.buffer })

-- ---- the bytes that are lent change nothing

pub lent-program : (e : Call) (c : ClientId) (l : Bool) (shape : Option Shape) (io : List ℕ) (s : Stream) → program e c l (lent_bytes e shape io) s ≡ program e c l io s
lent-program (call.Read w m n) c l (Some h) io s = refl
lent-program (call.Read w m n) c l None io s = refl
lent-program (call.Load o n) c l (Some h) io s = refl
lent-program (call.Load o n) c l None io s = refl
lent-program (call.Drain m) c l shape io s = refl
lent-program (call.Write w m) c l shape io s = refl
lent-program (call.Link j) c l shape io s = refl
lent-program call.Unlink c l shape io s = refl
lent-program call.Go c l shape io s = refl
lent-program call.OpenSub c l shape io s = refl
lent-program call.CloseSub c l shape io s = refl
lent-program (call.HwParams g) c l shape io s = refl
lent-program call.HwFree c l shape io s = refl
lent-program (call.SwParams w) c l shape io s = refl
lent-program call.Prepare c l shape io s = refl
lent-program call.Start c l shape io s = refl
lent-program call.DropNow c l shape io s = refl
lent-program call.PausePush c l shape io s = refl
lent-program call.PauseRelease c l shape io s = refl
lent-program call.Suspend c l shape io s = refl
lent-program call.Resume c l shape io s = refl
lent-program call.Xrun c l shape io s = refl
lent-program (call.Rewind n) c l shape io s = refl
lent-program (call.Forward n) c l shape io s = refl
lent-program call.Hwsync c l shape io s = refl
lent-program call.Delay c l shape io s = refl
lent-program (call.SyncPtr v) c l shape io s = refl
lent-program call.Status c l shape io s = refl
lent-program call.PageNow c l shape io s = refl
lent-program call.Poll c l shape io s = refl
lent-program call.Map c l shape io s = refl
lent-program call.Unmap c l shape io s = refl
lent-program (call.Store o) c l shape io s = refl
lent-program (call.MoveBy n) c l shape io s = refl
lent-program call.Irq c l shape io s = refl
lent-program (call.FailAt i) c l shape io s = refl
lent-program call.Give c l shape io s = refl
lent-program call.Unplug c l shape io s = refl

pub step-same : (e : Call) (c : ClientId) (k : SubId) (io now : List ℕ) (ms : List Member) → ((l : Bool) → program e c l now (stream_of k ms) ≡ program e c l io (stream_of k ms)) → group_step e c k now ms ≡ group_step e c k io ms
step-same e c k io now ms h = ap (λ (p : Program). step_of p) (h (nat_lt 1 (length ms)))
  where
    step_of : Program → GroupStep
    step_of p = let r : Run = run p k ms in let now : List Member = mark k r.answer.reply c r.members in record { answer = r.answer; acts = r.acts; woken = woken now; members = wake now }

-- ---- reads and loads that are let through

answer-of : (e : Call) (c : ClientId) (k : SubId) (io : List ℕ) (ms : List Member) (a : Answer) (t : Stream) → program e c (nat_lt 1 (length ms)) io (stream_of k ms) ≡ Ends a t → (group_step e c k io ms).answer ≡ a
answer-of e c k io ms a t h = ap (λ (p : Program). (run p k ms).answer) h

opened-event : (e : Call) (c : ClientId) (l : Bool) (io : List ℕ) (s : Stream) → (is_closed s.state && not (opens e)) ≡ false → program e c l io s ≡ event e c l io s
opened-event e c l io s h = ap (λ (b : Bool). cond b (fails errno.Enxio s) (event e c l io s)) h

not-refused : (o : Option Errno) → ((r : Errno) → o ≡ Some r → ⊥) → o ≡ None
not-refused None h = refl
not-refused (Some r) h = absurd (h r refl)

-- an answer that is no error
abbrev pub IsGiven : Reply → Type 0
IsGiven (reply.Err e) = ⊥
IsGiven _ = Unit {0}

given-not : (r : Reply) (e : Errno) → IsGiven r → r ≡ reply.Err e → ⊥
given-not r e g h = subst IsGiven h g

pub read-let : (c : ClientId) (k : SubId) (w : Layout) (m : Mode) (n : ℕ) (io : List ℕ) (ms : List Member) → (is_closed (stream_of k ms).state && not (opens (call.Read w m n))) ≡ false → IsGiven (group_step (call.Read w m n) c k io ms).answer.reply
    → (is_bare (stream_of k ms) ≡ false) × (nat_le n 1048576 ≡ true)
read-let c k w m n io ms opened given =
    let s : Stream = stream_of k ms in
    whole-by s false w (nat_le n 1048576) (not-refused (misfit s false w (nat_le n 1048576)) (λ r e. given-not (group_step (call.Read w m n) c k io ms).answer.reply r given
    (ap (λ (a : Answer). a.reply) (answer-of (call.Read w m n) c k io ms (record { reply = reply.Err r; first = 0; frames = [] }) s
    (opened-event (call.Read w m n) c (nat_lt 1 (length ms)) io s opened ∙ ap (λ (o : Option Errno). unless o s (rest s)) e)))))
  where
    rest : Stream → Program
    rest s = cond (nat_eq n 0) (says (reply.Frames 0) s) (unless (table kind.Read s) s (updated_or_epipe s (start_reading c (record { writing = false; layout = w; mode = m; rest = n; moved = 0 }))))

pub load-let : (c : ClientId) (k : SubId) (o n : ℕ) (io : List ℕ) (ms : List Member) → (is_closed (stream_of k ms).state && not (opens (call.Load o n))) ≡ false → IsGiven (group_step (call.Load o n) c k io ms).answer.reply
    → (load_refusal o n (stream_of k ms) ≡ None) × ((group_step (call.Load o n) c k io ms).answer ≡ record { reply = reply.Frames n; first = 0; frames = loaded_from o n (stream_of k ms) })
load-let c k o n io ms opened given =
    let s : Stream = stream_of k ms in
    let a : Answer = record { reply = reply.Frames n; first = 0; frames = loaded_from o n s } in
    let none : load_refusal o n s ≡ None = not-refused (load_refusal o n s) (λ r e. given-not (group_step (call.Load o n) c k io ms).answer.reply r given
    (ap (λ (a : Answer). a.reply) (answer-of (call.Load o n) c k io ms (record { reply = reply.Err r; first = 0; frames = [] }) s
    (opened-event (call.Load o n) c (nat_lt 1 (length ms)) io s opened ∙ ap (λ (q : Option Errno). unless q s (hands (reply.Frames n) (loaded_from o n s) s)) e)))) in
    (none, answer-of (call.Load o n) c k io ms a s (opened-event (call.Load o n) c (nat_lt 1 (length ms)) io s opened ∙ ap (λ (q : Option Errno). unless q s (hands (reply.Frames n) (loaded_from o n s) s)) none))

-- ---- lengths

pub load-lies : (o n : ℕ) (s : Stream) → load_refusal o n s ≡ None → (nat_eq s.mappings 0 ≡ false) × (nat_lt s.setup.buffer (o + n) ≡ false)
load-lies o n s h = by (nat_eq s.mappings 0) (nat_lt s.setup.buffer (o + n)) h
  where
    by : (a b : Bool) → when (a || b) errno.Einval ≡ None → (a ≡ false) × (b ≡ false)
    by true b q = absurd (let no : ⊥ = cc in no)
    by false true q = absurd (let no : ⊥ = cc in no)
    by false false q = (refl, refl)

pub mapped-set : (s : Stream) → Sound s → nat_eq s.mappings 0 ≡ false → is_bare s ≡ false
mapped-set s h m = by s.setup.config refl h
  where
    by : (o : Option Config) → s.setup.config ≡ o → SoundAt o s → (elim o as (λ _. Bool) [ None ↦ true | Some c ↦ false ]) ≡ false
    by (Some c) e q = refl
    by None e q = absurd (let none : s.mappings ≡ 0 = q.unmapped in let no : ⊥ = grind (arith, nat_tests, none, m) in no)

pub read-length : (w : Layout) (m : Mode) (n : ℕ) (shape : Option Shape) (io : List ℕ) (s : Stream) → IsShapeAt shape s → is_bare s ≡ false → nat_le n 1048576 ≡ true → length (lent_bytes (call.Read w m n) shape io) ≡ n * s.setup.frame_bytes
read-length w m n shape io s h set le =
    let q : (h : Shape) × HasShape shape s h = shape-some shape s set h in
    ap (λ (o : Option Shape). length (lent_bytes (call.Read w m n) o io)) q.1.is
    ∙ length-replicate (length_begun (call.Read w m n) q.0) 0 ∙ ap (λ (b : Bool). cond b (n * q.0.frame_bytes) 0) le ∙ ap (λ (k : ℕ). n * k) (sym q.1.frame_bytes)

pub load-length : (o n : ℕ) (shape : Option Shape) (io : List ℕ) (s : Stream) → IsShapeAt shape s → Sound s → load_refusal o n s ≡ None → length (lent_bytes (call.Load o n) shape io) ≡ n * s.setup.frame_bytes
load-length o n shape io s h sound none =
    let lies = load-lies o n s none in
    let q : (h : Shape) × HasShape shape s h = shape-some shape s (mapped-set s sound lies.0) h in
    let le : nat_le (o + n) q.0.buffer ≡ true = (let b : s.setup.buffer ≡ q.0.buffer = q.1.buffer in grind (arith, nat_tests, lies.1, b)) in
    ap (λ (k : Option Shape). length (lent_bytes (call.Load o n) k io)) q.1.is
    ∙ length-replicate (length_begun (call.Load o n) q.0) 0 ∙ ap (λ (b : Bool). cond b (n * q.0.frame_bytes) 0) le ∙ ap (λ (k : ℕ). n * k) (sym q.1.frame_bytes)

-- what a group asks of the length
pub has-length : (e : Call) (shape : Option Shape) (io : List ℕ) (s : Stream) → IsShapeAt shape s → Sound s → HasLength e (lent_bytes e shape io) s
has-length (call.Read w m n) shape io s h sound = λ fit some table. let q = whole-by s false w (nat_le n 1048576) fit in read-length w m n shape io s h q.0 q.1
has-length (call.Load o n) shape io s h sound = λ none. load-length o n shape io s h sound none
has-length (call.Drain m) shape io s h sound = tt
has-length (call.Write w m) shape io s h sound = tt
has-length (call.Link j) shape io s h sound = tt
has-length call.Unlink shape io s h sound = tt
has-length call.Go shape io s h sound = tt
has-length call.OpenSub shape io s h sound = tt
has-length call.CloseSub shape io s h sound = tt
has-length (call.HwParams g) shape io s h sound = tt
has-length call.HwFree shape io s h sound = tt
has-length (call.SwParams w) shape io s h sound = tt
has-length call.Prepare shape io s h sound = tt
has-length call.Start shape io s h sound = tt
has-length call.DropNow shape io s h sound = tt
has-length call.PausePush shape io s h sound = tt
has-length call.PauseRelease shape io s h sound = tt
has-length call.Suspend shape io s h sound = tt
has-length call.Resume shape io s h sound = tt
has-length call.Xrun shape io s h sound = tt
has-length (call.Rewind n) shape io s h sound = tt
has-length (call.Forward n) shape io s h sound = tt
has-length call.Hwsync shape io s h sound = tt
has-length call.Delay shape io s h sound = tt
has-length (call.SyncPtr v) shape io s h sound = tt
has-length call.Status shape io s h sound = tt
has-length call.PageNow shape io s h sound = tt
has-length call.Poll shape io s h sound = tt
has-length call.Map shape io s h sound = tt
has-length call.Unmap shape io s h sound = tt
has-length (call.Store o) shape io s h sound = tt
has-length (call.MoveBy n) shape io s h sound = tt
has-length call.Irq shape io s h sound = tt
has-length (call.FailAt i) shape io s h sound = tt
has-length call.Give shape io s h sound = tt
has-length call.Unplug shape io s h sound = tt

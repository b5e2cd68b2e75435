-- A call in progress that goes on, with the bytes that the world keeps.
use Rattle.std.proofs.Common.{◌≡◌, inl, inr, ℕ, ◌+◌, ◌*◌, ◌<◌, ◌≤◌, Bool, true, false, cond, not, ◌&&◌, nat_eq, nat_lt, List, [], ◌++◌, length, drop, take, Option, Some, None, refl, sym, ap, ◌∙◌, subst, arith, length-append}
use Rattle.std.proofs.lemmas.Bool.Decides.{nat_tests}
use Rattle.std.proofs.lemmas.List.{append-nil}
use Rattle.std.specs.Option.{is_some}
use Rattle.pcm_base.specs.declared.call.Call.TheVariants as call
use Rattle.pcm_base.specs.declared.call.Layout.{Layout}
use Rattle.pcm_base.specs.declared.card.Card.{Ghosts}
use Rattle.pcm_base.specs.declared.config.Config.{Config}
use Rattle.pcm_base.specs.declared.config.Shape.{Shape}
use Rattle.pcm_base.specs.declared.ids.ClientId.{ClientId}
use Rattle.pcm_base.specs.declared.ids.SubId.{SubId}
use Rattle.pcm_base.specs.declared.reply.Reply.{Reply}
use Rattle.pcm_base.specs.declared.reply.Reply.TheVariants as reply
use Rattle.pcm_base.specs.declared.sleeper.Task.{Task}
use Rattle.pcm_base.specs.declared.sleeper.Task.TheVariants as task
use Rattle.pcm_base.specs.declared.sleeper.Xfer.{Xfer}
use Rattle.pcm_base.specs.declared.state.Dir.{Dir}
use Rattle.pcm_base.specs.declared.state.Dir.TheVariants as dir
use Rattle.pcm_base.specs.declared.state.Errno.TheVariants as errno
use Rattle.pcm_base.specs.declared.state.State.{State}
use Rattle.pcm_base.specs.declared.state.State.TheVariants as state
use Rattle.pcm_base.specs.model.Events.{go_call, go_on, go_or_sleep, go_task, go_transfer, go_transfer_in, left_by, length_of, opens, program, waiting_of}
use Rattle.pcm_base.specs.model.Frame.{Frame}
use Rattle.pcm_base.specs.model.Group.{group_step, stream_of}
use Rattle.pcm_base.specs.model.Program.{Answer, Program, fails, says}
use Rattle.pcm_base.specs.model.Replay.{bytes_by}
use Rattle.pcm_base.specs.model.Sound.{Sound, SoundAt, may_be_set_up}
use Rattle.pcm_base.specs.model.Stream.{Member, Stream, avail, is_bare}
use Rattle.pcm_base.specs.model.Transfer.{fits, frames_by, read_on, write_on}
use Rattle.pcm_base.specs.model.Words.{is_closed}
use Rattle.pcm_base.specs.model.World.{InProgress, World, call_of, group_of, holds, task_bytes, told_bytes}
use Rattle.pcm_stream.specs.declared.runtime.Runtime.{Runtime}
use Rattle.pcm_stream.specs.MembersStand.{TaskFits}
use Rattle.pcm_stream.specs.Runs.{RunsFor}
use Rattle.pcm_stream.specs.Wide.{PutsAreWide}
use Rattle.pcm_group.specs.Bytes.{bytes_left}
use Rattle.pcm_group.specs.declared.group.Group.{Group}
use Rattle.pcm_world.specs.declared.calls.Kept.{Kept}
use Rattle.pcm_world.specs.Answered.{bytes_told}
use Rattle.pcm_world.specs.Calls.{IsKept, IsWaitingFor, KeepsBytes, read_layout, stream_at, task_of}
use Rattle.pcm_world.specs.Groups.{AreNumbers, numbers_in}
use Rattle.pcm_world.specs.Shown.{is_frames, is_reading, is_some_layout, reads}
use Rattle.pcm_world.specs.Stands.{AreWorld}
use Rattle.pcm_world.specs.Waiting.{IsOwn, IsTold, IsTransferTold}
use Rattle.pcm_world.proofs.AnswerLemmas.{continued}
use Rattle.pcm_world.proofs.BeginLemmas.{HasShape, IsShapeAt, shape-some}
use Rattle.pcm_world.proofs.CallLemmas.{IsNowhereElse}
use Rattle.pcm_world.proofs.ResultLemmas.{AreFirst, first-of, frames-or-not, none-told, read-first, told-other}
use Rattle.pcm_world.proofs.StandingLemmas.{IsFit, fit-at, task-fits}
use Rattle.pcm_world.proofs.WorldLemmas.{undeclared_or_held}
use Rattle.pcm_world.proofs.WorldSteps.{IsLentFor, IsReady, bytes-kept}

-- ---- what is known of a stream on which a client waits

-- a task fits only a stream with a configuration
fitted-set : (t : Task) (s : Stream) → TaskFits s t → is_bare s ≡ false
fitted-set t s h = by s.setup.config refl t h
  where
    by : (o : Option Config) → s.setup.config ≡ o → (t : Task) → TaskFits s t → (elim o as (λ _. Bool) [ None ↦ true | Some c ↦ false ]) ≡ false
    by (Some c) e t h = refl
    by None e (task.Transfer x v) h = absurd (let fits_none : fits x.layout None ≡ true = subst (λ (o : Option Config). fits x.layout o ≡ true) e h.layout in let no : ⊥ = cc in no)
    by None e task.Drain h = absurd (let set : is_some {T = Config} None ≡ true = subst (λ (o : Option Config). is_some o ≡ true) e h in let no : ⊥ = cc in no)

set-open : (s : Stream) → Sound s → is_bare s ≡ false → is_closed s.state ≡ false
set-open s h set = by s.setup.config refl h set
  where
    may : (t : State) → may_be_set_up t ≡ true → is_closed t ≡ false
    may state.Closed q = absurd (let no : ⊥ = cc in no)
    may state.Opened q = refl
    may state.Setup q = refl
    may state.Prepared q = refl
    may state.Running q = refl
    may state.Xrun q = refl
    may state.Draining q = refl
    may state.Paused q = refl
    may state.Suspended q = refl
    may state.Disconnected q = refl

    by : (o : Option Config) → s.setup.config ≡ o → SoundAt o s → (elim o as (λ _. Bool) [ None ↦ true | Some c ↦ false ]) ≡ false → is_closed s.state ≡ false
    by None e q f = absurd (let no : ⊥ = cc in no)
    by (Some c) e q f = may s.state q.state

some-task : (o : Option Task) (s : Stream) (p : InProgress) → IsWaitingFor o s p → (t : Task) × (o ≡ Some t)
some-task None s p h = absurd h
some-task (Some t) s p h = (t, refl)

own-task : (o : Option Task) (io : List ℕ) (s : Stream) (p : InProgress) → p.bytes ≡ io → IsWaitingFor o s p → 0 < s.setup.frame_bytes → is_bare s ≡ false → IsOwn o io s
own-task None io s p e h some set = h
own-task (Some (task.Transfer x v)) io s p e h some set = (sym (ap (λ (b : List ℕ). length b) e) ∙ h.0, some, set)
own-task (Some task.Drain) io s p e h some set = sym (ap (λ (b : List ℕ). length b) e) ∙ h

-- the client's call in progress, and how it is kept
pub record IsGoing {C : Type 0} {g : Ghosts C} (n : ℕ) (gs : List (Group C g)) (calls : List (Option Kept)) (w : World) (p : InProgress) (q : Kept) : Type 0 where
  pub world : AreWorld n gs calls w
  pub numbers : AreNumbers (numbers_in gs)
  pub called : call_of p.client w.calls ≡ Some p
  pub kept : IsKept w.groups q p.client p

module _ {C : Type 0} {g : Ghosts C} (n : ℕ) (gs : List (Group C g)) (calls : List (Option Kept)) (w : World) (p : InProgress) (q : Kept) (h : IsGoing n gs calls w p q) where
  pub going-waits : IsWaitingFor (task_of p w.groups) (stream_at p.sub w.groups) p
  going-waits = h.world.agree.waits p.client p h.called

  going-task : (t : Task) × (task_of p w.groups ≡ Some t)
  going-task = some-task (task_of p w.groups) (stream_at p.sub w.groups) p going-waits

  pub going-fit : IsFit (stream_at p.sub w.groups)
  going-fit = fit-at gs w.groups p.sub h.world.groups

  pub going-set : is_bare (stream_at p.sub w.groups) ≡ false
  going-set = fitted-set going-task.0 (stream_at p.sub w.groups) (task-fits p.client going-task.0 (stream_at p.sub w.groups) (stream_at p.sub w.groups).sleepers going-fit.fit going-task.1)

  going-runs : (r : Runtime) × RunsFor r (stream_at p.sub w.groups)
  going-runs = going-fit.runs going-set

  pub going-frame : 0 < (stream_at p.sub w.groups).setup.frame_bytes
  going-frame = let a : 1 ≤ going-runs.0.shape.frame_bytes = going-runs.0.sound.frame in let e : (stream_at p.sub w.groups).setup.frame_bytes ≡ going-runs.0.shape.frame_bytes = going-runs.1.setup.frame_bytes in omega (arith, a, e)

  pub going-held : holds p.sub (group_of p.sub w.groups) ≡ true
  going-held = elim (undeclared_or_held p.sub w.groups) [
    | inr held ↦ held
    | inl none ↦ absurd (let two : None ≡ Some going-task.0 = sym (ap (λ (l : List Member). waiting_of p.client (stream_of p.sub l).sleepers) none) ∙ going-task.1 in let no : ⊥ = cc in no)
  ]

  pub going-open : (is_closed (stream_at p.sub w.groups).state && not (opens call.Go)) ≡ false
  going-open = ap (λ (b : Bool). b && true) (set-open (stream_at p.sub w.groups) going-fit.sound going-set)

  going-nowhere : IsNowhereElse p.client p.sub w.groups
  going-nowhere = λ j other. by j other (waiting_of p.client (stream_at j w.groups).sleepers) refl
    where
      by : (j : SubId) → nat_eq j.0 p.sub.0 ≡ false → (o : Option Task) → waiting_of p.client (stream_at j w.groups).sleepers ≡ o → o ≡ None
      by j other None e = refl
      by j other (Some t) e = absurd (
          let m : (r : InProgress) × (call_of p.client w.calls ≡ Some r) × (r.sub.0 ≡ j.0) = h.world.agree.made p.client j (λ z. let two : Some t ≡ None = sym e ∙ z in let no : ⊥ = cc in no) in
          let two : Some p ≡ Some m.0 = sym h.called ∙ m.1 in
          let same : p ≡ m.0 = cc in
          let at : p.sub.0 ≡ j.0 = ap (λ (x : InProgress). x.sub.0) same ∙ m.2 in
          let no : ⊥ = grind (arith, nat_tests, other, at) in no)

  pub going-ready : IsReady n gs calls w call.Go p
  going-ready = record {
    world = h.world;
    placed = record { stands = h.world.groups; numbers = h.numbers; held = going-held };
    entered = record {
      opened = going-open;
      distinct = going-fit.distinct;
      free = λ z. absurd (let no : ⊥ = cc in no);
      own = own-task (task_of p w.groups) p.bytes (stream_at p.sub w.groups) p refl going-waits going-frame going-set;
      puts = λ z. subst (λ (b : ℕ). PutsAreWide b (stream_at p.sub w.groups).puts) (sym (going-fit.runs z).1.setup.frame_bytes) (going-fit.runs z).1.frames.puts;
    };
    alone = going-nowhere;
  }

  pub going-lent : IsLentFor call.Go p (stream_at p.sub w.groups) q.bytes.items
  going-lent = record {
    size = h.kept.size;
    bytes = begun-bytes (read_layout (task_of p w.groups)) (subst (λ (l : Option Layout). KeepsBytes l (stream_at p.sub w.groups) q.bytes.items p) h.kept.layout h.kept.bytes);
    runs = going-fit.runs;
  }
    where
      begun-bytes : (l : Option Layout) → KeepsBytes l (stream_at p.sub w.groups) q.bytes.items p → KeepsBytes l (stream_at p.sub w.groups) q.bytes.items (continued call.Go (stream_at p.sub w.groups) [] p)
      begun-bytes None k = k
      begun-bytes (Some l) k = ap (λ (fs : List Frame). take (length fs) (frames_by l (stream_at p.sub w.groups) q.bytes.items)) (append-nil p.frames) ∙ k ∙ sym (append-nil p.frames)

-- ---- the bytes that the world keeps are as good as the model's

go_on-read : (c : ClientId) (x : Xfer) (io now : List ℕ) (s : Stream) → x.writing ≡ false → go_on c x now s ≡ go_on c x io s
go_on-read c x io now s w = read-on now ∙ sym (read-on io)
  where
    read-on : (bytes : List ℕ) → go_on c x bytes s ≡ read_on c x [] x.rest s
    read-on bytes = ap (λ (b : Bool). cond b (write_on c x [] (drop x.moved (frames_by x.layout s bytes)) s) (read_on c x [] x.rest s)) w

transfer-read : (c : ClientId) (x : Xfer) (v : ℕ) (io now : List ℕ) (s : Stream) → x.writing ≡ false → go_transfer c x v now s ≡ go_transfer c x v io s
transfer-read c x v io now s w = by s.state s.dir
  where
    on : go_on c x now (left_by c s) ≡ go_on c x io (left_by c s)
    on = go_on-read c x io now (left_by c s) w

    may : go_or_sleep c x v now s ≡ go_or_sleep c x v io s
    may = ap (λ (p : Program). cond (nat_lt (avail s) v) (says reply.Asleep s) p) on

    by : (t : State) (d : Dir) → go_transfer_in t d c x v now s ≡ go_transfer_in t d c x v io s
    by state.Prepared d = may
    by state.Running d = may
    by state.Paused d = may
    by state.Draining dir.Playback = refl
    by state.Draining dir.Capture = on
    by state.Suspended d = refl
    by state.Xrun d = refl
    by state.Closed d = refl
    by state.Opened d = refl
    by state.Setup d = refl
    by state.Disconnected d = refl

go-same : (c : ClientId) (o : Option Task) (io now : List ℕ) (s : Stream) → length now ≡ length io → (read_layout o ≡ None → now ≡ io)
    → go_call o c now s ≡ go_call o c io s
go-same c None io now s size h = refl
go-same c (Some task.Drain) io now s size h = ap (λ (b : List ℕ). cond (nat_eq (length b) 0) (go_task c task.Drain b s) (fails errno.Einval s)) (h refl)
go-same c (Some (task.Transfer x v)) io now s size h = by x.writing refl h
  where
    by : (b : Bool) → x.writing ≡ b → ((cond x.writing None (Some x.layout)) ≡ None → now ≡ io)
        → cond (nat_eq (length now) (length_of (task.Transfer x v) s)) (go_transfer c x v now s) (fails errno.Einval s) ≡ cond (nat_eq (length io) (length_of (task.Transfer x v) s)) (go_transfer c x v io s) (fails errno.Einval s)
    by true w f = ap (λ (b : List ℕ). cond (nat_eq (length b) (length_of (task.Transfer x v) s)) (go_transfer c x v b s) (fails errno.Einval s)) (f (ap (λ (b : Bool). cond b None (Some x.layout)) w))
    by false w f =
        ap (λ (k : ℕ). cond (nat_eq k (length_of (task.Transfer x v) s)) (go_transfer c x v now s) (fails errno.Einval s)) size
        ∙ ap (λ (p : Program). cond (nat_eq (length io) (length_of (task.Transfer x v) s)) p (fails errno.Einval s)) (transfer-read c x v io now s w)

pub go-program : (p : InProgress) (q : Kept) (xs : List (List Member)) (l : Bool) → IsKept xs q p.client p → program call.Go p.client l q.bytes.items (stream_at p.sub xs) ≡ program call.Go p.client l p.bytes (stream_at p.sub xs)
go-program p q xs l h =
    let s : Stream = stream_at p.sub xs in
    ap (λ (r : Program). cond (is_closed s.state && true) (fails errno.Enxio s) r)
    (go-same p.client (task_of p xs) p.bytes q.bytes.items s h.size
    (λ none. subst (λ (o : Option Layout). KeepsBytes o s q.bytes.items p) (h.layout ∙ none) h.bytes))

-- ---- what it has read

-- a step that goes on with these bytes lent, and left others
pub record IsGone (p : InProgress) (q : Kept) (shape : Option Shape) (now : List ℕ) (w : World) : Type 0 where
  pub shaped : IsShapeAt shape (stream_at p.sub w.groups)
  pub told : IsTold (task_of p w.groups) (stream_at p.sub w.groups) (group_step call.Go p.client p.sub p.bytes (group_of p.sub w.groups)).answer
  pub size : length now ≡ length q.bytes.items
  pub left : now ≡ bytes_left call.Go p.client (stream_at p.sub w.groups) (group_step call.Go p.client p.sub p.bytes (group_of p.sub w.groups)).answer q.bytes.items

-- the reading transfer that goes on
record IsReadBy (x : Xfer) (v : ℕ) (l : Layout) (o : Option Task) : Type 0 where
  pub task : o ≡ Some (task.Transfer x v)
  pub writing : x.writing ≡ false
  pub layout : x.layout ≡ l

read-by : (o : Option Task) (l : Layout) → read_layout o ≡ Some l → (x : Xfer) × (v : ℕ) × IsReadBy x v l o
read-by None l h = absurd (let no : ⊥ = cc in no)
read-by (Some task.Drain) l h = absurd (let no : ⊥ = cc in no)
read-by (Some (task.Transfer x v)) l h = by x.writing refl h
  where
    by : (b : Bool) → x.writing ≡ b → cond b None (Some x.layout) ≡ Some l → (y : Xfer) × (u : ℕ) × IsReadBy y u l (Some (task.Transfer x v))
    by true w f = absurd (let no : ⊥ = cc in no)
    by false w f = let same : x.layout ≡ l = cc in (x, v, record { task = refl; writing = w; layout = same })

-- what is known of its frames
record AreGoneFrames (l : Layout) (t most : ℕ) (all : List Frame) (now : List ℕ) (s : Stream) : Type 0 where
  pub count : t ≡ length all
  pub few : t ≤ most
  pub size : length now ≡ most * s.setup.frame_bytes
  pub front : take (length all) (frames_by l s now) ≡ all

gone-frames : {C : Type 0} {g : Ghosts C} (n : ℕ) (gs : List (Group C g)) (calls : List (Option Kept)) (w : World) (p : InProgress) (q : Kept) (shape : Option Shape) (now : List ℕ) (l : Layout) (t : ℕ) → IsGoing n gs calls w p q → IsGone p q shape now w
    → q.layout ≡ Some l → (group_step call.Go p.client p.sub p.bytes (group_of p.sub w.groups)).answer.reply ≡ reply.Frames t
    → (most : ℕ) × AreGoneFrames l t most (p.frames ++ (group_step call.Go p.client p.sub p.bytes (group_of p.sub w.groups)).answer.frames) now (stream_at p.sub w.groups)
gone-frames n gs calls w p q shape now l t h d lay is =
    let s : Stream = stream_at p.sub w.groups in
    let a : Answer = (group_step call.Go p.client p.sub p.bytes (group_of p.sub w.groups)).answer in
    let r = read-by (task_of p w.groups) l (sym h.kept.layout ∙ lay) in
    let x : Xfer = r.0 in
    let told : IsTransferTold x s a = subst (λ (o : Option Task). IsTold o s a) r.2.task d.told in
    let task : (length p.bytes ≡ (x.moved + x.rest) * s.setup.frame_bytes) × (x.moved ≡ length p.frames) = subst (λ (o : Option Task). IsWaitingFor o s p) r.2.task (going-waits n gs calls w p q h) in
    let kept : KeepsBytes (read_layout (task_of p w.groups)) s now (continued call.Go s a.frames p) =
    bytes-kept call.Go p s a q.bytes.items now (going-waits n gs calls w p q h) tt (going-lent n gs calls w p q h) d.told (λ z. going-set n gs calls w p q h) d.left in (
      x.moved + x.rest,
      record {
        count = (let c : t ≡ x.moved + length a.frames = told.count t is in omega (arith, c, task.1, length-append p.frames a.frames));
        few = (let c : t ≡ x.moved + length a.frames = told.count t is in omega (arith, c, told.most));
        size = d.size ∙ h.kept.size ∙ task.0;
        front = subst (λ (o : Option Layout). KeepsBytes o s now (continued call.Go s a.frames p)) (sym h.kept.layout ∙ lay) kept;
      },
    )

pub first-gone : {C : Type 0} {g : Ghosts C} (n : ℕ) (gs : List (Group C g)) (calls : List (Option Kept)) (w : World) (p : InProgress) (q : Kept) (shape : Option Shape) (now : List ℕ) → IsGoing n gs calls w p q → IsGone p q shape now w
    → (z : Shape) (l : Layout) (t : ℕ) → shape ≡ Some z → q.layout ≡ Some l → (group_step call.Go p.client p.sub p.bytes (group_of p.sub w.groups)).answer.reply ≡ reply.Frames t → AreFirst z t now
first-gone n gs calls w p q shape now h d z l t of lay is =
    let s : Stream = stream_at p.sub w.groups in
    let found : (z : Shape) × HasShape shape s z = shape-some shape s (going-set n gs calls w p q h) d.shaped in
    let same : found.0 ≡ z = (let two : Some found.0 ≡ Some z = sym found.1.is ∙ of in cc) in
    let f = gone-frames n gs calls w p q shape now l t h d lay is in
    subst (λ (y : Shape). AreFirst y t now) same (first-of found.0 t f.0 now (f.1.size ∙ ap (λ (b : ℕ). f.0 * b) found.1.frame_bytes) f.1.few)

pub result-gone : {C : Type 0} {g : Ghosts C} (n : ℕ) (gs : List (Group C g)) (calls : List (Option Kept)) (w : World) (p : InProgress) (q : Kept) (shape : Option Shape) (now before : List ℕ) → IsGoing n gs calls w p q → IsGone p q shape now w
    → bytes_told (group_step call.Go p.client p.sub p.bytes (group_of p.sub w.groups)).answer.reply q.layout shape now before
    ≡ cond (reads call.Go p.client w && is_frames (group_step call.Go p.client p.sub p.bytes (group_of p.sub w.groups)).answer.reply)
    (told_bytes call.Go p.client (group_step call.Go p.client p.sub p.bytes (group_of p.sub w.groups)).answer.reply (stream_at p.sub w.groups) p.frames (group_step call.Go p.client p.sub p.bytes (group_of p.sub w.groups)).answer.frames) before
result-gone n gs calls w p q shape now before h d =
    by q.layout refl (group_step call.Go p.client p.sub p.bytes (group_of p.sub w.groups)).answer.reply refl (is_frames (group_step call.Go p.client p.sub p.bytes (group_of p.sub w.groups)).answer.reply) refl
  where
    reading : is_reading (call_of p.client w.calls) w ≡ is_some_layout q.layout
    reading = ap (λ (o : Option InProgress). is_reading o w) h.called ∙ ap is_some_layout (sym h.kept.layout)

    by : (o : Option Layout) → q.layout ≡ o → (r : Reply) → (group_step call.Go p.client p.sub p.bytes (group_of p.sub w.groups)).answer.reply ≡ r → (b : Bool) → is_frames r ≡ b → bytes_told r o shape now before
        ≡ cond (is_reading (call_of p.client w.calls) w && is_frames r) (told_bytes call.Go p.client r (stream_at p.sub w.groups) p.frames (group_step call.Go p.client p.sub p.bytes (group_of p.sub w.groups)).answer.frames) before
    by None e r is b f =
        none-told r shape now before
        ∙ sym (ap (λ (b : Bool). cond (b && is_frames r) (told_bytes call.Go p.client r (stream_at p.sub w.groups) p.frames (group_step call.Go p.client p.sub p.bytes (group_of p.sub w.groups)).answer.frames) before) (reading ∙ ap is_some_layout e))
    by (Some l) e r is false f =
        told-other r (Some l) shape now before f
        ∙ sym (ap (λ (b : Bool). cond (b && is_frames r) (told_bytes call.Go p.client r (stream_at p.sub w.groups) p.frames (group_step call.Go p.client p.sub p.bytes (group_of p.sub w.groups)).answer.frames) before) (reading ∙ ap is_some_layout e)
        ∙ ap (λ (b : Bool). cond b (told_bytes call.Go p.client r (stream_at p.sub w.groups) p.frames (group_step call.Go p.client p.sub p.bytes (group_of p.sub w.groups)).answer.frames) before) f)
    by (Some l) e r is true f =
        let t : (t : ℕ) × (r ≡ reply.Frames t) = frames-or-not r f in
        subst (λ (x : Reply). bytes_told x (Some l) shape now before ≡ cond (is_reading (call_of p.client w.calls) w && is_frames x) (told_bytes call.Go p.client x (stream_at p.sub w.groups) p.frames (group_step call.Go p.client p.sub p.bytes (group_of p.sub w.groups)).answer.frames) before) (sym t.1)
        (whole t.0 (is ∙ t.1))
      where
        whole : (t : ℕ) → (group_step call.Go p.client p.sub p.bytes (group_of p.sub w.groups)).answer.reply ≡ reply.Frames t → bytes_told (reply.Frames t) (Some l) shape now before
            ≡ cond (is_reading (call_of p.client w.calls) w && true) (task_bytes (task_of p w.groups) (reply.Frames t) (stream_at p.sub w.groups) (p.frames ++ (group_step call.Go p.client p.sub p.bytes (group_of p.sub w.groups)).answer.frames)) before
        whole t is =
            let s : Stream = stream_at p.sub w.groups in
            let all : List Frame = p.frames ++ (group_step call.Go p.client p.sub p.bytes (group_of p.sub w.groups)).answer.frames in
            let found : (z : Shape) × HasShape shape s z = shape-some shape s (going-set n gs calls w p q h) d.shaped in
            let k : (r : Runtime) × RunsFor r s = (going-fit n gs calls w p q h).runs (going-set n gs calls w p q h) in
            let fr = gone-frames n gs calls w p q shape now l t h d e is in
            let rd = read-by (task_of p w.groups) l (sym h.kept.layout ∙ e) in
            ap (λ (o : Option Shape). bytes_told (reply.Frames t) (Some l) o now before) found.1.is
            ∙ read-first l s k.0 found.0 now all t fr.0 k.1 found.1.frame_bytes found.1.channels fr.1.size fr.1.few fr.1.count fr.1.front
            ∙ sym (ap (λ (b : Bool). cond (b && true) (task_bytes (task_of p w.groups) (reply.Frames t) s all) before) (reading ∙ ap is_some_layout e)
            ∙ ap (λ (o : Option Task). task_bytes o (reply.Frames t) s all) rd.2.task
            ∙ ap (λ (b : Bool). cond b [] (bytes_by rd.0.layout s all)) rd.2.writing
            ∙ ap (λ (y : Layout). bytes_by y s all) rd.2.layout)

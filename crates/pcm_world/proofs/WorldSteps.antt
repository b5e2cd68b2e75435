-- The world after a step of one group.
use Rattle.std.proofs.Common.{◌≡◌, ◌≢◌, ◌⊎◌, inl, inr, ℕ, ◌+◌, ◌*◌, ◌/◌, ◌<◌, ◌≤◌, Bool, true, false, cond, nat_eq, List, [], ◌∷◌, ◌++◌, length, take, Option, Some, None, refl, sym, ap, ◌∙◌, subst, arith}
use Rattle.std.proofs.Math.Nat.{mul-div_cancel}
use Rattle.std.proofs.lemmas.List.{append-nil, length-replicate}
use Rattle.std.specs.List.{slice_get}
use Rattle.std.specs.Option.{is_some}
use Rattle.pcm_base.specs.declared.call.Call.{Call}
use Rattle.pcm_base.specs.declared.call.Call.TheVariants as call
use Rattle.pcm_base.specs.declared.call.Layout.{Layout}
use Rattle.pcm_base.specs.declared.card.Card.{Ghosts}
use Rattle.pcm_base.specs.declared.ids.ClientId.{ClientId}
use Rattle.pcm_base.specs.declared.reply.Reply.{Reply}
use Rattle.pcm_base.specs.declared.reply.Reply.TheVariants as reply
use Rattle.pcm_base.specs.declared.sleeper.Task.{Task}
use Rattle.pcm_base.specs.declared.sleeper.Task.TheVariants as task
use Rattle.pcm_base.specs.declared.sleeper.Xfer.{Xfer}
use Rattle.pcm_base.specs.model.Events.{length_of, waiting_of}
use Rattle.pcm_base.specs.model.Frame.{Frame}
use Rattle.pcm_base.specs.model.Group.{group_step}
use Rattle.pcm_base.specs.model.Program.{Answer}
use Rattle.pcm_base.specs.model.Replay.{going_length, task_layout}
use Rattle.pcm_base.specs.model.Stream.{Member, Stream, is_bare}
use Rattle.pcm_base.specs.model.Transfer.{frames_by}
use Rattle.pcm_base.specs.model.World.{InProgress, World, call_of, calls_after, group_of, in_group, kept_bytes, without_call}
use Rattle.pcm_stream.specs.declared.runtime.Runtime.{Runtime}
use Rattle.pcm_stream.specs.Runs.{RunsFor}
use Rattle.pcm_group.specs.Bytes.{bytes_left}
use Rattle.pcm_group.specs.Transfers.{bytes_with}
use Rattle.pcm_group.specs.declared.group.Group.{Group}
use Rattle.pcm_world.specs.declared.calls.Kept.{Kept}
use Rattle.pcm_world.specs.Calls.{AreKept, CallsAgree, IsCallOf, IsKept, IsWaitingFor, KeepsBytes, read_layout, stream_at, task_of}
use Rattle.pcm_world.specs.Groups.{GroupsStand}
use Rattle.pcm_world.specs.Stands.{AreWorld}
use Rattle.pcm_world.specs.Waiting.{IsContinued, IsEntered, IsStepped, IsTold, IsTransferTold, task_begun}
use Rattle.pcm_world.proofs.AnswerLemmas.{HasComeTo, IsPlaced, after-step, asleep-waits, continued, left-awake, like-after, named-stepped}
use Rattle.pcm_world.proofs.CallLemmas.{IsLike, IsNowhereElse, agree-asleep, agree-awake, bytes-alike, calls_after-awake, kept-asleep, kept-awake}
use Rattle.pcm_world.proofs.EventWalk.{IsAwake}
use Rattle.pcm_world.proofs.ReadLemmas.{read-kept}

pub asleep-or-awake : (r : Reply) → (r ≡ reply.Asleep) ⊎ IsAwake r
asleep-or-awake reply.Ok = inr tt
asleep-or-awake (reply.Frames m) = inr tt
asleep-or-awake (reply.Moved m) = inr tt
asleep-or-awake (reply.Delay m) = inr tt
asleep-or-awake (reply.Ptrs p) = inr tt
asleep-or-awake (reply.Poll p) = inr tt
asleep-or-awake reply.Asleep = inl refl
asleep-or-awake (reply.Err e) = inr tt
asleep-or-awake (reply.Late m) = inr tt
asleep-or-awake reply.Idle = inr tt
asleep-or-awake (reply.Limit m) = inr tt
asleep-or-awake (reply.Busy c) = inr tt
asleep-or-awake reply.Memory = inr tt

-- what is known of a call before its step in the world w
pub record IsReady {C : Type 0} {g : Ghosts C} (n : ℕ) (gs : List (Group C g)) (calls : List (Option Kept)) (w : World) (e : Call) (p : InProgress) : Type 0 where
  pub world : AreWorld n gs calls w
  pub placed : IsPlaced gs w.groups p.sub
  pub entered : IsEntered e p.client p.bytes (stream_at p.sub w.groups)
  pub alone : IsNowhereElse p.client p.sub w.groups

-- the caller's place, and those of the others
pub record ArePlacesOf (c : ClientId) (own : Option Kept) (calls now : List (Option Kept)) : Type 0 where
  pub others : (d : ClientId) → nat_eq d.0 c.0 ≡ false → slice_get now d.0 ≡ slice_get calls d.0
  pub caller : c.0 < 16 → slice_get now c.0 ≡ Some own

-- ---- a caller that does not sleep

pub world-awake : {C : Type 0} {g : Ghosts C} (n : ℕ) (old new : List (Group C g)) (calls now : List (Option Kept)) (w : World) (e : Call) (p : InProgress) → IsReady n old calls w e p
    → GroupsStand new (after-step e p.client p.sub p.bytes w.groups) → IsAwake (group_step e p.client p.sub p.bytes (group_of p.sub w.groups)).answer.reply → ArePlacesOf p.client None calls now
    → AreWorld n new now (in_group e p w).world
world-awake n old new calls now w e p h stands awake places =
    let xs : List (List Member) = w.groups in
    let ys : List (List Member) = after-step e p.client p.sub p.bytes w.groups in
    let a : Answer = (group_step e p.client p.sub p.bytes (group_of p.sub w.groups)).answer in
    let s : Stream = stream_at p.sub xs in
    let step : IsStepped e p.client p.bytes s a (stream_at p.sub ys) = named-stepped old xs e p.client p.sub p.bytes h.placed h.entered in
    let like : IsLike p.client p.sub xs ys = like-after old xs e p.client p.sub p.bytes h.placed h.entered in
    let none : waiting_of p.client (stream_at p.sub ys).sleepers ≡ None = left-awake a.reply (task_begun e p.client p.bytes s) (length a.frames) (waiting_of p.client (stream_at p.sub ys).sleepers) awake step.caller in
    let same : calls_after a.reply (continued e s a.frames p) w.calls ≡ without_call p.client w.calls = calls_after-awake a.reply (continued e s a.frames p) w.calls awake in
    record {
      long_max = h.world.long_max;
      groups = stands;
      kept = subst (λ (ps : List InProgress). AreKept now ys ps) (sym same) (kept-awake p.client p.sub xs ys w.calls calls now like h.world.agree h.world.kept places.others places.caller);
      agree = subst (λ (ps : List InProgress). CallsAgree ys ps) (sym same) (agree-awake p.client p.sub xs ys w.calls like h.world.agree h.alone none);
    }

-- ---- one that sleeps

-- what a call is lent, before the step: as long as what the model keeps, and with what it has read so far
pub record IsLentFor (e : Call) (p : InProgress) (s : Stream) (lent : List ℕ) : Type 0 where
  pub size : length lent ≡ length (kept_bytes e s p.bytes)
  pub bytes : KeepsBytes (read_layout (task_begun e p.client p.bytes s)) s lent (continued e s [] p)
  pub runs : is_bare s ≡ false → (r : Runtime) × RunsFor r s

layout-on : (o : Option Task) (n : ℕ) (q : Task) → IsContinued o n q → read_layout (Some q) ≡ read_layout o
layout-on None n q h = absurd h
layout-on (Some (task.Transfer y v)) n (task.Transfer x u) h = ap (λ (b : Bool). cond b None (Some x.layout)) h.writing ∙ ap (λ (l : Layout). cond y.writing None (Some l)) h.layout
layout-on (Some (task.Transfer y v)) n task.Drain h = absurd h
layout-on (Some task.Drain) n (task.Transfer x u) h = absurd h
layout-on (Some task.Drain) n task.Drain h = refl

-- how a call that may sleep leaves its bytes
abbrev left_by_layout : Option Layout → Stream → Answer → List ℕ → List ℕ
left_by_layout None s a io = io
left_by_layout (Some l) s a io = bytes_with false l a.first a.frames s io

-- the calls that may sleep
abbrev pub SleepsAtAll : Call → Type 0
SleepsAtAll (call.Write w m) = Unit {0}
SleepsAtAll (call.Read w m n) = Unit {0}
SleepsAtAll (call.Drain m) = Unit {0}
SleepsAtAll call.Go = Unit {0}
SleepsAtAll _ = ⊥

pub left-by : (e : Call) (c : ClientId) (io : List ℕ) (s : Stream) (a : Answer) (lent : List ℕ) → SleepsAtAll e → bytes_left e c s a lent ≡ left_by_layout (read_layout (task_begun e c io s)) s a lent
left-by (call.Write w m) c io s a lent h = refl
left-by (call.Read w m n) c io s a lent h = refl
left-by (call.Drain m) c io s a lent h = refl
left-by call.Go c io s a lent h = by (waiting_of c s.sleepers)
  where
    by : (o : Option Task) → cond (is_some (going_length o s)) (bytes_with false (task_layout o) a.first a.frames s lent) lent ≡ left_by_layout (read_layout o) s a lent
    by None = refl
    by (Some (task.Transfer x v)) = way x.writing
      where
        way : (b : Bool) → cond (is_some (cond b None (Some (length_of (task.Transfer x v) s)))) (bytes_with false x.layout a.first a.frames s lent) lent ≡ left_by_layout (cond b None (Some x.layout)) s a lent
        way true = refl
        way false = refl
    by (Some task.Drain) = refl
left-by call.OpenSub c io s a lent h = absurd h
left-by call.CloseSub c io s a lent h = absurd h
left-by (call.HwParams g) c io s a lent h = absurd h
left-by call.HwFree c io s a lent h = absurd h
left-by (call.SwParams w) c io s a lent h = absurd h
left-by call.Prepare c io s a lent h = absurd h
left-by call.Start c io s a lent h = absurd h
left-by call.DropNow c io s a lent h = absurd h
left-by call.PausePush c io s a lent h = absurd h
left-by call.PauseRelease c io s a lent h = absurd h
left-by call.Suspend c io s a lent h = absurd h
left-by call.Resume c io s a lent h = absurd h
left-by call.Xrun c io s a lent h = absurd h
left-by (call.Rewind n) c io s a lent h = absurd h
left-by (call.Forward n) c io s a lent h = absurd h
left-by call.Hwsync c io s a lent h = absurd h
left-by call.Delay c io s a lent h = absurd h
left-by (call.SyncPtr v) c io s a lent h = absurd h
left-by call.Status c io s a lent h = absurd h
left-by call.PageNow c io s a lent h = absurd h
left-by call.Poll c io s a lent h = absurd h
left-by call.Map c io s a lent h = absurd h
left-by call.Unmap c io s a lent h = absurd h
left-by (call.Store o) c io s a lent h = absurd h
left-by (call.Load o n) c io s a lent h = absurd h
left-by (call.Link j) c io s a lent h = absurd h
left-by call.Unlink c io s a lent h = absurd h
left-by (call.MoveBy n) c io s a lent h = absurd h
left-by call.Irq c io s a lent h = absurd h
left-by (call.FailAt i) c io s a lent h = absurd h
left-by call.Give c io s a lent h = absurd h
left-by call.Unplug c io s a lent h = absurd h

pub sleeps-at-all : (e : Call) (c : ClientId) (io : List ℕ) (s : Stream) (n : ℕ) (q : Task) → IsContinued (task_begun e c io s) n q → SleepsAtAll e
sleeps-at-all (call.Write w m) c io s n q h = tt
sleeps-at-all (call.Read w m k) c io s n q h = tt
sleeps-at-all (call.Drain m) c io s n q h = tt
sleeps-at-all call.Go c io s n q h = tt
sleeps-at-all call.OpenSub c io s n q h = absurd h
sleeps-at-all call.CloseSub c io s n q h = absurd h
sleeps-at-all (call.HwParams g) c io s n q h = absurd h
sleeps-at-all call.HwFree c io s n q h = absurd h
sleeps-at-all (call.SwParams w) c io s n q h = absurd h
sleeps-at-all call.Prepare c io s n q h = absurd h
sleeps-at-all call.Start c io s n q h = absurd h
sleeps-at-all call.DropNow c io s n q h = absurd h
sleeps-at-all call.PausePush c io s n q h = absurd h
sleeps-at-all call.PauseRelease c io s n q h = absurd h
sleeps-at-all call.Suspend c io s n q h = absurd h
sleeps-at-all call.Resume c io s n q h = absurd h
sleeps-at-all call.Xrun c io s n q h = absurd h
sleeps-at-all (call.Rewind k) c io s n q h = absurd h
sleeps-at-all (call.Forward k) c io s n q h = absurd h
sleeps-at-all call.Hwsync c io s n q h = absurd h
sleeps-at-all call.Delay c io s n q h = absurd h
sleeps-at-all (call.SyncPtr v) c io s n q h = absurd h
sleeps-at-all call.Status c io s n q h = absurd h
sleeps-at-all call.PageNow c io s n q h = absurd h
sleeps-at-all call.Poll c io s n q h = absurd h
sleeps-at-all call.Map c io s n q h = absurd h
sleeps-at-all call.Unmap c io s n q h = absurd h
sleeps-at-all (call.Store o) c io s n q h = absurd h
sleeps-at-all (call.Load o k) c io s n q h = absurd h
sleeps-at-all (call.Link j) c io s n q h = absurd h
sleeps-at-all call.Unlink c io s n q h = absurd h
sleeps-at-all (call.MoveBy k) c io s n q h = absurd h
sleeps-at-all call.Irq c io s n q h = absurd h
sleeps-at-all (call.FailAt i) c io s n q h = absurd h
sleeps-at-all call.Give c io s n q h = absurd h
sleeps-at-all call.Unplug c io s n q h = absurd h

-- how far the call had come
moved-before : (e : Call) (p : InProgress) (s : Stream) (y : Xfer) (v : ℕ) → task_begun e p.client p.bytes s ≡ Some (task.Transfer y v) → HasComeTo e p s → SleepsAtAll e → y.moved ≡ length p.frames
moved-before (call.Write w m) p s y v is come h = let same : 0 ≡ y.moved = cc in sym same ∙ sym (ap (λ (fs : List Frame). length fs) come)
moved-before (call.Read w m n) p s y v is come h = let same : 0 ≡ y.moved = cc in sym same ∙ sym (ap (λ (fs : List Frame). length fs) come)
moved-before (call.Drain m) p s y v is come h = absurd (let no : ⊥ = cc in no)
moved-before call.Go p s y v is come h = (subst (λ (o : Option Task). IsWaitingFor o s p) is come).1
moved-before call.OpenSub p s y v is come h = absurd h
moved-before call.CloseSub p s y v is come h = absurd h
moved-before (call.HwParams g) p s y v is come h = absurd h
moved-before call.HwFree p s y v is come h = absurd h
moved-before (call.SwParams w) p s y v is come h = absurd h
moved-before call.Prepare p s y v is come h = absurd h
moved-before call.Start p s y v is come h = absurd h
moved-before call.DropNow p s y v is come h = absurd h
moved-before call.PausePush p s y v is come h = absurd h
moved-before call.PauseRelease p s y v is come h = absurd h
moved-before call.Suspend p s y v is come h = absurd h
moved-before call.Resume p s y v is come h = absurd h
moved-before call.Xrun p s y v is come h = absurd h
moved-before (call.Rewind n) p s y v is come h = absurd h
moved-before (call.Forward n) p s y v is come h = absurd h
moved-before call.Hwsync p s y v is come h = absurd h
moved-before call.Delay p s y v is come h = absurd h
moved-before (call.SyncPtr u) p s y v is come h = absurd h
moved-before call.Status p s y v is come h = absurd h
moved-before call.PageNow p s y v is come h = absurd h
moved-before call.Poll p s y v is come h = absurd h
moved-before call.Map p s y v is come h = absurd h
moved-before call.Unmap p s y v is come h = absurd h
moved-before (call.Store o) p s y v is come h = absurd h
moved-before (call.Load o n) p s y v is come h = absurd h
moved-before (call.Link j) p s y v is come h = absurd h
moved-before call.Unlink p s y v is come h = absurd h
moved-before (call.MoveBy n) p s y v is come h = absurd h
moved-before call.Irq p s y v is come h = absurd h
moved-before (call.FailAt i) p s y v is come h = absurd h
moved-before call.Give p s y v is come h = absurd h
moved-before call.Unplug p s y v is come h = absurd h

-- a read that sleeps, or goes on, has frames
reads-frames : (e : Call) (p : InProgress) (s : Stream) (y : Xfer) (v : ℕ) → task_begun e p.client p.bytes s ≡ Some (task.Transfer y v) → y.writing ≡ false → HasComeTo e p s → SleepsAtAll e
    → length (kept_bytes e s p.bytes) ≡ (y.moved + y.rest) * s.setup.frame_bytes
reads-frames (call.Write w m) p s y v is way come h = absurd (let same : true ≡ y.writing = cc in let two : true ≡ false = same ∙ way in let no : ⊥ = cc in no)
reads-frames (call.Read w m n) p s y v is way come h =
    let rest : n ≡ y.rest = cc in
    let none : 0 ≡ y.moved = cc in
    length-replicate (n * s.setup.frame_bytes) 0 ∙ ap (λ (k : ℕ). k * s.setup.frame_bytes) (omega (arith, rest, none))
reads-frames (call.Drain m) p s y v is way come h = absurd (let no : ⊥ = cc in no)
reads-frames call.Go p s y v is way come h = (subst (λ (o : Option Task). IsWaitingFor o s p) is come).0
reads-frames call.OpenSub p s y v is way come h = absurd h
reads-frames call.CloseSub p s y v is way come h = absurd h
reads-frames (call.HwParams g) p s y v is way come h = absurd h
reads-frames call.HwFree p s y v is way come h = absurd h
reads-frames (call.SwParams w) p s y v is way come h = absurd h
reads-frames call.Prepare p s y v is way come h = absurd h
reads-frames call.Start p s y v is way come h = absurd h
reads-frames call.DropNow p s y v is way come h = absurd h
reads-frames call.PausePush p s y v is way come h = absurd h
reads-frames call.PauseRelease p s y v is way come h = absurd h
reads-frames call.Suspend p s y v is way come h = absurd h
reads-frames call.Resume p s y v is way come h = absurd h
reads-frames call.Xrun p s y v is way come h = absurd h
reads-frames (call.Rewind n) p s y v is way come h = absurd h
reads-frames (call.Forward n) p s y v is way come h = absurd h
reads-frames call.Hwsync p s y v is way come h = absurd h
reads-frames call.Delay p s y v is way come h = absurd h
reads-frames (call.SyncPtr u) p s y v is way come h = absurd h
reads-frames call.Status p s y v is way come h = absurd h
reads-frames call.PageNow p s y v is way come h = absurd h
reads-frames call.Poll p s y v is way come h = absurd h
reads-frames call.Map p s y v is way come h = absurd h
reads-frames call.Unmap p s y v is way come h = absurd h
reads-frames (call.Store o) p s y v is way come h = absurd h
reads-frames (call.Load o n) p s y v is way come h = absurd h
reads-frames (call.Link j) p s y v is way come h = absurd h
reads-frames call.Unlink p s y v is way come h = absurd h
reads-frames (call.MoveBy n) p s y v is way come h = absurd h
reads-frames call.Irq p s y v is way come h = absurd h
reads-frames (call.FailAt i) p s y v is way come h = absurd h
reads-frames call.Give p s y v is way come h = absurd h
reads-frames call.Unplug p s y v is way come h = absurd h

-- the bytes after the step begin with all frames that were read
pub bytes-kept : (e : Call) (p : InProgress) (s : Stream) (a : Answer) (lent now : List ℕ) → HasComeTo e p s → SleepsAtAll e → IsLentFor e p s lent → IsTold (task_begun e p.client p.bytes s) s a → (read_layout (task_begun e p.client p.bytes s) ≢ None → is_bare s ≡ false)
    → now ≡ bytes_left e p.client s a lent → KeepsBytes (read_layout (task_begun e p.client p.bytes s)) s now (continued e s a.frames p)
bytes-kept e p s a lent now come at_all h told set is = by (task_begun e p.client p.bytes s) refl
  where
    left : now ≡ left_by_layout (read_layout (task_begun e p.client p.bytes s)) s a lent
    left = is ∙ left-by e p.client p.bytes s a lent at_all

    by : (o : Option Task) → task_begun e p.client p.bytes s ≡ o → KeepsBytes (read_layout (task_begun e p.client p.bytes s)) s now (continued e s a.frames p)
    by None o =
        subst (λ (b : Option Task). KeepsBytes (read_layout b) s now (continued e s a.frames p)) (sym o)
        (left ∙ ap (λ (b : Option Task). left_by_layout (read_layout b) s a lent) o ∙ subst (λ (b : Option Task). KeepsBytes (read_layout b) s lent (continued e s [] p)) o h.bytes)
    by (Some task.Drain) o =
        subst (λ (b : Option Task). KeepsBytes (read_layout b) s now (continued e s a.frames p)) (sym o)
        (left ∙ ap (λ (b : Option Task). left_by_layout (read_layout b) s a lent) o ∙ subst (λ (b : Option Task). KeepsBytes (read_layout b) s lent (continued e s [] p)) o h.bytes)
    by (Some (task.Transfer y v)) o =
        subst (λ (b : Option Task). KeepsBytes (read_layout b) s now (continued e s a.frames p)) (sym o) (way y.writing refl
        (left ∙ ap (λ (b : Option Task). left_by_layout (read_layout b) s a lent) o) (subst (λ (b : Option Task). KeepsBytes (read_layout b) s lent (continued e s [] p)) o h.bytes))
      where
        way : (b : Bool) → y.writing ≡ b → now ≡ left_by_layout (cond y.writing None (Some y.layout)) s a lent → KeepsBytes (cond y.writing None (Some y.layout)) s lent (continued e s [] p)
            → KeepsBytes (cond y.writing None (Some y.layout)) s now (continued e s a.frames p)
        way true w l k =
            subst (λ (b : Bool). KeepsBytes (cond b None (Some y.layout)) s now (continued e s a.frames p)) (sym w)
            (subst (λ (b : Bool). now ≡ left_by_layout (cond b None (Some y.layout)) s a lent) w l ∙ subst (λ (b : Bool). KeepsBytes (cond b None (Some y.layout)) s lent (continued e s [] p)) w k)
        way false w l k =
            let t : IsTransferTold y s a = subst (λ (b : Option Task). IsTold b s a) o told in
            let reading : read_layout (task_begun e p.client p.bytes s) ≢ None = (λ z. let two : Some y.layout ≡ None = sym (ap read_layout o ∙ ap (λ (b : Bool). cond b None (Some y.layout)) w) ∙ z in let no : ⊥ = cc in no) in
            let r : (r : Runtime) × RunsFor r s = h.runs (set reading) in
            let moved : y.moved ≡ length p.frames = moved-before e p s y v o come at_all in
            let some : 0 < s.setup.frame_bytes = (let f : 1 ≤ r.0.shape.frame_bytes = r.0.sound.frame in let q : s.setup.frame_bytes ≡ r.0.shape.frame_bytes = r.1.setup.frame_bytes in omega (arith, f, q)) in
            let count : length lent / s.setup.frame_bytes ≡ y.moved + y.rest = ap (λ (n : ℕ). n / s.setup.frame_bytes) (h.size ∙ reads-frames e p s y v o w come at_all) ∙ mul-div_cancel (y.moved + y.rest) some in
            let front : take (length p.frames) (frames_by y.layout s lent) ≡ p.frames = begun_front (subst (λ (b : Bool). KeepsBytes (cond b None (Some y.layout)) s lent (continued e s [] p)) w k) in
            subst (λ (b : Bool). KeepsBytes (cond b None (Some y.layout)) s now (continued e s a.frames p)) (sym w)
            (read-kept y.layout s r.0 lent now p.frames a.frames a.first r.1 (t.wide w) front (λ z. t.first z ∙ moved) (omega (arith, t.most, count, moved))
            (subst (λ (b : Bool). now ≡ left_by_layout (cond b None (Some y.layout)) s a lent) w l))
          where
            begun_front : take (length (p.frames ++ [])) (frames_by y.layout s lent) ≡ p.frames ++ [] → take (length p.frames) (frames_by y.layout s lent) ≡ p.frames
            begun_front k = ap (λ (fs : List Frame). take (length fs) (frames_by y.layout s lent)) (sym (append-nil p.frames)) ∙ k ∙ append-nil p.frames

pub world-asleep : {C : Type 0} {g : Ghosts C} (n : ℕ) (old new : List (Group C g)) (calls now : List (Option Kept)) (w : World) (e : Call) (p : InProgress) (lent : List ℕ) (q : Kept) → IsReady n old calls w e p
    → GroupsStand new (after-step e p.client p.sub p.bytes w.groups) → (group_step e p.client p.sub p.bytes (group_of p.sub w.groups)).answer.reply ≡ reply.Asleep → p.client.0 < 16 → ArePlacesOf p.client (Some q) calls now
    → HasComeTo e p (stream_at p.sub w.groups) → IsLentFor e p (stream_at p.sub w.groups) lent → (read_layout (task_begun e p.client p.bytes (stream_at p.sub w.groups)) ≢ None → is_bare (stream_at p.sub w.groups) ≡ false)
    → q.sub ≡ p.sub → q.layout ≡ read_layout (task_begun e p.client p.bytes (stream_at p.sub w.groups)) → length q.bytes.items ≡ length lent
    → q.bytes.items ≡ bytes_left e p.client (stream_at p.sub w.groups) (group_step e p.client p.sub p.bytes (group_of p.sub w.groups)).answer lent → AreWorld n new now (in_group e p w).world
world-asleep n old new calls now w e p lent q h stands asleep below places come lent_for set sub layout size bytes =
    let xs : List (List Member) = w.groups in
    let ys : List (List Member) = after-step e p.client p.sub p.bytes w.groups in
    let a : Answer = (group_step e p.client p.sub p.bytes (group_of p.sub w.groups)).answer in
    let s : Stream = stream_at p.sub xs in
    let t : Stream = stream_at p.sub ys in
    let p' : InProgress = continued e s a.frames p in
    let step : IsStepped e p.client p.bytes s a t = named-stepped old xs e p.client p.sub p.bytes h.placed h.entered in
    let like : IsLike p.client p.sub xs ys = like-after old xs e p.client p.sub p.bytes h.placed h.entered in
    let waits = asleep-waits e p s t a come step asleep in
    let at_all : SleepsAtAll e = sleeps-at-all e p.client p.bytes s (length a.frames) waits.0 waits.2 in
    let same : calls_after a.reply p' w.calls ≡ p' ∷ without_call p.client w.calls = ap (λ (r : Reply). calls_after r p' w.calls) asleep in
    let waiting : IsWaitingFor (task_of p' ys) t p' = subst (λ (o : Option Task). IsWaitingFor o t p') (sym waits.1) waits.3 in
    let on : q.layout ≡ read_layout (task_of p' ys) = layout ∙ sym (ap read_layout waits.1 ∙ layout-on (task_begun e p.client p.bytes s) (length a.frames) waits.0 waits.2) in
    let front : KeepsBytes q.layout s q.bytes.items p' = subst (λ (l : Option Layout). KeepsBytes l s q.bytes.items p') (sym layout) (bytes-kept e p s a lent q.bytes.items come at_all lent_for step.told set bytes) in
    let kept : IsKept ys q p.client p' = record { client = refl; sub = sub; layout = on; size = size ∙ lent_for.size; bytes = bytes-alike q.layout s t q.bytes.items p' (step.asleep asleep) front } in
    record {
      long_max = h.world.long_max;
      groups = stands;
      kept = subst (λ (ps : List InProgress). AreKept now ys ps) (sym same) (kept-asleep p.sub xs ys w.calls p' q calls now like h.world.agree h.world.kept places.others (places.caller below) kept);
      agree = subst (λ (ps : List InProgress). CallsAgree ys ps) (sym same) (agree-asleep p.sub xs ys w.calls p' refl below like h.world.agree h.alone waiting);
    }

-- ---- no memory: nothing was done

pub world-same : {C : Type 0} {g : Ghosts C} (n : ℕ) (old new : List (Group C g)) (calls now : List (Option Kept)) (w : World) → AreWorld n old calls w → GroupsStand new w.groups
    → ((k : ℕ) → k < 16 → slice_get now k ≡ slice_get calls k) → AreWorld n new now w
world-same n old new calls now w h stands same = record {
  long_max = h.long_max;
  groups = stands;
  kept = λ d b. subst (λ (o : Option (Option Kept)). IsCallOf w.groups d o (call_of d w.calls)) (sym (same d.0 b)) (h.kept d b);
  agree = h.agree;
}

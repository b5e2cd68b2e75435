-- What a step of one group leaves of the calls in progress of a world.
use Rattle.std.proofs.Common.{◌≡◌, ℕ, ◌+◌, ◌*◌, ◌/◌, ◌%◌, Bool, true, false, ◌&&◌, nat_eq, List, [], ◌++◌, length, Option, Some, None, refl, sym, ap, ◌∙◌, subst, arith, length-append}
use Rattle.std.proofs.lemmas.Bool.Decides.{nat_tests}
use Rattle.std.proofs.lemmas.List.{length-replicate}
use Rattle.std.proofs.lemmas.Nat.{div-add-mod'}
use Rattle.pcm_base.specs.declared.call.Call.{Call}
use Rattle.pcm_base.specs.declared.call.Call.TheVariants as call
use Rattle.pcm_base.specs.declared.card.Card.{Ghosts}
use Rattle.pcm_base.specs.declared.ids.ClientId.{ClientId}
use Rattle.pcm_base.specs.declared.ids.SubId.{SubId}
use Rattle.pcm_base.specs.declared.reply.Reply.{Reply}
use Rattle.pcm_base.specs.declared.reply.Reply.TheVariants as reply
use Rattle.pcm_base.specs.declared.sleeper.Task.{Task}
use Rattle.pcm_base.specs.declared.sleeper.Task.TheVariants as task
use Rattle.pcm_base.specs.declared.sleeper.Xfer.{Xfer}
use Rattle.pcm_base.specs.model.Events.{is_busy, waiting_of}
use Rattle.pcm_base.specs.model.Frame.{Frame}
use Rattle.pcm_base.specs.model.Group.{group_step, stream_of}
use Rattle.pcm_base.specs.model.Program.{Answer}
use Rattle.pcm_base.specs.model.Replay.{is_member}
use Rattle.pcm_base.specs.model.Stream.{Member, Setup, Stream}
use Rattle.pcm_base.specs.model.World.{InProgress, group_of, holds, kept_bytes, with_group}
use Rattle.pcm_laws.proofs.Steps.{subs-group_step}
use Rattle.pcm_group.specs.declared.group.Group.{Group}
use Rattle.pcm_world.specs.Calls.{IsTaskOf, IsWaitingFor, stream_at}
use Rattle.pcm_world.specs.Groups.{AreNumbers, GroupsStand, numbers_in}
use Rattle.pcm_world.specs.Waiting.{AreWritten, IsContinued, IsEntered, IsFurther, IsLeftWaiting, IsSameFrames, IsStepped, task_begun}
use Rattle.pcm_world.proofs.CallLemmas.{IsLike}
use Rattle.pcm_world.proofs.EventWalk.{IsAwake}
use Rattle.pcm_world.proofs.LawLemmas.{other_groups}
use Rattle.pcm_world.proofs.StandingLemmas.{group-distinct, group_of-member, group_of-with_member, holds-member}
use Rattle.pcm_world.proofs.StepLemmas.{calls-elsewhere, step-named}

-- ---- a step of one group

-- the groups stand for these, and the substream is declared
pub record IsPlaced {C : Type 0} {g : Ghosts C} (gs : List (Group C g)) (xs : List (List Member)) (k : SubId) : Type 0 where
  pub stands : GroupsStand gs xs
  pub numbers : AreNumbers (numbers_in gs)
  pub held : holds k (group_of k xs) ≡ true

abbrev pub after-step : Call → ClientId → SubId → List ℕ → List (List Member) → List (List Member)
after-step e c k io xs = with_group k (group_step e c k io (group_of k xs)).members xs

held-after : (e : Call) (c : ClientId) (k : SubId) (io : List ℕ) (ms : List Member) (j : SubId) → holds j (group_step e c k io ms).members ≡ holds j ms
held-after e c k io ms j = holds-member j (group_step e c k io ms).members ∙ ap (is_member j) (subs-group_step e c k io ms) ∙ sym (holds-member j ms)

-- the stream of a member of the group, and of any other
stream-member : {C : Type 0} {g : Ghosts C} (gs : List (Group C g)) (xs : List (List Member)) (e : Call) (c : ClientId) (k : SubId) (io : List ℕ) (j : SubId) → IsPlaced gs xs k → holds j (group_of k xs) ≡ true
    → (stream_at j (after-step e c k io xs) ≡ stream_of j (group_step e c k io (group_of k xs)).members) × (stream_at j xs ≡ stream_of j (group_of k xs))
stream-member gs xs e c k io j h m = (
  ap (stream_of j) (group_of-with_member gs xs j k (group_step e c k io (group_of k xs)).members h.numbers h.stands h.held m (held-after e c k io (group_of k xs) j ∙ m)),
  ap (stream_of j) (group_of-member gs xs j k h.numbers h.stands m),
)

stream-other : (xs : List (List Member)) (e : Call) (c : ClientId) (k : SubId) (io : List ℕ) (j : SubId) → holds j (group_of k xs) ≡ false → stream_at j (after-step e c k io xs) ≡ stream_at j xs
stream-other xs e c k io j m = ap (stream_of j) (other_groups k j (group_step e c k io (group_of k xs)).members xs m (held-after e c k io (group_of k xs) j ∙ m))

pub stream-named : {C : Type 0} {g : Ghosts C} (gs : List (Group C g)) (xs : List (List Member)) (e : Call) (c : ClientId) (k : SubId) (io : List ℕ) → IsPlaced gs xs k
    → stream_at k (after-step e c k io xs) ≡ stream_of k (group_step e c k io (group_of k xs)).members
stream-named gs xs e c k io h = (stream-member gs xs e c k io k h h.held).0

pub named-stepped : {C : Type 0} {g : Ghosts C} (gs : List (Group C g)) (xs : List (List Member)) (e : Call) (c : ClientId) (k : SubId) (io : List ℕ) → IsPlaced gs xs k → IsEntered e c io (stream_at k xs)
    → IsStepped e c io (stream_at k xs) (group_step e c k io (group_of k xs)).answer (stream_at k (after-step e c k io xs))
named-stepped gs xs e c k io h n =
    subst (λ (t : Stream). IsStepped e c io (stream_at k xs) (group_step e c k io (group_of k xs)).answer t) (sym (stream-named gs xs e c k io h))
    (step-named e c k io (group_of k xs) (group-distinct gs xs k h.numbers h.stands) (sym (holds-member k (group_of k xs)) ∙ h.held) n)

same_sub : (j k : SubId) → nat_eq j.0 k.0 ≡ true → j ≡ k
same_sub j k h = let e : j.0 ≡ k.0 = grind (arith, nat_tests, h) in ap (λ (n : ℕ). let i : SubId = record { 0 = n } in i) e

-- the other calls in progress are as they were
pub like-after : {C : Type 0} {g : Ghosts C} (gs : List (Group C g)) (xs : List (List Member)) (e : Call) (c : ClientId) (k : SubId) (io : List ℕ) → IsPlaced gs xs k → IsEntered e c io (stream_at k xs) → IsLike c k xs (after-step e c k io xs)
like-after gs xs e c k io h n = record {
  calls = λ d j other. by_calls d j other (holds j (group_of k xs)) refl (nat_eq j.0 k.0) refl;
  frames = λ j busy. by_frames j busy (holds j (group_of k xs)) refl (nat_eq j.0 k.0) refl;
}
  where
    own : IsStepped e c io (stream_at k xs) (group_step e c k io (group_of k xs)).answer (stream_at k (after-step e c k io xs))
    own = named-stepped gs xs e c k io h n

    elsewhere : (j : SubId) → nat_eq j.0 k.0 ≡ false
        → ((stream_of j (group_step e c k io (group_of k xs)).members).setup ≡ (stream_of j (group_of k xs)).setup) × ((stream_of j (group_step e c k io (group_of k xs)).members).sleepers ≡ (stream_of j (group_of k xs)).sleepers)
    elsewhere j f = calls-elsewhere e c k io (group_of k xs) (group-distinct gs xs k h.numbers h.stands) (sym (holds-member k (group_of k xs)) ∙ h.held) j f

    left : (a : Bool) → (a && true) ≡ false → a ≡ false
    left true q = q
    left false q = refl

    by_calls : (d : ClientId) (j : SubId) → (nat_eq d.0 c.0 && nat_eq j.0 k.0) ≡ false → (b : Bool) → holds j (group_of k xs) ≡ b → (t : Bool) → nat_eq j.0 k.0 ≡ t
        → waiting_of d (stream_at j (after-step e c k io xs)).sleepers ≡ waiting_of d (stream_at j xs).sleepers
    by_calls d j other false m t q = ap (λ (s : Stream). waiting_of d s.sleepers) (stream-other xs e c k io j m)
    by_calls d j other true m true q =
        let not_c : nat_eq d.0 c.0 ≡ false = left (nat_eq d.0 c.0) (ap (λ (b : Bool). nat_eq d.0 c.0 && b) (sym q) ∙ other) in
        ap (λ (i : SubId). waiting_of d (stream_at i (after-step e c k io xs)).sleepers) (same_sub j k q) ∙ own.others d not_c ∙ ap (λ (i : SubId). waiting_of d (stream_at i xs).sleepers) (sym (same_sub j k q))
    by_calls d j other true m false q =
        let s = stream-member gs xs e c k io j h m in
        ap (λ (s : Stream). waiting_of d s.sleepers) s.0 ∙ ap (waiting_of d) (elsewhere j q).1 ∙ ap (λ (s : Stream). waiting_of d s.sleepers) (sym s.1)

    by_frames : (j : SubId) → is_busy (stream_at j xs) ≡ true → (b : Bool) → holds j (group_of k xs) ≡ b → (t : Bool) → nat_eq j.0 k.0 ≡ t → IsSameFrames (stream_at j xs) (stream_at j (after-step e c k io xs))
    by_frames j busy false m t q =
        let s = stream-other xs e c k io j m in
        record { config = ap (λ (s : Stream). s.setup.config) s; frame_bytes = ap (λ (s : Stream). s.setup.frame_bytes) s }
    by_frames j busy true m true q =
        subst (λ (i : SubId). IsSameFrames (stream_at i xs) (stream_at i (after-step e c k io xs))) (sym (same_sub j k q)) (own.busy (ap (λ (i : SubId). is_busy (stream_at i xs)) (sym (same_sub j k q)) ∙ busy))
    by_frames j busy true m false q =
        let s = stream-member gs xs e c k io j h m in
        let same : (stream_at j (after-step e c k io xs)).setup ≡ (stream_at j xs).setup = ap (λ (s : Stream). s.setup) s.0 ∙ (elsewhere j q).0 ∙ ap (λ (s : Stream). s.setup) (sym s.1) in
        record { config = ap (λ (z : Setup). z.config) same; frame_bytes = ap (λ (z : Setup). z.frame_bytes) same }

-- ---- the caller

pub left-awake : (r : Reply) (begun : Option Task) (n : ℕ) (o : Option Task) → IsAwake r → IsLeftWaiting r begun n o → o ≡ None
left-awake reply.Ok begun n o w h = h
left-awake (reply.Frames m) begun n o w h = h
left-awake (reply.Moved m) begun n o w h = h
left-awake (reply.Delay m) begun n o w h = h
left-awake (reply.Ptrs p) begun n o w h = h
left-awake (reply.Poll p) begun n o w h = h
left-awake reply.Asleep begun n o w h = absurd w
left-awake (reply.Err e) begun n o w h = h
left-awake (reply.Late m) begun n o w h = h
left-awake reply.Idle begun n o w h = h
left-awake (reply.Limit m) begun n o w h = h
left-awake (reply.Busy c) begun n o w h = h
left-awake reply.Memory begun n o w h = h

-- what a call has come to before the step: one that begins has moved nothing
abbrev pub HasComeTo : Call → InProgress → Stream → Type 0
HasComeTo call.Go p s = IsWaitingFor (waiting_of p.client s.sleepers) s p
HasComeTo _ p s = p.frames ≡ []

-- the call as it is kept after the step of stream s, which moved these frames
abbrev pub continued : Call → Stream → List Frame → InProgress → InProgress
continued e s fs p = record p { bytes = kept_bytes e s p.bytes; frames = p.frames ++ fs }

task-further : (e : Call) (p : InProgress) (s t : Stream) (fs : List Frame) (y x : Xfer) → IsSameFrames s t → IsFurther y (length fs) x → y.moved ≡ length p.frames → length (kept_bytes e s p.bytes) ≡ (y.moved + y.rest) * s.setup.frame_bytes
    → (length (kept_bytes e s p.bytes) ≡ (x.moved + x.rest) * t.setup.frame_bytes) × (x.moved ≡ length (p.frames ++ fs))
task-further e p s t fs y x same h moved size = (
  size ∙ ap (λ (n : ℕ). n * s.setup.frame_bytes) (sym h.all) ∙ ap (λ (n : ℕ). (x.moved + x.rest) * n) (sym same.frame_bytes),
  omega (arith, h.moved, moved, length-append p.frames fs),
)

none-moved : (p : InProgress) → p.frames ≡ [] → 0 ≡ length p.frames
none-moved p h = sym (ap (λ (fs : List Frame). length fs) h)

whole-bytes : (size b : ℕ) → size % b ≡ 0 → size ≡ (0 + size / b) * b
whole-bytes size b h =
    let all : size ≡ b * (size / b) = omega (arith, div-add-mod' size b, h) in
    all ∙ (let swap : b * (size / b) ≡ (0 + size / b) * b = grind arith in swap)

-- what a caller that sleeps waits for is its own
pub asleep-task : (e : Call) (p : InProgress) (s t : Stream) (fs : List Frame) (q : Task) → HasComeTo e p s → AreWritten e p.bytes s → IsSameFrames s t → IsContinued (task_begun e p.client p.bytes s) (length fs) q → IsTaskOf q t (continued e s fs p)
asleep-task (call.Write w m) p s t fs (task.Transfer x v) come written same h =
    task-further (call.Write w m) p s t fs (record { writing = true; layout = w; mode = m; rest = length p.bytes / s.setup.frame_bytes; moved = 0 }) x same h (none-moved p come) (whole-bytes (length p.bytes) s.setup.frame_bytes written)
asleep-task (call.Write w m) p s t fs task.Drain come written same h = absurd h
asleep-task (call.Read w m n) p s t fs (task.Transfer x v) come written same h =
    task-further (call.Read w m n) p s t fs (record { writing = false; layout = w; mode = m; rest = n; moved = 0 }) x same h (none-moved p come)
    (length-replicate (n * s.setup.frame_bytes) 0 ∙ (let z : n * s.setup.frame_bytes ≡ (0 + n) * s.setup.frame_bytes = grind arith in z))
asleep-task (call.Read w m n) p s t fs task.Drain come written same h = absurd h
asleep-task (call.Drain m) p s t fs (task.Transfer x v) come written same h = absurd h
asleep-task (call.Drain m) p s t fs task.Drain come written same h = refl
asleep-task call.Go p s t fs q come written same h = by (waiting_of p.client s.sleepers) q come h
  where
    by : (o : Option Task) (q : Task) → IsWaitingFor o s p → IsContinued o (length fs) q → IsTaskOf q t (continued call.Go s fs p)
    by None q c h = absurd c
    by (Some (task.Transfer y v)) (task.Transfer x u) c h = task-further call.Go p s t fs y x same h c.1 c.0
    by (Some (task.Transfer y v)) task.Drain c h = absurd h
    by (Some task.Drain) (task.Transfer x u) c h = absurd h
    by (Some task.Drain) task.Drain c h = c
asleep-task call.OpenSub p s t fs q come written same h = absurd h
asleep-task call.CloseSub p s t fs q come written same h = absurd h
asleep-task (call.HwParams g) p s t fs q come written same h = absurd h
asleep-task call.HwFree p s t fs q come written same h = absurd h
asleep-task (call.SwParams w) p s t fs q come written same h = absurd h
asleep-task call.Prepare p s t fs q come written same h = absurd h
asleep-task call.Start p s t fs q come written same h = absurd h
asleep-task call.DropNow p s t fs q come written same h = absurd h
asleep-task call.PausePush p s t fs q come written same h = absurd h
asleep-task call.PauseRelease p s t fs q come written same h = absurd h
asleep-task call.Suspend p s t fs q come written same h = absurd h
asleep-task call.Resume p s t fs q come written same h = absurd h
asleep-task call.Xrun p s t fs q come written same h = absurd h
asleep-task (call.Rewind n) p s t fs q come written same h = absurd h
asleep-task (call.Forward n) p s t fs q come written same h = absurd h
asleep-task call.Hwsync p s t fs q come written same h = absurd h
asleep-task call.Delay p s t fs q come written same h = absurd h
asleep-task (call.SyncPtr v) p s t fs q come written same h = absurd h
asleep-task call.Status p s t fs q come written same h = absurd h
asleep-task call.PageNow p s t fs q come written same h = absurd h
asleep-task call.Poll p s t fs q come written same h = absurd h
asleep-task call.Map p s t fs q come written same h = absurd h
asleep-task call.Unmap p s t fs q come written same h = absurd h
asleep-task (call.Store o) p s t fs q come written same h = absurd h
asleep-task (call.Load o n) p s t fs q come written same h = absurd h
asleep-task (call.Link j) p s t fs q come written same h = absurd h
asleep-task call.Unlink p s t fs q come written same h = absurd h
asleep-task (call.MoveBy n) p s t fs q come written same h = absurd h
asleep-task call.Irq p s t fs q come written same h = absurd h
asleep-task (call.FailAt i) p s t fs q come written same h = absurd h
asleep-task call.Give p s t fs q come written same h = absurd h
asleep-task call.Unplug p s t fs q come written same h = absurd h

-- one that sleeps has a task
asleep-some : (o begun : Option Task) (n : ℕ) → IsLeftWaiting reply.Asleep begun n o → (q : Task) × (o ≡ Some q) × IsContinued begun n q
asleep-some None begun n h = absurd h
asleep-some (Some q) begun n h = (q, refl, h)

pub asleep-waits : (e : Call) (p : InProgress) (s t : Stream) (a : Answer) → HasComeTo e p s → IsStepped e p.client p.bytes s a t → a.reply ≡ reply.Asleep
    → (q : Task) × (waiting_of p.client t.sleepers ≡ Some q) × IsContinued (task_begun e p.client p.bytes s) (length a.frames) q × IsTaskOf q t (continued e s a.frames p)
asleep-waits e p s t a come h is =
    let left : IsLeftWaiting reply.Asleep (task_begun e p.client p.bytes s) (length a.frames) (waiting_of p.client t.sleepers) =
    subst (λ (r : Reply). IsLeftWaiting r (task_begun e p.client p.bytes s) (length a.frames) (waiting_of p.client t.sleepers)) is h.caller in
    let o : (q : Task) × (waiting_of p.client t.sleepers ≡ Some q) × IsContinued (task_begun e p.client p.bytes s) (length a.frames) q = asleep-some (waiting_of p.client t.sleepers) (task_begun e p.client p.bytes s) (length a.frames) left in
    (o.0, o.1, o.2, asleep-task e p s t a.frames o.0 come (h.written is) (h.asleep is) o.2)

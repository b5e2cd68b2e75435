-- The world before and after the step of a call that begins, or of an event of a card.
use Rattle.std.proofs.Common.{◌≡◌, ◌≢◌, ◌⊎◌, inl, inr, ℕ, ◌<◌, ◌≤◌, Bool, true, false, cond, not, ◌||◌, ◌&&◌, nat_eq, List, [], ◌∷◌, length, Option, Some, None, slice_get, refl, sym, ap, ◌∙◌, subst, arith}
use Rattle.std.proofs.lemmas.Bool.Decides.{nat_tests}
use Rattle.std.specs.Option.{ForSome, is_none}
use Rattle.std.specs.Prelude.{Vec}
use Rattle.pcm_base.specs.declared.call.Call.{Call}
use Rattle.pcm_base.specs.declared.call.Call.TheVariants as call
use Rattle.pcm_base.specs.declared.card.Card.{Ghosts}
use Rattle.pcm_base.specs.declared.config.Shape.{Shape}
use Rattle.pcm_base.specs.declared.ids.ClientId.{ClientId}
use Rattle.pcm_base.specs.declared.ids.SubId.{SubId}
use Rattle.pcm_base.specs.declared.reply.Reply.{Reply}
use Rattle.pcm_base.specs.declared.call.Layout.{Layout}
use Rattle.pcm_base.specs.declared.reply.Reply.TheVariants as reply
use Rattle.pcm_base.specs.declared.reply.Told.{Told as Shown}
use Rattle.pcm_base.specs.declared.sleeper.Task.{Task}
use Rattle.pcm_base.specs.model.Acts.{subs}
use Rattle.pcm_base.specs.model.Events.{opens, waiting_of}
use Rattle.pcm_base.specs.model.Group.{GroupStep, group_step, stream_of}
use Rattle.pcm_base.specs.model.Program.{Answer}
use Rattle.pcm_base.specs.model.Replay.{Distinct, is_member}
use Rattle.pcm_base.specs.model.Stream.{Member, Stream, is_bare}
use Rattle.pcm_base.specs.model.Words.{is_closed}
use Rattle.pcm_base.specs.model.World.{InProgress, World, begun, call_of, group_of, holds, in_group, is_go, nobody, told_bytes, with_group}
use Rattle.pcm_stream.specs.Wide.{PutsAreWide}
use Rattle.pcm_group.specs.Bytes.{bytes_left}
use Rattle.pcm_group.specs.Lent.{Loads, is_lent_call}
use Rattle.pcm_group.specs.Turn.{caller_of, is_card_event}
use Rattle.pcm_group.specs.Waiting.{is_its_own}
use Rattle.pcm_group.specs.declared.group.Group.{Group}
use Rattle.pcm_world.specs.declared.calls.Kept.{Kept}
use Rattle.pcm_world.specs.Answered.{bytes_told, is_asleep, shown_step}
use Rattle.pcm_world.specs.Bytes.{layout_begun, lent_bytes}
use Rattle.pcm_world.specs.Calls.{IsCallOf, read_layout, stream_at}
use Rattle.pcm_world.specs.Groups.{AreFreeFor, AreNumbers, GroupsStand, numbers_in}
use Rattle.pcm_world.specs.Shown.{is_by, is_frames, reads, slot_bytes}
use Rattle.pcm_world.specs.Stands.{AreWorld}
use Rattle.pcm_world.specs.Waiting.{HasOwnBytes, IsStepped, task_begun}
use Rattle.pcm_world.proofs.AnswerLemmas.{HasComeTo, after-step, asleep-waits, named-stepped}
use Rattle.pcm_world.proofs.BeginLemmas.{IsGiven, IsShapeAt, lent-program, read-let, step-same}
use Rattle.pcm_world.proofs.CallLemmas.{client-below, same_client}
use Rattle.pcm_world.proofs.EventWalk.{IsAwake}
use Rattle.pcm_world.proofs.ResultLemmas.{AreFirst, IsBegun, first-begun, read-lent, result-begun}
use Rattle.pcm_world.proofs.StandingLemmas.{IsFit, fit-at, group-distinct, group_of-member, holds-member}
use Rattle.pcm_world.proofs.WorldSteps.{ArePlacesOf, IsLentFor, IsReady, SleepsAtAll, asleep-or-awake, sleeps-at-all, world-asleep, world-awake}

-- ---- words

own-begun : (e : Call) (c : ClientId) (io : List ℕ) (s : Stream) → is_go e ≡ false → HasOwnBytes e c io s
own-begun call.OpenSub c io s h = tt
own-begun call.CloseSub c io s h = tt
own-begun (call.HwParams g) c io s h = tt
own-begun call.HwFree c io s h = tt
own-begun (call.SwParams w) c io s h = tt
own-begun call.Prepare c io s h = tt
own-begun call.Start c io s h = tt
own-begun call.DropNow c io s h = tt
own-begun (call.Drain m) c io s h = tt
own-begun call.PausePush c io s h = tt
own-begun call.PauseRelease c io s h = tt
own-begun call.Suspend c io s h = tt
own-begun call.Resume c io s h = tt
own-begun call.Xrun c io s h = tt
own-begun (call.Write w m) c io s h = tt
own-begun (call.Read w m n) c io s h = tt
own-begun (call.Rewind n) c io s h = tt
own-begun (call.Forward n) c io s h = tt
own-begun call.Hwsync c io s h = tt
own-begun call.Delay c io s h = tt
own-begun (call.SyncPtr v) c io s h = tt
own-begun call.Status c io s h = tt
own-begun call.PageNow c io s h = tt
own-begun call.Poll c io s h = tt
own-begun call.Map c io s h = tt
own-begun call.Unmap c io s h = tt
own-begun (call.Store o) c io s h = tt
own-begun (call.Load o n) c io s h = tt
own-begun (call.Link j) c io s h = tt
own-begun call.Unlink c io s h = tt
own-begun call.Go c io s h = absurd (let no : ⊥ = cc in no)
own-begun (call.MoveBy n) c io s h = tt
own-begun call.Irq c io s h = tt
own-begun (call.FailAt i) c io s h = tt
own-begun call.Give c io s h = tt
own-begun call.Unplug c io s h = tt

come-begun : (e : Call) (c : ClientId) (k : SubId) (io : List ℕ) (s : Stream) → is_go e ≡ false → HasComeTo e (begun c k io) s
come-begun call.OpenSub c k io s h = refl
come-begun call.CloseSub c k io s h = refl
come-begun (call.HwParams g) c k io s h = refl
come-begun call.HwFree c k io s h = refl
come-begun (call.SwParams w) c k io s h = refl
come-begun call.Prepare c k io s h = refl
come-begun call.Start c k io s h = refl
come-begun call.DropNow c k io s h = refl
come-begun (call.Drain m) c k io s h = refl
come-begun call.PausePush c k io s h = refl
come-begun call.PauseRelease c k io s h = refl
come-begun call.Suspend c k io s h = refl
come-begun call.Resume c k io s h = refl
come-begun call.Xrun c k io s h = refl
come-begun (call.Write w m) c k io s h = refl
come-begun (call.Read w m n) c k io s h = refl
come-begun (call.Rewind n) c k io s h = refl
come-begun (call.Forward n) c k io s h = refl
come-begun call.Hwsync c k io s h = refl
come-begun call.Delay c k io s h = refl
come-begun (call.SyncPtr v) c k io s h = refl
come-begun call.Status c k io s h = refl
come-begun call.PageNow c k io s h = refl
come-begun call.Poll c k io s h = refl
come-begun call.Map c k io s h = refl
come-begun call.Unmap c k io s h = refl
come-begun (call.Store o) c k io s h = refl
come-begun (call.Load o n) c k io s h = refl
come-begun (call.Link j) c k io s h = refl
come-begun call.Unlink c k io s h = refl
come-begun call.Go c k io s h = absurd (let no : ⊥ = cc in no)
come-begun (call.MoveBy n) c k io s h = refl
come-begun call.Irq c k io s h = refl
come-begun (call.FailAt i) c k io s h = refl
come-begun call.Give c k io s h = refl
come-begun call.Unplug c k io s h = refl

card-wakes : (e : Call) → is_card_event e ≡ true → SleepsAtAll e → ⊥
card-wakes call.OpenSub h q = absurd (let no : ⊥ = cc in no)
card-wakes call.CloseSub h q = absurd (let no : ⊥ = cc in no)
card-wakes (call.HwParams g) h q = absurd (let no : ⊥ = cc in no)
card-wakes call.HwFree h q = absurd (let no : ⊥ = cc in no)
card-wakes (call.SwParams w) h q = absurd (let no : ⊥ = cc in no)
card-wakes call.Prepare h q = absurd (let no : ⊥ = cc in no)
card-wakes call.Start h q = absurd (let no : ⊥ = cc in no)
card-wakes call.DropNow h q = absurd (let no : ⊥ = cc in no)
card-wakes (call.Drain m) h q = absurd (let no : ⊥ = cc in no)
card-wakes call.PausePush h q = absurd (let no : ⊥ = cc in no)
card-wakes call.PauseRelease h q = absurd (let no : ⊥ = cc in no)
card-wakes call.Suspend h q = absurd (let no : ⊥ = cc in no)
card-wakes call.Resume h q = absurd (let no : ⊥ = cc in no)
card-wakes call.Xrun h q = absurd (let no : ⊥ = cc in no)
card-wakes (call.Write w m) h q = absurd (let no : ⊥ = cc in no)
card-wakes (call.Read w m n) h q = absurd (let no : ⊥ = cc in no)
card-wakes (call.Rewind n) h q = absurd (let no : ⊥ = cc in no)
card-wakes (call.Forward n) h q = absurd (let no : ⊥ = cc in no)
card-wakes call.Hwsync h q = absurd (let no : ⊥ = cc in no)
card-wakes call.Delay h q = absurd (let no : ⊥ = cc in no)
card-wakes (call.SyncPtr v) h q = absurd (let no : ⊥ = cc in no)
card-wakes call.Status h q = absurd (let no : ⊥ = cc in no)
card-wakes call.PageNow h q = absurd (let no : ⊥ = cc in no)
card-wakes call.Poll h q = absurd (let no : ⊥ = cc in no)
card-wakes call.Map h q = absurd (let no : ⊥ = cc in no)
card-wakes call.Unmap h q = absurd (let no : ⊥ = cc in no)
card-wakes (call.Store o) h q = absurd (let no : ⊥ = cc in no)
card-wakes (call.Load o n) h q = absurd (let no : ⊥ = cc in no)
card-wakes (call.Link j) h q = absurd (let no : ⊥ = cc in no)
card-wakes call.Unlink h q = absurd (let no : ⊥ = cc in no)
card-wakes call.Go h q = absurd (let no : ⊥ = cc in no)
card-wakes (call.MoveBy n) h q = q
card-wakes call.Irq h q = q
card-wakes (call.FailAt i) h q = q
card-wakes call.Give h q = q
card-wakes call.Unplug h q = q

pub awake-not : (r : Reply) → IsAwake r → is_asleep r ≡ false
awake-not reply.Ok w = refl
awake-not (reply.Frames m) w = refl
awake-not (reply.Moved m) w = refl
awake-not (reply.Delay m) w = refl
awake-not (reply.Ptrs p) w = refl
awake-not (reply.Poll p) w = refl
awake-not reply.Asleep w = absurd w
awake-not (reply.Err e) w = refl
awake-not (reply.Late m) w = refl
awake-not reply.Idle w = refl
awake-not (reply.Limit m) w = refl
awake-not (reply.Busy c) w = refl
awake-not reply.Memory w = refl

-- ---- before the step

pub record IsBeginning {C : Type 0} {g : Ghosts C} (n : ℕ) (gs : List (Group C g)) (calls : List (Option Kept)) (w : World) (e : Call) (o : Option ClientId) (k : SubId) : Type 0 where
  pub world : AreWorld n gs calls w
  pub numbers : AreNumbers (numbers_in gs)
  pub held : holds k (group_of k w.groups) ≡ true
  pub begins : is_go e ≡ false
  pub card : is_card_event e ≡ is_none o
  pub client : ForSome o (λ c. c.0 ≤ 15)
  pub opened : (is_closed (stream_at k w.groups).state && not (opens e)) ≡ false
  pub idle : ForSome o (λ c. slice_get calls c.0 ≡ Some None)

no-call : (xs : List (List Member)) (c : ClientId) (o : Option (Option Kept)) (q : Option InProgress) → IsCallOf xs c o q → o ≡ Some None → q ≡ None
no-call xs c (Some (Some k)) (Some p) h e = absurd (let no : ⊥ = cc in no)
no-call xs c (Some None) None h e = refl
no-call xs c None None h e = refl
no-call xs c None (Some p) h e = absurd h
no-call xs c (Some None) (Some p) h e = absurd h
no-call xs c (Some (Some k)) None h e = refl

uncalled : {C : Type 0} {g : Ghosts C} (n : ℕ) (gs : List (Group C g)) (calls : List (Option Kept)) (w : World) (e : Call) (o : Option ClientId) (k : SubId) → IsBeginning n gs calls w e o k → call_of (caller_of o) w.calls ≡ None
uncalled n gs calls w e (Some c) k h = no-call w.groups c (slice_get calls c.0) (call_of c w.calls) (h.world.kept c (let b : c.0 ≤ 15 = h.client c refl in omega (arith, b))) (h.idle c refl)
uncalled n gs calls w e None k h = by (call_of nobody w.calls) refl
  where
    by : (q : Option InProgress) → call_of nobody w.calls ≡ q → q ≡ None
    by None f = refl
    by (Some p) f = absurd (let b : 16 < 16 = client-below nobody w.calls p h.world.agree.apart f in let no : ⊥ = omega (arith, b) in no)

pub waits-nowhere : {C : Type 0} {g : Ghosts C} (n : ℕ) (gs : List (Group C g)) (calls : List (Option Kept)) (w : World) (e : Call) (o : Option ClientId) (k : SubId) → IsBeginning n gs calls w e o k
    → (j : SubId) → waiting_of (caller_of o) (stream_at j w.groups).sleepers ≡ None
waits-nowhere n gs calls w e o k h j = by (waiting_of (caller_of o) (stream_at j w.groups).sleepers) refl
  where
    by : (t : Option Task) → waiting_of (caller_of o) (stream_at j w.groups).sleepers ≡ t → t ≡ None
    by None f = refl
    by (Some t) f = absurd (
        let m : (p : InProgress) × (call_of (caller_of o) w.calls ≡ Some p) × (p.sub.0 ≡ j.0) = h.world.agree.made (caller_of o) j (λ z. let two : Some t ≡ None = sym f ∙ z in let no : ⊥ = cc in no) in
        let two : None ≡ Some m.0 = sym (uncalled n gs calls w e o k h) ∙ m.1 in
        let no : ⊥ = cc in no)

pub begun-ready : {C : Type 0} {g : Ghosts C} (n : ℕ) (gs : List (Group C g)) (calls : List (Option Kept)) (w : World) (e : Call) (o : Option ClientId) (k : SubId) (io : List ℕ) → IsBeginning n gs calls w e o k
    → IsReady n gs calls w e (begun (caller_of o) k io)
begun-ready n gs calls w e o k io h =
    let fit : IsFit (stream_at k w.groups) = fit-at gs w.groups k h.world.groups in
    record {
      world = h.world;
      placed = record { stands = h.world.groups; numbers = h.numbers; held = h.held };
      entered = record {
        opened = h.opened;
        distinct = fit.distinct;
        free = λ _. waits-nowhere n gs calls w e o k h k;
        own = own-begun e (caller_of o) io (stream_at k w.groups) h.begins;
        puts = λ z. subst (λ (b : ℕ). PutsAreWide b (stream_at k w.groups).puts) (sym (fit.runs z).1.setup.frame_bytes) (fit.runs z).1.frames.puts;
      };
      alone = λ j _. waits-nowhere n gs calls w e o k h j;
    }

-- each member of a group, where no number comes twice
pub free-all : (e : Call) (k : SubId) (c : ClientId) (ms : List Member) → Distinct (subs ms) → ((j : SubId) → holds j ms ≡ true → is_its_own e k j ≡ false → waiting_of c (stream_of j ms).sleepers ≡ None) → AreFreeFor e k c ms
free-all e k c [] d f = tt
free-all e k c (m ∷ ms) d f = (λ own. here own, free-all e k c ms d.1 later)
  where
    self : nat_eq m.sub.0 m.sub.0 ≡ true
    self = grind (arith, nat_tests)

    here : is_its_own e k m.sub ≡ false → waiting_of c m.stream.sleepers ≡ None
    here own = sym (ap (λ (b : Bool). waiting_of c (cond b m.stream (stream_of m.sub ms)).sleepers) self) ∙ f m.sub (ap (λ (b : Bool). b || holds m.sub ms) self) own

    other : (j : SubId) → holds j ms ≡ true → nat_eq m.sub.0 j.0 ≡ false
    other j held = by (nat_eq m.sub.0 j.0) refl
      where
        by : (b : Bool) → nat_eq m.sub.0 j.0 ≡ b → b ≡ false
        by false e = refl
        by true e = absurd (
            let same : m.sub ≡ j = same_number m.sub j e in
            let in_it : is_member m.sub (subs ms) ≡ true = ap (λ (i : SubId). is_member i (subs ms)) same ∙ sym (holds-member j ms) ∙ held in
            let two : true ≡ false = sym in_it ∙ d.0 in let no : ⊥ = cc in no)
          where
            same_number : (j k : SubId) → nat_eq j.0 k.0 ≡ true → j ≡ k
            same_number j k h = let e : j.0 ≡ k.0 = grind (arith, nat_tests, h) in ap (λ (n : ℕ). let i : SubId = record { 0 = n } in i) e

    later : (j : SubId) → holds j ms ≡ true → is_its_own e k j ≡ false → waiting_of c (stream_of j ms).sleepers ≡ None
    later j held own =
        sym (ap (λ (b : Bool). waiting_of c (cond b m.stream (stream_of j ms)).sleepers) (other j held)) ∙ f j (ap (λ (b : Bool). b || holds j ms) (other j held) ∙ held) own

pub begun-free : {C : Type 0} {g : Ghosts C} (n : ℕ) (gs : List (Group C g)) (calls : List (Option Kept)) (w : World) (e : Call) (o : Option ClientId) (k : SubId) → IsBeginning n gs calls w e o k
    → AreFreeFor e k (caller_of o) (group_of k w.groups)
begun-free n gs calls w e o k h = free-all e k (caller_of o) (group_of k w.groups) (group-distinct gs w.groups k h.numbers h.world.groups)
    (λ j held own. sym (ap (λ (l : List Member). waiting_of (caller_of o) (stream_of j l).sleepers) (group_of-member gs w.groups j k h.numbers h.world.groups held)) ∙ waits-nowhere n gs calls w e o k h j)

-- ---- after it

-- what is left in the clients' places
pub record IsEndOf (o : Option ClientId) (r : Reply) (q : Kept) (calls now : List (Option Kept)) : Type 0 where
  pub call : ForSome o (λ c. slice_get now c.0 ≡ cond (is_asleep r) (Some (Some q)) (slice_get calls c.0))
  pub others : (i : ℕ) → ForSome o (λ c. i ≢ c.0) → slice_get now i ≡ slice_get calls i

number-differs : (a b : ℕ) → nat_eq a b ≡ false → a ≢ b
number-differs a b h e = let no : ⊥ = grind (arith, nat_tests, h, e) in no

places-awake : (o : Option ClientId) (r : Reply) (q : Kept) (calls now : List (Option Kept)) → IsEndOf o r q calls now → IsAwake r → ForSome o (λ c. slice_get calls c.0 ≡ Some None) → ArePlacesOf (caller_of o) None calls now
places-awake None r q calls now h w idle = record { others = λ d n. h.others d.0 (λ c z. absurd (let no : ⊥ = cc in no)); caller = λ b. absurd (let no : ⊥ = omega (arith, b) in no) }
places-awake (Some c) r q calls now h w idle = record {
  others = λ d n. h.others d.0 (λ x z. let same : c ≡ x = cc in subst (λ (y : ClientId). d.0 ≢ y.0) same (number-differs d.0 c.0 n));
  caller = λ b. h.call c refl ∙ ap (λ (b : Bool). cond b (Some (Some q)) (slice_get calls c.0)) (awake-not r w) ∙ idle c refl;
}

places-asleep : (c : ClientId) (r : Reply) (q : Kept) (calls now : List (Option Kept)) → IsEndOf (Some c) r q calls now → r ≡ reply.Asleep → ArePlacesOf c (Some q) calls now
places-asleep c r q calls now h is = record {
  others = λ d n. h.others d.0 (λ x z. let same : c ≡ x = cc in subst (λ (y : ClientId). d.0 ≢ y.0) same (number-differs d.0 c.0 n));
  caller = λ b. h.call c refl ∙ ap (λ (s : Reply). cond (is_asleep s) (Some (Some q)) (slice_get calls c.0)) is;
}

-- what a step that began was lent, and what it left
pub record IsBegunStep {C : Type 0} {g : Ghosts C} (n : ℕ) (old new : List (Group C g)) (calls now : List (Option Kept)) (w : World) (e : Call) (o : Option ClientId) (k : SubId) (shape : Option Shape) (io : List ℕ) (q : Kept) : Type 0 where
  pub before : IsBeginning n old calls w e o k
  pub shaped : IsShapeAt shape (stream_at k w.groups)
  pub stands : GroupsStand new (after-step e (caller_of o) k io w.groups)
  pub ends : IsEndOf o (group_step e (caller_of o) k io (group_of k w.groups)).answer.reply q calls now
  pub sub : q.sub ≡ k
  pub layout : q.layout ≡ layout_begun e
  pub size : length q.bytes.items ≡ length (lent_bytes e shape io)
  pub left : is_lent_call e ≡ false → q.bytes.items ≡ bytes_left e (caller_of o) (stream_at k w.groups) (group_step e (caller_of o) k io (group_of k w.groups)).answer (lent_bytes e shape io)
  pub loaded : Loads e (stream_at k w.groups) (group_step e (caller_of o) k io (group_of k w.groups)).answer.reply (lent_bytes e shape io) q.bytes.items

-- the bytes that are lent to a call that sleeps
lent-asleep : (e : Call) (c : ClientId) (k : SubId) (shape : Option Shape) (io : List ℕ) (ms : List Member) → SleepsAtAll e → is_go e ≡ false → IsFit (stream_of k ms) → IsShapeAt shape (stream_of k ms)
    → (is_closed (stream_of k ms).state && not (opens e)) ≡ false → IsGiven (group_step e c k io ms).answer.reply
    → IsLentFor e (begun c k io) (stream_of k ms) (lent_bytes e shape io) × (read_layout (task_begun e c io (stream_of k ms)) ≢ None → is_bare (stream_of k ms) ≡ false) × (layout_begun e ≡ read_layout (task_begun e c io (stream_of k ms))) × (is_lent_call e ≡ false)
lent-asleep (call.Write w m) c k shape io ms at go fit shaped opened given = (record { size = refl; bytes = refl; runs = fit.runs }, (λ z. absurd (z refl)), refl, refl)
lent-asleep (call.Read w m n) c k shape io ms at go fit shaped opened given =
    let q = read-let c k w m n io ms opened given in
    (read-lent c k w m n shape io (stream_of k ms) fit shaped q.0 q.1, (λ z. q.0), refl, refl)
lent-asleep (call.Drain m) c k shape io ms at go fit shaped opened given = (record { size = refl; bytes = refl; runs = fit.runs }, (λ z. absurd (z refl)), refl, refl)
lent-asleep call.Go c k shape io ms at go fit shaped opened given = absurd (let no : ⊥ = cc in no)
lent-asleep call.OpenSub c k shape io ms at go fit shaped opened given = absurd at
lent-asleep call.CloseSub c k shape io ms at go fit shaped opened given = absurd at
lent-asleep (call.HwParams g) c k shape io ms at go fit shaped opened given = absurd at
lent-asleep call.HwFree c k shape io ms at go fit shaped opened given = absurd at
lent-asleep (call.SwParams w) c k shape io ms at go fit shaped opened given = absurd at
lent-asleep call.Prepare c k shape io ms at go fit shaped opened given = absurd at
lent-asleep call.Start c k shape io ms at go fit shaped opened given = absurd at
lent-asleep call.DropNow c k shape io ms at go fit shaped opened given = absurd at
lent-asleep call.PausePush c k shape io ms at go fit shaped opened given = absurd at
lent-asleep call.PauseRelease c k shape io ms at go fit shaped opened given = absurd at
lent-asleep call.Suspend c k shape io ms at go fit shaped opened given = absurd at
lent-asleep call.Resume c k shape io ms at go fit shaped opened given = absurd at
lent-asleep call.Xrun c k shape io ms at go fit shaped opened given = absurd at
lent-asleep (call.Rewind n) c k shape io ms at go fit shaped opened given = absurd at
lent-asleep (call.Forward n) c k shape io ms at go fit shaped opened given = absurd at
lent-asleep call.Hwsync c k shape io ms at go fit shaped opened given = absurd at
lent-asleep call.Delay c k shape io ms at go fit shaped opened given = absurd at
lent-asleep (call.SyncPtr v) c k shape io ms at go fit shaped opened given = absurd at
lent-asleep call.Status c k shape io ms at go fit shaped opened given = absurd at
lent-asleep call.PageNow c k shape io ms at go fit shaped opened given = absurd at
lent-asleep call.Poll c k shape io ms at go fit shaped opened given = absurd at
lent-asleep call.Map c k shape io ms at go fit shaped opened given = absurd at
lent-asleep call.Unmap c k shape io ms at go fit shaped opened given = absurd at
lent-asleep (call.Store o) c k shape io ms at go fit shaped opened given = absurd at
lent-asleep (call.Load o n) c k shape io ms at go fit shaped opened given = absurd at
lent-asleep (call.Link j) c k shape io ms at go fit shaped opened given = absurd at
lent-asleep call.Unlink c k shape io ms at go fit shaped opened given = absurd at
lent-asleep (call.MoveBy n) c k shape io ms at go fit shaped opened given = absurd at
lent-asleep call.Irq c k shape io ms at go fit shaped opened given = absurd at
lent-asleep (call.FailAt i) c k shape io ms at go fit shaped opened given = absurd at
lent-asleep call.Give c k shape io ms at go fit shaped opened given = absurd at
lent-asleep call.Unplug c k shape io ms at go fit shaped opened given = absurd at

asleep-world : {C : Type 0} {g : Ghosts C} (n : ℕ) (old new : List (Group C g)) (calls now : List (Option Kept)) (w : World) (e : Call) (o : Option ClientId) (k : SubId) (shape : Option Shape) (io : List ℕ) (q : Kept)
    → IsBegunStep n old new calls now w e o k shape io q → (group_step e (caller_of o) k io (group_of k w.groups)).answer.reply ≡ reply.Asleep → AreWorld n new now (in_group e (begun (caller_of o) k io) w).world
asleep-world n old new calls now w e None k shape io q h is =
    let ready = begun-ready n old calls w e None k io h.before in
    let step = named-stepped old w.groups e nobody k io ready.placed ready.entered in
    let waits = asleep-waits e (begun nobody k io) (stream_at k w.groups) (stream_at k (after-step e nobody k io w.groups)) (group_step e nobody k io (group_of k w.groups)).answer (come-begun e nobody k io (stream_at k w.groups) h.before.begins) step is in
    absurd (card-wakes e h.before.card (sleeps-at-all e nobody io (stream_at k w.groups) (length (group_step e nobody k io (group_of k w.groups)).answer.frames) waits.0 waits.2))
asleep-world n old new calls now w e (Some c) k shape io q h is =
    let p : InProgress = begun c k io in
    let s : Stream = stream_at k w.groups in
    let a : Answer = (group_step e c k io (group_of k w.groups)).answer in
    let ready : IsReady n old calls w e p = begun-ready n old calls w e (Some c) k io h.before in
    let come : HasComeTo e p s = come-begun e c k io s h.before.begins in
    let step : IsStepped e c io s a (stream_at k (after-step e c k io w.groups)) = named-stepped old w.groups e c k io ready.placed ready.entered in
    let waits = asleep-waits e p s (stream_at k (after-step e c k io w.groups)) a come step is in
    let at : SleepsAtAll e = sleeps-at-all e c io s (length a.frames) waits.0 waits.2 in
    let below : c.0 < 16 = (let b : c.0 ≤ 15 = h.before.client c refl in omega (arith, b)) in
    let lent = lent-asleep e c k shape io (group_of k w.groups) at h.before.begins (fit-at old w.groups k h.before.world.groups) h.shaped h.before.opened (subst IsGiven (sym is) tt) in
    world-asleep n old new calls now w e p (lent_bytes e shape io) q ready h.stands is below (places-asleep c a.reply q calls now h.ends is) come lent.0 lent.1 h.sub (h.layout ∙ lent.2) h.size (h.left lent.3)

pub begun-world : {C : Type 0} {g : Ghosts C} (n : ℕ) (old new : List (Group C g)) (calls now : List (Option Kept)) (w : World) (e : Call) (o : Option ClientId) (k : SubId) (shape : Option Shape) (io : List ℕ) (q : Kept)
    → IsBegunStep n old new calls now w e o k shape io q → AreWorld n new now (in_group e (begun (caller_of o) k io) w).world
begun-world n old new calls now w e o k shape io q h = elim (asleep-or-awake (group_step e (caller_of o) k io (group_of k w.groups)).answer.reply) [
  | inr awake ↦ world-awake n old new calls now w e (begun (caller_of o) k io) (begun-ready n old calls w e o k io h.before) h.stands awake
      (places-awake o (group_step e (caller_of o) k io (group_of k w.groups)).answer.reply q calls now h.ends awake h.before.idle)
  | inl is ↦ asleep-world n old new calls now w e o k shape io q h is
]

-- what each client has read
pub record AreResults {Z : Type 0} (o : Option ClientId) (r : Reply) (q : Kept) (shape : Option Shape) (results now : List (Option (Vec ℕ Z))) : Type 0 where
  pub own : ForSome o (λ c. slot_bytes (slice_get now c.0) ≡ bytes_told r q.layout shape q.bytes.items (slot_bytes (slice_get results c.0)))
  pub others : (i : ℕ) → ForSome o (λ c. i ≢ c.0) → slice_get now i ≡ slice_get results i

-- by what the caller is to have read
pub results-by : {Z : Type 0} (o : Option ClientId) (r : Reply) (q : Kept) (shape : Option Shape) (results now : List (Option (Vec ℕ Z))) (given : Bool) (told : List ℕ) → AreResults o r q shape results now
    → ForSome o (λ c. bytes_told r q.layout shape q.bytes.items (slot_bytes (slice_get results c.0)) ≡ cond given told (slot_bytes (slice_get results c.0)))
    → (d : ClientId) → slot_bytes (slice_get now d.0) ≡ cond (is_by d o && given) told (slot_bytes (slice_get results d.0))
results-by None r q shape results now given told h f d = ap slot_bytes (h.others d.0 (λ c z. absurd (let no : ⊥ = cc in no)))
results-by {Z = Z} (Some c) r q shape results now given told h f d = by (nat_eq c.0 d.0) refl
  where
    by : (b : Bool) → nat_eq c.0 d.0 ≡ b → slot_bytes (slice_get now d.0) ≡ cond (b && given) told (slot_bytes (slice_get results d.0))
    by false e = ap slot_bytes (h.others d.0 (λ x z. let same : c ≡ x = cc in subst (λ (y : ClientId). d.0 ≢ y.0) same (λ q. let no : ⊥ = grind (arith, nat_tests, e, q) in no)))
    by true e = subst (λ (x : ClientId). slot_bytes (slice_get now x.0) ≡ cond given told (slot_bytes (slice_get results x.0))) (same_client c d e) (h.own c refl ∙ f c refl)

pub begun-begun : {C : Type 0} {g : Ghosts C} (n : ℕ) (old new : List (Group C g)) (calls now : List (Option Kept)) (w : World) (e : Call) (o : Option ClientId) (k : SubId) (shape : Option Shape) (io : List ℕ) (q : Kept)
    → IsBegunStep n old new calls now w e o k shape io q → IsBegun e (caller_of o) k shape io q.bytes.items (group_of k w.groups)
begun-begun n old new calls now w e o k shape io q h =
    let ready = begun-ready n old calls w e o k io h.before in
    record {
      begins = h.before.begins;
      opened = h.before.opened;
      fit = fit-at old w.groups k h.before.world.groups;
      shaped = h.shaped;
      told = (named-stepped old w.groups e (caller_of o) k io ready.placed ready.entered).told;
      size = h.size;
      left = h.left;
      loaded = h.loaded;
    }

-- whether a call that begins reads hangs on no client
reads-any : (e : Call) (c d : ClientId) (w : World) → is_go e ≡ false → reads e c w ≡ reads e d w
reads-any call.OpenSub c d w h = refl
reads-any call.CloseSub c d w h = refl
reads-any (call.HwParams g) c d w h = refl
reads-any call.HwFree c d w h = refl
reads-any (call.SwParams v) c d w h = refl
reads-any call.Prepare c d w h = refl
reads-any call.Start c d w h = refl
reads-any call.DropNow c d w h = refl
reads-any (call.Drain m) c d w h = refl
reads-any call.PausePush c d w h = refl
reads-any call.PauseRelease c d w h = refl
reads-any call.Suspend c d w h = refl
reads-any call.Resume c d w h = refl
reads-any call.Xrun c d w h = refl
reads-any (call.Write v m) c d w h = refl
reads-any (call.Read v m n) c d w h = refl
reads-any (call.Rewind n) c d w h = refl
reads-any (call.Forward n) c d w h = refl
reads-any call.Hwsync c d w h = refl
reads-any call.Delay c d w h = refl
reads-any (call.SyncPtr v) c d w h = refl
reads-any call.Status c d w h = refl
reads-any call.PageNow c d w h = refl
reads-any call.Poll c d w h = refl
reads-any call.Map c d w h = refl
reads-any call.Unmap c d w h = refl
reads-any (call.Store o) c d w h = refl
reads-any (call.Load o n) c d w h = refl
reads-any (call.Link j) c d w h = refl
reads-any call.Unlink c d w h = refl
reads-any call.Go c d w h = absurd (let no : ⊥ = cc in no)
reads-any (call.MoveBy n) c d w h = refl
reads-any call.Irq c d w h = refl
reads-any (call.FailAt i) c d w h = refl
reads-any call.Give c d w h = refl
reads-any call.Unplug c d w h = refl

pub begun-result : {C : Type 0} {g : Ghosts C} {Z : Type 0} (n : ℕ) (old new : List (Group C g)) (calls now : List (Option Kept)) (w : World) (e : Call) (o : Option ClientId) (k : SubId) (shape : Option Shape) (io : List ℕ) (q : Kept) (results told : List (Option (Vec ℕ Z)))
    → IsBegunStep n old new calls now w e o k shape io q → AreResults o (group_step e (caller_of o) k io (group_of k w.groups)).answer.reply q shape results told
    → (d : ClientId) → slot_bytes (slice_get told d.0)
    ≡ cond (is_by d o && (reads e d w && is_frames (group_step e (caller_of o) k io (group_of k w.groups)).answer.reply))
    (told_bytes e (caller_of o) (group_step e (caller_of o) k io (group_of k w.groups)).answer.reply (stream_at k w.groups) [] (group_step e (caller_of o) k io (group_of k w.groups)).answer.frames) (slot_bytes (slice_get results d.0))
begun-result n old new calls now w e o k shape io q results told h ends d =
    results-by o (group_step e (caller_of o) k io (group_of k w.groups)).answer.reply q shape results told
    (reads e d w && is_frames (group_step e (caller_of o) k io (group_of k w.groups)).answer.reply)
    (told_bytes e (caller_of o) (group_step e (caller_of o) k io (group_of k w.groups)).answer.reply (stream_at k w.groups) [] (group_step e (caller_of o) k io (group_of k w.groups)).answer.frames) ends
    (λ c z. own c z) d
  where
    own : (c : ClientId) → o ≡ Some c → bytes_told (group_step e (caller_of o) k io (group_of k w.groups)).answer.reply q.layout shape q.bytes.items (slot_bytes (slice_get results c.0))
        ≡ cond (reads e d w && is_frames (group_step e (caller_of o) k io (group_of k w.groups)).answer.reply)
        (told_bytes e (caller_of o) (group_step e (caller_of o) k io (group_of k w.groups)).answer.reply (stream_at k w.groups) [] (group_step e (caller_of o) k io (group_of k w.groups)).answer.frames) (slot_bytes (slice_get results c.0))
    own c z =
        ap (λ l. bytes_told (group_step e (caller_of o) k io (group_of k w.groups)).answer.reply l shape q.bytes.items (slot_bytes (slice_get results c.0))) h.layout
        ∙ result-begun e (caller_of o) k shape io q.bytes.items (slot_bytes (slice_get results c.0)) (group_of k w.groups) w (begun-begun n old new calls now w e o k shape io q h)
        ∙ ap (λ (b : Bool). cond (b && is_frames (group_step e (caller_of o) k io (group_of k w.groups)).answer.reply)
        (told_bytes e (caller_of o) (group_step e (caller_of o) k io (group_of k w.groups)).answer.reply (stream_at k w.groups) [] (group_step e (caller_of o) k io (group_of k w.groups)).answer.frames) (slot_bytes (slice_get results c.0)))
        (reads-any e (caller_of o) d w h.before.begins)

-- ---- what the code does

-- a step that was lent these bytes, before what is left of its call
pub record IsLentStep {C : Type 0} {g : Ghosts C} (n : ℕ) (old new : List (Group C g)) (calls : List (Option Kept)) (w : World) (e : Call) (o : Option ClientId) (k : SubId) (shape : Option Shape) (io lent left : List ℕ) (r : Shown) : Type 0 where
  pub before : IsBeginning n old calls w e o k
  pub shaped : IsShapeAt shape (stream_at k w.groups)
  pub is_lent : lent ≡ lent_bytes e shape io
  pub told : r ≡ shown_step k (group_step e (caller_of o) k lent (group_of k w.groups))
  pub stands : GroupsStand new (after-step e (caller_of o) k lent w.groups)
  pub size : length left ≡ length lent
  pub bytes : is_lent_call e ≡ false → left ≡ bytes_left e (caller_of o) (stream_at k w.groups) (group_step e (caller_of o) k lent (group_of k w.groups)).answer lent
  pub loaded : Loads e (stream_at k w.groups) r.reply lent left

module _ {C : Type 0} {g : Ghosts C} (n : ℕ) (old new : List (Group C g)) (calls : List (Option Kept)) (w : World) (e : Call) (o : Option ClientId) (k : SubId) (shape : Option Shape) (io lent left : List ℕ) (r : Shown)
    (h : IsLentStep n old new calls w e o k shape io lent left r) where
  lent-same : group_step e (caller_of o) k lent (group_of k w.groups) ≡ group_step e (caller_of o) k io (group_of k w.groups)
  lent-same =
      ap (λ (b : List ℕ). group_step e (caller_of o) k b (group_of k w.groups)) h.is_lent
      ∙ step-same e (caller_of o) k io (lent_bytes e shape io) (group_of k w.groups) (λ l. lent-program e (caller_of o) l shape io (stream_at k w.groups))

  pub lent-told : r ≡ shown_step k (group_step e (caller_of o) k io (group_of k w.groups))
  lent-told = h.told ∙ ap (shown_step k) lent-same

  lent-reply : r.reply ≡ (group_step e (caller_of o) k io (group_of k w.groups)).answer.reply
  lent-reply = ap (λ (t : Shown). t.reply) lent-told

  lent-size : length left ≡ length (lent_bytes e shape io)
  lent-size = h.size ∙ ap (λ (b : List ℕ). length b) h.is_lent

  lent-left : is_lent_call e ≡ false → left ≡ bytes_left e (caller_of o) (stream_at k w.groups) (group_step e (caller_of o) k io (group_of k w.groups)).answer (lent_bytes e shape io)
  lent-left = λ z. h.bytes z ∙ ap (λ (q : GroupStep). bytes_left e (caller_of o) (stream_at k w.groups) q.answer lent) lent-same
      ∙ ap (λ (b : List ℕ). bytes_left e (caller_of o) (stream_at k w.groups) (group_step e (caller_of o) k io (group_of k w.groups)).answer b) h.is_lent

  lent-loaded : Loads e (stream_at k w.groups) (group_step e (caller_of o) k io (group_of k w.groups)).answer.reply (lent_bytes e shape io) left
  lent-loaded = subst (λ (q : Reply). Loads e (stream_at k w.groups) q (lent_bytes e shape io) left) lent-reply (subst (λ (b : List ℕ). Loads e (stream_at k w.groups) r.reply b left) h.is_lent h.loaded)

  pub lent-begun : IsBegun e (caller_of o) k shape io left (group_of k w.groups)
  lent-begun =
      let ready = begun-ready n old calls w e o k io h.before in
      record {
        begins = h.before.begins;
        opened = h.before.opened;
        fit = fit-at old w.groups k h.before.world.groups;
        shaped = h.shaped;
        told = (named-stepped old w.groups e (caller_of o) k io ready.placed ready.entered).told;
        size = lent-size;
        left = lent-left;
        loaded = lent-loaded;
      }

  pub lent-first : (z : Shape) (l : Layout) (t : ℕ) → shape ≡ Some z → layout_begun e ≡ Some l → r.reply ≡ reply.Frames t → AreFirst z t left
  lent-first = λ z l t of lay is. first-begun e (caller_of o) k shape io left (group_of k w.groups) lent-begun z l t of lay (sym lent-reply ∙ is)

  pub lent-step : (q : Kept) (now : List (Option Kept)) → q.sub ≡ k → q.layout ≡ layout_begun e → q.bytes.items ≡ left → IsEndOf o r.reply q calls now → IsBegunStep n old new calls now w e o k shape io q
  lent-step = λ q now sub lay is ends. record {
    before = h.before;
    shaped = h.shaped;
    stands = subst (λ (s : GroupStep). GroupsStand new (with_group k s.members w.groups)) lent-same h.stands;
    ends = subst (λ (s : Reply). IsEndOf o s q calls now) lent-reply ends;
    sub = sub;
    layout = lay;
    size = ap (λ (b : List ℕ). length b) is ∙ lent-size;
    left = λ z. is ∙ lent-left z;
    loaded = subst (λ (b : List ℕ). Loads e (stream_at k w.groups) (group_step e (caller_of o) k io (group_of k w.groups)).answer.reply (lent_bytes e shape io) b) (sym is) lent-loaded;
  }

  pub lent-results : {Z : Type 0} (q : Kept) (results now : List (Option (Vec ℕ Z))) → AreResults o r.reply q shape results now → AreResults o (group_step e (caller_of o) k io (group_of k w.groups)).answer.reply q shape results now
  lent-results {Z} = λ q results now ends. subst (λ (s : Reply). AreResults o s q shape results now) lent-reply ends

pub memory-or-not : (r : Reply) → (r ≡ reply.Memory) ⊎ (r ≢ reply.Memory)
memory-or-not reply.Ok = inr (λ e. let no : ⊥ = cc in no)
memory-or-not (reply.Frames m) = inr (λ e. let no : ⊥ = cc in no)
memory-or-not (reply.Moved m) = inr (λ e. let no : ⊥ = cc in no)
memory-or-not (reply.Delay m) = inr (λ e. let no : ⊥ = cc in no)
memory-or-not (reply.Ptrs p) = inr (λ e. let no : ⊥ = cc in no)
memory-or-not (reply.Poll p) = inr (λ e. let no : ⊥ = cc in no)
memory-or-not reply.Asleep = inr (λ e. let no : ⊥ = cc in no)
memory-or-not (reply.Err e) = inr (λ e. let no : ⊥ = cc in no)
memory-or-not (reply.Late m) = inr (λ e. let no : ⊥ = cc in no)
memory-or-not reply.Idle = inr (λ e. let no : ⊥ = cc in no)
memory-or-not (reply.Limit m) = inr (λ e. let no : ⊥ = cc in no)
memory-or-not (reply.Busy c) = inr (λ e. let no : ⊥ = cc in no)
memory-or-not reply.Memory = inl refl

-- where there was no memory, nothing is left in the clients' places
pub places-same : (o : Option ClientId) (r : Reply) (q : Kept) (calls now : List (Option Kept)) → IsEndOf o r q calls now → r ≡ reply.Memory → (i : ℕ) → slice_get now i ≡ slice_get calls i
places-same None r q calls now h is i = h.others i (λ c z. absurd (let no : ⊥ = cc in no))
places-same (Some c) r q calls now h is i = by (nat_eq i c.0) refl
  where
    by : (b : Bool) → nat_eq i c.0 ≡ b → slice_get now i ≡ slice_get calls i
    by false e = h.others i (λ x z. let same : c ≡ x = cc in subst (λ (y : ClientId). i ≢ y.0) same (number-differs i c.0 e))
    by true e =
        let at : i ≡ c.0 = grind (arith, nat_tests, e) in
        ap (slice_get now) at ∙ h.call c refl ∙ ap (λ (s : Reply). cond (is_asleep s) (Some (Some q)) (slice_get calls c.0)) is ∙ ap (slice_get calls) (sym at)

pub results-same : {Z : Type 0} (o : Option ClientId) (r : Reply) (q : Kept) (shape : Option Shape) (results now : List (Option (Vec ℕ Z))) → AreResults o r q shape results now → r ≡ reply.Memory → (d : ClientId) → slot_bytes (slice_get now d.0) ≡ slot_bytes (slice_get results d.0)
results-same None r q shape results now h is d = ap slot_bytes (h.others d.0 (λ c z. absurd (let no : ⊥ = cc in no)))
results-same {Z = Z} (Some c) r q shape results now h is d = by (nat_eq d.0 c.0) refl
  where
    by : (b : Bool) → nat_eq d.0 c.0 ≡ b → slot_bytes (slice_get now d.0) ≡ slot_bytes (slice_get results d.0)
    by false e = ap slot_bytes (h.others d.0 (λ x z. let same : c ≡ x = cc in subst (λ (y : ClientId). d.0 ≢ y.0) same (number-differs d.0 c.0 e)))
    by true e =
        let at : d.0 ≡ c.0 = grind (arith, nat_tests, e) in
        ap (λ (i : ℕ). slot_bytes (slice_get now i)) at ∙ h.own c refl ∙ ap (λ (s : Reply). bytes_told s q.layout shape q.bytes.items (slot_bytes (slice_get results c.0))) is ∙ ap (λ (i : ℕ). slot_bytes (slice_get results i)) (sym at)

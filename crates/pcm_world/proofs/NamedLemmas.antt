-- The event of a client that has no call in progress, or of a card: what it leaves and tells.
use Rattle.std.proofs.Common.{◌≡◌, ◌≢◌, ◌⊎◌, inl, inr, ℕ, ◌+◌, ◌-◌, Bool, true, false, cond, not, ◌&&◌, ◌||◌, nat_eq, nat_lt, nat_le, List, [], ◌++◌, length, drop, slice_index_or, Option, Some, None, refl, sym, ap, ◌∙◌, subst}
use Rattle.pcm_base.specs.declared.call.Call.{Call}
use Rattle.pcm_base.specs.declared.call.Call.TheVariants as call
use Rattle.pcm_base.specs.declared.call.Event.{Event}
use Rattle.pcm_base.specs.declared.card.Card.{Ghosts}
use Rattle.pcm_base.specs.declared.ids.ClientId.{ClientId}
use Rattle.pcm_base.specs.declared.ids.SubId.{SubId}
use Rattle.pcm_base.specs.declared.reply.Reply.{Reply}
use Rattle.pcm_base.specs.declared.reply.Reply.TheVariants as reply
use Rattle.pcm_base.specs.declared.reply.Told.{Told as Shown}
use Rattle.pcm_base.specs.declared.state.Errno.{Errno}
use Rattle.pcm_base.specs.declared.state.Errno.TheVariants as errno
use Rattle.pcm_base.specs.declared.state.State.{State}
use Rattle.pcm_base.specs.declared.state.State.TheVariants as state
use Rattle.std.proofs.lemmas.List.{append-nil}
use Rattle.pcm_base.specs.declared.state.Dir.{Dir}
use Rattle.pcm_base.specs.declared.state.Dir.TheVariants as dir
use Rattle.pcm_base.specs.model.Acts.{subs}
use Rattle.pcm_base.specs.model.Events.{hands, opens, program}
use Rattle.pcm_base.specs.model.Frame.{bytes_of}
use Rattle.pcm_base.specs.model.Group.{Run, group_step, run_event, stream_of}
use Rattle.pcm_base.specs.model.Movement.{Movement, carried, carried_by, carried_frames, frames_taken, move, taken_bytes}
use Rattle.pcm_base.specs.model.Program.{Answer, fails}
use Rattle.pcm_base.specs.model.Replay.{Decomposes, Distinct, parts_of}
use Rattle.pcm_base.specs.model.Stream.{Member, Stream}
use Rattle.pcm_laws.proofs.Decomposition.{Decomposes-run}
use Rattle.pcm_laws.proofs.Marks.{stream_of-group_step}
use Rattle.pcm_stream.proofs.MoveLemmas.{bytes_of-append}
use Rattle.pcm_base.specs.model.Words.{is_closed}
use Rattle.pcm_base.specs.model.World.{InProgress, Told, World, begun, by_client, call_of, chosen, group_of, holds, in_group, is_go, is_linked, link, link_refusal, named, nobody, state_in, stays, step, unlink}
use Rattle.std.specs.Option.{is_none, is_some}
use Rattle.std.specs.List.{slice_get}
use Rattle.std.proofs.lemmas.Option.{get_or_from_slice_get}
use Rattle.pcm_group.specs.declared.group.Group.{Group}
use Rattle.pcm_world.specs.declared.calls.Kept.{Kept}
use Rattle.pcm_world.specs.declared.world.World.{World as CodeWorld}
use Rattle.pcm_world.specs.Answered.{IsAnswered, link_event, unlink_event}
use Rattle.pcm_world.specs.Calls.{IsCallOf, IsKept, stream_at}
use Rattle.pcm_world.specs.Groups.{AreNumbers, GroupsStand, numbers_in}
use Rattle.pcm_world.specs.Shown.{IsWorld, is_by, is_frames, is_movement, reads, result_after, result_in, shown, taken_since}
use Rattle.pcm_world.specs.Stands.{AreWorld}
use Rattle.pcm_world.proofs.AnswerLemmas.{stream-named}
use Rattle.pcm_world.proofs.StandingLemmas.{group-distinct, holds-member}
use Rattle.pcm_world.proofs.StepLemmas.{plays-kept}
use Rattle.pcm_world.proofs.TransferWalk.{Keeps, keeps-if}
use Rattle.pcm_world.proofs.CallLemmas.{IsUnseen, agree-unseen, kept-unseen, unseen-same}

-- ---- an answer without frames, and one that changes nothing

pub unread-unframed : (c : ClientId) (e : Event) (w : World) (t : Told) (before : List ℕ) → is_frames t.reply ≡ false → result_after c e w t before ≡ before
unread-unframed c e w t before h = by (is_by c e.client) (reads e.call c w) (is_frames t.reply) h
  where
    by : (a b f : Bool) → f ≡ false → cond (a && (b && f)) t.bytes before ≡ before
    by true true f h = ap (λ (x : Bool). cond x t.bytes before) h
    by true false f h = refl
    by false b f h = refl

pub answered-still : (old : CodeWorld) (e : Event) (w : World) (r : Reply) (s : Option State) (t : Told) (told : Shown) → IsWorld old w → t ≡ stays r s w → is_frames r ≡ false
    → told ≡ record { reply = r; state = s; woken = 0 } → IsAnswered old old e w t told
answered-still old e w r s t told is same unframed given = subst (λ (u : Told). IsAnswered old old e w u told) (sym same) (record {
  told = given;
  world = is;
  result = λ c. sym (unread-unframed c e w (stays r s w) (result_in old c) unframed);
})

-- ---- which part of the model answers

pub named-shut : (e : Call) (p : InProgress) (w : World) → (not (holds p.sub (group_of p.sub w.groups)) || (is_closed (state_in p.sub w) && not (opens e))) ≡ true
    → named e p w ≡ stays (reply.Err errno.Enxio) (Some state.Closed) w
named-shut e p w h = ap (λ (b : Bool). cond b (stays (reply.Err errno.Enxio) (Some state.Closed) w) (chosen e p w)) h

pub shut-undeclared : (e : Call) (k : SubId) (w : World) → group_of k w.groups ≡ [] → (not (holds k (group_of k w.groups)) || (is_closed (state_in k w) && not (opens e))) ≡ true
shut-undeclared e k w h = ap (λ (ms : List Member). not (holds k ms) || (is_closed (state_in k w) && not (opens e))) h

pub shut-closed : (a b o : Bool) → b ≡ true → o ≡ false → (not a || (b && not o)) ≡ true
shut-closed true true false p q = refl
shut-closed false true false p q = refl
shut-closed a false o p q = absurd (let no : ⊥ = cc in no)
shut-closed a true true p q = absurd (let no : ⊥ = cc in no)

pub named-chosen : (e : Call) (p : InProgress) (w : World) → holds p.sub (group_of p.sub w.groups) ≡ true → (is_closed (state_in p.sub w) && not (opens e)) ≡ false → named e p w ≡ chosen e p w
named-chosen e p w held open_now = ap (λ (b : Bool). cond b (stays (reply.Err errno.Enxio) (Some state.Closed) w) (chosen e p w))
    (ap (λ (b : Bool). not b || (is_closed (state_in p.sub w) && not (opens e))) held ∙ open_now)

pub open-opens : (b : Bool) (e : Call) → opens e ≡ true → (b && not (opens e)) ≡ false
open-opens true e h = ap not h
open-opens false e h = refl

pub open-open : (b : Bool) (e : Call) → b ≡ false → (b && not (opens e)) ≡ false
open-open b e h = ap (λ (x : Bool). x && not (opens e)) h

pub opens-not : (e : Call) → (e ≡ call.OpenSub → ⊥) → opens e ≡ false
opens-not call.OpenSub h = absurd (h refl)
opens-not call.CloseSub h = refl
opens-not (call.HwParams a) h = refl
opens-not call.HwFree h = refl
opens-not (call.SwParams a) h = refl
opens-not call.Prepare h = refl
opens-not call.Start h = refl
opens-not call.DropNow h = refl
opens-not (call.Drain a) h = refl
opens-not call.PausePush h = refl
opens-not call.PauseRelease h = refl
opens-not call.Suspend h = refl
opens-not call.Resume h = refl
opens-not call.Xrun h = refl
opens-not (call.Write a b) h = refl
opens-not (call.Read a b d) h = refl
opens-not (call.Rewind a) h = refl
opens-not (call.Forward a) h = refl
opens-not call.Hwsync h = refl
opens-not call.Delay h = refl
opens-not (call.SyncPtr a) h = refl
opens-not call.Status h = refl
opens-not call.PageNow h = refl
opens-not call.Poll h = refl
opens-not call.Map h = refl
opens-not call.Unmap h = refl
opens-not (call.Store a) h = refl
opens-not (call.Load a b) h = refl
opens-not (call.Link a) h = refl
opens-not call.Unlink h = refl
opens-not call.Go h = refl
opens-not (call.MoveBy a) h = refl
opens-not call.Irq h = refl
opens-not (call.FailAt a) h = refl
opens-not call.Give h = refl
opens-not call.Unplug h = refl

pub group-call : (e : Call) (p : InProgress) (w : World) → ((k : SubId) → e ≡ call.Link k → ⊥) → (e ≡ call.Unlink → ⊥) → chosen e p w ≡ in_group e p w
group-call call.OpenSub p w h g = refl
group-call call.CloseSub p w h g = refl
group-call (call.HwParams a) p w h g = refl
group-call call.HwFree p w h g = refl
group-call (call.SwParams a) p w h g = refl
group-call call.Prepare p w h g = refl
group-call call.Start p w h g = refl
group-call call.DropNow p w h g = refl
group-call (call.Drain a) p w h g = refl
group-call call.PausePush p w h g = refl
group-call call.PauseRelease p w h g = refl
group-call call.Suspend p w h g = refl
group-call call.Resume p w h g = refl
group-call call.Xrun p w h g = refl
group-call (call.Write a b) p w h g = refl
group-call (call.Read a b d) p w h g = refl
group-call (call.Rewind a) p w h g = refl
group-call (call.Forward a) p w h g = refl
group-call call.Hwsync p w h g = refl
group-call call.Delay p w h g = refl
group-call (call.SyncPtr a) p w h g = refl
group-call call.Status p w h g = refl
group-call call.PageNow p w h g = refl
group-call call.Poll p w h g = refl
group-call call.Map p w h g = refl
group-call call.Unmap p w h g = refl
group-call (call.Store a) p w h g = refl
group-call (call.Load a b) p w h g = refl
group-call (call.Link a) p w h g = absurd (h a refl)
group-call call.Unlink p w h g = absurd (g refl)
group-call call.Go p w h g = refl
group-call (call.MoveBy a) p w h g = refl
group-call call.Irq p w h g = refl
group-call (call.FailAt a) p w h g = refl
group-call call.Give p w h g = refl
group-call call.Unplug p w h g = refl

-- ---- a link and an unlink

-- what an event that moves substreams between groups leaves as it was
pub record LeavesCalls (w : World) (t : Told) : Type 0 where
  pub long_max : t.world.long_max ≡ w.long_max
  pub calls : t.world.calls ≡ w.calls
  pub unframed : is_frames t.reply ≡ false

pub link-leaves : (k j : SubId) (w : World) → LeavesCalls w (link_event k j w)
link-leaves k j w = by (link_refusal k j w)
  where
    by : (o : Option Errno) → LeavesCalls w (elim o as (λ _. Told) [ Some r ↦ stays (reply.Err r) (Some (state_in k w)) w | None ↦ link k j w ])
    by (Some r) = record { long_max = refl; calls = refl; unframed = refl }
    by None = record { long_max = refl; calls = refl; unframed = refl }

pub unlink-leaves : (k : SubId) (w : World) → LeavesCalls w (unlink_event k w)
unlink-leaves k w = by (is_linked k w)
  where
    by : (b : Bool) → LeavesCalls w (cond b (unlink k w) (stays (reply.Err errno.Ealready) (Some (state_in k w)) w))
    by true = record { long_max = refl; calls = refl; unframed = refl }
    by false = record { long_max = refl; calls = refl; unframed = refl }

pub world-regrouped : {C : Type 0} {g : Ghosts C} (n : ℕ) (old new : List (Group C g)) (calls : List (Option Kept)) (w : World) (t : Told) → AreWorld n old calls w → LeavesCalls w t
    → GroupsStand new t.world.groups → ((k : SubId) → stream_at k t.world.groups ≡ stream_at k w.groups) → AreWorld n new calls t.world
world-regrouped n old new calls w t h leaves stands same =
    let ys = t.world.groups in
    let unseen : IsUnseen w.groups ys = unseen-same w.groups ys same in
    record {
      long_max = h.long_max ∙ sym leaves.long_max;
      groups = stands;
      kept = rw leaves.calls (kept-unseen w.groups ys w.calls calls unseen h.agree h.kept);
      agree = rw leaves.calls (agree-unseen w.groups ys w.calls unseen h.agree);
    }

pub answered-regrouped : (old now : CodeWorld) (e : Event) (w : World) (t u : Told) (told : Shown) → u ≡ t → told ≡ shown t → LeavesCalls w t → IsWorld now t.world → ((c : ClientId) → result_in now c ≡ result_in old c)
    → IsAnswered old now e w u told
answered-regrouped old now e w t u told same given leaves is unread = subst (λ (v : Told). IsAnswered old now e w v told) (sym same) (record {
  told = given;
  world = is;
  result = λ c. unread c ∙ sym (unread-unframed c e w t (result_in old c) leaves.unframed);
})

pub memory-or-not : (r : Reply) → (r ≡ reply.Memory) ⊎ (r ≢ reply.Memory)
memory-or-not reply.Ok = inr (λ e. let no : ⊥ = cc in no)
memory-or-not (reply.Frames n) = inr (λ e. let no : ⊥ = cc in no)
memory-or-not (reply.Moved n) = inr (λ e. let no : ⊥ = cc in no)
memory-or-not (reply.Delay n) = inr (λ e. let no : ⊥ = cc in no)
memory-or-not (reply.Ptrs n) = inr (λ e. let no : ⊥ = cc in no)
memory-or-not (reply.Poll n) = inr (λ e. let no : ⊥ = cc in no)
memory-or-not reply.Asleep = inr (λ e. let no : ⊥ = cc in no)
memory-or-not (reply.Err n) = inr (λ e. let no : ⊥ = cc in no)
memory-or-not (reply.Late n) = inr (λ e. let no : ⊥ = cc in no)
memory-or-not reply.Idle = inr (λ e. let no : ⊥ = cc in no)
memory-or-not (reply.Limit n) = inr (λ e. let no : ⊥ = cc in no)
memory-or-not (reply.Busy n) = inr (λ e. let no : ⊥ = cc in no)
memory-or-not reply.Memory = inl refl

-- ---- a client's event: whether it has a call in progress

pub called-some : (xs : List (List Member)) (c : ClientId) (o : Option Kept) (q : Option InProgress) → IsCallOf xs c (Some o) q → is_some o ≡ true → (p : InProgress) × (k : Kept) × (q ≡ Some p) × IsKept xs k c p
called-some xs c None q h s = absurd (let no : ⊥ = cc in no)
called-some xs c (Some k) None h s = absurd h
called-some xs c (Some k) (Some p) h s = (p, k, refl, h)

pub called-none : (xs : List (List Member)) (c : ClientId) (o : Option Kept) (q : Option InProgress) → IsCallOf xs c (Some o) q → is_some o ≡ false → q ≡ None
called-none xs c (Some k) q h s = absurd (let no : ⊥ = cc in no)
called-none xs c None None h s = refl
called-none xs c None (Some p) h s = absurd h

-- what stands in the client's place
pub own-place : (xs : List (List Member)) (c : ClientId) (calls : List (Option Kept)) (o d : Option Kept) (q : Option InProgress) → o ≡ slice_index_or calls c.0 d → IsCallOf xs c (slice_get calls c.0) q → IsCallOf xs c (Some o) q
own-place xs c calls o d q e h = by (slice_get calls c.0) q refl h
  where
    by : (r : Option (Option Kept)) (q : Option InProgress) → slice_get calls c.0 ≡ r → IsCallOf xs c r q → IsCallOf xs c (Some o) q
    by None None g h = absurd h
    by None (Some p) g h = absurd h
    by (Some x) q g h = subst (λ (y : Option Kept). IsCallOf xs c (Some y) q) (sym (e ∙ get_or_from_slice_get calls c.0 x d g)) h

pub step-client : (w : World) (e : Event) (io : List ℕ) (c : ClientId) → e.client ≡ Some c → step w e io ≡ by_client c e.sub e.call io w
step-client w e io c h = ap (λ (o : Option ClientId). elim o as (λ _. Told) [ Some d ↦ by_client d e.sub e.call io w | None ↦ named e.call (begun nobody e.sub io) w ]) h

pub step-card : (w : World) (e : Event) (io : List ℕ) → e.client ≡ None → step w e io ≡ named e.call (begun nobody e.sub io) w
step-card w e io h = ap (λ (o : Option ClientId). elim o as (λ _. Told) [ Some d ↦ by_client d e.sub e.call io w | None ↦ named e.call (begun nobody e.sub io) w ]) h

by-called : (c : ClientId) (k : SubId) (e : Call) (io : List ℕ) (w : World) (o : Option InProgress) → call_of c w.calls ≡ o
    → by_client c k e io w ≡ (elim o as (λ _. Told) [
      | Some p ↦ cond (is_go e) (named e p w) (stays (reply.Busy c) (Some (state_in k w)) w)
      | None ↦ cond (is_go e) (stays (reply.Err errno.Einval) None w) (named e (begun c k io) w)
    ])
by-called c k e io w o h = ap (λ (q : Option InProgress). elim q as (λ _. Told) [
  | Some p ↦ cond (is_go e) (named e p w) (stays (reply.Busy c) (Some (state_in k w)) w)
  | None ↦ cond (is_go e) (stays (reply.Err errno.Einval) None w) (named e (begun c k io) w)
]) h

pub by-going : (c : ClientId) (k : SubId) (e : Call) (io : List ℕ) (w : World) (p : InProgress) → call_of c w.calls ≡ Some p → e ≡ call.Go → by_client c k e io w ≡ named call.Go p w
by-going c k e io w p h g = by-called c k e io w (Some p) h ∙ ap (λ (x : Call). cond (is_go x) (named x p w) (stays (reply.Busy c) (Some (state_in k w)) w)) g

pub by-busy : (c : ClientId) (k : SubId) (e : Call) (io : List ℕ) (w : World) (p : InProgress) → call_of c w.calls ≡ Some p → is_go e ≡ false → by_client c k e io w ≡ stays (reply.Busy c) (Some (state_in k w)) w
by-busy c k e io w p h g = by-called c k e io w (Some p) h ∙ ap (λ (b : Bool). cond b (named e p w) (stays (reply.Busy c) (Some (state_in k w)) w)) g

pub by-idle : (c : ClientId) (k : SubId) (e : Call) (io : List ℕ) (w : World) → call_of c w.calls ≡ None → e ≡ call.Go → by_client c k e io w ≡ stays (reply.Err errno.Einval) None w
by-idle c k e io w h g = by-called c k e io w None h ∙ ap (λ (x : Call). cond (is_go x) (stays (reply.Err errno.Einval) None w) (named x (begun c k io) w)) g

pub by-begins : (c : ClientId) (k : SubId) (e : Call) (io : List ℕ) (w : World) → call_of c w.calls ≡ None → is_go e ≡ false → by_client c k e io w ≡ named e (begun c k io) w
by-begins c k e io w h g = by-called c k e io w None h ∙ ap (λ (b : Bool). cond b (stays (reply.Err errno.Einval) None w) (named e (begun c k io) w)) g

pub event-of : (e : Event) (c : ClientId) → e.client ≡ Some c → e.call ≡ call.Go → (let g : Event = record { client = Some c; sub = e.sub; call = call.Go } in g) ≡ e
event-of e c h g =
    ap (λ (o : Option ClientId). let x : Event = record { client = o; sub = e.sub; call = call.Go } in x) (sym h)
    ∙ ap (λ (y : Call). let x : Event = record { client = e.client; sub = e.sub; call = y } in x) (sym g)

pub go-not : (e : Call) → (e ≡ call.Go → ⊥) → is_go e ≡ false
go-not call.OpenSub h = refl
go-not call.CloseSub h = refl
go-not (call.HwParams a) h = refl
go-not call.HwFree h = refl
go-not (call.SwParams a) h = refl
go-not call.Prepare h = refl
go-not call.Start h = refl
go-not call.DropNow h = refl
go-not (call.Drain a) h = refl
go-not call.PausePush h = refl
go-not call.PauseRelease h = refl
go-not call.Suspend h = refl
go-not call.Resume h = refl
go-not call.Xrun h = refl
go-not (call.Write a b) h = refl
go-not (call.Read a b d) h = refl
go-not (call.Rewind a) h = refl
go-not (call.Forward a) h = refl
go-not call.Hwsync h = refl
go-not call.Delay h = refl
go-not (call.SyncPtr a) h = refl
go-not call.Status h = refl
go-not call.PageNow h = refl
go-not call.Poll h = refl
go-not call.Map h = refl
go-not call.Unmap h = refl
go-not (call.Store a) h = refl
go-not (call.Load a b) h = refl
go-not (call.Link a) h = refl
go-not call.Unlink h = refl
go-not call.Go h = absurd (h refl)
go-not (call.MoveBy a) h = refl
go-not call.Irq h = refl
go-not (call.FailAt a) h = refl
go-not call.Give h = refl
go-not call.Unplug h = refl

-- ---- movements

pub none-is : (o : Option ClientId) → is_none o ≡ true → o ≡ None
none-is None h = refl
none-is (Some c) h = absurd (let no : ⊥ = cc in no)

pub movement-or-not : (e : Call) → ((n : ℕ) × (e ≡ call.MoveBy n)) ⊎ (is_movement e ≡ false)
movement-or-not call.OpenSub = inr refl
movement-or-not call.CloseSub = inr refl
movement-or-not (call.HwParams a) = inr refl
movement-or-not call.HwFree = inr refl
movement-or-not (call.SwParams a) = inr refl
movement-or-not call.Prepare = inr refl
movement-or-not call.Start = inr refl
movement-or-not call.DropNow = inr refl
movement-or-not (call.Drain a) = inr refl
movement-or-not call.PausePush = inr refl
movement-or-not call.PauseRelease = inr refl
movement-or-not call.Suspend = inr refl
movement-or-not call.Resume = inr refl
movement-or-not call.Xrun = inr refl
movement-or-not (call.Write a b) = inr refl
movement-or-not (call.Read a b d) = inr refl
movement-or-not (call.Rewind a) = inr refl
movement-or-not (call.Forward a) = inr refl
movement-or-not call.Hwsync = inr refl
movement-or-not call.Delay = inr refl
movement-or-not (call.SyncPtr a) = inr refl
movement-or-not call.Status = inr refl
movement-or-not call.PageNow = inr refl
movement-or-not call.Poll = inr refl
movement-or-not call.Map = inr refl
movement-or-not call.Unmap = inr refl
movement-or-not (call.Store a) = inr refl
movement-or-not (call.Load a b) = inr refl
movement-or-not (call.Link a) = inr refl
movement-or-not call.Unlink = inr refl
movement-or-not call.Go = inr refl
movement-or-not (call.MoveBy a) = inl (a, refl)
movement-or-not call.Irq = inr refl
movement-or-not (call.FailAt a) = inr refl
movement-or-not call.Give = inr refl
movement-or-not call.Unplug = inr refl

-- the card of the substream takes what the step tells
abbrev TakesMore : Stream → Answer → Stream → Type 0
TakesMore s a t = t.card.taken ≡ s.card.taken ++ a.frames

takes-none : (s : Stream) (r : Reply) → TakesMore s (record { reply = r; first = 0; frames = [] }) s
takes-none s r = sym (append-nil s.card.taken)

takes-carried : (n : ℕ) (s : Stream) → (carried n s).card.taken ≡ s.card.taken ++ carried_frames n s
takes-carried n s = by s.dir
  where
    by : (d : Dir) → (carried_by d n s).card.taken ≡ s.card.taken ++ (frames_taken d n s)
    by dir.Playback = refl
    by dir.Capture = sym (append-nil s.card.taken)

takes-moved : (n : ℕ) (s : Stream) → (move n s).stream.card.taken ≡ s.card.taken ++ (move n s).frames
takes-moved n s = by (not s.card.runs) (nat_le (s.at.hw + s.setup.buffer) (s.at.card + n)) (nat_lt 67108864 (taken_bytes n s))
  where
    moved : Bool → Bool → Bool → Movement
    moved a b d =
        cond a (record { reply = reply.Idle; frames = []; stream = s })
        (cond b (record { reply = reply.Late (s.setup.buffer - 1 - (s.at.card - s.at.hw)); frames = []; stream = s })
        (cond d (record { reply = reply.Limit (taken_bytes n s); frames = []; stream = s })
        (record { reply = reply.Moved n; frames = carried_frames n s; stream = carried n s })))

    by : (a b d : Bool) → (moved a b d).stream.card.taken ≡ s.card.taken ++ (moved a b d).frames
    by true b d = sym (append-nil s.card.taken)
    by false true d = sym (append-nil s.card.taken)
    by false false true = sym (append-nil s.card.taken)
    by false false false = takes-carried n s

takes-program : (n : ℕ) (c : ClientId) (l : Bool) (io : List ℕ) (s : Stream) → Keeps (TakesMore s) (program (call.MoveBy n) c l io s)
takes-program n c l io s =
    keeps-if (TakesMore s) (is_closed s.state && true) (fails errno.Enxio s) (hands (move n s).reply (move n s).frames (move n s).stream) (λ _. takes-none s (reply.Err errno.Enxio)) (λ _. takes-moved n s)

takes-step : (n : ℕ) (c : ClientId) (k : SubId) (io : List ℕ) (ms : List Member) → Distinct (subs ms) → holds k ms ≡ true
    → (stream_of k (group_step (call.MoveBy n) c k io ms).members).card.taken ≡ (stream_of k ms).card.taken ++ (group_step (call.MoveBy n) c k io ms).answer.frames
takes-step n c k io ms distinct held =
    let e : Call = call.MoveBy n in
    let s : Stream = stream_of k ms in
    let linked : Bool = nat_lt 1 (length ms) in
    let r : Run = run_event e c k io ms in
    let own : Decomposes (program e c linked io s) k ms r = Decomposes-run (program e c linked io s) k ms distinct (sym (holds-member k ms) ∙ held) in
    subst (λ (t : Stream). TakesMore s r.answer t) (sym (stream_of-group_step e c k io k ms))
    (plays-kept (TakesMore s) k (program e c linked io s) (parts_of k (subs ms) r.acts) r.answer (stream_of k r.members) own.own (takes-program n c linked io s))

-- what a card has taken after a movement begins with what it had taken before, and the rest is what was told
pub moved-on : {C : Type 0} {g : Ghosts C} (gs : List (Group C g)) (n : ℕ) (p : InProgress) (w : World) → GroupsStand gs w.groups → AreNumbers (numbers_in gs)
    → bytes_of (stream_at p.sub (named (call.MoveBy n) p w).world.groups).card.taken ≡ bytes_of (stream_at p.sub w.groups).card.taken ++ (named (call.MoveBy n) p w).bytes
moved-on gs n p w stands numbers = by (holds p.sub (group_of p.sub w.groups)) (is_closed (state_in p.sub w) && true) refl
  where
    told : Bool → Told
    told b = cond b (stays (reply.Err errno.Enxio) (Some state.Closed) w) (in_group (call.MoveBy n) p w)

    step_of : List Member
    step_of = (group_step (call.MoveBy n) p.client p.sub p.bytes (group_of p.sub w.groups)).members

    stepped : holds p.sub (group_of p.sub w.groups) ≡ true → bytes_of (stream_at p.sub (in_group (call.MoveBy n) p w).world.groups).card.taken ≡ bytes_of (stream_at p.sub w.groups).card.taken ++ (in_group (call.MoveBy n) p w).bytes
    stepped held =
        ap (λ (s : Stream). bytes_of s.card.taken) (stream-named gs w.groups (call.MoveBy n) p.client p.sub p.bytes (record { stands = stands; numbers = numbers; held = held }))
        ∙ ap bytes_of (takes-step n p.client p.sub p.bytes (group_of p.sub w.groups) (group-distinct gs w.groups p.sub numbers stands) held)
        ∙ bytes_of-append (stream_at p.sub w.groups).card.taken (group_step (call.MoveBy n) p.client p.sub p.bytes (group_of p.sub w.groups)).answer.frames

    by : (h b : Bool) → holds p.sub (group_of p.sub w.groups) ≡ h → bytes_of (stream_at p.sub (told (not h || b)).world.groups).card.taken ≡ bytes_of (stream_at p.sub w.groups).card.taken ++ (told (not h || b)).bytes
    by false b e = sym (append-nil (bytes_of (stream_at p.sub w.groups).card.taken))
    by true true e = sym (append-nil (bytes_of (stream_at p.sub w.groups).card.taken))
    by true false e = stepped e

pub taken-here : (k j : SubId) (before : ℕ) (bytes told : List ℕ) → (nat_eq k.0 j.0 ≡ true → drop before bytes ≡ told)
    → taken_since (Some (record { sub = k; before = before })) j bytes ≡ cond (nat_eq k.0 j.0) told []
taken-here k j before bytes told h = by (nat_eq k.0 j.0) h
  where
    by : (b : Bool) → (b ≡ true → drop before bytes ≡ told) → cond b (drop before bytes) [] ≡ cond b told []
    by true h = h refl
    by false h = refl

-- Whom a wake check leaves asleep.
use Rattle.std.proofs.Common.{ℕ, ◌≡◌, Bool, true, false, cond, not, ◌&&◌, ◌||◌, nat_eq, List, [], ◌∷◌, refl, sym, ap, ◌∙◌, subst}
use Rattle.std.specs.declared.option.Option.{Option}
use Rattle.std.specs.declared.option.Option.TheVariants.{Some, None}
use Rattle.pcm_base.specs.declared.call.Call.{Call}
use Rattle.pcm_base.specs.declared.ids.ClientId.{ClientId}
use Rattle.pcm_base.specs.declared.ids.SubId.{SubId}
use Rattle.pcm_base.specs.declared.sleeper.Task.{Task}
use Rattle.pcm_base.specs.model.Events.{waiting_of}
use Rattle.pcm_base.specs.model.Group.{Run, group_step, mark, run_event, stream_of}
use Rattle.pcm_base.specs.model.Sleep.{group_drains, is_among, may_wait, sleepers_that, wake, wake_members}
use Rattle.pcm_base.specs.model.Stream.{Member, Stream, Waiting}
use Rattle.pcm_laws.proofs.CallsInProgress.{found_none, rest_none, same_client}
use Rattle.pcm_laws.proofs.DistinctClients.{distinct-mark, distinct-run_event}
use Rattle.pcm_base.specs.model.Acts.{subs}
use Rattle.pcm_base.specs.model.Replay.{is_member}
use Rattle.pcm_laws.proofs.Marks.{group_drains-wake_members}
use Rattle.pcm_laws.proofs.Tests.{right}
use Rattle.pcm_laws.specs.Waiting.{AllHaveDistinctClients, EachMayWait, HaveDistinctClients, MayEnter, waits, wakes}

-- the test of a call, for those that are left asleep and those that are woken
abbrev passes : Bool → Bool → Stream → Task → Bool
passes may g s t = cond may (may_wait g s t) (not (may_wait g s t))

-- there is a call that passes
abbrev passes_some : Bool → Bool → Stream → Option Task → Bool
passes_some may g s None = false
passes_some may g s (Some t) = passes may g s t

-- one call more: its client stands first, where it passes
among_named : (b : Bool) (d c : ClientId) (ds : List ClientId) → is_among c (cond b (d ∷ ds) ds) ≡ ((b && nat_eq d.0 c.0) || is_among c ds)
among_named true d c ds = refl
among_named false d c ds = refl

neither : (b : Bool) (r q : Bool) → r ≡ false → q ≡ false → ((b && r) || q) ≡ false
neither true r q e f = ap (λ b. b || q) e ∙ f
neither false r q e f = f

this_alone : (b q : Bool) → q ≡ false → ((b && true) || q) ≡ b
this_alone true q e = refl
this_alone false q e = e

others_alone : (b q : Bool) → ((b && false) || q) ≡ q
others_alone true q = refl
others_alone false q = refl

-- a client without a call is not among those that the check names
among_none : (may g : Bool) (s : Stream) (marks : List ClientId) (ps : List Waiting) (c : ClientId) → waiting_of c ps ≡ None → is_among c (sleepers_that may g s marks ps) ≡ false
among_none may g s marks [] c h = refl
among_none may g s marks (p ∷ ps) c h =
    let test : Bool = is_among p.client marks && passes may g s p.task in
    let none : nat_eq p.client.0 c.0 ≡ false = found_none (nat_eq p.client.0 c.0) p.task (waiting_of c ps) h in
    among_named test p.client c (sleepers_that may g s marks ps)
    ∙ neither test (nat_eq p.client.0 c.0) (is_among c (sleepers_that may g s marks ps)) none (among_none may g s marks ps c (rest_none (nat_eq p.client.0 c.0) p.task (waiting_of c ps) h))

-- the check names exactly the clients that are marked and whose call passes
one_call : (may g : Bool) (s : Stream) (marks : List ClientId) (p : Waiting) (c : ClientId) (b q : Bool) (o : Option Task) → nat_eq p.client.0 c.0 ≡ b
    → (b ≡ true → q ≡ false) → q ≡ (is_among c marks && passes_some may g s o)
    → (((is_among p.client marks && passes may g s p.task) && b) || q) ≡ (is_among c marks && passes_some may g s (cond b (Some p.task) o))
one_call may g s marks p c true q o e f h =
    this_alone (is_among p.client marks && passes may g s p.task) q (f refl) ∙ ap (λ d. is_among d marks && passes may g s p.task) (same_client p.client c e)
one_call may g s marks p c false q o e f h = others_alone (is_among p.client marks && passes may g s p.task) q ∙ h

pub is_among-sleepers_that : (may g : Bool) (s : Stream) (marks : List ClientId) (ps : List Waiting) (c : ClientId) → HaveDistinctClients ps
    → is_among c (sleepers_that may g s marks ps) ≡ (is_among c marks && passes_some may g s (waiting_of c ps))
is_among-sleepers_that may g s marks [] c d = by (is_among c marks)
  where
    by : (b : Bool) → false ≡ (b && false)
    by true = refl
    by false = refl
is_among-sleepers_that may g s marks (p ∷ ps) c d =
    let test : Bool = is_among p.client marks && passes may g s p.task in
    among_named test p.client c (sleepers_that may g s marks ps)
    ∙ one_call may g s marks p c (nat_eq p.client.0 c.0) (is_among c (sleepers_that may g s marks ps)) (waiting_of c ps) refl
    (λ e. among_none may g s marks ps c (subst (λ i. waiting_of i ps ≡ None) (same_client p.client c e) d.0))
    (is_among-sleepers_that may g s marks ps c d.1)

waits_as : (g : Bool) (s : Stream) (o : Option Task) → passes_some true g s o ≡ waits g s o
waits_as g s None = refl
waits_as g s (Some t) = refl

wakes_as : (g : Bool) (s : Stream) (o : Option Task) → passes_some false g s o ≡ wakes g s o
wakes_as g s None = refl
wakes_as g s (Some t) = refl

pub sleepers_that-true : (g : Bool) (s : Stream) (marks : List ClientId) (ps : List Waiting) (c : ClientId) → HaveDistinctClients ps
    → is_among c (sleepers_that true g s marks ps) ≡ (is_among c marks && waits g s (waiting_of c ps))
sleepers_that-true g s marks ps c d = is_among-sleepers_that true g s marks ps c d ∙ ap (λ b. is_among c marks && b) (waits_as g s (waiting_of c ps))

pub sleepers_that-false : (g : Bool) (s : Stream) (marks : List ClientId) (ps : List Waiting) (c : ClientId) → HaveDistinctClients ps
    → is_among c (sleepers_that false g s marks ps) ≡ (is_among c marks && wakes g s (waiting_of c ps))
sleepers_that-false g s marks ps c d = is_among-sleepers_that false g s marks ps c d ∙ ap (λ b. is_among c marks && b) (wakes_as g s (waiting_of c ps))

-- the members of a group

EachMayWait-wake_members : (g : Bool) (ms : List Member) → AllHaveDistinctClients ms → EachMayWait g (wake_members g ms)
EachMayWait-wake_members g [] d = tt
EachMayWait-wake_members g (m ∷ ms) d = (
  λ c h. right (is_among c m.asleep) (waits g m.stream (waiting_of c m.stream.sleepers)) (sym (sleepers_that-true g m.stream m.asleep m.stream.sleepers c d.0) ∙ h),
  EachMayWait-wake_members g ms d.1,
)

pub EachMayWait-wake : (ms : List Member) → AllHaveDistinctClients ms → EachMayWait (group_drains (wake ms)) (wake ms)
EachMayWait-wake ms d = subst (λ g. EachMayWait g (wake ms)) (sym (group_drains-wake_members (group_drains ms) ms)) (EachMayWait-wake_members (group_drains ms) ms d)

pub EachMayWait-group_step : (e : Call) (c : ClientId) (k : SubId) (io : List ℕ) (ms : List Member) → is_member k (subs ms) ≡ true → MayEnter e c (stream_of k ms)
    → AllHaveDistinctClients ms → EachMayWait (group_drains (group_step e c k io ms).members) (group_step e c k io ms).members
EachMayWait-group_step e c k io ms m f d =
    let r : Run = run_event e c k io ms in
    EachMayWait-wake (mark k r.answer.reply c r.members) (distinct-mark k r.answer.reply c r.members (distinct-run_event e c k io ms m f d))

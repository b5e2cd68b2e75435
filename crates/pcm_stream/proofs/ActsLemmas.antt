-- What an act leaves of what a substream stands for.
use Rattle.std.proofs.Common.{ℕ, suc, ◌≡◌, ◌%◌, ◌<◌, ◌≤◌, Bool, true, false, cond, not, ◌&&◌, nat_lt, nat_le, List, [], ◌∷◌, length, drop, length-append, length-drop, Result, Ok, Err, OnOk, OnErr, refl, sym, ap, ◌∙◌, subst, arith}
use Rattle.std.specs.declared.option.Option.{Option}
use Rattle.std.specs.declared.option.Option.TheVariants.{Some, None}
use Rattle.std.specs.Option.{ForSome, IfSome, IsSome}
use Rattle.std.proofs.lemmas.Bool.Decides.{nat_tests}
use Rattle.std.specs.Bool.{beq}
use Rattle.pcm_base.specs.CardFacts.{CardFacts, consults, first_set, moved_on, plan_after, rewound_card, runs_after, triggered, tripped, undone}
use Rattle.pcm_base.specs.declared.act.Act.{Act}
use Rattle.pcm_base.specs.declared.act.Act.TheVariants as act
use Rattle.pcm_base.specs.declared.act.Outcome.TheVariants as outcome
use Rattle.pcm_base.specs.declared.act.Trigger.{Trigger}
use Rattle.pcm_base.specs.declared.act.Trigger.TheVariants as trigger
use Rattle.pcm_base.specs.declared.act.Vote.TheVariants as vote
use Rattle.pcm_base.specs.declared.call.CallKind.TheVariants as kind
use Rattle.pcm_base.specs.declared.card.Card.{Ghosts}
use Rattle.pcm_base.specs.declared.card.CardFailed.{CardFailed}
use Rattle.pcm_base.specs.declared.config.Config.{Config}
use Rattle.pcm_base.specs.declared.config.Shape.{Shape}
use Rattle.pcm_base.specs.declared.config.SwParams.{SwParams}
use Rattle.pcm_base.specs.declared.state.Dir.{Dir}
use Rattle.pcm_base.specs.declared.state.Dir.TheVariants as dir
use Rattle.pcm_base.specs.declared.state.Errno.TheVariants as errno
use Rattle.pcm_base.specs.declared.state.State.{State}
use Rattle.pcm_base.specs.declared.state.State.TheVariants as state
use Rattle.pcm_base.specs.model.Acts.{after, asked, asks, consulted, done, drained, drained_from, pre, ran, resumed, resumed_to, starts_drain, stopped, stopped_in, table, trips}
use Rattle.pcm_base.specs.model.Permit.{permit}
use Rattle.pcm_base.specs.model.Sound.{IsConfigured, IsPlaced, Sound, SoundAt, is_set_up, is_stop}
use Rattle.pcm_base.specs.model.Stream.{Stream, all_at, avail}
use Rattle.pcm_base.specs.model.Update.{fill, set_runs, set_state}
use Rattle.pcm_base.specs.model.Words.{is_playback, is_prepared, is_running, runs_in, when}
use Rattle.pcm_laws.proofs.KeptByActs.{resumes_from, then_none}
use Rattle.pcm_laws.proofs.KeptByVotes.{Sound-asked, Sound-done}
use Rattle.pcm_stream.specs.declared.runtime.Runtime.{Runtime}
use Rattle.pcm_stream.specs.declared.substream.Substream.{Substream}
use Rattle.pcm_stream.specs.Runs.{RunsFor}
use Rattle.pcm_stream.specs.StandsFor.{HasDone, IsUnset, Shows, StandsFor}
use Rattle.pcm_stream.proofs.RunsLemmas.{sound-whole}
use Rattle.pcm_stream.proofs.StreamLemmas.{configured, for_some, no_none}
use Rattle.pcm_stream.specs.Triggers.{drain_trigger, only_if, stops_capture, trigger_for}

-- ---- what a sound stream is

-- where it is configured, its positions lie in their places
pub Sound-placed : (s : Stream) → Sound s → ForSome s.setup.config (λ _. IsPlaced s)
Sound-placed s h c e = (configured c s e h).placed

unset-stands : (d : Dir) (t : State) → is_set_up t ≡ false → runs_in d t ≡ false
unset-stands d state.Closed h = refl
unset-stands d state.Opened h = refl
unset-stands d state.Setup h = absurd (cc)
unset-stands d state.Prepared h = absurd (cc)
unset-stands d state.Running h = absurd (cc)
unset-stands d state.Xrun h = absurd (cc)
unset-stands d state.Draining h = absurd (cc)
unset-stands d state.Paused h = absurd (cc)
unset-stands d state.Suspended h = absurd (cc)
unset-stands d state.Disconnected h = refl

-- the state says whether the card runs
pub Sound-runs : (s : Stream) → Sound s → s.card.runs ≡ runs_in s.dir s.state
Sound-runs s h = by s.setup.config h
  where
    by : (x : Option Config) → SoundAt x s → s.card.runs ≡ runs_in s.dir s.state
    by (Some c) k = k.running
    by None k = k.stands ∙ sym (unset-stands s.dir s.state k.state)

-- ---- another state and another motion

-- the same stream in this state, with this kept state, motion and fault plan
abbrev pub turned : Stream → State → Option State → Bool → List Bool → Stream
turned s t k b plan = record s { state = t; kept = k; card = record s.card { runs = b; plan = plan } }

-- the two substreams differ in their states alone, and in their cards' motion and fault plan
pub record IsLike {C : Type 0} {g : Ghosts C} (a b : Substream C g) : Type 0 where
  pub dir : b.dir ≡ a.dir
  pub long_max : b.long_max ≡ a.long_max
  pub runtime : b.runtime ≡ a.runtime
  pub model : (g.facts b.card).model ≡ (g.facts a.card).model
  pub taken : (g.facts b.card).taken ≡ (g.facts a.card).taken
  pub to_give : (g.facts b.card).to_give ≡ (g.facts a.card).to_give
  pub position : (g.facts b.card).position ≡ (g.facts a.card).position

pub Shows-turned : {C : Type 0} {g : Ghosts C} (a b : Substream C g) (s : Stream) (t : State) (k : Option State) (m : Bool) (plan : List Bool)
    → IsLike a b → b.state ≡ t → b.kept ≡ k → Shows a s → Shows b (turned s t k m plan)
Shows-turned a b s t k m plan like et ek h = record {
  dir = like.dir ∙ h.dir;
  model = like.model ∙ h.model;
  long_max = like.long_max ∙ h.long_max;
  state = et;
  kept = ek;
  taken = like.taken ∙ h.taken;
  to_give = like.to_give ∙ h.to_give;
  unset = λ e. h.unset (sym like.runtime ∙ e);
  runs_for = λ r e. h.runs_for r (sym like.runtime ∙ e);
  position = λ r e. like.position ∙ h.position r (sym like.runtime ∙ e);
}

-- ---- the card's part

-- whether a card runs after it was asked
abbrev pub runs_by : Option Trigger → Bool → Bool
runs_by None runs = runs
runs_by (Some t) runs = runs_after t

-- a test for which nothing is asked
only-none : (b : Bool) (t : Trigger) (r : Bool) → b ≡ false → runs_by (only_if b t) r ≡ r
only-none true t r h = absurd (cc)
only-none false t r h = refl

-- what runs is stopped
only-stops : (b : Bool) (t : Trigger) → runs_after t ≡ false → runs_by (only_if b t) b ≡ false
only-stops true t h = h
only-stops false t h = refl

only-starts : (b r : Bool) → r ≡ false → b ≡ runs_by (only_if b trigger.Resume) r
only-starts true r h = refl
only-starts false r h = sym h

prepare-stands : (d : Dir) (t : State) → permit kind.Prepare t d ≡ None → runs_in d t ≡ false
prepare-stands d state.Closed h = refl
prepare-stands d state.Opened h = refl
prepare-stands d state.Setup h = refl
prepare-stands d state.Prepared h = refl
prepare-stands d state.Running h = absurd (cc)
prepare-stands d state.Xrun h = refl
prepare-stands dir.Playback state.Draining h = absurd (cc)
prepare-stands dir.Capture state.Draining h = refl
prepare-stands d state.Paused h = refl
prepare-stands d state.Suspended h = refl
prepare-stands d state.Disconnected h = absurd (cc)

prepare-runs : (s : Stream) (first : Bool) → Sound s → pre s (act.Prepare first) ≡ None → false ≡ runs_by (only_if (first && s.card.runs) trigger.Stop) s.card.runs
prepare-runs s true h n = sym (only-stops s.card.runs trigger.Stop refl)
prepare-runs s false h n = sym (Sound-runs s h ∙ prepare-stands s.dir s.state n)

-- a drain, by the test that decides it
abbrev drain_start : Bool → Stream → Stream
drain_start b s = cond b (fill (set_runs true (set_state state.Draining s))) (set_state state.Setup s)

abbrev drain_rest : Bool → Stream → Stream
drain_rest b s = set_runs false (cond b (set_state state.Draining s) (set_state state.Setup s))

stop-runs : (t u : State) (s : Stream) → s.card.runs ≡ runs_in s.dir u → (stopped_in u t s).card.runs ≡ false
stop-runs t state.Closed s h = h
stop-runs t state.Opened s h = h
stop-runs t state.Setup s h = refl
stop-runs t state.Prepared s h = refl
stop-runs t state.Running s h = refl
stop-runs t state.Xrun s h = refl
stop-runs t state.Draining s h = refl
stop-runs t state.Paused s h = refl
stop-runs t state.Suspended s h = refl
stop-runs t state.Disconnected s h = h

resume-runs : (k : Option State) (s : Stream) → s.card.runs ≡ false → (resumed_to k s).card.runs ≡ runs_by (only_if (ran s.dir k) trigger.Resume) s.card.runs
resume-runs None s h = refl
resume-runs (Some t) s h = only-starts (runs_in s.dir t) s.card.runs h

suspended-stands : (d : Dir) (t : State) → t ≡ state.Suspended → runs_in d t ≡ false
suspended-stands dir.Playback t e = ap (λ (q : State). runs_in dir.Playback q) e
suspended-stands dir.Capture t e = ap (λ (q : State). runs_in dir.Capture q) e

drain-start-runs : (b : Bool) (s : Stream) → (drain_start b s).card.runs ≡ runs_by (drain_trigger b false) s.card.runs
drain-start-runs true s = refl
drain-start-runs false s = refl

drain-runs : (d : Dir) (t : State) (s : Stream)
    → (drained_from d t s).card.runs ≡ runs_by (drain_trigger ((is_playback d && is_prepared t) && nat_lt (avail s) s.setup.buffer) (cond (is_playback d) false (is_running t))) s.card.runs
drain-runs dir.Playback state.Closed s = refl
drain-runs dir.Playback state.Opened s = refl
drain-runs dir.Playback state.Setup s = refl
drain-runs dir.Playback state.Prepared s = drain-start-runs (nat_lt (avail s) s.setup.buffer) s
drain-runs dir.Playback state.Running s = refl
drain-runs dir.Playback state.Xrun s = refl
drain-runs dir.Playback state.Draining s = refl
drain-runs dir.Playback state.Paused s = refl
drain-runs dir.Playback state.Suspended s = refl
drain-runs dir.Playback state.Disconnected s = refl
drain-runs dir.Capture state.Closed s = refl
drain-runs dir.Capture state.Opened s = refl
drain-runs dir.Capture state.Setup s = refl
drain-runs dir.Capture state.Prepared s = refl
drain-runs dir.Capture state.Running s = refl
drain-runs dir.Capture state.Xrun s = refl
drain-runs dir.Capture state.Draining s = refl
drain-runs dir.Capture state.Paused s = refl
drain-runs dir.Capture state.Suspended s = refl
drain-runs dir.Capture state.Disconnected s = refl

-- whether the card runs after an act, by what was asked of it
pub done-runs : (a : Act) (s : Stream) → Sound s → pre s a ≡ None → (done a s).card.runs ≡ runs_by (trigger_for a s) s.card.runs
done-runs act.Start s h n = refl
done-runs (act.Stop t) s h n = stop-runs t s.state s (Sound-runs s h) ∙ sym (only-stops s.card.runs trigger.Stop refl)
done-runs (act.Prepare first) s h n = prepare-runs s first h n
done-runs act.Pause s h n = refl
done-runs act.Release s h n = refl
done-runs act.Suspend s h n = sym (only-stops s.card.runs trigger.Suspend refl)
done-runs act.Resume s h n =
    let e : s.state ≡ state.Suspended = resumes_from s.dir s.state (then_none (when (not s.model.can_resume) errno.Enosys) (table kind.Resume s) n) in
    resume-runs s.kept s (Sound-runs s h ∙ suspended-stands s.dir s.state e)
done-runs act.Drain s h n = drain-runs s.dir s.state s
done-runs act.Watch s h n = refl

-- ---- the fault plan

-- a trigger that consults the plan
abbrev pub consulted_by : Option Trigger → Bool
consulted_by None = false
consulted_by (Some t) = consults t

only-consults : (b : Bool) (t : Trigger) → consults t ≡ false → false ≡ consulted_by (only_if b t)
only-consults true t h = sym h
only-consults false t h = refl

resume-consults : (b : Bool) → b ≡ consulted_by (only_if b trigger.Resume)
resume-consults true = refl
resume-consults false = refl

drain-consults : (b e : Bool) → b ≡ consulted_by (drain_trigger b e)
drain-consults true e = refl
drain-consults false true = refl
drain-consults false false = refl

-- a trigger leaves the card's shape and what it took, and a plan as long as before
pub kept_by_trigger : (f g : CardFacts) (t : Trigger) (r : Result (Unit {0}) CardFailed) → OnOk r (g ≡ triggered f t) → OnErr r (g ≡ tripped f t)
    → (g.shape ≡ f.shape) × (g.taken ≡ f.taken) × (g.plan ≡ plan_after t f.plan)
kept_by_trigger f g t (Ok u) e k = (ap (λ (x : CardFacts). x.shape) e, ap (λ (x : CardFacts). x.taken) e, ap (λ (x : CardFacts). x.plan) e)
kept_by_trigger f g t (Err x) k e = (ap (λ (x : CardFacts). x.shape) e, ap (λ (x : CardFacts). x.taken) e, ap (λ (x : CardFacts). x.plan) e)

moved_on-length : (n : ℕ) (plan : List Bool) → length plan ≡ suc n → length (moved_on plan) ≡ suc n
moved_on-length n plan h = omega (arith, h, length-append (drop 1 plan) (false ∷ []), length-drop 1 plan)

planned-if : (b : Bool) (plan : List Bool) → length plan ≡ 64 → length (cond b (moved_on plan) plan) ≡ 64
planned-if true plan h = moved_on-length 63 plan h
planned-if false plan h = h

pub planned-after : (t : Trigger) (o : Option (List Bool)) → ForSome o (λ plan. length plan ≡ 64) → ForSome (plan_after t o) (λ plan. length plan ≡ 64)
planned-after t None h plan is = absurd (cc)
planned-after t (Some old) h plan is =
    let same : cond (consults t) (moved_on old) old ≡ plan = cc in
    ap (λ (p : List Bool). length p) (sym same) ∙ planned-if (consults t) old (h old refl)

-- an act consults the plan where its trigger does
pub asks-consults : (a : Act) (s : Stream) → asks s a ≡ consulted_by (trigger_for a s)
asks-consults act.Start s = refl
asks-consults (act.Stop t) s = only-consults s.card.runs trigger.Stop refl
asks-consults (act.Prepare first) s = only-consults (first && s.card.runs) trigger.Stop refl
asks-consults act.Pause s = refl
asks-consults act.Release s = refl
asks-consults act.Suspend s = only-consults s.card.runs trigger.Suspend refl
asks-consults act.Resume s = resume-consults (ran s.dir s.kept)
asks-consults act.Drain s = drain-consults (starts_drain s) (stops_capture s)
asks-consults act.Watch s = refl

abbrev plan_if : Bool → List Bool → List Bool
plan_if b plan = cond b (moved_on plan) plan

plan-asked : (b : Bool) (s : Stream) → plan_if b s.card.plan ≡ (cond b (consulted s) s).card.plan
plan-asked true s = refl
plan-asked false s = refl

-- the plan after an act's trigger is that of the stream that was asked
pub asked-plan : (a : Act) (s : Stream) (t : Trigger) → trigger_for a s ≡ Some t → cond (consults t) (moved_on s.card.plan) s.card.plan ≡ (asked s a).card.plan
asked-plan a s t e =
    let same : consults t ≡ asks s a = sym (asks-consults a s ∙ ap consulted_by e) in
    ap (λ b. plan_if b s.card.plan) same ∙ plan-asked (asks s a) s

pub unasked : (a : Act) (s : Stream) → trigger_for a s ≡ None → asked s a ≡ s
unasked a s e = ap (λ (b : Bool). cond b (consulted s) s) (asks-consults a s ∙ ap consulted_by e)

pub asked-runs : (a : Act) (s : Stream) → (asked s a).card.runs ≡ s.card.runs
asked-runs a s = by (asks s a)
  where
    by : (b : Bool) → (cond b (consulted s) s).card.runs ≡ s.card.runs
    by true = refl
    by false = refl

pub trips-by : (a : Act) (s : Stream) (t : Trigger) → trigger_for a s ≡ Some t → (consults t && first_set s.card.plan) ≡ trips s a
trips-by a s t e = sym (ap (λ b. b && first_set s.card.plan) (asks-consults a s ∙ ap consulted_by e))

-- a substream shows no plan
pub Shows-asked : {C : Type 0} {g : Ghosts C} (a : Act) (sub : Substream C g) (s : Stream) → Shows sub s → Shows sub (asked s a)
Shows-asked {C} {g} a sub s h = by (asks s a)
  where
    like : IsLike {C = C} {g = g} sub sub
    like = record { dir = refl; long_max = refl; runtime = refl; model = refl; taken = refl; to_give = refl; position = refl }

    by : (b : Bool) → Shows {C = C} {g = g} sub (cond b (consulted s) s)
    by true = Shows-turned sub sub s s.state s.kept s.card.runs (moved_on s.card.plan) like h.state h.kept h
    by false = h

-- ---- what becomes of a member

-- acts leave the fault plan

stop-plan : (t u : State) (s : Stream) → (stopped_in u t s).card.plan ≡ s.card.plan
stop-plan t state.Closed s = refl
stop-plan t state.Opened s = refl
stop-plan t state.Setup s = refl
stop-plan t state.Prepared s = refl
stop-plan t state.Running s = refl
stop-plan t state.Xrun s = refl
stop-plan t state.Draining s = refl
stop-plan t state.Paused s = refl
stop-plan t state.Suspended s = refl
stop-plan t state.Disconnected s = refl

resume-plan : (k : Option State) (s : Stream) → (resumed_to k s).card.plan ≡ s.card.plan
resume-plan None s = refl
resume-plan (Some t) s = refl

drain-start-plan : (b : Bool) (s : Stream) → (drain_start b s).card.plan ≡ s.card.plan
drain-start-plan true s = refl
drain-start-plan false s = refl

drain-rest-plan : (b : Bool) (s : Stream) → (drain_rest b s).card.plan ≡ s.card.plan
drain-rest-plan true s = refl
drain-rest-plan false s = refl

drain-plan : (d : Dir) (t : State) (s : Stream) → (drained_from d t s).card.plan ≡ s.card.plan
drain-plan dir.Playback state.Closed s = refl
drain-plan dir.Playback state.Opened s = refl
drain-plan dir.Playback state.Setup s = refl
drain-plan dir.Playback state.Prepared s = drain-start-plan (nat_lt (avail s) s.setup.buffer) s
drain-plan dir.Playback state.Running s = refl
drain-plan dir.Playback state.Xrun s = refl
drain-plan dir.Playback state.Draining s = refl
drain-plan dir.Playback state.Paused s = refl
drain-plan dir.Playback state.Suspended s = refl
drain-plan dir.Playback state.Disconnected s = refl
drain-plan dir.Capture state.Closed s = refl
drain-plan dir.Capture state.Opened s = refl
drain-plan dir.Capture state.Setup s = refl
drain-plan dir.Capture state.Prepared s = refl
drain-plan dir.Capture state.Running s = drain-rest-plan (nat_lt 0 (avail s)) s
drain-plan dir.Capture state.Xrun s = refl
drain-plan dir.Capture state.Draining s = refl
drain-plan dir.Capture state.Paused s = refl
drain-plan dir.Capture state.Suspended s = refl
drain-plan dir.Capture state.Disconnected s = refl

done-plan : (a : Act) (s : Stream) → (done a s).card.plan ≡ s.card.plan
done-plan act.Start s = refl
done-plan (act.Stop t) s = stop-plan t s.state s
done-plan (act.Prepare first) s = refl
done-plan act.Pause s = refl
done-plan act.Release s = refl
done-plan act.Suspend s = refl
done-plan act.Resume s = resume-plan s.kept s
done-plan act.Drain s = drain-plan s.dir s.state s
done-plan act.Watch s = refl

-- a plan that moved on changes no refusal and no trigger

pre-consulted : (a : Act) (s : Stream) → pre (consulted s) a ≡ pre s a
pre-consulted act.Start s = refl
pre-consulted (act.Stop t) s = refl
pre-consulted (act.Prepare first) s = refl
pre-consulted act.Pause s = refl
pre-consulted act.Release s = refl
pre-consulted act.Suspend s = refl
pre-consulted act.Resume s = refl
pre-consulted act.Drain s = refl
pre-consulted act.Watch s = refl

trigger-consulted : (a : Act) (s : Stream) → trigger_for a (consulted s) ≡ trigger_for a s
trigger-consulted act.Start s = refl
trigger-consulted (act.Stop t) s = refl
trigger-consulted (act.Prepare first) s = refl
trigger-consulted act.Pause s = refl
trigger-consulted act.Release s = refl
trigger-consulted act.Suspend s = refl
trigger-consulted act.Resume s = refl
trigger-consulted act.Drain s = refl
trigger-consulted act.Watch s = refl

pub pre-asked : (a : Act) (s : Stream) → pre (asked s a) a ≡ pre s a
pre-asked a s = by (asks s a)
  where
    by : (b : Bool) → pre (cond b (consulted s) s) a ≡ pre s a
    by true = pre-consulted a s
    by false = refl

trigger-asked : (a : Act) (s : Stream) → trigger_for a (asked s a) ≡ trigger_for a s
trigger-asked a s = by (asks s a)
  where
    by : (b : Bool) → trigger_for a (cond b (consulted s) s) ≡ trigger_for a s
    by true = trigger-consulted a s
    by false = refl

asked-done-runs : (a : Act) (s : Stream) → Sound s → pre s a ≡ None → (done a s).card.runs ≡ (done a (asked s a)).card.runs
asked-done-runs a s h n =
    let after : (done a (asked s a)).card.runs ≡ runs_by (trigger_for a (asked s a)) (asked s a).card.runs = done-runs a (asked s a) (Sound-asked a s h) (pre-asked a s ∙ n) in
    done-runs a s h n ∙ sym (after ∙ ap (λ x. runs_by x (asked s a).card.runs) (trigger-asked a s) ∙ ap (λ b. runs_by (trigger_for a s) b) (asked-runs a s))

-- what is left to show of a member after its act
pub posted : {C : Type 0} {g : Ghosts C} (a b : Act) (old new : Substream C g) (s : Stream) → a ≡ b → is_stop a ≡ true → HasDone a old s
    → (g.facts new.card).runs ≡ (g.facts old.card).runs → (g.facts new.card).plan ≡ (g.facts old.card).plan
    → Shows new (done b (asked s b)) → StandsFor new (after a vote.Yes outcome.Done s)
posted {C} {g} a b old new s e i h er ep shows = record {
  shows = subst (λ (x : Act). Shows {C = C} {g = g} new (done x (asked s x))) (sym e) shows;
  runs = er ∙ h.runs ∙ asked-done-runs a s h.sound h.voted;
  plan = λ plan q. h.plan plan (sym ep ∙ q) ∙ sym (done-plan a (asked s a));
  sound = Sound-done a (asked s a) i (pre-asked a s ∙ h.voted) (Sound-asked a s h.sound);
}

-- ---- what a stream of a runtime is

pub runtime-configured : (r : Runtime) (s : Stream) → RunsFor r s → Sound s → IsConfigured r.config s
runtime-configured r s h k = configured r.config s h.setup.config k

pub and-true : (x y z : Bool) → x ≡ true → y ≡ true → z ≡ (x && y && z)
and-true true true z e f = refl
and-true true false z e f = absurd (cc)
and-true false y z e f = absurd (cc)

pub and-false : (x y z : Bool) → y ≡ false → false ≡ (x && y && z)
and-false true true z e = absurd (cc)
and-false true false z e = refl
and-false false y z e = refl

-- ---- nothing written

abbrev pub lacks_data : Stream → Bool
lacks_data s = is_playback s.dir && nat_lt s.setup.sw.stop_threshold s.setup.boundary && nat_le s.setup.buffer (avail s)

pub lacks-then : (s : Stream) (r : Runtime) (n : ℕ) → s.dir ≡ dir.Playback → RunsFor r s → n ≡ avail s → r.sw.stop_threshold < r.shape.boundary → nat_le r.shape.buffer n ≡ lacks_data s
lacks-then s r n way h e low =
    let below : nat_lt r.sw.stop_threshold r.shape.boundary ≡ true = grind (arith, nat_tests, low) in
    let same : nat_lt s.setup.sw.stop_threshold s.setup.boundary ≡ nat_lt r.sw.stop_threshold r.shape.boundary =
    ap (λ (w : SwParams). nat_lt w.stop_threshold s.setup.boundary) h.setup.sw ∙ ap (λ l. nat_lt r.sw.stop_threshold l) h.setup.boundary in
    let full : nat_le r.shape.buffer n ≡ nat_le s.setup.buffer (avail s) = ap (λ b. nat_le b n) (sym h.setup.buffer) ∙ ap (λ m. nat_le s.setup.buffer m) e in
    full ∙ and-true (is_playback s.dir) (nat_lt s.setup.sw.stop_threshold s.setup.boundary) (nat_le s.setup.buffer (avail s)) (ap is_playback way) (same ∙ below)

pub lacks-else : (s : Stream) (r : Runtime) → RunsFor r s → r.shape.boundary ≤ r.sw.stop_threshold → nat_lt r.sw.stop_threshold r.shape.boundary ≡ lacks_data s
lacks-else s r h high =
    let above : nat_lt r.sw.stop_threshold r.shape.boundary ≡ false = grind (arith, nat_tests, high) in
    let same : nat_lt s.setup.sw.stop_threshold s.setup.boundary ≡ nat_lt r.sw.stop_threshold r.shape.boundary =
    ap (λ (w : SwParams). nat_lt w.stop_threshold s.setup.boundary) h.setup.sw ∙ ap (λ l. nat_lt r.sw.stop_threshold l) h.setup.boundary in
    above ∙ and-false (is_playback s.dir) (nat_lt s.setup.sw.stop_threshold s.setup.boundary) (nat_le s.setup.buffer (avail s)) (same ∙ above)

-- ---- what a stop, a resume and a prepare show

stop-set_up : (t u : State) (s : Stream) → (u ≡ state.Closed → ⊥) → (u ≡ state.Opened → ⊥) → (u ≡ state.Disconnected → ⊥) → turned s t None false s.card.plan ≡ stopped_in u t s
stop-set_up t state.Closed s e f g = absurd (e refl)
stop-set_up t state.Opened s e f g = absurd (f refl)
stop-set_up t state.Setup s e f g = refl
stop-set_up t state.Prepared s e f g = refl
stop-set_up t state.Running s e f g = refl
stop-set_up t state.Xrun s e f g = refl
stop-set_up t state.Draining s e f g = refl
stop-set_up t state.Paused s e f g = refl
stop-set_up t state.Suspended s e f g = refl
stop-set_up t state.Disconnected s e f g = absurd (g refl)

pub Shows-stopped : {C : Type 0} {g : Ghosts C} (a b : Substream C g) (s : Stream) (t : State) → IsLike a b → b.state ≡ t → b.kept ≡ None
    → (a.state ≡ state.Closed → ⊥) → (a.state ≡ state.Opened → ⊥) → (a.state ≡ state.Disconnected → ⊥) → Shows a s → Shows b (stopped t s)
Shows-stopped {C} {g} a b s t like et ek closed opened gone h =
    let same : turned s t None false s.card.plan ≡ stopped t s = stop-set_up t a.state s closed opened gone ∙ ap (λ (u : State). stopped_in u t s) h.state in
    subst (λ (x : Stream). Shows {C = C} {g = g} b x) same (Shows-turned a b s t None false s.card.plan like et ek h)

pub Shows-resumed : {C : Type 0} {g : Ghosts C} (a b : Substream C g) (s : Stream) (t : State) → IsLike a b → a.kept ≡ Some t → b.state ≡ t → b.kept ≡ None → Shows a s → Shows b (resumed s)
Shows-resumed {C} {g} a b s t like e et ek h =
    subst (λ (k : Option State). Shows {C = C} {g = g} b (resumed_to k s)) (sym e ∙ h.kept) (Shows-turned a b s t None (runs_in s.dir t) s.card.plan like et ek h)

-- two substreams of one direction
pub record IsOneWay {C : Type 0} {g : Ghosts C} (a b : Substream C g) : Type 0 where
  pub dir : b.dir ≡ a.dir
  pub long_max : b.long_max ≡ a.long_max
  pub state : b.state ≡ a.state
  pub kept : b.kept ≡ a.kept
  pub card : b.card ≡ a.card

pub Shows-filled : {C : Type 0} {g : Ghosts C} (a b : Substream C g) (s : Stream) (r u : Runtime) → IsOneWay a b → a.runtime ≡ Some r → b.runtime ≡ Some u → u.shape ≡ r.shape
    → RunsFor u (fill s) → Shows a s → Shows b (fill s)
Shows-filled {C} {g} a b s r u one er eu shape runs h =
    let facts : g.facts b.card ≡ g.facts a.card = ap g.facts one.card in
    let at : (g.facts b.card).position ≡ s.at.card % u.shape.buffer =
    ap (λ f. f.position) facts ∙ h.position r er ∙ ap (λ (x : Shape). s.at.card % x.buffer) (sym shape) in
    record {
      dir = one.dir ∙ h.dir;
      model = ap (λ f. f.model) facts ∙ h.model;
      long_max = one.long_max ∙ h.long_max;
      state = one.state ∙ h.state;
      kept = one.kept ∙ h.kept;
      taken = ap (λ f. f.taken) facts ∙ h.taken;
      to_give = ap (λ f. f.to_give) facts ∙ h.to_give;
      unset = λ e. no_none (IsUnset s.setup.config s.moved) u (sym eu ∙ e);
      runs_for = λ x e. for_some (λ (y : Runtime). RunsFor y (fill s)) u runs x (sym eu ∙ e);
      position = λ x e. for_some (λ (y : Runtime). (g.facts b.card).position ≡ s.at.card % y.shape.buffer) u at x (sym eu ∙ e);
    }

-- all four positions at the start
abbrev pub prepared : Stream → Stream
prepared s = record s { at = all_at s.setup.boundary }

-- a card at the start, under pointers at the start
pub Shows-prepared : {C : Type 0} {g : Ghosts C} (a b : Substream C g) (s : Stream) (r u : Runtime) → b.dir ≡ a.dir → b.long_max ≡ a.long_max → g.facts b.card ≡ rewound_card (g.facts a.card)
    → b.state ≡ state.Prepared → b.kept ≡ None → a.runtime ≡ Some r → b.runtime ≡ Some u → u.shape ≡ r.shape → RunsFor u (prepared s) → Shows a s → Shows b (done (act.Prepare true) s)
Shows-prepared {C} {g} a b s r u ed el facts et ek er eu shape runs h =
    let old : RunsFor r s = h.runs_for r er in
    let start : s.setup.boundary % u.shape.buffer ≡ 0 = ap (λ l. l % u.shape.buffer) (old.setup.boundary ∙ ap (λ (x : Shape). x.boundary) (sym shape)) ∙ sound-whole u.shape u.sound in
    let at : (g.facts b.card).position ≡ s.setup.boundary % u.shape.buffer = ap (λ f. f.position) facts ∙ sym start in
    record {
      dir = ed ∙ h.dir;
      model = ap (λ f. f.model) facts ∙ h.model;
      long_max = el ∙ h.long_max;
      state = et;
      kept = ek;
      taken = ap (λ f. f.taken) facts ∙ h.taken;
      to_give = ap (λ f. f.to_give) facts ∙ h.to_give;
      unset = λ e. no_none (IsUnset s.setup.config s.moved) u (sym eu ∙ e);
      runs_for = λ x e. for_some (λ (y : Runtime). RunsFor y (prepared s)) u runs x (sym eu ∙ e);
      position = λ x e. for_some (λ (y : Runtime). (g.facts b.card).position ≡ s.setup.boundary % y.shape.buffer) u at x (sym eu ∙ e);
    }

-- ---- drains

-- what a drain comes to, in a direction and a state
drain-at : (s : Stream) (d : Dir) (t : State) → s.dir ≡ d → s.state ≡ t → drained_from d t s ≡ drained s
drain-at s d t e f = sym (ap (λ (x : Dir). drained_from x s.state s) e ∙ ap (λ (y : State). drained_from d y s) f)

-- a playback stream that has started to drain, before its silence
abbrev pub draining : Stream → Stream
draining s = turned s state.Draining s.kept true s.card.plan

pub drain-starts : (s : Stream) → s.dir ≡ dir.Playback → s.state ≡ state.Prepared → nat_lt (avail s) s.setup.buffer ≡ true → fill (draining s) ≡ drained s
drain-starts s e f some = sym (ap (λ b. drain_start b s) some) ∙ drain-at s dir.Playback state.Prepared e f

pub drain-ends : (s : Stream) → s.dir ≡ dir.Playback → s.state ≡ state.Prepared → nat_lt (avail s) s.setup.buffer ≡ false → turned s state.Setup s.kept s.card.runs s.card.plan ≡ drained s
drain-ends s e f none = sym (ap (λ b. drain_start b s) none) ∙ drain-at s dir.Playback state.Prepared e f

pub drain-runs_on : (s : Stream) → s.dir ≡ dir.Playback → s.state ≡ state.Running → turned s state.Draining s.kept s.card.runs s.card.plan ≡ drained s
drain-runs_on s e f = drain-at s dir.Playback state.Running e f

pub drain-xrun : (s : Stream) → s.dir ≡ dir.Playback → s.state ≡ state.Xrun → turned s state.Setup s.kept s.card.runs s.card.plan ≡ drained s
drain-xrun s e f = drain-at s dir.Playback state.Xrun e f

pub drain-reads : (s : Stream) → s.dir ≡ dir.Capture → s.state ≡ state.Running → nat_lt 0 (avail s) ≡ true → turned s state.Draining s.kept false s.card.plan ≡ drained s
drain-reads s e f some = sym (ap (λ b. drain_rest b s) some) ∙ drain-at s dir.Capture state.Running e f

pub drain-empty : (s : Stream) → s.dir ≡ dir.Capture → s.state ≡ state.Running → nat_lt 0 (avail s) ≡ false → turned s state.Setup s.kept false s.card.plan ≡ drained s
drain-empty s e f none = sym (ap (λ b. drain_rest b s) none) ∙ drain-at s dir.Capture state.Running e f

-- the positions of a stream in its place, in another state
pub placed-turned : (s : Stream) (t : State) (k : Option State) (b : Bool) (plan : List Bool) → ForSome s.setup.config (λ _. IsPlaced s) → ForSome s.setup.config (λ _. IsPlaced (turned s t k b plan))
placed-turned s t k b plan h c e =
    let p : IsPlaced s = h c e in
    record { reported = p.reported; near = p.near; origin = p.origin; written = p.written; fewer = p.fewer; filled = p.filled }

-- a substream in another state, and the stream that it comes to
pub Shows-into : {C : Type 0} {g : Ghosts C} (a b : Substream C g) (s u : Stream) (t : State) (m : Bool) → IsLike a b → b.state ≡ t → b.kept ≡ a.kept
    → turned s t s.kept m s.card.plan ≡ u → Shows a s → Shows b u
Shows-into {C} {g} a b s u t m like et ek e h = subst (λ (x : Stream). Shows {C = C} {g = g} b x) e (Shows-turned a b s t s.kept m s.card.plan like et (ek ∙ h.kept) h)

-- ---- a card that is asked

-- the two substreams have the same sides but for their cards
pub record HasOtherCard {C : Type 0} {g : Ghosts C} (a b : Substream C g) : Type 0 where
  pub dir : b.dir ≡ a.dir
  pub long_max : b.long_max ≡ a.long_max
  pub runtime : b.runtime ≡ a.runtime
  pub state : b.state ≡ a.state
  pub kept : b.kept ≡ a.kept

-- another motion and another plan show the same stream
Shows-moved : {C : Type 0} {g : Ghosts C} (a b : Substream C g) (s : Stream) (runs : Bool) (plan : Option (List Bool)) → HasOtherCard a b
    → g.facts b.card ≡ record (g.facts a.card) { runs = runs; plan = plan } → Shows a s → Shows b s
Shows-moved a b s runs plan other facts h =
    Shows-turned a b s s.state s.kept s.card.runs s.card.plan
    (record {
      dir = other.dir;
      long_max = other.long_max;
      runtime = other.runtime;
      model = ap (λ f. f.model) facts;
      taken = ap (λ f. f.taken) facts;
      to_give = ap (λ f. f.to_give) facts;
      position = ap (λ f. f.position) facts;
    }) (other.state ∙ h.state) (other.kept ∙ h.kept) h

plan-after : (p : Option (List Bool)) (t : Trigger) (q : List Bool) → ForSome p (λ plan. plan ≡ q) → ForSome (plan_after t p) (λ plan. plan ≡ plan_if (consults t) q)
plan-after None t q h plan e = absurd (cc)
plan-after (Some x) t q h plan e =
    let same : plan_if (consults t) x ≡ plan = cc in
    sym same ∙ ap (λ y. plan_if (consults t) y) (h x refl)

pub did : {C : Type 0} {g : Ghosts C} (a : Act) (old new : Substream C g) (s : Stream) (t : Trigger) → HasOtherCard old new → trigger_for a s ≡ Some t → pre s a ≡ None
    → StandsFor old s → g.facts new.card ≡ triggered (g.facts old.card) t → HasDone a new s
did {C} {g} a old new s t other e n h facts = record {
  shows = Shows-moved old new s (runs_after t) (plan_after t (g.facts old.card).plan) other facts h.shows;
  runs = ap (λ f. f.runs) facts ∙ sym (done-runs a s h.sound n ∙ ap (λ x. runs_by x s.card.runs) e);
  plan = λ plan q. plan-after (g.facts old.card).plan t s.card.plan h.plan plan (sym (ap (λ f. f.plan) facts) ∙ q) ∙ asked-plan a s t e;
  sound = h.sound;
  voted = n;
}

pub did_not : {C : Type 0} {g : Ghosts C} (a : Act) (old new : Substream C g) (s : Stream) (t : Trigger) → HasOtherCard old new → trigger_for a s ≡ Some t
    → StandsFor old s → g.facts new.card ≡ tripped (g.facts old.card) t → StandsFor new (asked s a)
did_not {C} {g} a old new s t other e h facts = record {
  shows = Shows-asked a new s (Shows-moved old new s (g.facts old.card).runs (plan_after t (g.facts old.card).plan) other facts h.shows);
  runs = ap (λ f. f.runs) facts ∙ h.runs ∙ sym (asked-runs a s);
  plan = λ plan q. plan-after (g.facts old.card).plan t s.card.plan h.plan plan (sym (ap (λ f. f.plan) facts) ∙ q) ∙ asked-plan a s t e;
  sound = Sound-asked a s h.sound;
}

-- nothing was asked
pub did_nothing : {C : Type 0} {g : Ghosts C} (a : Act) (sub : Substream C g) (s : Stream) → trigger_for a s ≡ None → pre s a ≡ None → StandsFor sub s → HasDone a sub s
did_nothing a sub s e n h = record {
  shows = h.shows;
  runs = h.runs ∙ sym (done-runs a s h.sound n ∙ ap (λ x. runs_by x s.card.runs) e);
  plan = λ plan q. h.plan plan q ∙ sym (ap (λ (x : Stream). x.card.plan) (unasked a s e));
  sound = h.sound;
  voted = n;
}

planned-trips : (p : Option (List Bool)) (b : Bool) (t : Trigger) (q : List Bool) → IfSome p (λ plan. b ≡ (consults t && first_set plan)) → IsSome p → ForSome p (λ plan. plan ≡ q) → b ≡ (consults t && first_set q)
planned-trips None b t q h some k = absurd (cc)
planned-trips (Some x) b t q h some k = h ∙ ap (λ y. consults t && first_set y) (k x refl)

-- a card that tells its plan fails where the act trips
pub told-trips : {C : Type 0} {g : Ghosts C} (a : Act) (sub : Substream C g) (s : Stream) (t : Trigger) (b : Bool) → trigger_for a s ≡ Some t → StandsFor sub s
    → IfSome (g.facts sub.card).plan (λ plan. b ≡ (consults t && first_set plan)) → IsSome (g.facts sub.card).plan → b ≡ trips s a
told-trips {C} {g} a sub s t b e h fails some = planned-trips (g.facts sub.card).plan b t s.card.plan fails some h.plan ∙ trips-by a s t e

pub unasked-trips : (a : Act) (s : Stream) → trigger_for a s ≡ None → false ≡ trips s a
unasked-trips a s e = sym (ap (λ b. b && first_set s.card.plan) (asks-consults a s ∙ ap consulted_by e))

-- ---- a card that is asked to take back what it did

-- what differs is the opposite
not_same : (x y : Bool) → not (beq x y) ≡ true → not x ≡ y
not_same true true d = absurd (cc)
not_same true false d = refl
not_same false true d = refl
not_same false false d = absurd (cc)

pub differ : (x y u v : Bool) → x ≡ u → y ≡ v → not (beq x y) ≡ true → not (beq u v) ≡ true
differ x y u v e f d = subst (λ b. not (beq u b) ≡ true) f (subst (λ b. not (beq b y) ≡ true) e d)

pub is_same : (x y : Bool) → not (beq x y) ≡ false → x ≡ y
is_same true true d = refl
is_same true false d = absurd (cc)
is_same false true d = absurd (cc)
is_same false false d = refl

-- the motion after a trigger
triggered-runs : {C : Type 0} {g : Ghosts C} (a : Act) (sub : Substream C g) (s : Stream) (t : Option Trigger) → trigger_for a s ≡ t → HasDone a sub s → (g.facts sub.card).runs ≡ runs_by t s.card.runs
triggered-runs a sub s t e h = h.runs ∙ done-runs a s h.sound h.voted ∙ ap (λ x. runs_by x s.card.runs) e

pub stands-as : {C : Type 0} {g : Ghosts C} (a : Act) (sub : Substream C g) (s : Stream) → HasDone a sub s → (g.facts sub.card).runs ≡ s.card.runs → StandsFor sub (asked s a)
stands-as a sub s h e = record {
  shows = Shows-asked a sub s h.shows;
  runs = e ∙ sym (asked-runs a s);
  plan = h.plan;
  sound = Sound-asked a s h.sound;
}

pub undid : {C : Type 0} {g : Ghosts C} (a : Act) (old new : Substream C g) (s : Stream) (t : Trigger) → HasOtherCard old new → trigger_for a s ≡ Some t → HasDone a old s
    → not (beq (g.facts old.card).runs s.card.runs) ≡ true → g.facts new.card ≡ undone (g.facts old.card) t → StandsFor new (asked s a)
undid {C} {g} a old new s t other e h changed facts =
    let before : (g.facts old.card).runs ≡ runs_after t = triggered-runs a old s (Some t) e h in
    record {
      shows = Shows-asked a new s (Shows-moved old new s (not (runs_after t)) (g.facts old.card).plan other facts h.shows);
      runs = ap (λ f. f.runs) facts ∙ ap not (sym before) ∙ not_same (g.facts old.card).runs s.card.runs changed ∙ sym (asked-runs a s);
      plan = λ plan q. h.plan plan (sym (ap (λ f. f.plan) facts) ∙ q);
      sound = Sound-asked a s h.sound;
    }

pub undid_nothing : {C : Type 0} {g : Ghosts C} (a : Act) (sub : Substream C g) (s : Stream) → trigger_for a s ≡ None → HasDone a sub s → StandsFor sub (asked s a)
undid_nothing {C} {g} a sub s e h = stands-as a sub s h (triggered-runs {C = C} {g = g} a sub s None e h)

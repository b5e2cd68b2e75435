use Rattle.std.proofs.Common.{◌≡◌, ℕ, Bool, true, false, List, Option, Result, Ok, Err, IsErr, IsOk, length, refl, sym, ◌∙◌, ap, arith}
use Rattle.std.specs.Option.{is_some}
use Rattle.std.specs.declared.option.Option.TheVariants.{Some, None}
use Rattle.std.proofs.lemmas.Result.{on_err_weaker, on_ok_weaker}
use Rattle.pcm_base.specs.CardFacts.{consults, plan_after}
use Rattle.pcm_base.specs.declared.act.Trigger.{Trigger}
use Rattle.pcm_base.specs.declared.card.CardFailed.{CardFailed}
use Rattle.pcm_stream.specs.Triggers.{trigger_for}
use Rattle.pcm_stream.proofs.ActsLemmas.{asks-consults, consulted_by, did, did_not, did_nothing, kept_by_trigger, planned-after, told-trips, unasked-trips}
use Rattle.pcm_stream.proofs.substream.Substream.do_act.Goals as goal

pub returns-in-Some-clause-done : goal.returns-in-Some-clause-done
returns-in-Some-clause-done g c s h =
    let e : trigger_for c.args.act s ≡ Some c.in-Some.trigger = sym (c.trigger_for.ensures s h.shows h.sound) ∙ c.in-Some.is in
    on_ok_weaker c.trigger.result
    (did c.args.act c.args.self.now _ s c.in-Some.trigger (record { dir = refl; long_max = refl; runtime = refl; state = refl; kept = refl }) e (c.requires.voted s h) h)
    c.trigger.ensures.ok

pub returns-in-Some-clause-failed : goal.returns-in-Some-clause-failed
returns-in-Some-clause-failed g c s h =
    let e : trigger_for c.args.act s ≡ Some c.in-Some.trigger = sym (c.trigger_for.ensures s h.shows h.sound) ∙ c.in-Some.is in
    on_err_weaker c.trigger.result
    (did_not c.args.act c.args.self.now _ s c.in-Some.trigger (record { dir = refl; long_max = refl; runtime = refl; state = refl; kept = refl }) e h)
    c.trigger.ensures.err

pub returns-in-Some-clause-trips : goal.returns-in-Some-clause-trips
returns-in-Some-clause-trips g c s h =
    let e : trigger_for c.args.act s ≡ Some c.in-Some.trigger = sym (c.trigger_for.ensures s h.shows h.sound) ∙ c.in-Some.is in
    told-trips c.args.act c.args.self.now s c.in-Some.trigger _ e h c.trigger.ensures.plan

pub returns-in-None-clause-done : goal.returns-in-None-clause-done
returns-in-None-clause-done g c s h =
    let e : trigger_for c.args.act s ≡ None = sym (c.trigger_for.ensures s h.shows h.sound) ∙ c.in-None.is in
    did_nothing c.args.act c.args.self.now s e (c.requires.voted s h) h

pub returns-in-None-clause-trips : goal.returns-in-None-clause-trips
returns-in-None-clause-trips g c s h some = unasked-trips c.args.act s (sym (c.trigger_for.ensures s h.shows h.sound) ∙ c.in-None.is)

pub invariant_of-self : goal.invariant_of-self
invariant_of-self g c =
    let held = kept_by_trigger _ _ c.in-Some.trigger c.trigger.result c.trigger.ensures.ok c.trigger.ensures.err in
    record {
      set_up = λ x is. held.0 ∙ c.args.self.now.set_up x is;
      long = c.args.self.now.long;
      held = omega (arith, ap (λ (bytes : List ℕ). length bytes) held.1, c.args.self.now.held);
      planned = λ plan is. planned-after c.in-Some.trigger _ c.args.self.now.planned plan (sym held.2 ∙ is);
    }

-- a card that fails was asked
asked_where : (b : Bool) (r : Result (Unit {0}) CardFailed) → (b ≡ false → IsOk r) → IsErr r → b ≡ true
asked_where true r h k = refl
asked_where false (Ok u) h k = absurd (let no : ⊥ = cc in no)
asked_where false (Err e) h k = absurd (let no : ⊥ = cc (h refl) in no)

tells_after : (t : Trigger) (o : Option (List Bool)) → is_some (plan_after t o) ≡ is_some o
tells_after t None = refl
tells_after t (Some plan) = refl

pub returns-in-Some-clause-asked : goal.returns-in-Some-clause-asked
returns-in-Some-clause-asked g c s h k =
    let e : trigger_for c.args.act s ≡ Some c.in-Some.trigger = sym (c.trigger_for.ensures s h.shows h.sound) ∙ c.in-Some.is in
    asks-consults c.args.act s ∙ ap consulted_by e ∙ asked_where (consults c.in-Some.trigger) c.trigger.result c.trigger.ensures.never k

pub returns-in-Some-clause-tells : goal.returns-in-Some-clause-tells
returns-in-Some-clause-tells g c =
    let held = kept_by_trigger _ _ c.in-Some.trigger c.trigger.result c.trigger.ensures.ok c.trigger.ensures.err in
    ap is_some held.2 ∙ tells_after c.in-Some.trigger _

use Rattle.std.proofs.Common.{◌≡◌, sym, ◌∙◌, ap, subst, refl}
use Rattle.std.specs.Option.{option_map}
use Rattle.std.specs.declared.option.Option.TheVariants.{Some}
use Rattle.pcm_base.specs.model.Sleep.{without_client}
use Rattle.sleepers.specs.Clients.{AreApart, is_of, sleeper_of}
use Rattle.sleepers.specs.Marks.{waiting, AreMarks}
use Rattle.sleepers.proofs.ClientLemmas.{taken-at, absent-from, AreApart-filter, list_any-others}
use Rattle.sleepers.proofs.MarkLemmas.{task-waiting, waiting-others, AreMarks-take}
use Rattle.sleepers.proofs.list.Sleepers.take.Goals as goal

pub invariant_of-self : goal.invariant_of-self
invariant_of-self c =
    let there = taken-at _ _ _ _ _ c.self.invariant c.in-Some.is c.place_of.ensures c.deref.ensures.0 in
    rw (c.remove-place.ensures.items, there.others) (AreApart-filter _ _ c.self.invariant)

pub returns-in-Some-clause-value : goal.returns-in-Some-clause-value
returns-in-Some-clause-value c =
    let there = taken-at _ _ _ _ _ c.self.invariant c.in-Some.is c.place_of.ensures c.deref.ensures.0 in
    rw (← c.self.view_is)
    (ap (λ v. Some v) (c.place.view_is ∙ c.remove-place.ensures.value) ∙ sym (there.found c.remove-place.result))

pub returns-in-Some-clause-none : goal.returns-in-Some-clause-none
returns-in-Some-clause-none c =
    let there = taken-at _ _ _ _ _ c.self.invariant c.in-Some.is c.place_of.ensures c.deref.ensures.0 in
    rw (← c.self.view_is) (let here = there.here in (λ h. absurd (cc), λ h. absurd (cc)))

pub returns-in-Some-clause-others : goal.returns-in-Some-clause-others
returns-in-Some-clause-others c =
    let there = taken-at _ _ _ _ _ c.self.invariant c.in-Some.is c.place_of.ensures c.deref.ensures.0 in
    rw (← c.self.view_is) (c.remove-place.ensures.items ∙ there.others)

pub returns-in-Some-clause-gone : goal.returns-in-Some-clause-gone
returns-in-Some-clause-gone c =
    let there = taken-at _ _ _ _ _ c.self.invariant c.in-Some.is c.place_of.ensures c.deref.ensures.0 in
    rw (c.remove-place.ensures.items, there.others) (list_any-others (is_of c.args.client) c.self.inside.items.items)

pub returns-in-Some-clause-waiting : goal.returns-in-Some-clause-waiting
returns-in-Some-clause-waiting c =
    let there = taken-at _ _ _ _ _ c.self.invariant c.in-Some.is c.place_of.ensures c.deref.ensures.0 in
    rw (← c.self.view_is, c.remove-place.ensures.items, there.others)
    (waiting-others c.args.client c.self.inside.items.items c.self.invariant)

pub returns-in-Some-clause-marks : goal.returns-in-Some-clause-marks
returns-in-Some-clause-marks c =
    let there = taken-at _ _ _ _ _ c.self.invariant c.in-Some.is c.place_of.ensures c.deref.ensures.0 in
    rw (c.remove-place.ensures.items, there.others)
    (λ marks h. AreMarks-take c.args.client marks c.self.inside.items.items (subst (AreMarks marks) (sym c.self.view_is) h))

pub returns-in-None-clause-value : goal.returns-in-None-clause-value
returns-in-None-clause-value c =
    let nowhere = absent-from _ _ _ _ c.in-None.is c.place_of.ensures c.deref.ensures.0 in
    rw (← c.self.view_is) (sym nowhere.found)

pub returns-in-None-clause-none : goal.returns-in-None-clause-none
returns-in-None-clause-none c =
    let nowhere = absent-from _ _ _ _ c.in-None.is c.place_of.ensures c.deref.ensures.0 in
    rw (← c.self.view_is) ((λ h. nowhere.none), (λ h. refl))

pub returns-in-None-clause-others : goal.returns-in-None-clause-others
returns-in-None-clause-others c =
    let nowhere = absent-from _ _ _ _ c.in-None.is c.place_of.ensures c.deref.ensures.0 in
    rw (← c.self.view_is) (sym nowhere.others)

pub returns-in-None-clause-gone : goal.returns-in-None-clause-gone
returns-in-None-clause-gone c =
    let nowhere = absent-from _ _ _ _ c.in-None.is c.place_of.ensures c.deref.ensures.0 in
    rw (← c.self.view_is) nowhere.none

pub returns-in-None-clause-waiting : goal.returns-in-None-clause-waiting
returns-in-None-clause-waiting c =
    let nowhere = absent-from _ _ _ _ c.in-None.is c.place_of.ensures c.deref.ensures.0 in
    rw (← c.self.view_is)
    (sym (ap waiting nowhere.others) ∙ waiting-others c.args.client c.self.inside.items.items c.self.invariant)

pub returns-in-None-clause-marks : goal.returns-in-None-clause-marks
returns-in-None-clause-marks c =
    let nowhere = absent-from _ _ _ _ c.in-None.is c.place_of.ensures c.deref.ensures.0 in
    λ marks h. subst (AreMarks (without_client c.args.client marks)) (nowhere.others ∙ c.self.view_is)
    (AreMarks-take c.args.client marks c.self.inside.items.items (subst (AreMarks marks) (sym c.self.view_is) h))

pub returns-in-Some-clause-task : goal.returns-in-Some-clause-task
returns-in-Some-clause-task c =
    let there = taken-at _ _ _ _ _ c.self.invariant c.in-Some.is c.place_of.ensures c.deref.ensures.0 in
    let value : Some c.place.inside.sleeper ≡ sleeper_of c.args.client c.self.inside.items.items =
    ap (λ v. Some v) (c.place.view_is ∙ c.remove-place.ensures.value) ∙ sym (there.found c.remove-place.result) in
    rw (← c.self.view_is) (ap (option_map (λ x. x.task)) value ∙ task-waiting c.args.client c.self.inside.items.items)

pub returns-in-None-clause-task : goal.returns-in-None-clause-task
returns-in-None-clause-task c =
    let nowhere = absent-from _ _ _ _ c.in-None.is c.place_of.ensures c.deref.ensures.0 in
    rw (← c.self.view_is)
    (sym (ap (option_map (λ x. x.task)) nowhere.found) ∙ task-waiting c.args.client c.self.inside.items.items)

pub returns-in-Some-clause-apart : goal.returns-in-Some-clause-apart
returns-in-Some-clause-apart c =
    let there = taken-at _ _ _ _ _ c.self.invariant c.in-Some.is c.place_of.ensures c.deref.ensures.0 in
    rw (c.remove-place.ensures.items, there.others) (AreApart-filter _ _ c.self.invariant)

pub returns-in-None-clause-apart : goal.returns-in-None-clause-apart
returns-in-None-clause-apart c = subst AreApart c.self.view_is c.self.invariant

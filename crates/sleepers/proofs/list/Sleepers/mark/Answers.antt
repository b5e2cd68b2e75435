use Rattle.std.proofs.Common.{◌≡◌, List, length, sym, ◌∙◌, ap, subst}
use Rattle.arrayvec.proofs.ArrayVecLemmas.{items-with_items}
use Rattle.arrayvec.specs.ArrayVec.{with_items}
use Rattle.pcm_base.specs.declared.sleeper.Sleeper.{Sleeper}
use Rattle.sleepers.specs.Clients.{AreApart}
use Rattle.sleepers.specs.Marks.{AreMarks, marks_with}
use Rattle.sleepers.specs.Wake.{with_mark}
use Rattle.sleepers.proofs.MarkLemmas.{AreApart-marked, AreMarks-mark, length-marked, waiting-marked}
use Rattle.sleepers.proofs.list.Sleepers.mark.Goals as goal

-- what the slice leaves is the list with the mark
left : (c : goal.After-self-1) → (with_items c.self.inside.items c.mark_each.new.places).items ≡ with_mark c.args.client c.args.asleep c.self.inside.items.items
left c =
    let before = c.self.inside.items.items in
    let places : c.mark_each.new.places ≡ with_mark c.args.client c.args.asleep before = c.mark_each.ensures ∙ ap (with_mark c.args.client c.args.asleep) c.as_mut_slice.ensures.value in
    let same : length c.mark_each.new.places ≡ length before = ap length places ∙ length-marked c.args.client c.args.asleep before in
    items-with_items c.self.inside.items c.mark_each.new.places same ∙ places

pub invariant_of-self : goal.invariant_of-self
invariant_of-self c = subst AreApart (sym (left c)) (AreApart-marked c.args.client c.args.asleep c.self.inside.items.items c.self.invariant)

pub returns-clause-apart : goal.returns-clause-apart
returns-clause-apart c = subst AreApart (sym (left c)) (AreApart-marked c.args.client c.args.asleep c.self.inside.items.items c.self.invariant)

pub returns-clause-waiting : goal.returns-clause-waiting
returns-clause-waiting c = rw (left c, ← c.self.view_is) (waiting-marked c.args.client c.args.asleep c.self.inside.items.items)

pub returns-clause-marks : goal.returns-clause-marks
returns-clause-marks c = λ marks h.
    subst (λ (xs : List Sleeper). AreMarks (marks_with c.args.client c.args.asleep marks) xs) (sym (left c))
    (AreMarks-mark c.args.client c.args.asleep marks c.self.inside.items.items (subst (λ (xs : List Sleeper). AreMarks marks xs) (sym c.self.view_is) h))

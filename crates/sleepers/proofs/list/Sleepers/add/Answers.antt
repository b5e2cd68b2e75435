use Rattle.std.proofs.Common.{◌≡◌, ◌<◌, length, [], ◌∷◌, ◌++◌, false, sym, ◌∙◌, ap, subst, arith}
use Rattle.pcm_base.specs.declared.sleeper.Sleeper.{Sleeper}
use Rattle.pcm_base.specs.model.Sleep.{without_client}
use Rattle.sleepers.specs.Clients.{has_client}
use Rattle.sleepers.specs.Marks.{AreMarks}
use Rattle.sleepers.proofs.ClientLemmas.{AreApart-append_one, room}
use Rattle.sleepers.proofs.MarkLemmas.{AreMarks-add}
use Rattle.sleepers.proofs.list.Sleepers.add.Goals as goal

pub push-requires : goal.push-requires
push-requires c =
    let fits : length c.self.inside.items.items < 16 =
    room _ c.args.s c.self.invariant (rw c.self.view_is c.requires.none) c.requires.client in
    omega arith

pub invariant_of-self : goal.invariant_of-self
invariant_of-self c =
    rw (c.push.ensures.items, c.of.ensures)
    (AreApart-append_one _ c.args.s c.self.invariant (rw c.self.view_is c.requires.none) (omega arith))

pub returns-clause-marks : goal.returns-clause-marks
returns-clause-marks c =
    λ marks asleep h.
    let before = c.self.inside.items.items in
    let s = c.args.s in
    let none : has_client s.client before ≡ false = rw c.self.view_is c.requires.none in
    let items : c.push.new.self.items ≡ before ++ s ∷ [] =
    c.push.ensures.items ∙ ap (λ (x : Sleeper). before ++ x ∷ []) c.of.ensures in
    subst (AreMarks (s.client ∷ without_client s.client marks)) (sym items)
    (AreMarks-add marks before s none asleep (subst (AreMarks marks) (sym c.self.view_is) h))

pub returns-clause-apart : goal.returns-clause-apart
returns-clause-apart c =
    rw (c.push.ensures.items, c.of.ensures)
    (AreApart-append_one _ c.args.s c.self.invariant (rw c.self.view_is c.requires.none) (omega arith))

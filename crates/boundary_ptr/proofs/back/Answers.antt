use Rattle.std.proofs.Common.{◌+◌, ◌-◌, ◌%◌, ap, ◌∙◌}
use Rattle.boundary_ptr.proofs.PointerLemmas.{mod-sub_le}
use Rattle.boundary_ptr.proofs.back.Goals as goal

pub returns-clause-shown : goal.returns-clause-shown
returns-clause-shown c = λ u h e.
    c.wrapped.ensures
    ∙ (ap (λ p. (p + c.args.shape.now.boundary - c.args.n) % c.args.shape.now.boundary) e
    ∙ mod-sub_le c.args.shape.now.boundary u c.args.n c.requires.count h)

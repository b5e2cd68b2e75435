use Rattle.std.proofs.Common.{◌+◌, ◌%◌, ap, ◌∙◌}
use Rattle.std.proofs.Math.Nat.{mod-add-mod}
use Rattle.boundary_ptr.proofs.add.Goals as goal

pub returns-clause-shown : goal.returns-clause-shown
returns-clause-shown c = λ u e.
    c.wrapped.ensures ∙ (ap (λ p. (p + c.args.n) % c.args.shape.now.boundary) e ∙ mod-add-mod u c.args.shape.now.boundary c.args.n)

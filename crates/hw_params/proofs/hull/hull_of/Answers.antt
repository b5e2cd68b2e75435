use Rattle.hw_params.proofs.Boxes.{fits-of}
use Rattle.hw_params.proofs.hull.hull_of.Goals as goal

pub returns-in_default-sizes_of : goal.returns-in_default-sizes_of
returns-in_default-sizes_of c = λ d o.
    c.in_default-sizes_of.ensures d.period d.periods (fits-of c.args.model.now c.args.space.now c.in-Some.base c.requires c.in-Some.ensures d o)

use Rattle.std.proofs.Common.{sym, subst}
use Rattle.std.specs.Prelude.{Option, IfSome}
use Rattle.pcm_base.specs.declared.config.Shape.{Shape}
use Rattle.pcm_stream.specs.StandsFor.{IsShapeOf}
use Rattle.xfer_loop.proofs.TurnLemmas.{turn-shown}
use Rattle.xfer_loop.proofs.turn.Goals as goal

pub returns-clause-model : goal.returns-clause-model
returns-clause-model g c s config h e =
    let shape = c.in-Some.shape.now in
    let sizes : IsShapeOf s shape = subst (λ (o : Option Shape). IfSome o (IsShapeOf s)) (sym c.in-Some.ensures.value) (c.in-Some.ensures.model s h) in
    turn-shown config s c.page-page.result c.args.rest shape.buffer c.min.result c.min-2.result e h.sound (c.page-page.ensures.page s h) sizes.buffer c.min.ensures c.min-2.ensures

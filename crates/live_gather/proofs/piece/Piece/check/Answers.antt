use Rattle.std.proofs.Common.{ap, subst}
use Rattle.floor_rule.specs.Steps.{IsConfirmed}
use Rattle.live_gather.specs.Told.{Agrees}
use Rattle.live_gather.proofs.ToldLemmas.{confirmed}
use Rattle.live_gather.proofs.piece.Piece.check.Goals as goal

pub returns-clause-agrees : goal.returns-clause-agrees
returns-clause-agrees g c =
    subst (Agrees c.args.note.lists) c.self.view_is (confirmed c.self.inside.rec.knows c.args.note.lists (subst IsConfirmed (ap (λ r. r.knows) c.hear.ensures) c.confirm.ensures.confirmed))

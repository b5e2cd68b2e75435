use Rattle.std.proofs.Common.{ℕ, List, length, sym, ap, subst}
use Rattle.floor_rule.specs.declared.rule.Lists.{Lists}
use Rattle.floor_rule.specs.declared.rule.Marked.{Marked}
use Rattle.live_gather.specs.Told.{IsTold}
use Rattle.live_gather.proofs.ToldLemmas.{told_of}
use Rattle.live_gather.proofs.piece.Piece.tell.Goals as goal

pub returns-clause-tells : goal.returns-clause-tells
returns-clause-tells g c =
    subst (λ (z : (ℕ × List Marked) × Lists). IsTold (length g.N.FloorName.cards) z.0 z.1) (λ i. (c.self.view_is i, sym (ap (λ n. n.lists) c.tell.ensures.note) i))
    (told_of (length g.N.FloorName.cards) c.self.inside.rec.knows c.tell.ensures.backed)

use Rattle.std.proofs.Common.{sym, ap, subst, inr}
use Rattle.floor_rule.specs.Lists.{Stands}
use Rattle.room_parts.proofs.Backing.{stands_first}
use Rattle.room_parts.proofs.rec.Rec.join.Goals as goal

pub add-requires-clause-backed : goal.add-requires-clause-backed
add-requires-clause-backed g c =
    let cause = c.requires.cause in
    let held = stands_first c.args.news.lists.logs c.args.self.now.knows.held.logs c.args.sub.0 c.args.place cause.0 cause.1 in
    (cause.0, inr (subst (λ l. Stands l c.args.sub.0 c.args.place cause.0) (sym (ap (λ v. v.knows.held.logs) c.hear.ensures)) held), cause.2)

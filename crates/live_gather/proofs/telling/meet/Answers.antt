use Rattle.std.proofs.Common.{ℕ, List, ◌∙◌, subst}
use Rattle.floor_rule.specs.declared.rule.Marked.{Marked}
use Rattle.floor_rule.specs.Steps.{told_by_pass}
use Rattle.room_parts.specs.Passes.{PassView}
use Rattle.live_gather.specs.Told.{Agrees, Each, OwnsIn}
use Rattle.live_gather.proofs.telling.meet.Goals as goal

pub returns-clause-met : goal.returns-clause-met
returns-clause-met g c =
    let same = c.look.ensures.same in
    let twice = c.check_all.ensures.same.1 ∙ same in
    record {
      stands = c.look.ensures.stands;
      agree = subst (λ (p : PassView). Each (Agrees (told_by_pass p.knows)) c.args.pieces.now.items) same c.check_all.ensures.agree;
      own = subst (λ (z : PassView × List (ℕ × List Marked)). Each (OwnsIn z.0.knows.number z.0.knows.calls) z.1) (λ k. (twice k, c.check_all.ensures.same.0 k)) c.look_at_all.ensures.own;
    }

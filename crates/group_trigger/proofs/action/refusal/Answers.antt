use Rattle.std.proofs.Common.{◌≡◌, Some, subst, sym, ◌∙◌}
use Rattle.pcm_stream.specs.declared.members.Member.{Member}
use Rattle.pcm_stream.specs.Members.{members_of}
use Rattle.pcm_stream.specs.StandsFor.{StandsFor}
use Rattle.group_trigger.specs.Phases.{Allows}
use Rattle.group_trigger.proofs.ListLemmas.{AllBefore-next}
use Rattle.group_trigger.proofs.action.refusal.Goals as goal

pub loop-i-preserved : goal.loop-i-preserved
loop-i-preserved g c =
    AllBefore-next (Allows {C = g.row.C.Denot} {g = g.C.Card} c.args.act) c.loop-i.i (members_of c.args.members.now) c.loop-i.invariant
    (λ m is s h.
    let same : m ≡ c.at.result.now = (let both : Some m ≡ Some c.at.result.now = sym is ∙ c.at.ensures in cc) in
    c.in_default.ensures s (subst (λ (n : Member g.row.C.Denot g.C.Card). StandsFor n.stream s) same h))

use Rattle.std.proofs.Common.{Option, sym, ap, ◌∙◌, subst}
use Rattle.std.specs.Prelude.{IfSome}
use Rattle.pcm_base.specs.declared.sleeper.Task.{Task}
use Rattle.pcm_base.specs.model.Events.{waiting_of}
use Rattle.pcm_base.specs.model.Group.{stream_of}
use Rattle.pcm_base.specs.model.Stream.{Stream}
use Rattle.pcm_stream.specs.Members.{members_of}
use Rattle.pcm_stream.specs.MembersStand.{CallsFit, TaskFits}
use Rattle.pcm_group.proofs.GoingLemmas.{fits_of}
use Rattle.pcm_group.proofs.PlaceLemmas.{IsThere, there}
use Rattle.pcm_group.proofs.go.task_at.Goals as goal

pub returns-clause-task : goal.returns-clause-task
returns-clause-task g c = λ k tells xs h.
    let r : IsThere c.at.result.now k xs = there (members_of c.args.members.now) c.args.place c.at.result.now k xs h.stands h.distinct h.number c.at.ensures in
    c.task.ensures ∙ ap (waiting_of c.args.client) (r.stands.member.calls ∙ ap (λ (s : Stream). s.sleepers) r.stream)

pub returns-clause-fits : goal.returns-clause-fits
returns-clause-fits g c = λ k tells xs h.
    let r : IsThere c.at.result.now k xs = there (members_of c.args.members.now) c.args.place c.at.result.now k xs h.stands h.distinct h.number c.at.ensures in
    let fit : CallsFit (stream_of k xs) (stream_of k xs).sleepers = subst (λ (s : Stream). CallsFit s s.sleepers) r.stream r.stands.member.fit in
    subst (λ (o : Option Task). IfSome o (TaskFits (stream_of k xs))) (sym (returns-clause-task g c k tells xs h)) (fits_of (stream_of k xs) c.args.client (stream_of k xs).sleepers fit)

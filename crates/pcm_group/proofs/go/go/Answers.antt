use Rattle.std.proofs.Common.{◌≡◌, Option, Some, sym, ap, ◌∙◌, subst}
use Rattle.std.specs.Prelude.{IfSome}
use Rattle.pcm_base.specs.declared.sleeper.Task.{Task}
use Rattle.pcm_base.specs.declared.sleeper.Task.TheVariants as task
use Rattle.pcm_base.specs.declared.state.Errno.TheVariants as errno
use Rattle.pcm_base.specs.model.Events.{go}
use Rattle.pcm_base.specs.model.Group.{stream_of}
use Rattle.pcm_base.specs.model.Program.{fails}
use Rattle.pcm_stream.specs.Members.{members_of}
use Rattle.pcm_stream.specs.MembersStand.{TaskFits}
use Rattle.pcm_group.proofs.AsleepLemmas.{IsEndedBy-at}
use Rattle.pcm_group.proofs.GoingLemmas.{drain_left, goes_none, none_left}
use Rattle.pcm_group.proofs.go.go.Goals as goal

pub returns-in-Some-Transfer-clause-done : goal.returns-in-Some-Transfer-clause-done
returns-in-Some-Transfer-clause-done g c = λ k tells xs h.
    let s = stream_of k xs in
    let same : c.task_at.result ≡ Some (task.Transfer c.in-Some-Transfer.xfer c.in-Some-Transfer.wanted) = c.in-Some-Transfer.is ∙ ap (λ (w : Task). Some w) c.in-Some-Transfer.field-0-is in
    c.go_transfer.ensures.done k tells xs h (subst (λ (o : Option Task). IfSome o (TaskFits s)) same (c.task_at.ensures.fits k tells xs h)) (sym (c.task_at.ensures.task k tells xs h) ∙ same)

pub returns-in-Some-Transfer-clause-bytes : goal.returns-in-Some-Transfer-clause-bytes
returns-in-Some-Transfer-clause-bytes g c = λ k tells xs b ys h runs.
    let s = stream_of k xs in
    let same : c.task_at.result ≡ Some (task.Transfer c.in-Some-Transfer.xfer c.in-Some-Transfer.wanted) = c.in-Some-Transfer.is ∙ ap (λ (w : Task). Some w) c.in-Some-Transfer.field-0-is in
    c.go_transfer.ensures.bytes k tells xs b ys h (subst (λ (o : Option Task). IfSome o (TaskFits s)) same (c.task_at.ensures.fits k tells xs h)) (sym (c.task_at.ensures.task k tells xs h) ∙ same) runs

pub returns-in-Some-Drain-clause-bytes : goal.returns-in-Some-Drain-clause-bytes
returns-in-Some-Drain-clause-bytes g c = λ k tells xs b ys h runs.
    let same : c.task_at.result ≡ Some task.Drain = c.in-Some-Drain.is ∙ ap (λ (w : Task). Some w) c.in-Some-Drain.field-0-is in
    drain_left c.args.client (stream_of k xs) b c.args.io.now (sym (c.task_at.ensures.task k tells xs h) ∙ same)

pub returns-in-None-clause-done : goal.returns-in-None-clause-done
returns-in-None-clause-done g c = λ k tells xs h.
    let cl = c.args.client in
    let s = stream_of k xs in
    let q = c.stay.result in
    IsEndedBy-at cl tells (go cl c.args.io.now s) (fails errno.Einval s) k xs c.args.acts.now c.args.acts.now q.reply q.first q.moved (members_of c.stay.new.members) (goes_none cl c.args.io.now s (sym (c.task_at.ensures.task k tells xs h) ∙ c.in-None.is))
    (c.stay.ensures.done k tells xs c.args.acts.now h)

pub returns-in-None-clause-bytes : goal.returns-in-None-clause-bytes
returns-in-None-clause-bytes g c = λ k tells xs b ys h runs. none_left c.args.client (stream_of k xs) b c.args.io.now (sym (c.task_at.ensures.task k tells xs h) ∙ c.in-None.is)

pub returns-in-None-clause-cards : goal.returns-in-None-clause-cards
returns-in-None-clause-cards g c = c.stay.ensures.cards c.args.acts.now

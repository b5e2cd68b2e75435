use Rattle.std.proofs.lemmas.Result.{err_from_is_err_and}
use Rattle.live_plan.proofs.FinishLemmas.{exact_answer, exact_error_told, finish_plan, finish_refused, finish_sound}
use Rattle.live_plan.proofs.SoundLemmas.{begins_sound}
use Rattle.live_plan.proofs.read.read_plan.Goals as goal

pub returns-in_err-draft-clause-exact : goal.returns-in_err-draft-clause-exact
returns-in_err-draft-clause-exact g c =
    let p = err_from_is_err_and c.from_residual.result c.from_residual.ensures.1 in
    rw (p.1, p.2) (exact_error_told (g.S.Source.left c.args.source.now) _ c.in_err-draft.ensures.refused)

pub finished-requires : goal.finished-requires
finished-requires g c = c.in_ok-draft.ensures.drafted.few

pub returns-clause-plan : goal.returns-clause-plan
returns-clause-plan g c =
    let d = c.in_ok-draft.ensures.drafted in
    finish_plan c.finished.result (g.S.Source.left c.args.source.now) d.said (c.finished.ensures.plan d.said d.stands) d.told

pub returns-clause-refused : goal.returns-clause-refused
returns-clause-refused g c =
    let d = c.in_ok-draft.ensures.drafted in
    finish_refused c.finished.result (g.S.Source.left c.args.source.now) d.said (c.finished.ensures.refused d.said d.stands) d.told

pub returns-clause-exact : goal.returns-clause-exact
returns-clause-exact g c =
    let d = c.in_ok-draft.ensures.drafted in
    let left = g.S.Source.left c.args.source.now in
    exact_answer c.finished.result left (finish_plan c.finished.result left d.said (c.finished.ensures.plan d.said d.stands) d.told) (finish_refused c.finished.result left d.said (c.finished.ensures.refused d.said d.stands) d.told)

pub returns-clause-sound : goal.returns-clause-sound
returns-clause-sound g c =
    let d = c.in_ok-draft.ensures.drafted in
    finish_sound c.finished.result d.said (c.finished.ensures.plan d.said d.stands) (begins_sound d.lines d.said d.begins)

use Rattle.std.proofs.lemmas.Result.{err_from_is_err_and}
use Rattle.pcm_text.proofs.FrontLemmas.{keeps_front}
use Rattle.pcm_text.proofs.told.push_line.Goals as goal

pub returns-in_err-push_woken-clause-err : goal.returns-in_err-push_woken-clause-err
returns-in_err-push_woken-clause-err c =
    let p = err_from_is_err_and c.from_residual-in_err-push_woken.result c.from_residual-in_err-push_woken.ensures.1 in
    let ending = keeps_front _ _ _ _ c.in_ok-push_state.ensures.ok c.in_err-push_woken.ensures.err in
    rw p.1 (keeps_front _ _ _ _ c.in_ok-push_front.ensures.ok (keeps_front _ _ _ _ c.in_ok-push_bytes.ensures.ok ending))

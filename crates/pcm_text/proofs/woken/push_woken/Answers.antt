use Rattle.std.proofs.lemmas.Result.{err_from_is_err_and}
use Rattle.pcm_text.proofs.FrontLemmas.{keeps_front}
use Rattle.pcm_text.proofs.WokenLemmas.{texts_more}
use Rattle.pcm_text.proofs.woken.push_woken.Goals as goal

pub returns-in_err-push_where_marked-clause-err : goal.returns-in_err-push_where_marked-clause-err
returns-in_err-push_where_marked-clause-err c =
    let p = err_from_is_err_and c.from_residual-in_err-push_where_marked.result c.from_residual-in_err-push_where_marked.ensures.1 in
    let line = keeps_front _ _ _ _ c.clients.invariant c.in_err-push_where_marked.ensures.err in
    rw p.1 (keeps_front _ _ _ _ c.in_ok-push_text.ensures.ok line)

pub clients-preserved : goal.clients-preserved
clients-preserved c =
    texts_more c.args.woken c.clients.client c.push_text.new.text.items c.clients.text.items _ c.clients.invariant c.in_ok-push_where_marked.ensures.ok

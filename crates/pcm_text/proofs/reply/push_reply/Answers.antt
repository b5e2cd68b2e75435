use Rattle.std.proofs.lemmas.Result.{on_err_weaker}
use Rattle.pcm_text.proofs.FrontLemmas.{keeps_front}
use Rattle.pcm_text.proofs.reply.push_reply.Goals as goal

pub returns-clause-err : goal.returns-clause-err
returns-clause-err c = on_err_weaker c.push_bytes.result (λ h. keeps_front _ _ _ _ c.in_ok-push_text.ensures.ok h) c.push_bytes.ensures.err

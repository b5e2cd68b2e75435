use Rattle.std.proofs.Common.{◌≡◌, ◌∙◌, ap, sym, subst, Some}
use Rattle.std.specs.Prelude.{◌≢◌}
use Rattle.pcm_base.specs.declared.reply.Reply.TheVariants as reply
use Rattle.pcm_base.specs.declared.reply.Reply.{Reply}
use Rattle.pcm_base.specs.declared.reply.Told.{Told}
use Rattle.pcm_base.specs.model.World.{declare, state_in}
use Rattle.pcm_line.specs.declared.line.Line.{Line}
use Rattle.card_emul.specs.Limits.{limits_of}
use Rattle.pcm_world.specs.Shown.{shown}
use Rattle.pcm_top.specs.Gen.{answer_to}
use Rattle.pcm_top.proofs.SessionLemmas.{declare-shows}
use Rattle.pcm_top.proofs.generated.answer.Goals as goal

pub returns-in-Card-clause-told : goal.returns-in-Card-clause-told
returns-in-Card-clause-told c = λ w is some.
    let sub = c.in-Card.sub in
    let card = limits_of c.in-Card.model in
    let t = declare sub card c.in-Card.dir w in
    let no : c.declare-reply.result ≢ reply.Memory = λ e. some (c.told_of.ensures.same ∙ e) in
    let by_reply : Reply → Told = λ r. record { reply = r; state = Some (state_in sub t.world); woken = 0 } in
    let told : c.told_of.result ≡ shown t =
    c.told_of.ensures.told t.world (c.declare-reply.ensures.world w is no) ∙ ap by_reply (c.declare-reply.ensures.reply w is no) ∙ declare-shows sub card c.in-Card.dir w in
    subst (λ (l : Line). c.told_of.result ≡ shown (answer_to l w)) (sym c.in-Card.is) told

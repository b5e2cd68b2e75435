use Rattle.std.proofs.Common.{◌∙◌, ap, rules, Some}
use Rattle.std.specs.Prelude.{◌≢◌}
use Rattle.pcm_base.specs.declared.reply.Reply.TheVariants as reply
use Rattle.pcm_base.specs.declared.reply.Reply.{Reply}
use Rattle.pcm_base.specs.declared.reply.Told.{Told}
use Rattle.pcm_base.specs.model.World.{declare, state_in}
use Rattle.card_emul.specs.Limits.{limits_of}
use Rattle.pcm_top.proofs.SessionLemmas.{declare-shows, tells-ok}
use Rattle.pcm_top.proofs.session.card_line.Goals as goal

pub returns : goal.returns
returns c = λ s keeps.
    let t = declare c.args.sub (limits_of c.args.model) c.args.dir s.world in
    let no : c.declare-reply.result ≢ reply.Memory = search rules in
    let world = c.declare-reply.ensures.world s.world keeps.world no in
    let by_reply : Reply → Told = λ r. record { reply = r; state = Some (state_in c.args.sub t.world); woken = 0 } in
    let told = c.told_of-told.ensures.told t.world world ∙ ap by_reply (c.declare-reply.ensures.reply s.world keeps.world no) ∙ declare-shows c.args.sub (limits_of c.args.model) c.args.dir s.world in
    tells-ok c.push_told.result c.declare-reply.new.self c.args.session.now.version c.args.number c.told_of-told.result t s c.args.session.now.text.items c.push_told.new.text c.push_told.ensures.ok told keeps.text keeps.version world

use Rattle.std.proofs.Common.{◌∙◌, ap, None}
use Rattle.pcm_base.specs.declared.reply.Reply.{Reply}
use Rattle.pcm_base.specs.declared.reply.Told.{Told}
use Rattle.pcm_base.specs.model.World.{set_long}
use Rattle.pcm_top.proofs.SessionLemmas.{set_long-shows, tells-ok}
use Rattle.pcm_top.proofs.session.long_line.Goals as goal

pub returns : goal.returns
returns c = λ s keeps.
    let t = set_long c.args.n s.world in
    let world = c.set_long.ensures.world s.world keeps.world in
    let by_reply : Reply → Told = λ r. record { reply = r; state = None; woken = 0 } in
    let told = ap by_reply (c.set_long.ensures.reply s.world keeps.world) ∙ set_long-shows c.args.n s.world in
    tells-ok c.push_told.result c.set_long.new.self c.args.session.now.version c.args.number _ t s c.args.session.now.text.items c.push_told.new.text c.push_told.ensures.ok told keeps.text keeps.version world

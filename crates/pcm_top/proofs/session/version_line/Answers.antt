use Rattle.std.proofs.Common.{None, refl}
use Rattle.pcm_base.specs.declared.reply.Reply.TheVariants as reply
use Rattle.pcm_base.specs.model.World.{stays}
use Rattle.pcm_top.specs.Session.{Session}
use Rattle.pcm_top.proofs.SessionLemmas.{tells-ok}
use Rattle.pcm_top.proofs.session.version_line.Goals as goal

pub returns : goal.returns
returns c = λ s keeps.
    let t = stays reply.Ok None s.world in
    let next : Session = record s { version = c.args.n } in
    tells-ok c.push_told.result c.args.session.now.world c.args.n c.args.number _ t next c.args.session.now.text.items c.push_told.new.text c.push_told.ensures.ok refl keeps.text refl keeps.world

use Rattle.pcm_top.proofs.SessionLemmas.{save-cut, save-session}
use Rattle.pcm_top.proofs.session.save_line.Goals as goal

pub returns-in_err-push_told-clause-memory : goal.returns-in_err-push_told-clause-memory
returns-in_err-push_told-clause-memory g c s is memory =
    save-cut c.args.number c.args.sub c.args.name.now s (g.F.Shelf.files c.save_taken.new.shelf) (c.in_ok-reply.ensures.stored s.world s.files is.keeps.world is.shelf)

pub returns-clause-ok : goal.returns-clause-ok
returns-clause-ok g c s is =
    let world = is.keeps.world in
    save-session c.args.session.now c.args.number c.args.sub c.args.name.now s (g.F.Shelf.files c.args.shelf.now) (g.F.Shelf.files c.save_taken.new.shelf) c.told_of-told.result c.in_ok-reply.reply
    c.push_told.new.text is (c.in_ok-reply.ensures.stored s.world s.files world is.shelf) (c.told_of-told.ensures.told s.world world) (c.in_ok-reply.ensures.told s.world world) c.in_ok-push_told.ensures.ok

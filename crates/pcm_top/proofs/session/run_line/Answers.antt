use Rattle.std.proofs.Common.{refl}
use Rattle.pcm_top.proofs.FeedLemmas.{plain-next}
use Rattle.pcm_top.proofs.session.run_line.Goals as goal

pub returns-in_ok-event_line-in-Event-clause-ok : goal.returns-in_ok-event_line-in-Event-clause-ok
returns-in_ok-event_line-in-Event-clause-ok g c = λ s is.
    plain-next c.args.number c.args.line.now _ s c.args.session.now c.event_line.new.session c.event_line.new.session (g.F.Shelf.files c.args.shelf.now) c.in-Event.is refl c.requires.built is refl refl refl
    (c.in_ok-event_line-in-Event.ensures s is.keeps)

use Rattle.std.proofs.Common.{refl}
use Rattle.pcm_top.proofs.FeedLemmas.{plain-next}
use Rattle.pcm_top.proofs.session.any_line.Goals as goal
use Rattle.pcm_top.proofs.session.any_line.Goals.{in-Version+in_ok-version_line-in-Version, in-LongMax+in_ok-long_line-in-LongMax, in-Card+in_ok-card_line-in-Card, in-Event+in_ok-event_line-in-Event, in-Carry+in_ok-carry_line-in-Carry}

pub returns-clause-ok : goal.returns-clause-ok
returns-clause-ok g c = λ s is.
    let files = g.F.Shelf.files c.args.shelf.now in
    elim c.match-line.branch [
      | in-Version+in_ok-version_line-in-Version w ↦
          plain-next c.args.number c.args.line.now _ s c.args.session.now _ c.match-line.session files w.in-Version.is w.session-is c.requires.built is refl refl refl (w.in_ok-version_line-in-Version.ensures s is.keeps)
      | in-LongMax+in_ok-long_line-in-LongMax w ↦
          plain-next c.args.number c.args.line.now _ s c.args.session.now _ c.match-line.session files w.in-LongMax.is w.session-is c.requires.built is refl refl refl (w.in_ok-long_line-in-LongMax.ensures s is.keeps)
      | in-Card+in_ok-card_line-in-Card w ↦
          plain-next c.args.number c.args.line.now _ s c.args.session.now _ c.match-line.session files w.in-Card.is w.session-is c.requires.built is refl refl refl (w.in_ok-card_line-in-Card.ensures s is.keeps)
      | in-Event+in_ok-event_line-in-Event w ↦
          plain-next c.args.number c.args.line.now _ s c.args.session.now _ c.match-line.session files w.in-Event.is w.session-is c.requires.built is refl refl refl (w.in_ok-event_line-in-Event.ensures s is.keeps)
      | in-Carry+in_ok-carry_line-in-Carry w ↦
          plain-next c.args.number c.args.line.now _ s c.args.session.now _ c.match-line.session files w.in-Carry.is w.session-is c.requires.built is refl refl refl (w.in_ok-carry_line-in-Carry.ensures s is.keeps)
    ]

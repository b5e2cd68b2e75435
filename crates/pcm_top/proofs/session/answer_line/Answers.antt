use Rattle.pcm_top.proofs.SessionLemmas.{cut-untouched, next-of-space}
use Rattle.pcm_top.proofs.session.answer_line.Goals as goal

pub returns-in_err-push_answer-in-Refine-Space-clause-memory : goal.returns-in_err-push_answer-in-Refine-Space-clause-memory
returns-in_err-push_answer-in-Refine-Space-clause-memory g c s is memory =
    cut-untouched c.args.command c.args.number c.args.line.now c.args.session.now s (g.F.Shelf.files c.args.shelf.now) is

pub returns-in_ok-push_answer-in-Refine-Space-clause-ok : goal.returns-in_ok-push_answer-in-Refine-Space-clause-ok
returns-in_ok-push_answer-in-Refine-Space-clause-ok g c s is =
    next-of-space c.args.command c.args.number c.args.line.now c.in-Refine-Space.model c.in-Refine-Space.space c.args.session.now s (g.F.Shelf.files c.args.shelf.now) c.push_answer.new.text c.in-Refine-Space.is-0
    c.in-Refine-Space.is-1 is c.in_ok-push_answer-in-Refine-Space.ensures

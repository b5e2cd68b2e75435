use Rattle.live_top.proofs.PlayLemmas.{played_first, played_setup, played_whole}
use Rattle.live_top.proofs.run.play.Goals as goal

pub returns-in-Err-Full-clause-first : goal.returns-in-Err-Full-clause-first
returns-in-Err-Full-clause-first g c =
    played_setup g.N.FloorName.cards g.N.FloorName.long_max c.args.plan.now (g.F.Shelf.files c.args.shelf.now) c.args.passes.clients.items c.set_up.new.passes.clients.items c.args.passes.cards.items c.set_up.new.passes.cards.items c.in-Err-Full.ensures.first

pub returns-in_ok-passes-in-Ok-clause-whole : goal.returns-in_ok-passes-in-Ok-clause-whole
returns-in_ok-passes-in-Ok-clause-whole g c none =
    played_whole g.N.FloorName.cards g.N.FloorName.long_max c.args.plan.now (g.F.Shelf.files c.args.shelf.now)
    c.args.passes.clients.items c.set_up.new.passes.clients.items c.in_ok-passes-in-Ok.passes.clients.items c.args.passes.cards.items c.set_up.new.passes.cards.items c.in_ok-passes-in-Ok.passes.cards.items
    _ c.requires.whose c.set_up.ensures.whose c.in-Ok.ensures.made (c.in_ok-passes-in-Ok.ensures.whole none)

pub returns-in_ok-passes-in-Ok-clause-first : goal.returns-in_ok-passes-in-Ok-clause-first
returns-in_ok-passes-in-Ok-clause-first g c =
    played_first g.N.FloorName.cards g.N.FloorName.long_max c.args.plan.now (g.F.Shelf.files c.args.shelf.now)
    c.args.passes.clients.items c.set_up.new.passes.clients.items c.in_ok-passes-in-Ok.passes.clients.items c.args.passes.cards.items c.set_up.new.passes.cards.items c.in_ok-passes-in-Ok.passes.cards.items
    _ c.requires.whose c.set_up.ensures.whose c.in-Ok.ensures.made c.in_ok-passes-in-Ok.ensures.first

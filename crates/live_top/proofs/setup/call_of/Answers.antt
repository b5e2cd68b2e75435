use Rattle.std.proofs.Common.{length}
use Rattle.live_top.proofs.SetupPasses.{card_made, card_whose, client_made, client_whose}
use Rattle.live_top.proofs.setup.call_of.Goals as goal

pub returns-in-Some-clause-whose : goal.returns-in-Some-clause-whose
returns-in-Some-clause-whose g c =
    let n = g.N.FloorName in
    let ps = c.args.passes.now in
    client_whose n.cards n.long_max c.call_by.result c.args.event.now c.args.io.now c.in-Some.client c.from.result (length n.cards) ps.clients.items ps.cards.items c.index_mut-pass.result.now c.call_by.new.pass
    c.requires.whose c.in-Some.is c.requires.may.client c.from.ensures c.index_mut-pass.ensures.value c.call_by.ensures

pub returns-in-Some-clause-made : goal.returns-in-Some-clause-made
returns-in-Some-clause-made g c =
    let n = g.N.FloorName in
    let ps = c.args.passes.now in
    client_made n.cards n.long_max c.call_by.result c.args.event.now c.args.io.now c.in-Some.client c.from.result (length n.cards) ps.clients.items ps.cards.items c.index_mut-pass.result.now c.call_by.new.pass
    c.requires.whose c.in-Some.is c.requires.may.client c.from.ensures c.index_mut-pass.ensures.value c.call_by.ensures

pub returns-in-None-clause-whose : goal.returns-in-None-clause-whose
returns-in-None-clause-whose g c =
    let n = g.N.FloorName in
    let ps = c.args.passes.now in
    card_whose n.cards n.long_max c.call_by-in-None.result c.args.event.now c.args.io.now c.from-in-None.result (length n.cards) ps.clients.items ps.cards.items c.index_mut-pass-in-None.result.now c.call_by-in-None.new.pass
    c.requires.whose c.requires.may.card c.from-in-None.ensures c.index_mut-pass-in-None.ensures.value c.call_by-in-None.ensures

pub returns-in-None-clause-made : goal.returns-in-None-clause-made
returns-in-None-clause-made g c =
    let n = g.N.FloorName in
    let ps = c.args.passes.now in
    card_made n.cards n.long_max c.call_by-in-None.result c.args.event.now c.args.io.now c.from-in-None.result (length n.cards) ps.clients.items ps.cards.items c.index_mut-pass-in-None.result.now c.call_by-in-None.new.pass
    c.requires.whose c.in-None.is c.requires.may.card c.from-in-None.ensures c.index_mut-pass-in-None.ensures.value c.call_by-in-None.ensures

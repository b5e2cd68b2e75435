use Rattle.std.proofs.Common.{◌∙◌}
use Rattle.live_floor.specs.Unlinks.{unlink_from}
use Rattle.live_floor.proofs.UnlinkFacts.{same_unlink}
use Rattle.live_floor.proofs.floor.Floor.unlink.Goals as goal

pub returns-in-Some-unlink_found-clause-unlink : goal.returns-in-Some-unlink_found-clause-unlink
returns-in-Some-unlink_found-clause-unlink g c =
    let event = c.unlink_event-event in
    same_unlink g.N.FloorName.cards g.N.FloorName.long_max event.result (unlink_from c.args.pass.now.caller c.args.sub) c.place-place.new.self c.args.pass.now c.unlink_found.result c.in-Some-unlink_found.answer c.in-Some-unlink_found.is event.ensures.event (c.place-place.ensures.same ∙ c.loop.invariant.2)
    c.unlink_found.ensures.unlink

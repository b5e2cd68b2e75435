use Rattle.live_floor.proofs.UnlinkFacts.{full_room, stays_in}
use Rattle.live_floor.proofs.unlinking.stay_in.Goals as goal

pub returns-clause-unlink : goal.returns-clause-unlink
returns-clause-unlink g c =
    let one = c.number-number.ensures.fits in
    let did = c.unlink_alone.ensures in
    stays_in g.N.FloorName.cards g.N.FloorName.long_max c.args.event.now c.args.pass.now c.args.found.now.room c.unlink_alone.new.room one.0 (record { fits = one.1; here = c.requires.here.1 }) c.unlink_alone.result c.requires.here.0
    did.full (did.room one.0 one.1) (did.refusal one.0 one.1) did.receipt

pub returns-clause-full : goal.returns-clause-full
returns-clause-full g c =
    let one = c.number-number.ensures.fits in
    let made = c.unlink_alone.new in
    full_room g.N.FloorName.cards g.N.FloorName.long_max c.args.event.now c.args.pass.now c.args.found.now.room made.room one.0 (record { fits = one.1; here = c.requires.here.1 }) c.unlink_alone.result made.pass made.room.recs c.unlink_alone.ensures.refused

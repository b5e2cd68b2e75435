use Rattle.live_floor.proofs.LinkFacts.{full_one, refused_in}
use Rattle.live_floor.proofs.linking.refuse_in.Goals as goal

pub returns-clause-link : goal.returns-clause-link
returns-clause-link g c =
    let one = c.number-number.ensures.fits in
    let did = c.link_to_itself.ensures in
    let made = c.link_to_itself.new in
    refused_in g.N.FloorName.cards g.N.FloorName.long_max c.args.event.now c.args.pass.now c.args.found.now.room made.room one.0 (record { fits = one.1; here = c.requires.here }) c.link_to_itself.result c.requires.alone
    did.full (did.room one.0 one.1) (did.refusal one.0 one.1) did.receipt

pub returns-clause-full : goal.returns-clause-full
returns-clause-full g c =
    let one = c.number-number.ensures.fits in
    let made = c.link_to_itself.new in
    full_one g.N.FloorName.cards g.N.FloorName.long_max c.args.event.now c.args.pass.now c.args.found.now.room made.room one.0 (record { fits = one.1; here = c.requires.here }) c.link_to_itself.result made.pass made.room.recs c.link_to_itself.ensures.refused

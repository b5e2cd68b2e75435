use Rattle.live_floor.proofs.LinkFacts.{both_refused_in, full_one}
use Rattle.live_floor.proofs.linking.refuse_both_in.Goals as goal

pub returns-clause-link : goal.returns-clause-link
returns-clause-link g c =
    let one = c.number-number.ensures.fits in
    let did = c.link_within.ensures in
    both_refused_in g.N.FloorName.cards g.N.FloorName.long_max c.args.event.now c.args.pass.now c.args.found.now.room c.link_within.new.room one.0 (record { fits = one.1; here = c.requires.here }) c.link_within.result c.requires.second c.requires.apart
    did.full (did.room one.0 one.1) (did.refusal one.0 one.1) did.receipt

pub returns-clause-full : goal.returns-clause-full
returns-clause-full g c =
    let one = c.number-number.ensures.fits in
    let made = c.link_within.new in
    full_one g.N.FloorName.cards g.N.FloorName.long_max c.args.event.now c.args.pass.now c.args.found.now.room made.room one.0 (record { fits = one.1; here = c.requires.here }) c.link_within.result made.pass made.room.recs c.link_within.ensures.refused

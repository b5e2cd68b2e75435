use Rattle.std.proofs.Common.{length, ap, arith}
use Rattle.room_book.specs.Rooms.{fresh_streams}
use Rattle.live_floor.proofs.Counting.{two_meet}
use Rattle.live_floor.proofs.LinkFacts.{full_in, met_in}
use Rattle.live_floor.proofs.linking.meet_in.Goals as goal

pub move_lost-requires-clause-fewer : goal.move_lost-requires-clause-fewer
move_lost-requires-clause-fewer g c =
    let one = c.number-first.ensures.fits in
    let two = c.number-second.ensures.fits in
    let did = c.link_rooms-answer.ensures in
    let made = c.link_rooms-answer.new in
    let all = two_meet (fresh_streams g.N.FloorName.cards g.N.FloorName.long_max) (length g.N.FloorName.cards) c.args.first.now.room made.first c.args.second.now.room made.second c.args.group.now.room made.group one.0 two.0 c.link_rooms-answer.result one.1 two.1 c.requires.group.0
    (did.rooms one.0 two.0 one.1 two.1) did.unchanged did.kept in
    omega (arith, all.0, c.len-had.ensures)

pub move_lost-requires-2-clause-fewer : goal.move_lost-requires-2-clause-fewer
move_lost-requires-2-clause-fewer g c =
    let one = c.number-first.ensures.fits in
    let two = c.number-second.ensures.fits in
    let did = c.link_rooms-answer.ensures in
    let made = c.link_rooms-answer.new in
    let all = two_meet (fresh_streams g.N.FloorName.cards g.N.FloorName.long_max) (length g.N.FloorName.cards) c.args.first.now.room made.first c.args.second.now.room made.second c.args.group.now.room made.group one.0 two.0 c.link_rooms-answer.result one.1 two.1 c.requires.group.0
    (did.rooms one.0 two.0 one.1 two.1) did.unchanged did.kept in
    omega (arith, all.1, c.len-second_had.ensures)

pub invariant_of-group-clause-count : goal.invariant_of-group-clause-count
invariant_of-group-clause-count g c =
    let one = c.number-first.ensures.fits in
    let two = c.number-second.ensures.fits in
    let did = c.link_rooms-answer.ensures in
    let made = c.link_rooms-answer.new in
    let all = two_meet (fresh_streams g.N.FloorName.cards g.N.FloorName.long_max) (length g.N.FloorName.cards) c.args.first.now.room made.first c.args.second.now.room made.second c.args.group.now.room made.group one.0 two.0 c.link_rooms-answer.result one.1 two.1 c.requires.group.0
    (did.rooms one.0 two.0 one.1 two.1) did.unchanged did.kept in
    let none = ap length c.requires.group.0 in
    omega (arith, all.2, none, c.args.group.now.count, c.move_lost.ensures.given, c.move_lost-2.ensures.given, c.len-had.ensures, c.len-second_had.ensures)

pub returns-clause-link : goal.returns-clause-link
returns-clause-link g c =
    let one = c.number-first.ensures.fits in
    let two = c.number-second.ensures.fits in
    let did = c.link_rooms-answer.ensures in
    let made = c.link_rooms-answer.new in
    met_in g.N.FloorName.cards g.N.FloorName.long_max c.args.event.now c.args.pass.now made.pass c.args.first.now.room made.first c.args.second.now.room made.second one.0 two.0 (record { fits = one.1; here = c.requires.first.1 }) (record { fits = two.1; here = c.requires.second.1 }) c.args.group.now.room made.group c.link_rooms-answer.result (c.requires.first.0, c.requires.second.0) c.requires.apart c.requires.group
    did.full (did.rooms one.0 two.0 one.1 two.1) (did.meeting one.0 two.0 one.1 two.1) did.receipt

pub returns-clause-full : goal.returns-clause-full
returns-clause-full g c =
    let one = c.number-first.ensures.fits in
    let two = c.number-second.ensures.fits in
    let made = c.link_rooms-answer.new in
    full_in g.N.FloorName.cards g.N.FloorName.long_max c.args.event.now c.args.pass.now made.pass c.args.first.now.room made.first c.args.second.now.room made.second one.0 two.0 (record { fits = one.1; here = c.requires.first.1 }) (record { fits = two.1; here = c.requires.second.1 }) c.link_rooms-answer.result made.first.recs made.second.recs c.link_rooms-answer.ensures.refused

use Rattle.std.proofs.Common.{length, arith}
use Rattle.room_book.specs.Rooms.{fresh_streams}
use Rattle.live_floor.proofs.Counting.{one_joins}
use Rattle.live_floor.proofs.LinkFacts.{full_in, joined_in}
use Rattle.live_floor.proofs.linking.join_in.Goals as goal

pub move_lost-requires-clause-fewer : goal.move_lost-requires-clause-fewer
move_lost-requires-clause-fewer g c =
    let one = c.number-first.ensures.fits in
    let two = c.number-second.ensures.fits in
    let did = c.link_to_group-answer.ensures in
    let made = c.link_to_group-answer.new in
    let all = one_joins (fresh_streams g.N.FloorName.cards g.N.FloorName.long_max) (length g.N.FloorName.cards) c.args.first.now.room made.first c.args.second.now.room made.second one.0 two.0 c.link_to_group-answer.result one.1 two.1
    (did.rooms one.0 two.0 one.1 two.1) did.unchanged did.kept in
    omega (arith, all.0, c.len-had.ensures)

pub invariant_of-first-clause-count : goal.invariant_of-first-clause-count
invariant_of-first-clause-count g c =
    let one = c.number-first.ensures.fits in
    let two = c.number-second.ensures.fits in
    let did = c.link_to_group-answer.ensures in
    let made = c.link_to_group-answer.new in
    let all = one_joins (fresh_streams g.N.FloorName.cards g.N.FloorName.long_max) (length g.N.FloorName.cards) c.args.first.now.room made.first c.args.second.now.room made.second one.0 two.0 c.link_to_group-answer.result one.1 two.1
    (did.rooms one.0 two.0 one.1 two.1) did.unchanged did.kept in
    omega (arith, all.1, c.args.first.now.count, c.move_lost.ensures.given, c.len-had.ensures)

pub returns-clause-link : goal.returns-clause-link
returns-clause-link g c =
    let one = c.number-first.ensures.fits in
    let two = c.number-second.ensures.fits in
    let did = c.link_to_group-answer.ensures in
    let made = c.link_to_group-answer.new in
    joined_in g.N.FloorName.cards g.N.FloorName.long_max c.args.event.now c.args.pass.now made.pass c.args.first.now.room made.first c.args.second.now.room made.second one.0 two.0 (record { fits = one.1; here = c.requires.first.1 }) (record { fits = two.1; here = c.requires.second }) c.link_to_group-answer.result c.requires.apart c.requires.group
    did.full (did.rooms one.0 two.0 one.1 two.1) (did.joining one.0 two.0 one.1 two.1) did.receipt

pub returns-clause-full : goal.returns-clause-full
returns-clause-full g c =
    let one = c.number-first.ensures.fits in
    let two = c.number-second.ensures.fits in
    let made = c.link_to_group-answer.new in
    full_in g.N.FloorName.cards g.N.FloorName.long_max c.args.event.now c.args.pass.now made.pass c.args.first.now.room made.first c.args.second.now.room made.second one.0 two.0 (record { fits = one.1; here = c.requires.first.1 }) (record { fits = two.1; here = c.requires.second }) c.link_to_group-answer.result made.first.recs made.second.recs c.link_to_group-answer.ensures.refused

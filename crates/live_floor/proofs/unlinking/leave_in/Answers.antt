use Rattle.std.proofs.Common.{length, ap, arith}
use Rattle.room_book.specs.Rooms.{fresh_streams}
use Rattle.live_floor.proofs.Counting.{one_leaves}
use Rattle.live_floor.proofs.UnlinkFacts.{full_room, leaves_in}
use Rattle.live_floor.proofs.unlinking.leave_in.Goals as goal

pub move_lost-requires-clause-fewer : goal.move_lost-requires-clause-fewer
move_lost-requires-clause-fewer g c =
    let one = c.number-number.ensures.fits in
    let did = c.unlink_from_group-answer.ensures in
    let made = c.unlink_from_group-answer.new in
    let all = one_leaves (fresh_streams g.N.FloorName.cards g.N.FloorName.long_max) (length g.N.FloorName.cards) c.args.found.now.room made.room c.args.own.now.room made.own c.args.event.now.sub one.0 c.unlink_from_group-answer.result one.1 c.requires.own.2
    (did.rooms one.0 one.1) did.unchanged did.kept in
    omega (arith, all.0, c.len-had.ensures)

pub invariant_of-own-clause-count : goal.invariant_of-own-clause-count
invariant_of-own-clause-count g c =
    let one = c.number-number.ensures.fits in
    let did = c.unlink_from_group-answer.ensures in
    let made = c.unlink_from_group-answer.new in
    let all = one_leaves (fresh_streams g.N.FloorName.cards g.N.FloorName.long_max) (length g.N.FloorName.cards) c.args.found.now.room made.room c.args.own.now.room made.own c.args.event.now.sub one.0 c.unlink_from_group-answer.result one.1 c.requires.own.2
    (did.rooms one.0 one.1) did.unchanged did.kept in
    let none = ap length c.requires.own.2 in
    omega (arith, all.1, none, c.args.own.now.count, c.move_lost.ensures.given, c.len-had.ensures)

pub returns-clause-unlink : goal.returns-clause-unlink
returns-clause-unlink g c =
    let one = c.number-number.ensures.fits in
    let did = c.unlink_from_group-answer.ensures in
    let made = c.unlink_from_group-answer.new in
    leaves_in g.N.FloorName.cards g.N.FloorName.long_max c.args.event.now c.args.pass.now c.args.found.now.room made.room one.0 (record { fits = one.1; here = c.requires.here }) c.args.own.now.room made.own c.unlink_from_group-answer.result c.requires.three c.requires.own
    did.full (did.rooms one.0 one.1) (did.leaving one.0 one.1) did.receipt

pub returns-clause-full : goal.returns-clause-full
returns-clause-full g c =
    let one = c.number-number.ensures.fits in
    let made = c.unlink_from_group-answer.new in
    full_room g.N.FloorName.cards g.N.FloorName.long_max c.args.event.now c.args.pass.now c.args.found.now.room made.room one.0 (record { fits = one.1; here = c.requires.here }) c.unlink_from_group-answer.result made.pass made.room.recs c.unlink_from_group-answer.ensures.refused

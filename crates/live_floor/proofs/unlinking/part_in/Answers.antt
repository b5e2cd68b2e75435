use Rattle.std.proofs.Common.{length, refl, arith}
use Rattle.room_book.specs.Rooms.{fresh_streams}
use Rattle.live_floor.proofs.Counting.{two_part}
use Rattle.live_floor.proofs.UnlinkFacts.{full_room, parts_in}
use Rattle.live_floor.proofs.unlinking.part_in.Goals as goal

pub move_gained-requires-clause-enough : goal.move_gained-requires-clause-enough
move_gained-requires-clause-enough g c =
    let one = c.number-number.ensures.fits in
    let did = c.unlink_rooms-answer.ensures in
    let made = c.unlink_rooms-answer.new in
    let all = two_part (fresh_streams g.N.FloorName.cards g.N.FloorName.long_max) (length g.N.FloorName.cards) c.args.found.now.room made.room c.args.own.now.room made.own c.args.other.now.room made.other c.args.event.now.sub one.0 c.unlink_rooms-answer.result one.1 c.requires.own.2 c.requires.other.3
    (did.rooms one.0 one.1) did.unchanged did.kept in
    omega (arith, all, c.args.found.now.count)

pub move_gained-requires-2-clause-enough : goal.move_gained-requires-2-clause-enough
move_gained-requires-2-clause-enough g c =
    let one = c.number-number.ensures.fits in
    let did = c.unlink_rooms-answer.ensures in
    let made = c.unlink_rooms-answer.new in
    let all = two_part (fresh_streams g.N.FloorName.cards g.N.FloorName.long_max) (length g.N.FloorName.cards) c.args.found.now.room made.room c.args.own.now.room made.own c.args.other.now.room made.other c.args.event.now.sub one.0 c.unlink_rooms-answer.result one.1 c.requires.own.2 c.requires.other.3
    (did.rooms one.0 one.1) did.unchanged did.kept in
    omega (arith, all, c.args.found.now.count, c.move_gained.ensures.taken)

pub invariant_of-found-clause-count : goal.invariant_of-found-clause-count
invariant_of-found-clause-count g c =
    let one = c.number-number.ensures.fits in
    let did = c.unlink_rooms-answer.ensures in
    let made = c.unlink_rooms-answer.new in
    let all = two_part (fresh_streams g.N.FloorName.cards g.N.FloorName.long_max) (length g.N.FloorName.cards) c.args.found.now.room made.room c.args.own.now.room made.own c.args.other.now.room made.other c.args.event.now.sub one.0 c.unlink_rooms-answer.result one.1 c.requires.own.2 c.requires.other.3
    (did.rooms one.0 one.1) did.unchanged did.kept in
    omega (arith, all, c.args.found.now.count, c.move_gained.ensures.taken, c.move_gained-2.ensures.taken)

pub returns-clause-unlink : goal.returns-clause-unlink
returns-clause-unlink g c =
    let one = c.number-number.ensures.fits in
    let did = c.unlink_rooms-answer.ensures in
    let made = c.unlink_rooms-answer.new in
    let other = c.requires.other in
    parts_in g.N.FloorName.cards g.N.FloorName.long_max c.args.event.now c.args.pass.now c.args.found.now.room made.room one.0 (record { fits = one.1; here = c.requires.here.0 }) c.args.own.now.room made.own c.args.other.now.room made.other c.unlink_rooms-answer.result c.requires.here.1 c.requires.own (other.0, other.2, (refl, other.1, other.3))
    did.full (did.rooms one.0 one.1) (did.parting one.0 one.1) did.receipt

pub returns-clause-full : goal.returns-clause-full
returns-clause-full g c =
    let one = c.number-number.ensures.fits in
    let made = c.unlink_rooms-answer.new in
    full_room g.N.FloorName.cards g.N.FloorName.long_max c.args.event.now c.args.pass.now c.args.found.now.room made.room one.0 (record { fits = one.1; here = c.requires.here.0 }) c.unlink_rooms-answer.result made.pass made.room.recs c.unlink_rooms-answer.ensures.refused

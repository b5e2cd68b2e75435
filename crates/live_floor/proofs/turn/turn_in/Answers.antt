use Rattle.live_floor.proofs.Turning.{turn_in}
use Rattle.live_floor.proofs.turn.turn_in.Goals as goal

pub returns-clause-turn : goal.returns-clause-turn
returns-clause-turn g c =
    let room = c.number-number.ensures.fits in
    let xs = room.0 in
    let did = c.turn.ensures in
    turn_in g.N.FloorName.cards g.N.FloorName.long_max c.args.event.now c.args.io.now c.turn.new.io c.args.pass.now c.turn.new.pass c.args.found.now.room c.turn.new.self xs (record { fits = room.1; here = c.requires.here }) c.turn.result
    did.full (did.room xs room.1) (did.reply xs room.1) (did.woken xs room.1) (did.book xs room.1) (did.logs xs room.1) did.receipt did.told (did.bytes xs room.1) (did.moved xs room.1)

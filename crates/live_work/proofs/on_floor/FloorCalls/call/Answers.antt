use Rattle.live_work.proofs.OnFloor.{by_call}
use Rattle.live_work.proofs.on_floor.FloorCalls.call.Goals as goal

pub returns : goal.returns
returns g c =
    let told = c.call.ensures in
    by_call g.N.FloorName.cards g.N.FloorName.long_max c.call.result c.args.event.now c.args.io.now c.call.new.io c.args.pass.now c.call.new.pass told.sub told.pass told.handed told.full told.memory

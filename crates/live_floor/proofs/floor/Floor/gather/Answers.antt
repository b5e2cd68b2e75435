use Rattle.std.proofs.Common.{◌++◌}
use Rattle.live_floor.proofs.Resting.{at_rest}
use Rattle.live_floor.proofs.floor.Floor.gather.Goals as goal

pub returns : goal.returns
returns g c =
    at_rest g.N.FloorName.cards g.N.FloorName.long_max c.take_apart.new.pieces.items (c.args.passes.clients.items ++ c.args.passes.cards.items) c.gather.result.items c.gather.ensures c.take_apart.ensures.taken

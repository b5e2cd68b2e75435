use Rattle.std.proofs.Common.{arith}
use Rattle.live_floor.proofs.Resting.{none_taken, one_taken}
use Rattle.live_floor.proofs.floor_gather.take_apart.Goals as goal

pub loop-next-init : goal.loop-next-init
loop-next-init g c =
    let took = c.take_room.ensures in
    let before = none_taken g.N.FloorName.cards g.N.FloorName.long_max c.args.pieces.now.items (omega (arith, c.requires.room.0, c.args.pieces.now.ok.0)) in
    record {
      parts = omega (arith, took.parts, c.empty-share.ensures.parts, c.in-Some.ensures.len, c.requires.rooms);
      count = took.count;
      room = took.room;
      taken = one_taken g.N.FloorName.cards g.N.FloorName.long_max c.into_inner-found.result.room c.args.pieces.now.items c.take_room.new.pieces.items before took.fits took.pieces;
    }

pub loop-next-preserved : goal.loop-next-preserved
loop-next-preserved g c =
    let took = c.take_room-in-Some-pop.ensures in
    let inv = c.loop-next.invariant in
    let parts = inv.parts in
    record {
      parts = omega (arith, took.parts, parts, c.in-Some-pop.ensures.len);
      count = took.count;
      room = took.room;
      taken = one_taken g.N.FloorName.cards g.N.FloorName.long_max c.into_inner.result.room c.loop-next.pieces.items c.take_room-in-Some-pop.new.pieces.items inv.taken took.fits took.pieces;
    }

use Rattle.std.proofs.Common.{length, ap, ◌∙◌, arith}
use Rattle.room_book.specs.Rooms.{fresh_streams}
use Rattle.live_gather.specs.Pieces.{with_logs}
use Rattle.live_floor.proofs.Counting.{recs_count}
use Rattle.live_floor.proofs.floor_gather.take_room.Goals as goal

pub add_pieces-requires-clause-room : goal.add_pieces-requires-clause-room
add_pieces-requires-clause-room g c =
    let fits = c.into_parts-recs.ensures.fits in
    let many = ap length c.into_parts-recs.ensures.recs ∙ recs_count (fresh_streams g.N.FloorName.cards g.N.FloorName.long_max) (length g.N.FloorName.cards) c.args.found.room fits.0 fits.1 in
    omega (arith, many, c.args.found.count, c.merge.ensures.amount, c.audit.ensures.bound, c.requires.count, c.requires.total, c.requires.few, c.requires.room)

pub returns-clause-count : goal.returns-clause-count
returns-clause-count g c =
    let fits = c.into_parts-recs.ensures.fits in
    let many = ap length c.into_parts-recs.ensures.recs ∙ recs_count (fresh_streams g.N.FloorName.cards g.N.FloorName.long_max) (length g.N.FloorName.cards) c.args.found.room fits.0 fits.1 in
    omega (arith, many, c.args.found.count, c.merge.ensures.amount, c.audit.ensures.amount, c.requires.count, c.add_pieces.ensures.count)

pub returns-clause-pieces : goal.returns-clause-pieces
returns-clause-pieces g c = c.add_pieces.ensures.pieces ∙ ap (with_logs c.args.pieces.now.items) c.into_parts-recs.ensures.recs

use Rattle.std.proofs.Common.{length, ap, arith}
use Rattle.room_lock.proofs.PartLemmas.{fits-interleaved, fits-planar, room-planar}
use Rattle.room_lock.proofs.moved.push_part.Goals as goal

pub push_piece-requires-clause-within : goal.push_piece-requires-clause-within
push_piece-requires-clause-within c = fits-interleaved c.args.first c.args.count c.args.shape.now.frame_bytes (length c.args.io.now) c.requires.within

pub push_channels-requires-clause-within : goal.push_channels-requires-clause-within
push_channels-requires-clause-within c = fits-planar c.args.shape.now c.args.first c.args.count c.args.io.now c.requires.sound.samples (omega (arith, c.requires.sound.channel)) c.requires.whole c.requires.within

pub push_channels-requires-clause-room : goal.push_channels-requires-clause-room
push_channels-requires-clause-room c =
    let most = room-planar c.args.shape.now c.args.first c.args.count c.args.io.now c.requires.sound.samples (omega (arith, c.requires.sound.channel)) c.requires.whole c.requires.within in
    let none = ap length c.requires.empty in
    omega (arith, most, none, c.args.bytes.now.ok.0, c.requires.room)

use Rattle.std.proofs.Common.{refl}
use Rattle.indirect_card.proofs.Pieces.{piece_passes}
use Rattle.indirect_card.proofs.buffer.HardwareBuffer.take_piece.Goals as goal

pub returns-clause-passed : goal.returns-clause-passed
returns-clause-passed g c =
    let b = c.self.inside in
    piece_passes c.args.self.now b.frame_bytes b.passed _ b.bytes c.copy_from_slice.new.self c.args.piece.now c.self.view_is c.copy_from_slice.ensures.after refl c.requires.some c.self.told c.self.invariant c.requires.frames c.requires.fits

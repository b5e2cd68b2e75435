use Rattle.std.proofs.Common.{◌≡◌, ◌%◌, length, sym, ap, ◌∙◌, arith}
use Rattle.indirect_card.proofs.Pieces.{piece_passes}
use Rattle.indirect_card.proofs.buffer.HardwareBuffer.give_piece.Goals as goal

pub returns-clause-passed : goal.returns-clause-passed
returns-clause-passed g c =
    let b = c.self.inside in
    let given = c.copy_from_slice.new.self in
    let size : length c.args.out.now ≡ length c.copy_from_slice.new.self = sym c.copy_from_slice.auto.self in
    let whole = ap (λ n. n % c.args.self.now.frame_bytes) (sym size) ∙ c.requires.frames in
    piece_passes c.args.self.now b.frame_bytes b.passed _ b.bytes c.give_into.new.out given c.self.view_is (sym c.copy_from_slice.ensures.after) size c.requires.some c.self.told c.self.invariant whole (omega (arith, size, c.requires.fits))

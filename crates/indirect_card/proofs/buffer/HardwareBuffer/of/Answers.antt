use Rattle.std.proofs.Common.{ap, arith}
use Rattle.indirect_card.proofs.Frames.{frames_of-replicate}
use Rattle.indirect_card.proofs.buffer.HardwareBuffer.of.Goals as goal

pub returns : goal.returns
returns c =
    let w = c.args.frame_bytes in
    ap (λ fs. record { frame_bytes = c.args.frame_bytes; passed = 0; slots = fs }) (frames_of-replicate 16 w 512 0 (omega (arith, c.requires)))

use Rattle.std.proofs.Common.{◌*◌, ◌/◌, length, ap, sym, ◌∙◌, arith}
use Rattle.ring_memory.specs.Round.{read_round}
use Rattle.ring_memory.proofs.FrameLemmas.{whole_frames, bytes_of-read_round}
use Rattle.ring_memory.proofs.interleaved.get.Goals as goal

pub returns : goal.returns
returns c =
    let s = c.args.sizes in
    c.copy_round.ensures
    ∙ (ap (λ n. read_round (c.args.slot * s.frame_bytes) n c.args.ring.now) (whole_frames (length c.args.out.now) s.frame_bytes c.requires.whole)
    ∙ sym (bytes_of-read_round c.args.slot (length c.args.out.now / s.frame_bytes) s.buffer s.frame_bytes c.args.ring.now c.requires.memory (omega arith)))

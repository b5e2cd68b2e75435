use Rattle.std.proofs.Common.{◌*◌, ◌/◌, length}
use Rattle.ring_memory.specs.Round.{over, read_round}
use Rattle.ring_memory.proofs.SlotLemmas.{piece, IsWrittenTo}
use Rattle.ring_memory.proofs.planar.get_area.Given as goal

abbrev pub invariant-loop-channel : goal.invariant-loop-channel
invariant-loop-channel l =
    let w = l.fn.sizes.sample_bytes in
    IsWrittenTo (λ k area. over (l.first * w) (read_round (l.slot * w) (l.count * w) (piece (l.fn.sizes.buffer * w) k l.ring)) area) l.channel (length l.fn.io / l.fn.sizes.frame_bytes * w) l.fn.io l.io

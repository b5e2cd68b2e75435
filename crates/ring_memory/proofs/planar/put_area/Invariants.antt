use Rattle.std.proofs.Common.{◌*◌, ◌/◌, length, take, drop}
use Rattle.ring_memory.specs.Round.{written_round}
use Rattle.ring_memory.proofs.SlotLemmas.{piece, IsWrittenTo}
use Rattle.ring_memory.proofs.planar.put_area.Given as goal

abbrev pub invariant-loop-channel : goal.invariant-loop-channel
invariant-loop-channel l =
    let w = l.fn.sizes.sample_bytes in
    IsWrittenTo (λ k area. written_round (l.slot * w) (take (l.count * w) (drop (l.first * w) (piece (length l.io / l.fn.sizes.frame_bytes * w) k l.io))) area) l.channel (l.fn.sizes.buffer * w) l.fn.ring l.ring

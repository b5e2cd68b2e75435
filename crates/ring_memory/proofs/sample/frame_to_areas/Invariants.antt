use Rattle.std.proofs.Common.{◌*◌}
use Rattle.ring_memory.specs.Round.{over}
use Rattle.ring_memory.proofs.SlotLemmas.{piece, IsWrittenTo}
use Rattle.ring_memory.proofs.sample.frame_to_areas.Given as goal

abbrev pub invariant-loop-channel : goal.invariant-loop-channel
invariant-loop-channel l =
    IsWrittenTo (λ k area. over (l.i * l.fn.sizes.sample_bytes) (piece l.fn.sizes.sample_bytes k l.frame) area) l.channel (l.count * l.fn.sizes.sample_bytes) l.fn.areas l.areas

use Rattle.std.proofs.Common.{◌*◌, replicate}
use Rattle.ring_memory.specs.Round.{written_round}
use Rattle.ring_memory.proofs.SlotLemmas.{IsWrittenTo}
use Rattle.ring_memory.proofs.planar.fill.Given as goal

abbrev pub invariant-loop-channel : goal.invariant-loop-channel
invariant-loop-channel l =
    let w = l.fn.sizes.sample_bytes in
    IsWrittenTo (λ k area. written_round (l.slot * w) (replicate (l.count * w) l.silence) area) l.channel (l.fn.sizes.buffer * w) l.fn.ring l.ring

use Rattle.std.proofs.Common.{◌≡◌}
use Rattle.ring_memory.specs.Round.{written_round, part}
use Rattle.ring_memory.specs.Sizes.{slots_in_order, frames_across_in}
use Rattle.ring_memory.proofs.interleaved.put_area.Given as goal

abbrev pub invariant-loop-k : goal.invariant-loop-k
invariant-loop-k l = slots_in_order l.fn.sizes l.ring ≡ written_round l.slot (part l.first l.k (frames_across_in l.fn.sizes l.io)) (slots_in_order l.fn.sizes l.fn.ring)

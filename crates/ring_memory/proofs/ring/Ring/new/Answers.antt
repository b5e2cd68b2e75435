use Rattle.ring_memory.proofs.RingLemmas.{are_sizes, stands_for_none}
use Rattle.ring_memory.proofs.ring.Ring.new.Goals as goal

pub returns-clause-empty : goal.returns-clause-empty
returns-clause-empty c =
    stands_for_none _ c.args.planar c.in_ok-bytes.bytes.items (are_sizes c.args.shape.now c.requires) (c.in_ok-bytes.ensures.items_if_clones_equal (λ y h. h))

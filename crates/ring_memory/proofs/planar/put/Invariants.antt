use Rattle.std.proofs.Common.{◌≡◌}
use Rattle.pcm_base.specs.model.Frame.{frames_of}
use Rattle.ring_memory.specs.Round.{written_round}
use Rattle.ring_memory.specs.Sizes.{slots_across}
use Rattle.ring_memory.proofs.planar.put.Given as goal

abbrev pub invariant-loop-k : goal.invariant-loop-k
invariant-loop-k l = slots_across l.fn.sizes l.ring ≡ written_round l.slot (frames_of l.k l.fn.sizes.frame_bytes l.frames) (slots_across l.fn.sizes l.fn.ring)

use Rattle.std.proofs.Common.{◌≡◌, ◌*◌, take}
use Rattle.pcm_base.specs.model.Frame.{bytes_of}
use Rattle.ring_memory.specs.Round.{read_round}
use Rattle.ring_memory.specs.Sizes.{slots_across}
use Rattle.ring_memory.proofs.planar.get.Given as goal

abbrev pub invariant-loop-k : goal.invariant-loop-k
invariant-loop-k l = take (l.k * l.fn.sizes.frame_bytes) l.out ≡ bytes_of (read_round l.slot l.k (slots_across l.fn.sizes l.ring))

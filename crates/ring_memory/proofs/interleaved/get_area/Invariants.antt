use Rattle.std.proofs.Common.{◌≡◌, ◌/◌, length}
use Rattle.pcm_base.specs.model.Frame.{planar_frames}
use Rattle.ring_memory.specs.Round.{over, read_round}
use Rattle.ring_memory.specs.Sizes.{slots_in_order, frames_across_in}
use Rattle.ring_memory.proofs.interleaved.get_area.Given as goal

abbrev pub invariant-loop-k : goal.invariant-loop-k
invariant-loop-k l =
    planar_frames (length l.fn.io / l.fn.sizes.frame_bytes) l.fn.sizes.channels l.fn.sizes.sample_bytes l.io
    ≡ over l.first (read_round l.slot l.k (slots_in_order l.fn.sizes l.ring)) (frames_across_in l.fn.sizes l.fn.io)

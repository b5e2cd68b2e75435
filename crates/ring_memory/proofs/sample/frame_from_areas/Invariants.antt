use Rattle.std.proofs.Common.{◌≡◌, ◌*◌, take, map}
use Rattle.pcm_base.specs.model.Frame.{frames_of, bytes_of}
use Rattle.ring_memory.proofs.SlotLemmas.{piece}
use Rattle.ring_memory.proofs.sample.frame_from_areas.Given as goal

abbrev pub invariant-loop-channel : goal.invariant-loop-channel
invariant-loop-channel l =
    take (l.channel * l.fn.sizes.sample_bytes) l.frame
    ≡ bytes_of (map (piece l.fn.sizes.sample_bytes l.i) (frames_of l.channel (l.count * l.fn.sizes.sample_bytes) l.areas))

use Rattle.std.proofs.Common.{◌/◌, ◌<◌, ◌≤◌, length, ap, ◌∙◌, arith}
use Rattle.pcm_base.specs.model.Frame.{frames_of}
use Rattle.ring_memory.proofs.FrameLemmas.{whole_frames, frames_fit, frames_of-written_round}
use Rattle.ring_memory.proofs.interleaved.put.Goals as goal

pub returns : goal.returns
returns c =
    let s = c.args.sizes in
    let new = c.args.frames.now in
    let frame : 0 < s.frame_bytes = c.requires.sizes.some in
    let fits : length new / s.frame_bytes ≤ s.buffer = frames_fit (length new) s.frame_bytes s.buffer frame (omega arith) in
    ap (frames_of s.buffer s.frame_bytes) c.write_round.ensures
    ∙ frames_of-written_round c.args.slot (length new / s.frame_bytes) s.buffer s.frame_bytes new c.args.ring.now (whole_frames (length new) s.frame_bytes c.requires.whole) c.requires.memory (omega arith) fits

use Rattle.std.proofs.Common.{◌*◌, replicate, ap, ◌∙◌, arith}
use Rattle.std.proofs.lemmas.List.{length-replicate}
use Rattle.pcm_base.specs.model.Frame.{frames_of}
use Rattle.ring_memory.specs.Round.{written_round}
use Rattle.ring_memory.proofs.FrameLemmas.{frames_of-replicate, frames_of-written_round}
use Rattle.ring_memory.proofs.interleaved.fill.Goals as goal

pub returns : goal.returns
returns c =
    let s = c.args.sizes in
    let slots = frames_of s.buffer s.frame_bytes c.args.ring.now in
    ap (frames_of s.buffer s.frame_bytes) c.fill_round.ensures
    ∙ (frames_of-written_round c.args.slot c.args.count s.buffer s.frame_bytes (replicate (c.args.count * s.frame_bytes) c.args.silence) c.args.ring.now (length-replicate _ c.args.silence) c.requires.memory (omega arith) c.requires.fits
    ∙ ap (λ fs. written_round c.args.slot fs slots) (frames_of-replicate c.args.count s.frame_bytes c.args.silence))

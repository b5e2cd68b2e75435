use Rattle.std.proofs.Common.{◌≡◌, ◌+◌, ◌-◌, ◌*◌, ◌/◌, ℕ, length, take, drop, ◌∙◌, ap, arith}
use Rattle.pcm_base.specs.model.Frame.{frames_of}
use Rattle.pcm_stream.proofs.LayoutLemmas.{part-frames_of}
use Rattle.pcm_stream.proofs.runtime.frames_from.Goals as goal

pub returns-clause-frames : goal.returns-clause-frames
returns-clause-frames c =
    let start : ℕ = c.args.first * c.args.frame_bytes in
    let size : ℕ = c.args.count * c.args.frame_bytes in
    let same : start + size - start ≡ size = omega arith in
    ap (λ n. frames_of c.args.count c.args.frame_bytes (take n (drop start c.args.io.now))) same
    ∙ part-frames_of c.args.first c.args.count (length c.args.io.now / c.args.frame_bytes) c.args.frame_bytes c.args.io.now c.requires.within

use Rattle.std.proofs.Common.{ℕ, ◌*◌, ◌/◌, length, ap, ◌∙◌, arith}
use Rattle.pcm_world.proofs.FrontLemmas.{whole-areas}
use Rattle.pcm_world.proofs.bytes.first_frames.Goals as goal

pub close_up-requires-clause-areas : goal.close_up-requires-clause-areas
close_up-requires-clause-areas c =
    let all = whole-areas (length c.args.bytes.now.items) c.args.shape.now.frame_bytes c.args.shape.now.channels c.requires.whole c.requires.sound.samples in
    all ∙ ap (λ (n : ℕ). c.args.shape.now.channels * (n / c.args.shape.now.channels)) (omega (arith, c.len.ensures, c.args.bytes.now.ok.0))

use Rattle.pcm_group.proofs.SizeLemmas.{other_length}
use Rattle.pcm_group.proofs.write_read.is_length.Goals as goal

pub returns-then-size-frame-ne0 : goal.returns-then-size-frame-ne0
returns-then-size-frame-ne0 c = other_length c.args.size c.args.frame c.args.moved c.args.rest c.requires.frame c.then-size-frame-ne0.either

use Rattle.std.proofs.Common.{ap, sym, ◌∙◌}
use Rattle.std.specs.Option.{option_copied}
use Rattle.pcm_group.proofs.SizeLemmas.{has_by}
use Rattle.pcm_group.proofs.write_read.has_bytes.Goals as goal

pub returns-in-Some-clause-sizes : goal.returns-in-Some-clause-sizes
returns-in-Some-clause-sizes g c = λ h.
    has_by c.args.stream.now c.in-Some.shape.now c.args.xfer.now c.args.io.now (sym (ap option_copied c.in-Some.is) ∙ c.shape.ensures.value) c.shape.ensures.sound (sym c.is_length.ensures ∙ h)

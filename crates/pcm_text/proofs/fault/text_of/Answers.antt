use Rattle.pcm_text.proofs.NameLemmas.{name-utf8}
use Rattle.pcm_text.proofs.fault.text_of.Goals as goal

pub unreachable-requires : goal.unreachable-requires
unreachable-requires c = c.in-Err.ensures.cases.0 (rw c.as_slice.ensures.value (name-utf8 c.args.name.now c.as_slice.ensures.name))

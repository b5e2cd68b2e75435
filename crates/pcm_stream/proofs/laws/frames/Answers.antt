use Rattle.pcm_stream.proofs.LayoutLemmas.{length-by}
use Rattle.pcm_stream.proofs.laws.frames.Goals as goal

pub returns : goal.returns
returns c = length-by

use Rattle.pcm_top.proofs.FrontLemmas.{lines-lead}
use Rattle.pcm_top.proofs.laws.some_output.Goals as goal

pub returns : goal.returns
returns c = λ over count s lines. lines-lead over count s lines

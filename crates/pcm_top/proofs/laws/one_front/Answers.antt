use Rattle.pcm_top.proofs.FrontLemmas.{reached-front}
use Rattle.pcm_top.proofs.laws.one_front.Goals as goal

pub returns : goal.returns
returns c = λ d over count s lines reached last ended known calm x y. reached-front d over count s lines reached last ended known calm x y

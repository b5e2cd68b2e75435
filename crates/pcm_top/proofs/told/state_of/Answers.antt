use Rattle.pcm_top.proofs.SessionLemmas.{state-undeclared}
use Rattle.pcm_top.proofs.told.state_of.Goals as goal

pub returns-in-None : goal.returns-in-None
returns-in-None c = λ w is. state-undeclared c.args.sub w (c.in-None.ensures.none w is)

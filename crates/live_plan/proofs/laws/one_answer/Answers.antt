use Rattle.live_plan.proofs.LawLemmas.{comes_to_one}
use Rattle.live_plan.proofs.laws.one_answer.Goals as goal

pub returns : goal.returns
returns c = comes_to_one

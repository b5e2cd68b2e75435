use Rattle.pcm_world.proofs.LawLemmas.{nobody_woken, other_groups}
use Rattle.pcm_world.proofs.laws.groups.Goals as goal

pub returns-clause-nobody : goal.returns-clause-nobody
returns-clause-nobody c = nobody_woken

pub returns-clause-others : goal.returns-clause-others
returns-clause-others c = other_groups

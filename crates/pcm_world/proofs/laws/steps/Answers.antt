use Rattle.pcm_world.proofs.StepLemmas.{calls-elsewhere, step-named}
use Rattle.pcm_world.proofs.laws.steps.Goals as goal

pub returns-clause-named : goal.returns-clause-named
returns-clause-named c = step-named

pub returns-clause-others : goal.returns-clause-others
returns-clause-others c = calls-elsewhere

use Rattle.pcm_laws.proofs.Steps.{acts-group_step, Decided-group_step, PlaysOwn-group_step, Joins-group_step}
use Rattle.pcm_laws.proofs.step.steps.Goals as goal

pub returns-clause-few : goal.returns-clause-few
returns-clause-few c = acts-group_step

pub returns-clause-decided : goal.returns-clause-decided
returns-clause-decided c = Decided-group_step

pub returns-clause-own : goal.returns-clause-own
returns-clause-own c = PlaysOwn-group_step

pub returns-clause-others : goal.returns-clause-others
returns-clause-others c = Joins-group_step

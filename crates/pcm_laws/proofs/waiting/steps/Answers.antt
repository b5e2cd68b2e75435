use Rattle.pcm_laws.proofs.DistinctClients.{distinct-group_step}
use Rattle.pcm_laws.proofs.Sleepers.{EachMayWait-wake, EachMayWait-group_step}
use Rattle.pcm_laws.proofs.waiting.steps.Goals as goal

pub returns-clause-wake : goal.returns-clause-wake
returns-clause-wake c = EachMayWait-wake

pub returns-clause-step : goal.returns-clause-step
returns-clause-step c = EachMayWait-group_step

pub returns-clause-clients : goal.returns-clause-clients
returns-clause-clients c = distinct-group_step

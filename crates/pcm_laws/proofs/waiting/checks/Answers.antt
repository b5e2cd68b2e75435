use Rattle.pcm_laws.proofs.Sleepers.{sleepers_that-true, sleepers_that-false}
use Rattle.pcm_laws.proofs.waiting.checks.Goals as goal

pub returns-clause-asleep : goal.returns-clause-asleep
returns-clause-asleep c = sleepers_that-true

pub returns-clause-woken : goal.returns-clause-woken
returns-clause-woken c = sleepers_that-false

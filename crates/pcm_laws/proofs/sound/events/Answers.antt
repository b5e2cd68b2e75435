use Rattle.pcm_laws.proofs.KeptByEvents.{KeepsSound-program}
use Rattle.pcm_laws.proofs.Steps.{AllSound-group_step}
use Rattle.pcm_laws.proofs.sound.events.Goals as goal

pub returns-clause-programs : goal.returns-clause-programs
returns-clause-programs c = KeepsSound-program

pub returns-clause-steps : goal.returns-clause-steps
returns-clause-steps c = AllSound-group_step

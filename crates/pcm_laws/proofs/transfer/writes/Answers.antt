use Rattle.pcm_laws.proofs.Turns.{write_on-starting_turn, write_on-quiet_turn, write_on-stuck, write_on-whole}
use Rattle.pcm_laws.proofs.transfer.writes.Goals as goal

pub returns-clause-starting : goal.returns-clause-starting
returns-clause-starting c = write_on-starting_turn

pub returns-clause-quiet : goal.returns-clause-quiet
returns-clause-quiet c = write_on-quiet_turn

pub returns-clause-stuck : goal.returns-clause-stuck
returns-clause-stuck c = write_on-stuck

pub returns-clause-whole : goal.returns-clause-whole
returns-clause-whole c = write_on-whole

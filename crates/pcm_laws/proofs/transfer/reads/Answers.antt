use Rattle.pcm_laws.proofs.Turns.{read_on-turn, read_on-stuck, read_on-whole}
use Rattle.pcm_laws.proofs.transfer.reads.Goals as goal

pub returns-clause-part : goal.returns-clause-part
returns-clause-part c = read_on-turn

pub returns-clause-stuck : goal.returns-clause-stuck
returns-clause-stuck c = read_on-stuck

pub returns-clause-whole : goal.returns-clause-whole
returns-clause-whole c = read_on-whole

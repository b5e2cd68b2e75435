use Rattle.pcm_laws.proofs.Turns.{write_on-started, write_plain-turn, write_plain-stuck, write_plain-whole}
use Rattle.pcm_laws.proofs.transfer.plain_writes.Goals as goal

pub returns-clause-alone : goal.returns-clause-alone
returns-clause-alone c = write_on-started

pub returns-clause-part : goal.returns-clause-part
returns-clause-part c = write_plain-turn

pub returns-clause-stuck : goal.returns-clause-stuck
returns-clause-stuck c = write_plain-stuck

pub returns-clause-whole : goal.returns-clause-whole
returns-clause-whole c = write_plain-whole

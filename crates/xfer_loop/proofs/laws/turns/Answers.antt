use Rattle.xfer_loop.proofs.LoopLemmas.{writes-by_turns, reads-by_turns}
use Rattle.xfer_loop.proofs.laws.turns.Goals as goal

pub returns-clause-writes : goal.returns-clause-writes
returns-clause-writes c = writes-by_turns

pub returns-clause-reads : goal.returns-clause-reads
returns-clause-reads c = reads-by_turns

use Rattle.hw_update.proofs.BaseLemmas.{based_below}
use Rattle.hw_update.proofs.base_at.Goals as goal

pub next_base-requires-clause-fits : goal.next_base-requires-clause-fits
next_base-requires-clause-fits c = based_below c.args.shape.now c.args.ptr.now c.requires.sound c.requires.based

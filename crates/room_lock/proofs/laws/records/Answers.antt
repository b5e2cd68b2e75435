use Rattle.room_lock.proofs.Records.{records_fit}
use Rattle.room_lock.proofs.laws.records.Goals as goal

pub returns : goal.returns
returns c = records_fit c.turns.ensures c.acts.ensures.follow c.acts.ensures.marks c.steps.ensures.others

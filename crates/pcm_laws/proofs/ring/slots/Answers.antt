use Rattle.pcm_laws.proofs.Remainders.{add-mod_end, add-mod_run}
use Rattle.pcm_laws.proofs.Puts.{standing-put_at, standing-same_slot, standing-append, standing-put_at_hit, standing-put_at_missed}
use Rattle.pcm_laws.proofs.ring.slots.Goals as goal

pub returns-clause-by_slot : goal.returns-clause-by_slot
returns-clause-by_slot c = standing-same_slot

pub returns-clause-later : goal.returns-clause-later
returns-clause-later c = standing-append

pub returns-clause-hit : goal.returns-clause-hit
returns-clause-hit c = standing-put_at_hit

pub returns-clause-missed : goal.returns-clause-missed
returns-clause-missed c = standing-put_at_missed

pub returns-clause-each : goal.returns-clause-each
returns-clause-each c = standing-put_at

pub returns-clause-following : goal.returns-clause-following
returns-clause-following c = add-mod_run

pub returns-clause-end : goal.returns-clause-end
returns-clause-end c = add-mod_end

use Rattle.pcm_laws.proofs.Puts.{length-standing_at, get_or-standing_at, standing_at-add, standing_at-same_slot, standing_at-put_at}
use Rattle.pcm_laws.proofs.ring.runs.Goals as goal

pub returns-clause-counted : goal.returns-clause-counted
returns-clause-counted c = length-standing_at

pub returns-clause-element : goal.returns-clause-element
returns-clause-element c = get_or-standing_at

pub returns-clause-split : goal.returns-clause-split
returns-clause-split c = standing_at-add

pub returns-clause-by_slot : goal.returns-clause-by_slot
returns-clause-by_slot c = standing_at-same_slot

pub returns-clause-shown : goal.returns-clause-shown
returns-clause-shown c = standing_at-put_at

use Rattle.pcm_laws.proofs.Puts.{standing-put_at_same_slot, put_at-append, put_at-onto}
use Rattle.pcm_laws.proofs.ring.puts.Goals as goal

pub returns-clause-by_slot : goal.returns-clause-by_slot
returns-clause-by_slot c = standing-put_at_same_slot

pub returns-clause-split : goal.returns-clause-split
returns-clause-split c = put_at-append

pub returns-clause-behind : goal.returns-clause-behind
returns-clause-behind c = put_at-onto

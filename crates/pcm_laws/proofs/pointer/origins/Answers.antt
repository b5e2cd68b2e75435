use Rattle.std.proofs.Math.Nat.{add-mod_left}
use Rattle.pcm_laws.proofs.Remainders.{add-mod_whole, add-sub_origin}
use Rattle.pcm_laws.proofs.pointer.origins.Goals as goal

pub returns-clause-shown : goal.returns-clause-shown
returns-clause-shown c = add-mod_left

pub returns-clause-slot : goal.returns-clause-slot
returns-clause-slot c = add-mod_whole

pub returns-clause-distance : goal.returns-clause-distance
returns-clause-distance c = add-sub_origin

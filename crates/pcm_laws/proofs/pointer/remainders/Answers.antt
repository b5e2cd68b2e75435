use Rattle.std.proofs.Math.Nat.{mod-add-mod}
use Rattle.pcm_laws.proofs.Remainders.{mod-mod_whole, sub-mod_small, add-sub-mod_small, sub-mod_back}
use Rattle.pcm_laws.proofs.pointer.remainders.Goals as goal

pub returns-clause-slot : goal.returns-clause-slot
returns-clause-slot c = mod-mod_whole

pub returns-clause-distance : goal.returns-clause-distance
returns-clause-distance c = sub-mod_small

pub returns-clause-above : goal.returns-clause-above
returns-clause-above c = add-sub-mod_small

pub returns-clause-sum : goal.returns-clause-sum
returns-clause-sum c = λ l p n. mod-add-mod p l n

pub returns-clause-difference : goal.returns-clause-difference
returns-clause-difference c = sub-mod_back

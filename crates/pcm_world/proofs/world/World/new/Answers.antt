use Rattle.std.proofs.Common.{arith}
use Rattle.pcm_base.specs.model.World.{empty}
use Rattle.pcm_world.proofs.WorldLemmas.{AreWorld-empty, all_none, no_bytes}
use Rattle.pcm_world.proofs.world.World.new.Goals as goal

pub invariant_of-result : goal.invariant_of-result
invariant_of-result c = record {
  long = omega arith;
  stands = ∣ (empty, rw c.new.ensures (AreWorld-empty c.default.result (all_none c.default.result c.default.ensures))) ∣₁;
}

pub returns-clause-result : goal.returns-clause-result
returns-clause-result c = λ k. no_bytes c.default-2.result k.0 c.default-2.ensures

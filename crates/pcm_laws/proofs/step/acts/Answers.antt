use Rattle.pcm_laws.proofs.Leaves.{IsSameBesideActs-after}
use Rattle.pcm_laws.proofs.step.acts.Goals as goal

pub returns : goal.returns
returns c = IsSameBesideActs-after

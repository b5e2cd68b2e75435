use Rattle.std.proofs.Common.{List, ℕ, arith, take, ◌∙◌, subst}
use Rattle.pcm_top.specs.Output.{IsFront}
use Rattle.pcm_top.proofs.SoundLemmas.{front-taken}
use Rattle.pcm_top.proofs.generated.run_generated.Goals as goal

pub returns-clause-ends : goal.returns-clause-ends
returns-clause-ends g c =
    let told = c.in-Ok.ensures in
    let front = c.write_all.ensures.front in
    let text = c.deref.result.now in
    (omega arith, told.0, told.1, take front.0 text, front.2, subst (λ (x : List ℕ). IsFront (take front.0 text) x) (c.deref.ensures.value ∙ told.2) (front-taken front.0 text))

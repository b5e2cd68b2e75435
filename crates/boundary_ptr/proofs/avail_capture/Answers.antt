use Rattle.std.proofs.Common.{ℕ, ◌+◌, ◌-◌, ◌%◌, ap, ◌∙◌}
use Rattle.boundary_ptr.proofs.PointerLemmas.{distance_shown}
use Rattle.boundary_ptr.proofs.avail_capture.Goals as goal

pub returns-clause-avail : goal.returns-clause-avail
returns-clause-avail c = λ h u hw appl ahead below.
    let l = c.args.shape.now.boundary in
    c.back.ensures.value
    ∙ (ap (λ (x : ℕ). (x + l - c.args.appl) % l) hw
    ∙ (ap (λ (x : ℕ). (h % l + l - x) % l) appl
    ∙ distance_shown l h u ahead below))

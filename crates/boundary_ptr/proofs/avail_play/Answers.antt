use Rattle.std.proofs.Common.{ℕ, ◌+◌, ◌-◌, ◌%◌, ap, ◌∙◌}
use Rattle.boundary_ptr.proofs.PointerLemmas.{mod-sub, distance_shown}
use Rattle.boundary_ptr.proofs.avail_play.Goals as goal

pub returns-clause-value : goal.returns-clause-value
returns-clause-value c =
    let l = c.args.shape.now.boundary in
    c.back.ensures.value
    ∙ (ap (λ (x : ℕ). (x + l - c.args.appl) % l) c.add.ensures.value
    ∙ mod-sub l (c.args.hw + c.args.shape.now.buffer) c.args.appl c.requires.appl)

pub returns-clause-avail : goal.returns-clause-avail
returns-clause-avail c = λ h u hw appl ahead below.
    let l = c.args.shape.now.boundary in
    c.back.ensures.value
    ∙ (ap (λ (x : ℕ). (x + l - c.args.appl) % l) (c.add.ensures.shown h hw)
    ∙ (ap (λ (x : ℕ). ((h + c.args.shape.now.buffer) % l + l - x) % l) appl
    ∙ distance_shown l (h + c.args.shape.now.buffer) u ahead below))

use Rattle.std.proofs.Common.{◌∙◌, ◌≤◌, List, ℕ, length, subst, sym}
use Rattle.pcm_stream.specs.StandsFor.{shape_in}
use Rattle.pcm_top.proofs.FeedLemmas.{rest-carried}
use Rattle.pcm_top.proofs.carry.rest.Goals as goal

pub returns : goal.returns
returns c = λ s n stands e.
    c.in_ok-bytes.ensures.items_if_clones_equal (λ x y h. h) ∙ c.rest-left.ensures
    ∙ rest-carried s c.in-Some.shape.now (shape_in c.args.stream.now) c.taken.result.now c.args.moved n c.in-Some.ensures.value c.in-Some.ensures.sound (c.in-Some.ensures.model s stands) (c.taken.ensures ∙ c.card.ensures.taken s stands)
    (subst (λ (l : List ℕ). length l ≤ 67108864) (sym c.taken.ensures) c.card.ensures.limit) e

use Rattle.std.proofs.Common.{ℕ, Option, Some, sym, ◌∙◌, ap}
use Rattle.std.specs.Option.{unwrap_or}
use Rattle.pcm_world.specs.Groups.{numbers_in}
use Rattle.pcm_world.proofs.LinkLemmas.{place_declared}
use Rattle.pcm_world.proofs.groups.place_of_declared.Goals as goal

pub returns : goal.returns
returns c =
    let p = place_declared 0 c.args.sub (numbers_in c.args.groups.now) c.requires in
    p.1 ∙ ap (λ (n : ℕ). Some n) (sym (c.unwrap_or.ensures ∙ ap (λ (o : Option ℕ). unwrap_or o 0) (c.place_of.ensures ∙ p.1)))

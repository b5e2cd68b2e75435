use Rattle.std.proofs.Common.{◌≡◌, ℕ, List, Some, length, sym, ap, ◌∙◌}
use Rattle.std.proofs.Math.Logic.{∥∥₁_elim}
use Rattle.std.specs.Coded.{Coded-set, coded_list, coded_ℕ}
use Rattle.pcm_world.specs.declared.world.Taken.{Taken}
use Rattle.pcm_world.specs.Groups.{taken_of}
use Rattle.pcm_world.proofs.GroupLemmas.{taken-stands}
use Rattle.pcm_world.proofs.world.World.movement.Goals as goal

pub returns-in-MoveBy-clause-some : goal.returns-in-MoveBy-clause-some
returns-in-MoveBy-clause-some c = λ n is.
    let gs = c.args.self.now.groups.items.items in
    let k = c.args.event.now.sub in
    let same : c.taken.result.now ≡ taken_of k gs = ∥∥₁_elim c.args.self.now.stands (Coded-set (coded_list coded_ℕ) _ _) (λ w. c.taken.ensures w.0.groups w.1.groups ∙ sym (taken-stands k gs w.0.groups w.1.groups)) in
    ap (λ (l : List ℕ). let t : Taken = record { sub = k; before = length l } in Some t) same

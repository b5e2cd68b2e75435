use Rattle.std.proofs.Common.{◌≡◌, ℕ, Bool, true, cond, nat_eq, List, [], drop, Option, sym, ap, ◌∙◌, arith}
use Rattle.std.proofs.Math.Logic.{∥∥₁_elim}
use Rattle.std.proofs.lemmas.Bool.Decides.{nat_tests}
use Rattle.std.specs.Coded.{Coded-set, coded_list, coded_ℕ}
use Rattle.pcm_world.specs.declared.world.Taken.{Taken}
use Rattle.pcm_world.specs.Groups.{taken_of}
use Rattle.pcm_world.specs.Shown.{taken_since}
use Rattle.pcm_world.proofs.GroupLemmas.{taken-stands}
use Rattle.pcm_world.proofs.world.World.moved.Goals as goal

pub returns : goal.returns
returns c = ∥∥₁_elim c.args.self.now.stands (Coded-set (coded_list coded_ℕ) _ _) (λ w.
    let gs = c.args.self.now.groups.items.items in
    let t = c.in-Some.taken in
    let same : c.taken.result.now ≡ taken_of c.args.sub gs = c.taken.ensures w.0.groups w.1.groups ∙ sym (taken-stands c.args.sub gs w.0.groups w.1.groups) in
    let here : nat_eq t.sub.0 c.args.sub.0 ≡ true = grind (arith, nat_tests, c.if-taken-sub.false) in
    c.from.ensures ∙ ap (λ (l : List ℕ). drop t.before l) same
    ∙ sym (ap (λ (b : Bool). cond b (drop t.before (taken_of c.args.sub gs)) []) here)
    ∙ ap (λ (o : Option Taken). taken_since o c.args.sub (taken_of c.args.sub gs)) (sym c.in-Some.is))

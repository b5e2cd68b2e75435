use Rattle.std.proofs.Common.{◌≡◌, ℕ, true, length, sym, ap, ◌∙◌, arith}
use Rattle.std.specs.Prelude.{nat_lt}
use Rattle.std.proofs.Math.Logic.{∥∥₁_elim}
use Rattle.std.proofs.lemmas.Bool.Decides.{nat_tests}
use Rattle.std.specs.Coded.{Coded-set, coded_bool}
use Rattle.pcm_world.specs.Groups.{numbers_at, numbers_in}
use Rattle.pcm_world.proofs.RefusalLemmas.{numbers-of}
use Rattle.pcm_world.proofs.links.unlink.Goals as goal

pub unlink-requires-clause-linked : goal.unlink-requires-clause-linked
unlink-requires-clause-linked c =
    let gs = c.args.groups.now.items.items in
    let k = c.args.sub in
    let some : nat_lt 1 (length (numbers_at k (numbers_in gs))) ≡ true =
    ∥∥₁_elim c.requires.stands (Coded-set coded_bool _ _) (λ x. ap (λ (n : ℕ). nat_lt 1 n) (numbers-of k gs x.0 x.1).count ∙ sym (c.is_linked.ensures x.0 x.1) ∙ c.if-not-is_linked.false) in
    (∥∥₁_elim c.requires.stands (Coded-set coded_bool _ _) (λ x. (numbers-of k gs x.0 x.1).held ∙ c.requires.declared x.0 x.1), grind (arith, nat_tests, some))

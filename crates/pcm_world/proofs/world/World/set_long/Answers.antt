use Rattle.std.proofs.Common.{ap, sym, subst}
use Rattle.std.proofs.Math.Logic.{∥∥₁_map}
use Rattle.pcm_base.specs.model.World.{Told}
use Rattle.pcm_world.specs.Shown.{IsWorld}
use Rattle.pcm_world.proofs.WorldLemmas.{AreWorld-long, not_yet, set_long_late, some_groups}
use Rattle.pcm_world.proofs.world.World.set_long.Goals as goal

pub returns-then-not-is_empty-clause-reply : goal.returns-then-not-is_empty-clause-reply
returns-then-not-is_empty-clause-reply c = λ w is.
    sym (ap (λ (t : Told). t.reply) (set_long_late c.args.n w (some_groups c.args.self.now.groups.items.items w.groups is.groups (not_yet c.is_empty.result _ c.is_empty.ensures c.if-not-is_empty.true))))

pub returns-then-not-is_empty-clause-world : goal.returns-then-not-is_empty-clause-world
returns-then-not-is_empty-clause-world c = λ w is.
    subst (λ (t : Told). IsWorld c.args.self.now t.world) (sym (set_long_late c.args.n w (some_groups c.args.self.now.groups.items.items w.groups is.groups (not_yet c.is_empty.result _ c.is_empty.ensures c.if-not-is_empty.true)))) is

pub invariant_of-self : goal.invariant_of-self
invariant_of-self c = record {
  long = c.if-n.false;
  stands = ∥∥₁_map c.args.self.now.stands (λ w. (record w.0 { long_max = c.args.n }, AreWorld-long c.args.self.now.long_max c.args.n c.args.self.now.groups.items.items c.args.self.now.calls w.0 w.1));
}

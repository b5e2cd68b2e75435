use Rattle.std.proofs.Common.{ℕ, List, ap, ◌∙◌, sym, subst}
use Rattle.std.specs.Option.{is_some}
use Rattle.std.proofs.Math.Logic.{∥∥₁_map}
use Rattle.card_emul.specs.Limits.{limits_of}
use Rattle.pcm_base.specs.model.World.{Told}
use Rattle.pcm_world.specs.Shown.{IsWorld, taken_since}
use Rattle.pcm_world.proofs.GroupLemmas.{group_none}
use Rattle.pcm_world.proofs.WorldLemmas.{AreWorld-declared, AreWorld-either, declared_twice, held_if, none_if, undeclared}
use Rattle.pcm_world.proofs.world.World.declare.Goals as goal

pub returns-then-is_some-clause-reply : goal.returns-then-is_some-clause-reply
returns-then-is_some-clause-reply c = λ w is told.
    let held = held_if c.args.self.now.groups.items.items w.groups 0 c.args.sub is.groups (ap is_some (sym c.find.ensures) ∙ sym c.is_some.ensures ∙ c.if-is_some.true) in
    sym (ap (λ (t : Told). t.reply) (declared_twice c.args.sub (limits_of c.args.model) c.args.dir w held))

pub returns-then-is_some-clause-world : goal.returns-then-is_some-clause-world
returns-then-is_some-clause-world c = λ w is told.
    let held = held_if c.args.self.now.groups.items.items w.groups 0 c.args.sub is.groups (ap is_some (sym c.find.ensures) ∙ sym c.is_some.ensures ∙ c.if-is_some.true) in
    subst (λ (t : Told). IsWorld c.args.self.now t.world) (sym (declared_twice c.args.sub (limits_of c.args.model) c.args.dir w held)) is

pub invariant_of-self : goal.invariant_of-self
invariant_of-self c = record {
  long = c.args.self.now.long;
  stands = ∥∥₁_map c.args.self.now.stands (λ w. AreWorld-either c.declare.result c.args.self.now.long_max c.args.self.now.groups.items.items c.declare.new.self.items.items c.args.self.now.calls w.0 c.args.sub (limits_of c.args.model) c.args.dir
      (c.declare.ensures.declared w.0.groups w.1.groups) c.declare.ensures.same w.1);
}

pub returns-in-Ok-clause-reply : goal.returns-in-Ok-clause-reply
returns-in-Ok-clause-reply c = λ w is told.
    let none = none_if c.find.result (sym c.is_some.ensures ∙ c.if-is_some.false) in
    let free = group_none c.args.self.now.groups.items.items w.groups 0 c.args.sub is.groups (sym c.find.ensures ∙ none) in
    sym (ap (λ (t : Told). t.reply) (undeclared c.args.sub (limits_of c.args.model) c.args.dir w free))

pub returns-in-Ok-clause-world : goal.returns-in-Ok-clause-world
returns-in-Ok-clause-world c = λ w is told.
    let none = none_if c.find.result (sym c.is_some.ensures ∙ c.if-is_some.false) in
    let free = group_none c.args.self.now.groups.items.items w.groups 0 c.args.sub is.groups (sym c.find.ensures ∙ none) in
    rw (undeclared c.args.sub (limits_of c.args.model) c.args.dir w free)
    (AreWorld-declared c.args.self.now.long_max c.args.self.now.groups.items.items c.declare.new.self.items.items c.args.self.now.calls w c.args.sub (limits_of c.args.model) c.args.dir is (c.in-Ok.ensures.declared w.groups is.groups))

pub returns-in-Ok-clause-moved : goal.returns-in-Ok-clause-moved
returns-in-Ok-clause-moved c = λ k. ap (λ (l : List ℕ). taken_since c.args.self.now.taken k l) (c.in-Ok.ensures.taken k)

use Rattle.std.proofs.Common.{◌≡◌, ◌≢◌, inl, inr, ◌*◌, true, List, Option, Some, None, length, set, refl, sym, ◌∙◌, subst, arith}
use Rattle.std.specs.Prelude.{nat_le, nat_lt}
use Rattle.std.proofs.Math.Logic.{∥∥₁_elim, ∥∥₁_map}
use Rattle.std.proofs.lemmas.Bool.Decides.{nat_tests}
use Rattle.std.specs.Coded.{Coded-set, coded_bool, coded_ℕ}
use Rattle.pcm_base.specs.declared.call.Call.TheVariants as call
use Rattle.pcm_base.specs.declared.ids.ClientId.{ClientId}
use Rattle.pcm_base.specs.declared.reply.Reply.TheVariants as reply
use Rattle.pcm_base.specs.model.World.{World, in_group}
use Rattle.pcm_world.specs.declared.calls.Kept.{Kept}
use Rattle.pcm_world.specs.Stands.{AreWorld}
use Rattle.pcm_world.proofs.BeginWorld.{memory-or-not}
use Rattle.pcm_world.proofs.GoWorld.{found-same, gone-read, results-of, IsEndOfGoing, IsFound, IsGoneStep, IsTaken, found-free, going-below, going-declared, going-of, gone-step-of, gone-first, gone-nowhere, gone-told, gone-world, none-of, taken-none, taken-of}
use Rattle.pcm_world.proofs.ResultLemmas.{AreFirst}
use Rattle.pcm_world.proofs.WorldSteps.{world-same}
use Rattle.pcm_world.proofs.world.World.go_on.Goals as goal

pub invariant_of-self : goal.invariant_of-self
invariant_of-self c = record {
  long = c.args.self.now.long;
  stands = ∥∥₁_map c.args.self.now.stands (λ w.
      let none = none-of c.args.self.now.long_max c.args.self.now.groups.items.items c.args.self.now.calls w.0 c.args.client c.index-self-client.result w.1 c.requires c.index-self-client.is (c.index-self-client.is ∙ sym c.take.ensures.value ∙ c.in_default.is) in
      (w.0, world-same c.args.self.now.long_max c.args.self.now.groups.items.items c.args.self.now.groups.items.items c.args.self.now.calls _ w.0 w.1 w.1.groups (λ i b. taken-none c.args.client c.args.self.now.calls c.take.new.self none.1 c.take.ensures.after i)));
}

pub returns-in_default-clause-answered : goal.returns-in_default-clause-answered
returns-in_default-clause-answered c = λ w k p is called told. absurd (
    let none = none-of c.args.self.now.long_max c.args.self.now.groups.items.items c.args.self.now.calls w c.args.client c.index-self-client.result is c.requires c.index-self-client.is (c.index-self-client.is ∙ sym c.take.ensures.value ∙ c.in_default.is) in
    let two : None ≡ Some p = sym none.0 ∙ called in let no : ⊥ = cc in no)

pub find-requires : goal.find-requires
find-requires c =
    let below : nat_lt c.in-Some.kept.sub.0 16 ≡ true = ∥∥₁_elim c.args.self.now.stands (Coded-set coded_bool _ _) (λ w.
    let f = going-of c.args.self.now.long_max c.args.self.now.groups.items.items c.args.self.now.calls w.0 c.args.client c.index-self-client.result c.in-Some.kept w.1 c.args.self.now.groups.numbered c.requires c.index-self-client.is (c.index-self-client.is ∙ sym c.take.ensures.value ∙ c.in-Some.is) in
    let b = going-below c.args.self.now.long_max c.args.self.now.groups.items.items c.args.self.now.calls w.0 f.0 c.in-Some.kept f.1.going in grind (arith, nat_tests, b)) in
    grind (arith, nat_tests, below)

pub invariant_of-self-in_default-find : goal.invariant_of-self-in_default-find
invariant_of-self-in_default-find c = record {
  long = c.args.self.now.long;
  stands = ∥∥₁_map c.args.self.now.stands (λ w. absurd (
      let f = going-of c.args.self.now.long_max c.args.self.now.groups.items.items c.args.self.now.calls w.0 c.args.client c.index-self-client.result c.in-Some.kept w.1 c.args.self.now.groups.numbered c.requires c.index-self-client.is (c.index-self-client.is ∙ sym c.take.ensures.value ∙ c.in-Some.is) in
      going-declared c.args.self.now.long_max c.args.self.now.groups.items.items c.args.self.now.calls w.0 f.0 c.in-Some.kept f.1.going (sym c.find.ensures ∙ c.in_default-find.is)));
}

pub returns-in_default-find-clause-answered : goal.returns-in_default-find-clause-answered
returns-in_default-find-clause-answered c = λ w k p is called told. absurd (
    let f = going-of c.args.self.now.long_max c.args.self.now.groups.items.items c.args.self.now.calls w c.args.client c.index-self-client.result c.in-Some.kept is c.args.self.now.groups.numbered c.requires c.index-self-client.is (c.index-self-client.is ∙ sym c.take.ensures.value ∙ c.in-Some.is) in
    going-declared c.args.self.now.long_max c.args.self.now.groups.items.items c.args.self.now.calls w f.0 c.in-Some.kept f.1.going (sym c.find.ensures ∙ c.in_default-find.is))

pub shape-shape-requires : goal.shape-shape-requires
shape-shape-requires c =
    let below : nat_lt c.in-Some.kept.sub.0 16 ≡ true = ∥∥₁_elim c.args.self.now.stands (Coded-set coded_bool _ _) (λ w.
    let f = going-of c.args.self.now.long_max c.args.self.now.groups.items.items c.args.self.now.calls w.0 c.args.client c.index-self-client.result c.in-Some.kept w.1 c.args.self.now.groups.numbered c.requires c.index-self-client.is (c.index-self-client.is ∙ sym c.take.ensures.value ∙ c.in-Some.is) in
    let b = going-below c.args.self.now.long_max c.args.self.now.groups.items.items c.args.self.now.calls w.0 f.0 c.in-Some.kept f.1.going in grind (arith, nat_tests, b)) in
    grind (arith, nat_tests, below)

pub in_group-told-requires-clause-number : goal.in_group-told-requires-clause-number
in_group-told-requires-clause-number c =
    let below : nat_lt c.in-Some.kept.sub.0 16 ≡ true = ∥∥₁_elim c.args.self.now.stands (Coded-set coded_bool _ _) (λ w.
    let f = going-of c.args.self.now.long_max c.args.self.now.groups.items.items c.args.self.now.calls w.0 c.args.client c.index-self-client.result c.in-Some.kept w.1 c.args.self.now.groups.numbered c.requires c.index-self-client.is (c.index-self-client.is ∙ sym c.take.ensures.value ∙ c.in-Some.is) in
    let b = going-below c.args.self.now.long_max c.args.self.now.groups.items.items c.args.self.now.calls w.0 f.0 c.in-Some.kept f.1.going in grind (arith, nat_tests, b)) in
    grind (arith, nat_tests, below)

pub in_group-told-requires-clause-free : goal.in_group-told-requires-clause-free
in_group-told-requires-clause-free c = ∥∥₁_map c.args.self.now.stands (λ w.
    let f = going-of c.args.self.now.long_max c.args.self.now.groups.items.items c.args.self.now.calls w.0 c.args.client c.index-self-client.result c.in-Some.kept w.1 c.args.self.now.groups.numbered c.requires c.index-self-client.is (c.index-self-client.is ∙ sym c.take.ensures.value ∙ c.in-Some.is) in
    (w.0.groups, w.1.groups, λ d is. found-free c.args.self.now.long_max c.args.self.now.groups.items.items c.args.self.now.calls w.0 f.0 c.in-Some.kept c.args.client d f.1 is))

pub end_going-requires-clause-frames : goal.end_going-requires-clause-frames
end_going-requires-clause-frames c = λ z l t of lay is.
    let q : Kept = c.in-Some.kept in
    let n = c.args.self.now.long_max in
    let gs = c.args.self.now.groups.items.items in
    let new = c.in_group-told.new.groups.items.items in
    let calls = c.args.self.now.calls in
    let told : c.in_group-told.result.reply ≢ reply.Memory = (λ q. let two : reply.Frames t ≡ reply.Memory = sym is ∙ q in let no : ⊥ = cc in no) in
    let first : ((w : World) × AreWorld c.args.self.now.long_max c.args.self.now.groups.items.items c.args.self.now.calls w) → AreFirst z t c.in_group-told.new.io.items = (λ (w : (w : World) × AreWorld c.args.self.now.long_max c.args.self.now.groups.items.items c.args.self.now.calls w).
    let f = going-of c.args.self.now.long_max c.args.self.now.groups.items.items c.args.self.now.calls w.0 c.args.client c.index-self-client.result c.in-Some.kept w.1 c.args.self.now.groups.numbered c.requires c.index-self-client.is (c.index-self-client.is ∙ sym c.take.ensures.value ∙ c.in-Some.is) in
    gone-first n gs new calls w.0 f.0 q c.shape-shape.result c.in_group-told.new.io.items c.in_group-told.result (gone-step-of n gs new calls w.0 c.args.client f.0 q c.shape-shape.result c.in_group-told.new.io.items c.in_group-told.result f.1
    (record { is = c.shape-shape.ensures.model w.0.groups w.1.groups; frames = c.shape-shape.ensures.frames w.0.groups w.1.groups })
    (c.in_group-told.ensures.told w.0.groups w.1.groups told) (c.in_group-told.ensures.stands w.0.groups w.1.groups told) c.in_group-told.ensures.size (c.in_group-told.ensures.bytes w.0.groups w.1.groups told refl)) z l t of lay is) in
    let few : nat_le (t * z.frame_bytes) (length c.in_group-told.new.io.items) ≡ true = ∥∥₁_elim c.args.self.now.stands (Coded-set coded_bool _ _) (λ w. let f = (first w).count in grind (arith, nat_tests, f)) in
    (∥∥₁_elim c.args.self.now.stands (Coded-set coded_ℕ _ _) (λ w. (first w).whole), grind (arith, nat_tests, few))

pub invariant_of-self-2 : goal.invariant_of-self-2
invariant_of-self-2 c = record {
  long = c.args.self.now.long;
  stands = ∥∥₁_map c.args.self.now.stands (λ w.
      let q : Kept = c.in-Some.kept in
      let q' : Kept = record q { bytes = c.in_group-told.new.io } in
      let taken : List (Option Kept) = set c.args.self.now.calls c.args.client.0 c.take.new.self in
      let n = c.args.self.now.long_max in
      let gs = c.args.self.now.groups.items.items in
      let new = c.in_group-told.new.groups.items.items in
      let calls = c.args.self.now.calls in
      let f = going-of c.args.self.now.long_max c.args.self.now.groups.items.items c.args.self.now.calls w.0 c.args.client c.index-self-client.result c.in-Some.kept w.1 c.args.self.now.groups.numbered c.requires c.index-self-client.is (c.index-self-client.is ∙ sym c.take.ensures.value ∙ c.in-Some.is) in
      let t = subst (λ (d : ClientId). IsTaken d calls taken) (sym f.1.client) (taken-of c.args.client calls (Some q) c.take.new.self f.1.place c.take.ensures.after) in
      let ends = subst (λ (d : ClientId). IsEndOfGoing d c.in_group-told.result.reply q' taken c.end_going.new.calls) (sym f.1.client) (record { call = c.end_going.ensures.call; others = c.end_going.ensures.calls }) in
      elim (memory-or-not c.in_group-told.result.reply) [
        | inl none ↦ (w.0, gone-nowhere n gs new calls taken c.end_going.new.calls w.0 f.0 q q' c.in_group-told.result.reply f.1.going (c.in_group-told.ensures.memory w.0.groups w.1.groups none) refl refl (c.in_group-told.ensures.kept none) t ends none)
        | inr told ↦ (
          (in_group call.Go f.0 w.0).world,
          gone-world n gs new calls w.0 f.0 q c.shape-shape.result c.in_group-told.new.io.items c.in_group-told.result
              (gone-step-of n gs new calls w.0 c.args.client f.0 q c.shape-shape.result c.in_group-told.new.io.items c.in_group-told.result f.1
              (record { is = c.shape-shape.ensures.model w.0.groups w.1.groups; frames = c.shape-shape.ensures.frames w.0.groups w.1.groups })
              (c.in_group-told.ensures.told w.0.groups w.1.groups told) (c.in_group-told.ensures.stands w.0.groups w.1.groups told) c.in_group-told.ensures.size (c.in_group-told.ensures.bytes w.0.groups w.1.groups told refl)) q' taken c.end_going.new.calls refl refl refl t ends told,
        )
      ]);
}

pub returns-clause-answered : goal.returns-clause-answered
returns-clause-answered c = λ w k p is called told.
    let q : Kept = c.in-Some.kept in
    let q' : Kept = record q { bytes = c.in_group-told.new.io } in
    let taken : List (Option Kept) = set c.args.self.now.calls c.args.client.0 c.take.new.self in
    let n = c.args.self.now.long_max in
    let gs = c.args.self.now.groups.items.items in
    let new = c.in_group-told.new.groups.items.items in
    let calls = c.args.self.now.calls in
    let a = going-of c.args.self.now.long_max c.args.self.now.groups.items.items c.args.self.now.calls w c.args.client c.index-self-client.result c.in-Some.kept is c.args.self.now.groups.numbered c.requires c.index-self-client.is (c.index-self-client.is ∙ sym c.take.ensures.value ∙ c.in-Some.is) in
    let f : IsFound n gs calls w c.args.client q p = found-same n gs calls w c.args.client q a.0 p a.1 called in
    let t : IsTaken p.client calls taken = subst (λ (d : ClientId). IsTaken d calls taken) (sym f.client) (taken-of c.args.client calls (Some q) c.take.new.self f.place c.take.ensures.after) in
    let ends : IsEndOfGoing p.client c.in_group-told.result.reply q' taken c.end_going.new.calls =
    subst (λ (d : ClientId). IsEndOfGoing d c.in_group-told.result.reply q' taken c.end_going.new.calls) (sym f.client) (record { call = c.end_going.ensures.call; others = c.end_going.ensures.calls }) in
    let s : IsGoneStep n gs new calls w p q c.shape-shape.result c.in_group-told.new.io.items c.in_group-told.result =
    gone-step-of n gs new calls w c.args.client p q c.shape-shape.result c.in_group-told.new.io.items c.in_group-told.result f
    (record { is = c.shape-shape.ensures.model w.groups is.groups; frames = c.shape-shape.ensures.frames w.groups is.groups })
    (c.in_group-told.ensures.told w.groups is.groups told) (c.in_group-told.ensures.stands w.groups is.groups told) c.in_group-told.ensures.size (c.in_group-told.ensures.bytes w.groups is.groups told refl) in
    record {
      told = gone-told n gs new calls w p q c.shape-shape.result c.in_group-told.new.io.items c.in_group-told.result s;
      world = gone-world n gs new calls w p q c.shape-shape.result c.in_group-told.new.io.items c.in_group-told.result s q' taken c.end_going.new.calls refl refl refl t ends told;
      result = λ d. gone-read n gs new calls w c.args.client p q c.shape-shape.result c.in_group-told.new.io.items c.in_group-told.result s f.client q' c.args.self.now.results c.end_going.new.results refl refl
          (results-of c.args.client p.client c.in_group-told.result.reply q' c.shape-shape.result c.args.self.now.results c.end_going.new.results f.client c.end_going.ensures.result c.end_going.ensures.results) d;
    }

pub returns-clause-memory : goal.returns-clause-memory
returns-clause-memory c = λ w is none.
    let q : Kept = c.in-Some.kept in
    let q' : Kept = record q { bytes = c.in_group-told.new.io } in
    let taken : List (Option Kept) = set c.args.self.now.calls c.args.client.0 c.take.new.self in
    let n = c.args.self.now.long_max in
    let gs = c.args.self.now.groups.items.items in
    let new = c.in_group-told.new.groups.items.items in
    let calls = c.args.self.now.calls in
    let f = going-of c.args.self.now.long_max c.args.self.now.groups.items.items c.args.self.now.calls w c.args.client c.index-self-client.result c.in-Some.kept is c.args.self.now.groups.numbered c.requires c.index-self-client.is (c.index-self-client.is ∙ sym c.take.ensures.value ∙ c.in-Some.is) in
    let t = subst (λ (d : ClientId). IsTaken d calls taken) (sym f.1.client) (taken-of c.args.client calls (Some q) c.take.new.self f.1.place c.take.ensures.after) in
    let ends = subst (λ (d : ClientId). IsEndOfGoing d c.in_group-told.result.reply q' taken c.end_going.new.calls) (sym f.1.client) (record { call = c.end_going.ensures.call; others = c.end_going.ensures.calls }) in
    gone-nowhere n gs new calls taken c.end_going.new.calls w f.0 q q' c.in_group-told.result.reply f.1.going (c.in_group-told.ensures.memory w.groups is.groups none) refl refl (c.in_group-told.ensures.kept none) t ends none

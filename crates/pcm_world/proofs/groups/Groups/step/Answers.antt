use Rattle.std.proofs.Common.{Some, List, length, refl, sym, ◌∙◌, ap, subst, arith}
use Rattle.std.proofs.Math.Logic.{∥∥₁_elim}
use Rattle.std.specs.Coded.{Coded-set, coded_bool}
use Rattle.std.proofs.lemmas.Option.{slice_get_read}
use Rattle.pcm_base.specs.declared.ids.SubId.{SubId}
use Rattle.pcm_base.specs.model.Group.{stream_of}
use Rattle.pcm_base.specs.model.Stream.{Member}
use Rattle.pcm_base.specs.model.World.{group_of, with_group}
use Rattle.pcm_group.specs.Bytes.{HasLength}
use Rattle.pcm_group.specs.Inside.{members_in}
use Rattle.pcm_world.specs.Groups.{AreNumbers, place_in}
use Rattle.pcm_world.proofs.GroupLemmas.{free_members, group_of-with, group_there, groups_kept, groups_then, groups_with_own, held_there, holds_as, length-lent, numbers_kept, place_within, tells}
use Rattle.pcm_world.proofs.groups.Groups.step.Goals as goal

pub index_mut-requires : goal.index_mut-requires
index_mut-requires c = let l = place_within c.args.self.now.items.items c.args.place c.args.event.now.sub c.requires.place in omega (arith, l, c.args.self.now.items.ok.0)

pub step-requires-clause-member : goal.step-requires-clause-member
step-requires-clause-member c =
    let gs = c.args.self.now.items.items in
    let at = slice_get_read gs (length gs) c.args.place c.index_mut.result.now refl (place_within gs c.args.place c.args.event.now.sub c.requires.place) c.index_mut.ensures.value in
    held_there gs c.args.place c.args.event.now.sub c.index_mut.result.now c.requires.place at

pub step-requires-clause-free : goal.step-requires-clause-free
step-requires-clause-free c = λ x is i d b own. ∥∥₁_elim c.requires.free (Coded-set coded_bool _ _) (λ f.
    let gs = c.args.self.now.items.items in
    let at = slice_get_read gs (length gs) c.args.place c.index_mut.result.now refl (place_within gs c.args.place c.args.event.now.sub c.requires.place) c.index_mut.ensures.value in
    let there = group_there gs f.0 c.args.place c.args.event.now.sub c.index_mut.result.now f.1 c.requires.place at in
    free_members (members_in c.index_mut.result.now) _ c.args.event.now.call c.args.event.now.sub x i d there.stands (f.2 x is) b own)

pub step-requires-clause-length : goal.step-requires-clause-length
step-requires-clause-length c = λ ms stands. length-lent c.args.event.now.call _ _ _ c.requires.free (λ f.
    let gs = c.args.self.now.items.items in
    let k = c.args.event.now.sub in
    let at = slice_get_read gs (length gs) c.args.place c.index_mut.result.now refl (place_within gs c.args.place k c.requires.place) c.index_mut.ensures.value in
    let held = held_there gs c.args.place k c.index_mut.result.now c.requires.place at in
    let there = group_there gs f.0 c.args.place k c.index_mut.result.now f.1 c.requires.place at in
    let same = group_of-with k ms f.0 (holds_as k (members_in c.index_mut.result.now) ms stands ∙ held) (holds_as k (members_in c.index_mut.result.now) (group_of k f.0) there.stands ∙ held) in
    subst (λ (l : List Member). HasLength c.args.event.now.call c.args.io.now (stream_of k l)) same (c.requires.length (with_group k ms f.0) (groups_with_own gs f.0 c.args.place k c.index_mut.result.now ms f.1 c.requires.place at stands)))

pub invariant_of-self : goal.invariant_of-self
invariant_of-self c =
    let gs = c.args.self.now.items.items in
    let at = slice_get_read gs (length gs) c.args.place c.index_mut.result.now refl (place_within gs c.args.place c.args.event.now.sub c.requires.place) c.index_mut.ensures.value in
    let same = numbers_kept gs c.args.place c.index_mut.result.now c.step.new.self at c.step.ensures.numbers in
    record {
      placed = λ k b. c.args.self.now.placed k b ∙ ap (λ (kss : List (List SubId)). Some (place_in (record { 0 = k }) kss)) (sym same);
      numbered = subst AreNumbers (sym same) c.args.self.now.numbered;
    }

pub returns-clause-turn : goal.returns-clause-turn
returns-clause-turn c = λ xs h told.
    let gs = c.args.self.now.items.items in
    let at = slice_get_read gs (length gs) c.args.place c.index_mut.result.now refl (place_within gs c.args.place c.args.event.now.sub c.requires.place) c.index_mut.ensures.value in
    let there = group_there gs xs c.args.place c.args.event.now.sub c.index_mut.result.now h c.requires.place at in
    c.step.ensures.turn _ there.stands (tells (members_in c.index_mut.result.now)) told

pub returns-clause-stands : goal.returns-clause-stands
returns-clause-stands c = λ xs h told.
    let gs = c.args.self.now.items.items in
    let at = slice_get_read gs (length gs) c.args.place c.index_mut.result.now refl (place_within gs c.args.place c.args.event.now.sub c.requires.place) c.index_mut.ensures.value in
    let there = group_there gs xs c.args.place c.args.event.now.sub c.index_mut.result.now h c.requires.place at in
    groups_then gs xs c.args.place c.args.event.now.sub c.step.new.self _ h c.requires.place (c.step.ensures.stands _ there.stands (tells (members_in c.index_mut.result.now)) told)

pub returns-clause-memory : goal.returns-clause-memory
returns-clause-memory c = λ xs h none.
    let gs = c.args.self.now.items.items in
    let at = slice_get_read gs (length gs) c.args.place c.index_mut.result.now refl (place_within gs c.args.place c.args.event.now.sub c.requires.place) c.index_mut.ensures.value in
    groups_kept gs xs c.args.place c.index_mut.result.now c.step.new.self at (λ ms s. c.step.ensures.memory ms s none) h

pub returns-clause-loaded : goal.returns-clause-loaded
returns-clause-loaded c = λ xs h.
    let gs = c.args.self.now.items.items in
    let at = slice_get_read gs (length gs) c.args.place c.index_mut.result.now refl (place_within gs c.args.place c.args.event.now.sub c.requires.place) c.index_mut.ensures.value in
    let there = group_there gs xs c.args.place c.args.event.now.sub c.index_mut.result.now h c.requires.place at in
    c.step.ensures.loaded _ there.stands

pub returns-clause-bytes : goal.returns-clause-bytes
returns-clause-bytes c = λ xs h told lent.
    let gs = c.args.self.now.items.items in
    let at = slice_get_read gs (length gs) c.args.place c.index_mut.result.now refl (place_within gs c.args.place c.args.event.now.sub c.requires.place) c.index_mut.ensures.value in
    let there = group_there gs xs c.args.place c.args.event.now.sub c.index_mut.result.now h c.requires.place at in
    c.step.ensures.transferred _ there.stands (tells (members_in c.index_mut.result.now)) told lent

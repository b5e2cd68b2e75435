use Rattle.std.proofs.Common.{ℕ, List, length, refl, sym, ◌∙◌, ap, arith}
use Rattle.std.specs.Prelude.{nat_lt}
use Rattle.std.proofs.lemmas.Option.{slice_get_read}
use Rattle.pcm_base.specs.model.Stream.{Member}
use Rattle.pcm_base.specs.model.World.{group_of}
use Rattle.pcm_group.specs.Inside.{members_in}
use Rattle.pcm_world.proofs.GroupLemmas.{group_none, group_there, lengths, place_within}
use Rattle.pcm_world.proofs.groups.Groups.is_linked.Goals as goal

pub index-requires : goal.index-requires
index-requires c = let l = place_within c.args.self.now.items.items c.in-Some.place c.args.sub (sym c.find.ensures ∙ c.in-Some.is) in omega (arith, l, c.args.self.now.items.ok.0)

pub returns-in-Some : goal.returns-in-Some
returns-in-Some c = λ xs h.
    let gs = c.args.self.now.items.items in
    let place = sym c.find.ensures ∙ c.in-Some.is in
    let at = slice_get_read gs (length gs) c.in-Some.place c.index.result.now refl (place_within gs c.in-Some.place c.args.sub place) c.index.ensures in
    let there = group_there gs xs c.in-Some.place c.args.sub c.index.result.now h place at in
    ap (λ (n : ℕ). nat_lt 1 n) (c.len.ensures.value ∙ ap length c.members.ensures.members ∙ lengths (members_in c.index.result.now) (group_of c.args.sub xs) there.stands)

pub returns-in-None : goal.returns-in-None
returns-in-None c = λ xs h.
    sym (ap (λ (l : List Member). nat_lt 1 (length l)) (group_none c.args.self.now.items.items xs 0 c.args.sub h (sym c.find.ensures ∙ c.in-None.is)))

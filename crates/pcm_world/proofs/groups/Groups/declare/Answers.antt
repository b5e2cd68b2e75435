use Rattle.std.proofs.Common.{◌≡◌, ◌++◌, ◌∷◌, [], List, Some, sym, ◌∙◌, ap, subst}
use Rattle.card_emul.specs.declared.any_card.AnyCard.{AnyCard}
use Rattle.card_emul.specs.contracts.any_card.AnyCardCard.TheImpl.{ghosts}
use Rattle.card_emul.specs.Limits.{limits_of}
use Rattle.pcm_base.specs.declared.ids.SubId.{SubId}
use Rattle.pcm_base.specs.model.World.{lone}
use Rattle.pcm_stream.specs.declared.members.Member.{Member}
use Rattle.pcm_stream.specs.Members.{members_of, numbers_of}
use Rattle.pcm_stream.specs.MembersStand.{AllStandFor}
use Rattle.pcm_group.specs.declared.group.Group.{Group}
use Rattle.pcm_group.specs.Inside.{members_in}
use Rattle.pcm_world.specs.Groups.{AreNumbers, GroupsStand, numbers_in, place_in, taken_of}
use Rattle.pcm_world.proofs.GroupLemmas.{groups-append, numbers-append, numbers_more, taken-append, taken-fresh}
use Rattle.pcm_world.proofs.groups.Groups.declare.Goals as goal

pub invariant_of-self-2 : goal.invariant_of-self-2
invariant_of-self-2 c =
    let gs = c.args.self.now.items.items in
    let y = c.of-group.result.0 in
    let k = c.args.sub in
    let all : c.push_reserved.new.self.items ≡ gs ++ y ∷ [] = c.push_reserved.ensures.items ∙ ap (λ (l : List (Group AnyCard ghosts)). l ++ y ∷ []) c.reserve.ensures.items in
    let added : members_of c.add.new.self ≡ c.fresh_member.result ∷ [] = c.add.ensures ∙ ap (λ (l : List (Member AnyCard ghosts)). l ++ c.fresh_member.result ∷ []) c.in_ok-members.ensures in
    let one : numbers_of (members_in y) ≡ k ∷ [] = c.of-group.ensures.numbers ∙ ap (λ (l : List (Member AnyCard ghosts)). numbers_of l) added ∙ ap (λ (j : SubId). j ∷ []) c.fresh_member.ensures.sub in
    let same : numbers_in c.push_reserved.new.self.items ≡ numbers_in gs ++ (k ∷ []) ∷ [] =
    ap (λ (l : List (Group AnyCard ghosts)). numbers_in l) all ∙ numbers-append gs y ∙ ap (λ (ks : List SubId). numbers_in gs ++ ks ∷ []) one in
    record {
      placed = λ i b. c.places_of-self.ensures i b ∙ ap (λ (l : List (Group AnyCard ghosts)). Some (place_in (record { 0 = i }) (numbers_in l))) c.deref.ensures.value;
      numbered = subst AreNumbers (sym same) (numbers_more (numbers_in gs) k c.requires.new c.requires.number c.args.self.now.numbered);
    }

pub returns-clause-declared : goal.returns-clause-declared
returns-clause-declared c = λ xs h.
    let gs = c.args.self.now.items.items in
    let y = c.of-group.result.0 in
    let now = lone c.args.sub (limits_of c.args.model) c.args.dir c.args.long_max in
    let all : c.push_reserved.new.self.items ≡ gs ++ y ∷ [] = c.push_reserved.ensures.items ∙ ap (λ (l : List (Group AnyCard ghosts)). l ++ y ∷ []) c.reserve.ensures.items in
    let added : members_of c.add.new.self ≡ c.fresh_member.result ∷ [] = c.add.ensures ∙ ap (λ (l : List (Member AnyCard ghosts)). l ++ c.fresh_member.result ∷ []) c.in_ok-members.ensures in
    let stands : AllStandFor (members_of c.add.new.self) now = subst (λ (l : List (Member AnyCard ghosts)). AllStandFor l now) (sym added) (c.fresh_member.ensures.stands, tt) in
    subst (λ (l : List (Group AnyCard ghosts)). GroupsStand l (xs ++ now ∷ [])) (sym all) (groups-append gs xs y now h (c.of-group.ensures.stands now stands))

pub returns-clause-taken : goal.returns-clause-taken
returns-clause-taken c = λ k.
    let gs = c.args.self.now.items.items in
    let y = c.of-group.result.0 in
    let now = lone c.args.sub (limits_of c.args.model) c.args.dir c.args.long_max in
    let all : c.push_reserved.new.self.items ≡ gs ++ y ∷ [] = c.push_reserved.ensures.items ∙ ap (λ (l : List (Group AnyCard ghosts)). l ++ y ∷ []) c.reserve.ensures.items in
    let added : members_of c.add.new.self ≡ c.fresh_member.result ∷ [] = c.add.ensures ∙ ap (λ (l : List (Member AnyCard ghosts)). l ++ c.fresh_member.result ∷ []) c.in_ok-members.ensures in
    let stands : AllStandFor (members_of c.add.new.self) now = subst (λ (l : List (Member AnyCard ghosts)). AllStandFor l now) (sym added) (c.fresh_member.ensures.stands, tt) in
    ap (λ (l : List (Group AnyCard ghosts)). taken_of k l) all
    ∙ taken-append k gs y (taken-fresh k (members_in y) c.args.sub (limits_of c.args.model) c.args.dir c.args.long_max (c.of-group.ensures.stands now stands))

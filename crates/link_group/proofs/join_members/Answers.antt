use Rattle.std.proofs.Common.{◌≡◌, ◌++◌, ◌∷◌, [], List, sym, ◌∙◌, ap, subst}
use Rattle.pcm_stream.specs.declared.members.Member.{Member}
use Rattle.pcm_stream.specs.Members.{all_differ, members_of, numbers_of}
use Rattle.pcm_stream.specs.MembersStand.{AllStandFor}
use Rattle.link_group.proofs.PlaceLemmas.{AllStandFor-append, differ-joined, only, only-gone}
use Rattle.link_group.proofs.join_members.Goals as goal

pub returns : goal.returns
returns g c =
    let ms = members_of c.args.group.now in
    let ns = members_of c.args.lone.now in
    let joined : members_of c.add.new.self ≡ ms ++ ns = c.add.ensures ∙ ap (λ (l : List (Member g.row.C.Denot g.C.Card)). ms ++ l) (sym (only ns c.take.result c.requires.one c.take.ensures.taken)) in
    record {
      joined = joined;
      empty = c.take.ensures.others ∙ only-gone ns c.requires.one;
      stands = λ a b h k. subst (λ (l : List (Member g.row.C.Denot g.C.Card)). AllStandFor l (a ++ b)) (sym joined) (AllStandFor-append ms ns a b h k);
      distinct = λ sub one new d. ap (λ (l : List (Member g.row.C.Denot g.C.Card)). all_differ (numbers_of l)) joined ∙ differ-joined ms ns sub one new d;
    }

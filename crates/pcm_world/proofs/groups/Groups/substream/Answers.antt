use Rattle.std.proofs.Common.{◌≡◌, List, true, length, refl, sym, ◌∙◌, subst, arith}
use Rattle.std.proofs.lemmas.Option.{slice_get_read}
use Rattle.card_emul.specs.declared.any_card.AnyCard.{AnyCard}
use Rattle.card_emul.specs.contracts.any_card.AnyCardCard.TheImpl.{ghosts}
use Rattle.pcm_base.specs.model.World.{group_of, holds}
use Rattle.pcm_stream.specs.declared.members.Member.{Member}
use Rattle.pcm_stream.specs.MembersStand.{AllStandFor}
use Rattle.pcm_group.specs.Inside.{members_in}
use Rattle.pcm_world.proofs.GroupLemmas.{group_none, group_there, holds_as, match_other, not_both, place_within}
use Rattle.pcm_world.proofs.groups.Groups.substream.Goals as goal

pub index-requires : goal.index-requires
index-requires c = let l = place_within c.args.self.now.items.items c.in_ok-place.place c.args.sub (sym c.in_ok-place.ensures) in omega (arith, l, c.args.self.now.items.ok.0)

pub returns : goal.returns
returns c = λ xs h.
    let gs = c.args.self.now.items.items in
    let at = slice_get_read gs (length gs) c.in_ok-place.place c.index.result.now refl (place_within gs c.in_ok-place.place c.args.sub (sym c.in_ok-place.ensures)) c.index.ensures in
    let there = group_there gs xs c.in_ok-place.place c.args.sub c.index.result.now h (sym c.in_ok-place.ensures) at in
    let held : holds c.args.sub (group_of c.args.sub xs) ≡ true = holds_as c.args.sub (members_in c.index.result.now) (group_of c.args.sub xs) there.stands ∙ there.held in
    match_other c.stream_of_member.result _ _ _ (λ f. absurd (not_both (holds c.args.sub (group_of c.args.sub xs)) held f))
    (c.stream_of_member.ensures (group_of c.args.sub xs) (subst (λ (l : List (Member AnyCard ghosts)). AllStandFor l (group_of c.args.sub xs)) (sym c.members.ensures.members) there.stands))

pub returns-in_err-place : goal.returns-in_err-place
returns-in_err-place c = λ xs h. rw c.from_residual.ensures (group_none c.args.self.now.items.items xs 0 c.args.sub h (sym c.in_err-place.ensures))

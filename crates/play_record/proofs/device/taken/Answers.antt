use Rattle.std.proofs.Common.{◌≡◌, [], ◌∷◌, ap, ◌∙◌, subst, sym, slice_get}
use Rattle.std.specs.declared.option.Option.TheVariants.{Some}
use Rattle.pcm_stream.specs.MembersStand.{AllStandFor}
use Rattle.pcm_group.specs.Inside.{members_in}
use Rattle.play_record.specs.Devices.{taken_by}
use Rattle.play_record.proofs.At.{only-member}
use Rattle.play_record.proofs.device.taken.Goals as goal

pub returns-clause-taken : goal.returns-clause-taken
returns-clause-taken g c =
    let first = subst (λ ms. slice_get ms 0 ≡ Some c.at.result.now) c.members.ensures.members c.at.ensures in
    let one = only-member (members_in c.args.group.now) c.requires.0 c.at.result.now c.requires.1 first in
    let copied = c.in_ok-copy.ensures.items_if_clones_equal (λ x y h. h) ∙ (c.taken.ensures ∙ ap (λ f. f.taken) c.card.ensures.card) in
    ap taken_by one ∙ ap (λ l. l ∷ []) (sym copied)

pub returns-clause-frames : goal.returns-clause-frames
returns-clause-frames g c = λ x stands.
    let first = subst (λ ms. slice_get ms 0 ≡ Some c.at.result.now) c.members.ensures.members c.at.ensures in
    let one = only-member (members_in c.args.group.now) x c.at.result.now stands first in
    let here = subst (λ ms. AllStandFor ms (x ∷ [])) one stands in
    c.in_ok-copy.ensures.items_if_clones_equal (λ x y h. h) ∙ (c.taken.ensures ∙ c.card.ensures.taken x.stream here.0.stream)

use Rattle.std.proofs.Common.{◌≡◌, ◌<◌, ℕ, List, length, slice_get, get_or, Some, refl, sym, ap, ◌∙◌, subst, arith}
use Rattle.card_emul.specs.declared.any_card.AnyCard.{AnyCard}
use Rattle.card_emul.specs.contracts.any_card.AnyCardCard.TheImpl.{ghosts}
use Rattle.pcm_base.specs.declared.call.Event.{Event}
use Rattle.pcm_base.specs.declared.ids.SubId.{SubId}
use Rattle.pcm_base.specs.model.Group.{stream_of}
use Rattle.pcm_base.specs.model.Stream.{Member as ModelMember}
use Rattle.floor_rule.specs.Causes.{Tells}
use Rattle.floor_rule.specs.declared.entry.Entry.{Entry}
use Rattle.pcm_group.specs.Inside.{members_in}
use Rattle.pcm_stream.specs.Members.{numbers_of}
use Rattle.pcm_stream.specs.MembersStand.{AllStandFor}
use Rattle.pcm_stream.specs.declared.members.Member.{Member}
use Rattle.room_parts.specs.Passes.{IsAlone, IsBy}
use Rattle.room_lock.specs.InGroup.{IsPageIn}
use Rattle.room_lock.specs.Recorded.{IsOwnRecorded}
use Rattle.room_parts.specs.Recs.{sub_of}
use Rattle.room_lock.proofs.RecLemmas.{found, no_rec}
use Rattle.room_lock.proofs.Records.{get_map, length_map}
use Rattle.room_lock.proofs.unlinking.tell_unlink.Goals as goal

pub page_at-page-requires-clause-place : goal.page_at-page-requires-clause-place
page_at-page-requires-clause-place g c =
    let ms = members_in c.args.room.now.group in
    let rs = c.args.room.now.recs.items in
    let size = sym (length_map (λ (m : Member AnyCard ghosts). m.sub) ms) ∙ ap length c.requires.members ∙ length_map sub_of rs in
    let same = ap (λ (l : List (Member AnyCard ghosts)). length l) c.members.ensures.members in
    let place = c.requires.place in
    omega (arith, size, same, place)

pub record_own-requires-clause-tells : goal.record_own-requires-clause-tells
record_own-requires-clause-tells g c = λ r at.
    let here = c.requires.sub r at in (
      subst (λ (n : ℕ). r.knows.sub < n) (sym c.requires.words.1) here.1,
      subst (λ (z : Entry × Event). Tells r.knows.sub z.0 z.1) (λ i. (sym c.unlink_entry-entry.ensures i, sym c.unlink_event-event.ensures i)) (refl, sym (ap (λ (k : SubId). k.0) here.0)),
    )

pub record_own-requires-clause-alone : goal.record_own-requires-clause-alone
record_own-requires-clause-alone g c = λ r at. subst (λ (e : Event). IsAlone (length g.N.FloorName.cards) r.knows.sub e.call) (sym c.unlink_event-event.ensures) tt

pub record_own-requires-clause-by : goal.record_own-requires-clause-by
record_own-requires-clause-by g c = subst (IsBy c.args.pass.now.caller) (sym c.unlink_event-event.ensures) c.requires.by

pub returns-clause-told : goal.returns-clause-told
returns-clause-told g c = λ xs st.
    let rs = c.args.room.now.recs.items in
    let ms = members_in c.args.room.now.group in
    let r = get_or rs c.args.own no_rec in
    let at = found rs c.args.own c.requires.place in
    let sub = (c.requires.sub r at).0 in
    let page = c.page_at-page.result in
    let number_is : slice_get (numbers_of ms) c.args.own ≡ Some c.args.sub = ap (λ (ks : List SubId). slice_get ks c.args.own) c.requires.members ∙ get_map sub_of rs c.args.own r at ∙ ap Some sub in
    let shows : (m : SubId) (zs : List ModelMember) → slice_get (numbers_of ms) c.args.own ≡ Some m → AllStandFor ms zs → IsPageIn page (stream_of m zs) =
    subst (λ (l : List (Member AnyCard ghosts)). (m : SubId) (zs : List ModelMember) → slice_get (numbers_of l) c.args.own ≡ Some m → AllStandFor l zs → IsPageIn page (stream_of m zs)) c.members.ensures.members c.page_at-page.ensures.shows in
    record {
      before = r;
      at = at;
      sub = sub;
      recorded = subst (λ (z : Event × Entry). IsOwnRecorded c.args.own z.0 0 z.1 page.state page.hw r rs c.record_own.new.recs.items c.args.pass.now c.record_own.new.pass) (λ i. (c.unlink_event-event.ensures i, c.unlink_entry-entry.ensures i)) (c.record_own.ensures.recorded r at);
      shows = shows c.args.sub xs number_is st;
      receipt_is = (refl, c.count_at-index.ensures r at);
    }

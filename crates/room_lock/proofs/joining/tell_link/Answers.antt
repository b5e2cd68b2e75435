use Rattle.std.proofs.Common.{◌≡◌, List, [], ◌∷◌, length, slice_get, get_or, Some, sym, ap, ◌∙◌, subst, arith}
use Rattle.card_emul.specs.declared.any_card.AnyCard.{AnyCard}
use Rattle.card_emul.specs.contracts.any_card.AnyCardCard.TheImpl.{ghosts}
use Rattle.pcm_base.specs.declared.ids.SubId.{SubId}
use Rattle.pcm_base.specs.declared.state.State.{State}
use Rattle.pcm_base.specs.model.Group.{stream_of}
use Rattle.pcm_base.specs.model.Stream.{Member as ModelMember}
use Rattle.pcm_group.specs.Inside.{members_in}
use Rattle.pcm_stream.specs.Members.{numbers_of}
use Rattle.pcm_stream.specs.MembersStand.{AllStandFor}
use Rattle.pcm_stream.specs.declared.members.Member.{Member}
use Rattle.room_parts.specs.Links.{link_entry, link_event}
use Rattle.room_parts.specs.Recs.{RecView, sub_of, subs_of}
use Rattle.room_parts.specs.declared.calling.Linked.{Linked}
use Rattle.room_lock.specs.InGroup.{IsPageIn}
use Rattle.room_lock.specs.Joined.{IsJoined}
use Rattle.room_lock.specs.Linked.{link_marked}
use Rattle.room_lock.specs.Recorded.{HasCalled}
use Rattle.room_lock.proofs.RecLemmas.{found, get_set, no_rec, some_one}
use Rattle.room_lock.proofs.Records.{get_map, length_map}
use Rattle.room_lock.proofs.joining.tell_link.Goals as goal

-- as many members as recs
as_many : (ms : List (Member AnyCard ghosts)) (rs : List RecView) → numbers_of ms ≡ subs_of rs → length ms ≡ length rs
as_many ms rs h = sym (length_map (λ (m : Member AnyCard ghosts). m.sub) ms) ∙ ap length h ∙ length_map sub_of rs

pub page_at-one-requires-clause-place : goal.page_at-one-requires-clause-place
page_at-one-requires-clause-place g c =
    let size = as_many (members_in c.args.first.now.group) c.args.first.now.recs.items c.requires.first.0 in
    let same = ap (λ (ms : List (Member AnyCard ghosts)). length ms) c.members.ensures.members in
    let place = c.requires.places.0 in
    omega (arith, size, same, place)

pub page_at-two-requires-clause-place : goal.page_at-two-requires-clause-place
page_at-two-requires-clause-place g c =
    let size = as_many (members_in c.args.second.now.group) c.args.second.now.recs.items c.requires.second.0 in
    let same = ap (λ (ms : List (Member AnyCard ghosts)). length ms) c.members-2.ensures.members in
    let place = c.requires.places.1 in
    omega (arith, size, same, place)

pub record_link-requires-clause-card : goal.record_link-requires-clause-card
record_link-requires-clause-card g c = λ r at.
    let here = c.requires.first.1 r at in
    (here.1, ap (λ (l : Linked). l.first.0) c.linked-link.ensures ∙ sym (ap (λ (k : SubId). k.0) here.0))

pub record_link-requires-clause-second : goal.record_link-requires-clause-second
record_link-requires-clause-second g c = λ r at.
    ap (λ (l : Linked). l.second.0) c.linked-link.ensures ∙ sym (ap (λ (k : SubId). k.0) (c.requires.second.1 r at))

pub returns-clause-first : goal.returns-clause-first
returns-clause-first g c = λ xs st.
    let rs = c.args.first.now.recs.items in
    let qs = c.args.second.now.recs.items in
    let r = get_or rs c.args.own no_rec in
    let at = found rs c.args.own c.requires.places.0 in
    let did = c.record_link.ensures.recorded r (get_or qs c.args.other no_rec) at (found qs c.args.other c.requires.places.1) in
    let sub = (c.requires.first.1 r at).0 in
    let number_is : slice_get (numbers_of (members_in c.args.first.now.group)) c.args.own ≡ Some c.args.from = ap (λ (ks : List SubId). slice_get ks c.args.own) c.requires.first.0 ∙ get_map sub_of rs c.args.own r at ∙ ap Some sub in
    let shows : (m : SubId) (zs : List ModelMember) → slice_get (numbers_of (members_in c.args.first.now.group)) c.args.own ≡ Some m → AllStandFor (members_in c.args.first.now.group) zs → IsPageIn c.page_at-one.result (stream_of m zs) =
    subst (λ (ms : List (Member AnyCard ghosts)). (m : SubId) (zs : List ModelMember) → slice_get (numbers_of ms) c.args.own ≡ Some m → AllStandFor ms zs → IsPageIn c.page_at-one.result (stream_of m zs)) c.members.ensures.members c.page_at-one.ensures.shows in
    record {
      before = r;
      after = did.first;
      at = at;
      sub = sub;
      recs = did.recs;
      joined = subst (λ (s : State). IsJoined r did.first (link_marked c.linked-link.result s c.page_at-one.result.hw c.args.pass.now.knows ∷ [])) (ap (λ (l : Linked). l.first_state) c.linked-link.ensures) did.joined;
      shows = shows c.args.from xs number_is st;
    }

pub returns-clause-second : goal.returns-clause-second
returns-clause-second g c = λ ys st.
    let rs = c.args.first.now.recs.items in
    let qs = c.args.second.now.recs.items in
    let q = get_or qs c.args.other no_rec in
    let at = found qs c.args.other c.requires.places.1 in
    let did = c.record_link.ensures.recorded (get_or rs c.args.own no_rec) q (found rs c.args.own c.requires.places.0) at in
    let sub = c.requires.second.1 q at in
    let number_is : slice_get (numbers_of (members_in c.args.second.now.group)) c.args.other ≡ Some c.args.to = ap (λ (ks : List SubId). slice_get ks c.args.other) c.requires.second.0 ∙ get_map sub_of qs c.args.other q at ∙ ap Some sub in
    let shows : (m : SubId) (zs : List ModelMember) → slice_get (numbers_of (members_in c.args.second.now.group)) c.args.other ≡ Some m → AllStandFor (members_in c.args.second.now.group) zs → IsPageIn c.page_at-two.result (stream_of m zs) =
    subst (λ (ms : List (Member AnyCard ghosts)). (m : SubId) (zs : List ModelMember) → slice_get (numbers_of ms) c.args.other ≡ Some m → AllStandFor ms zs → IsPageIn c.page_at-two.result (stream_of m zs)) c.members-2.ensures.members c.page_at-two.ensures.shows in
    record {
      before = q;
      after = did.second;
      at = at;
      sub = sub;
      recs = did.others;
      joined = subst (λ (s : State). IsJoined q did.second (link_marked c.linked-link.result s c.page_at-two.result.hw c.args.pass.now.knows ∷ [])) (ap (λ (l : Linked). l.second_state) c.linked-link.ensures) did.joined_other;
      shows = shows c.args.to ys number_is st;
    }

pub returns-clause-linked : goal.returns-clause-linked
returns-clause-linked g c = λ r s at at'.
    let rs = c.args.first.now.recs.items in
    let qs = c.args.second.now.recs.items in
    let did = c.record_link.ensures.recorded r (get_or qs c.args.other no_rec) at (found qs c.args.other c.requires.places.1) in
    let there = ap (λ (l : List RecView). slice_get l c.args.own) did.recs ∙ get_set rs c.args.own did.first c.requires.places.0 in
    let same : did.first ≡ s = some_one did.first s (sym there ∙ at') in (
      subst (λ (x : RecView). HasCalled (link_event c.linked-link.result) 0 (link_entry c.linked-link.result) r.knows.sub r.knows.log x.knows.log c.args.pass.now c.record_link.new.pass) same did.called_by,
      sym (ap (λ (l : Linked). l.first) c.linked-link.ensures),
      c.count_at-index.ensures r at,
    )

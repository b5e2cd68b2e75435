use Rattle.std.proofs.Common.{◌≡◌, ◌<◌, ℕ, false, inl, inr, List, [], ◌∷◌, length, slice_get, get_or, Some, refl, sym, ap, ◌∙◌, subst, arith}
use Rattle.card_emul.specs.declared.any_card.AnyCard.{AnyCard}
use Rattle.card_emul.specs.contracts.any_card.AnyCardCard.TheImpl.{ghosts}
use Rattle.pcm_base.specs.declared.ids.SubId.{SubId}
use Rattle.pcm_base.specs.declared.reply.Page.{Page}
use Rattle.pcm_base.specs.declared.state.State.{State}
use Rattle.pcm_base.specs.model.Group.{stream_of}
use Rattle.pcm_base.specs.model.Replay.{is_member}
use Rattle.pcm_base.specs.model.Stream.{Member as ModelMember}
use Rattle.pcm_group.specs.Inside.{members_in}
use Rattle.pcm_stream.specs.Members.{numbers_of}
use Rattle.pcm_stream.specs.MembersStand.{AllStandFor}
use Rattle.pcm_stream.specs.declared.members.Member.{Member}
use Rattle.room_book.specs.Logs.{is_ok}
use Rattle.room_book.specs.Rooms.{fresh_streams}
use Rattle.room_parts.specs.Links.{link_entry, link_event}
use Rattle.room_parts.specs.Passes.{IsAlone, PassView}
use Rattle.room_parts.specs.Recs.{RecView, sub_of, subs_of}
use Rattle.room_parts.specs.declared.calling.Linked.{Linked}
use Rattle.room_lock.specs.InGroup.{IsPageIn}
use Rattle.room_lock.specs.InRoom.{IsIn}
use Rattle.room_lock.specs.Inside.{view_of}
use Rattle.room_lock.specs.Joined.{IsJoined}
use Rattle.room_lock.specs.Joining.{logs_linked}
use Rattle.room_lock.specs.declared.recording.Receipt.{Receipt}
use Rattle.room_lock.specs.Known.{Knows}
use Rattle.room_lock.specs.Linked.{HasLinked, IsLinkRecordedOnce, IsToldAt, link_marked}
use Rattle.room_lock.specs.Recorded.{HasCalled}
use Rattle.room_lock.specs.Staying.{lone_link}
use Rattle.room_lock.proofs.LinkLemmas.{LinkOn, none_due, room_fits, standing_of}
use Rattle.room_lock.proofs.MemberLemmas.{numbers_are}
use Rattle.room_lock.proofs.RecLemmas.{found, get_set, no_rec, some_one}
use Rattle.room_lock.proofs.Records.{get_map, length_map}
use Rattle.room_lock.proofs.StayLemmas.{lone_refused, on_lone}
use Rattle.room_lock.proofs.ToldLemmas.{distinct_recs, log_of_rec, logs_told, told_known, told_stays}
use Rattle.room_lock.proofs.staying.tell_once.Goals as goal

pub place_of-own-requires : goal.place_of-own-requires
place_of-own-requires g c =
    let numbers : subs_of c.args.room.now.recs.items ≡ numbers_of (members_in c.args.room.now.group) = c.requires.fits.fits_in.recs_are ∙ numbers_are (members_in c.args.room.now.group) c.requires.fits.streams c.requires.fits.stand in
    ap (is_member c.args.from) numbers ∙ c.requires.here

pub page_at-page-requires-clause-place : goal.page_at-page-requires-clause-place
page_at-page-requires-clause-place g c =
    let ms = members_in c.args.room.now.group in
    let rs = c.args.room.now.recs.items in
    let numbers : subs_of rs ≡ numbers_of ms = c.requires.fits.fits_in.recs_are ∙ numbers_are ms c.requires.fits.streams c.requires.fits.stand in
    let size = sym (length_map (λ (m : Member AnyCard ghosts). m.sub) ms) ∙ ap length (sym numbers) ∙ length_map sub_of rs in
    let same = ap (λ (l : List (Member AnyCard ghosts)). length l) c.members.ensures.members in
    let place = c.place_of-own.ensures.below in
    omega (arith, size, same, place)

pub count_at-index-requires-clause-room : goal.count_at-index-requires-clause-room
count_at-index-requires-clause-room g c = λ r at. c.requires.room c.place_of-own.result r at

pub record_link_once-requires-clause-card : goal.record_link_once-requires-clause-card
record_link_once-requires-clause-card g c = λ r at.
    let sub = ap (λ (k : SubId). k.0) (c.place_of-own.ensures.number r at) in
    ((c.requires.fits.fits_in.placed c.place_of-own.result r at).1, ap (λ (l : Linked). l.first.0) c.lone-link.ensures ∙ sym sub)

pub record_link_once-requires-clause-alone : goal.record_link_once-requires-clause-alone
record_link_once-requires-clause-alone g c = λ r at.
    let sub = ap (λ (k : SubId). k.0) (c.place_of-own.ensures.number r at) in
    subst (λ (l : Linked). IsAlone (length g.N.FloorName.cards) r.knows.sub (link_event l).call) (sym c.lone-link.ensures) (elim c.requires.alone [ inl e ↦ inl (e ∙ sym sub) | inr e ↦ inr e ])

pub record_link_once-requires-clause-room : goal.record_link_once-requires-clause-room
record_link_once-requires-clause-room g c = λ r at. c.requires.room c.place_of-own.result r at

-- the link is told
told_once : (own : ℕ) (l : Linked) (page : Page) (rs now : List RecView) (ms : List (Member AnyCard ghosts)) (xs : List ModelMember) (k : SubId) (p q : PassView) → own < length rs → ((r : RecView) → slice_get rs own ≡ Some r → sub_of r ≡ k) → numbers_of ms ≡ subs_of rs → l.first_state ≡ page.state
    → ((r : RecView) → slice_get rs own ≡ Some r → IsLinkRecordedOnce own l page r rs now p q) → ((m : SubId) (zs : List ModelMember) → slice_get (numbers_of ms) own ≡ Some m → AllStandFor ms zs → IsPageIn page (stream_of m zs)) → AllStandFor ms xs → IsToldAt own k l page xs rs now p.knows
told_once own l page rs now ms xs k p q lt number numbers state recorded shows stand =
    let r = get_or rs own no_rec in
    let at = found rs own lt in
    let did = recorded r at in
    let number_is : slice_get (numbers_of ms) own ≡ Some k = ap (λ (ks : List SubId). slice_get ks own) numbers ∙ get_map sub_of rs own r at ∙ ap Some (number r at) in
    record {
      before = r;
      after = did.first;
      at = at;
      sub = number r at;
      recs = did.recs;
      joined = subst (λ (s : State). IsJoined r did.first (link_marked l s page.hw p.knows ∷ [])) state did.joined;
      shows = shows k xs number_is stand;
    }

once_linked : (own : ℕ) (l : Linked) (page : Page) (rs now : List RecView) (receipt : Receipt) (p q : PassView) → own < length rs → receipt.sub ≡ l.first → ((r : RecView) → slice_get rs own ≡ Some r → receipt.index ≡ length r.knows.log)
    → ((r : RecView) → slice_get rs own ≡ Some r → IsLinkRecordedOnce own l page r rs now p q) → HasLinked own l receipt rs now p q
once_linked own l page rs now receipt p q lt sub index recorded r s at at' =
    let did = recorded r at in
    let there = ap (λ (x : List RecView). slice_get x own) did.recs ∙ get_set rs own did.first lt in
    let same : did.first ≡ s = some_one did.first s (sym there ∙ at') in
    (subst (λ (x : RecView). HasCalled (link_event l) 0 (link_entry l) r.knows.sub r.knows.log x.knows.log p q) same did.called_by, sub, index r at)

pub returns-clause-told : goal.returns-clause-told
returns-clause-told g c = λ xs here.
    let cs = g.N.FloorName.cards in
    let long_max = g.N.FloorName.long_max in
    let origin = fresh_streams cs long_max in
    let v = view_of c.args.room.now in
    let serial = c.args.room.now.serial in
    let rs = c.args.room.now.recs.items in
    let now = c.record_link_once.new.recs.items in
    let own = c.place_of-own.result in
    let page = c.page_at-page.result in
    let l = c.lone-link.result in
    let k = c.args.from in
    let p = c.args.pass.now in
    let q = c.record_link_once.new.pass in
    let receipt : Receipt = record { sub = k; index = c.count_at-index.result } in
    let numbers : numbers_of v.members ≡ subs_of rs = sym (c.requires.fits.fits_in.recs_are ∙ numbers_are v.members c.requires.fits.streams c.requires.fits.stand) in
    let state_is : l.first_state ≡ page.state = ap (λ (z : Linked). z.first_state) c.lone-link.ensures in
    let shows : (m : SubId) (zs : List ModelMember) → slice_get (numbers_of v.members) own ≡ Some m → AllStandFor v.members zs → IsPageIn page (stream_of m zs) =
    subst (λ (ms : List (Member AnyCard ghosts)). (m : SubId) (zs : List ModelMember) → slice_get (numbers_of ms) own ≡ Some m → AllStandFor ms zs → IsPageIn page (stream_of m zs)) c.members.ensures.members c.page_at-page.ensures.shows in
    let t : IsToldAt own k l page xs rs now p.knows = told_once own l page rs now v.members xs k p q c.place_of-own.ensures.below c.place_of-own.ensures.number numbers state_is c.record_link_once.ensures shows here.stand in
    let stand = standing_of origin (length cs) serial v.number xs rs v.book here.fits_in in
    let apart = distinct_recs origin (length cs) serial v.number xs rs v.book stand in
    let link_is : l ≡ lone_link c.args.client k c.args.to (stream_of k xs).state v.number = c.lone-link.ensures ∙ ap (λ (s : State). lone_link c.args.client k c.args.to s v.number) t.shows.state in
    let on : LinkOn k (stream_of k xs) v.number l = subst (LinkOn k (stream_of k xs) v.number) (sym link_is) (on_lone c.args.client k c.args.to (stream_of k xs) v.number) in
    let first : l.first ≡ k = ap (λ (z : Linked). z.first) link_is in
    let laws = c.moves.ensures in
    let no : is_ok l.reply ≡ false = ap (λ (z : Linked). is_ok z.reply) link_is ∙ lone_refused c.args.client k c.args.to (stream_of k xs).state v.number in
    let stays = told_stays own k l page xs rs now p.knows t laws.entries laws.log laws.change origin (length cs) serial v.number v.book stand on (none_due l.reply v.number no) in (
      record {
        reply_is = ap (λ (z : Linked). z.reply) link_is;
        logs = logs_told own k l page xs rs now p.knows t apart ∙ ap (λ (z : Linked). logs_linked k z xs p.knows rs) link_is;
        book = refl;
        woken = refl;
      },
      record { stand = here.stand; fits_in = room_fits origin (length cs) serial v.number xs now v.book stays here.fits_in.fits.size here.fits_in.fits.asleep },
    )

pub returns-clause-pass : goal.returns-clause-pass
returns-clause-pass g c =
    let cs = g.N.FloorName.cards in
    let long_max = g.N.FloorName.long_max in
    let origin = fresh_streams cs long_max in
    let v = view_of c.args.room.now in
    let serial = c.args.room.now.serial in
    let rs = c.args.room.now.recs.items in
    let now = c.record_link_once.new.recs.items in
    let own = c.place_of-own.result in
    let page = c.page_at-page.result in
    let l = c.lone-link.result in
    let k = c.args.from in
    let p = c.args.pass.now in
    let q = c.record_link_once.new.pass in
    let receipt : Receipt = record { sub = k; index = c.count_at-index.result } in
    let numbers : numbers_of v.members ≡ subs_of rs = sym (c.requires.fits.fits_in.recs_are ∙ numbers_are v.members c.requires.fits.streams c.requires.fits.stand) in
    let state_is : l.first_state ≡ page.state = ap (λ (z : Linked). z.first_state) c.lone-link.ensures in
    let shows : (m : SubId) (zs : List ModelMember) → slice_get (numbers_of v.members) own ≡ Some m → AllStandFor v.members zs → IsPageIn page (stream_of m zs) =
    subst (λ (ms : List (Member AnyCard ghosts)). (m : SubId) (zs : List ModelMember) → slice_get (numbers_of ms) own ≡ Some m → AllStandFor ms zs → IsPageIn page (stream_of m zs)) c.members.ensures.members c.page_at-page.ensures.shows in
    let xs = c.requires.fits.streams in
    let here : IsIn origin (length cs) serial v xs = record { stand = c.requires.fits.stand; fits_in = c.requires.fits.fits_in } in
    let t : IsToldAt own k l page xs rs now p.knows = told_once own l page rs now v.members xs k p q c.place_of-own.ensures.below c.place_of-own.ensures.number numbers state_is c.record_link_once.ensures shows here.stand in
    let stand = standing_of origin (length cs) serial v.number xs rs v.book here.fits_in in
    let apart = distinct_recs origin (length cs) serial v.number xs rs v.book stand in
    let link_is : l ≡ lone_link c.args.client k c.args.to (stream_of k xs).state v.number = c.lone-link.ensures ∙ ap (λ (s : State). lone_link c.args.client k c.args.to s v.number) t.shows.state in
    let on : LinkOn k (stream_of k xs) v.number l = subst (LinkOn k (stream_of k xs) v.number) (sym link_is) (on_lone c.args.client k c.args.to (stream_of k xs) v.number) in
    let first : l.first ≡ k = ap (λ (z : Linked). z.first) link_is in
    let has = once_linked own l page rs now receipt p q c.place_of-own.ensures.below (sym first) c.count_at-index.ensures c.record_link_once.ensures in
    subst (λ (z : Linked). Knows cs long_max (link_event z) 0 l.reply receipt p q) c.lone-link.ensures
    (told_known c.moves.ensures.entries c.moves.ensures.log cs long_max serial v.number v.book own k l page xs rs now p q receipt l.reply stand t on has first refl)

pub returns-clause-receipt : goal.returns-clause-receipt
returns-clause-receipt g c =
    let cs = g.N.FloorName.cards in
    let long_max = g.N.FloorName.long_max in
    let origin = fresh_streams cs long_max in
    let v = view_of c.args.room.now in
    let serial = c.args.room.now.serial in
    let rs = c.args.room.now.recs.items in
    let now = c.record_link_once.new.recs.items in
    let own = c.place_of-own.result in
    let page = c.page_at-page.result in
    let l = c.lone-link.result in
    let k = c.args.from in
    let p = c.args.pass.now in
    let q = c.record_link_once.new.pass in
    let receipt : Receipt = record { sub = k; index = c.count_at-index.result } in
    let numbers : numbers_of v.members ≡ subs_of rs = sym (c.requires.fits.fits_in.recs_are ∙ numbers_are v.members c.requires.fits.streams c.requires.fits.stand) in
    let state_is : l.first_state ≡ page.state = ap (λ (z : Linked). z.first_state) c.lone-link.ensures in
    let shows : (m : SubId) (zs : List ModelMember) → slice_get (numbers_of v.members) own ≡ Some m → AllStandFor v.members zs → IsPageIn page (stream_of m zs) =
    subst (λ (ms : List (Member AnyCard ghosts)). (m : SubId) (zs : List ModelMember) → slice_get (numbers_of ms) own ≡ Some m → AllStandFor ms zs → IsPageIn page (stream_of m zs)) c.members.ensures.members c.page_at-page.ensures.shows in
    let xs = c.requires.fits.streams in
    let here : IsIn origin (length cs) serial v xs = record { stand = c.requires.fits.stand; fits_in = c.requires.fits.fits_in } in
    let t : IsToldAt own k l page xs rs now p.knows = told_once own l page rs now v.members xs k p q c.place_of-own.ensures.below c.place_of-own.ensures.number numbers state_is c.record_link_once.ensures shows here.stand in
    let stand = standing_of origin (length cs) serial v.number xs rs v.book here.fits_in in
    let apart = distinct_recs origin (length cs) serial v.number xs rs v.book stand in
    let link_is : l ≡ lone_link c.args.client k c.args.to (stream_of k xs).state v.number = c.lone-link.ensures ∙ ap (λ (s : State). lone_link c.args.client k c.args.to s v.number) t.shows.state in
    let on : LinkOn k (stream_of k xs) v.number l = subst (LinkOn k (stream_of k xs) v.number) (sym link_is) (on_lone c.args.client k c.args.to (stream_of k xs) v.number) in
    let first : l.first ≡ k = ap (λ (z : Linked). z.first) link_is in
    (refl, c.count_at-index.ensures t.before t.at ∙ ap length (sym (log_of_rec rs own t.before k apart t.at t.sub)))

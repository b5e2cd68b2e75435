use Rattle.std.proofs.Common.{◌≡◌, ℕ, List, length, slice_get, get_or, Some, refl, sym, ap, ◌∙◌, subst, arith}
use Rattle.std.proofs.lemmas.List.{with_items_is}
use Rattle.card_emul.specs.declared.any_card.AnyCard.{AnyCard}
use Rattle.card_emul.specs.contracts.any_card.AnyCardCard.TheImpl.{ghosts}
use Rattle.pcm_base.specs.declared.ids.SubId.{SubId}
use Rattle.pcm_base.specs.model.Group.{stream_of}
use Rattle.pcm_base.specs.model.Replay.{is_member}
use Rattle.pcm_base.specs.model.Stream.{Member as ModelMember, Stream}
use Rattle.pcm_stream.specs.Members.{numbers_of}
use Rattle.pcm_stream.specs.MembersStand.{AllStandFor}
use Rattle.pcm_stream.specs.declared.members.Member.{Member}
use Rattle.room_book.specs.Rooms.{fresh_streams}
use Rattle.room_parts.specs.Recs.{RecView, sub_of, subs_of}
use Rattle.room_lock.specs.declared.recording.Receipt.{Receipt}
use Rattle.room_lock.specs.Answers.{log_in}
use Rattle.room_lock.specs.InGroup.{IsPageIn}
use Rattle.room_lock.specs.InRoom.{FitsIn, InRoom, IsIn, RoomView}
use Rattle.room_lock.specs.Inside.{view_of}
use Rattle.room_lock.specs.Linked.{IsLinkRecorded}
use Rattle.room_lock.proofs.KnownLemmas.{in_room}
use Rattle.room_lock.proofs.MemberLemmas.{numbers_are}
use Rattle.room_lock.proofs.RecLemmas.{found, no_rec}
use Rattle.room_lock.proofs.Records.{length_map}
use Rattle.room_lock.proofs.WithinLemmas.{ToldWithin, places_apart, told_within, within_done, within_fits, within_known, within_lists, within_receipt}
use Rattle.room_lock.proofs.within.tell_both.Goals as goal

-- the recs of a room have the numbers of its members
recs_are : (origin : SubId → Stream) (cards serial : ℕ) (v : RoomView) → InRoom origin cards serial v → subs_of v.recs ≡ numbers_of v.members
recs_are origin cards serial v h = h.fits_in.recs_are ∙ numbers_are v.members h.streams h.stand

-- as many members as recs
as_many : (origin : SubId → Stream) (cards serial : ℕ) (v : RoomView) → InRoom origin cards serial v → length v.members ≡ length v.recs
as_many origin cards serial v h = sym (length_map (λ (m : Member AnyCard ghosts). m.sub) v.members) ∙ ap length (sym (recs_are origin cards serial v h)) ∙ length_map sub_of v.recs

pub place_of-own-requires : goal.place_of-own-requires
place_of-own-requires g c =
    let numbers = recs_are (fresh_streams g.N.FloorName.cards g.N.FloorName.long_max) (length g.N.FloorName.cards) c.args.room.now.serial (view_of c.args.room.now) c.requires.fits in
    ap (is_member c.args.from) numbers ∙ c.requires.here.0

pub place_of-other-requires : goal.place_of-other-requires
place_of-other-requires g c =
    let numbers = recs_are (fresh_streams g.N.FloorName.cards g.N.FloorName.long_max) (length g.N.FloorName.cards) c.args.room.now.serial (view_of c.args.room.now) c.requires.fits in
    ap (is_member c.args.to) numbers ∙ c.requires.here.1

pub page_at-one-requires-clause-place : goal.page_at-one-requires-clause-place
page_at-one-requires-clause-place g c =
    let size = as_many (fresh_streams g.N.FloorName.cards g.N.FloorName.long_max) (length g.N.FloorName.cards) c.args.room.now.serial (view_of c.args.room.now) c.requires.fits in
    let same = ap (λ (ms : List (Member AnyCard ghosts)). length ms) c.members.ensures.members in
    let place = c.place_of-own.ensures.below in
    omega (arith, size, same, place)

pub page_at-two-requires-clause-place : goal.page_at-two-requires-clause-place
page_at-two-requires-clause-place g c =
    let size = as_many (fresh_streams g.N.FloorName.cards g.N.FloorName.long_max) (length g.N.FloorName.cards) c.args.room.now.serial (view_of c.args.room.now) c.requires.fits in
    let same = ap (λ (ms : List (Member AnyCard ghosts)). length ms) c.members-2.ensures.members in
    let place = c.place_of-other.ensures.below in
    omega (arith, size, same, place)

pub count_at-index-requires-clause-room : goal.count_at-index-requires-clause-room
count_at-index-requires-clause-room g c = λ r at. c.requires.room c.place_of-own.result r at

pub record_both-requires-clause-places : goal.record_both-requires-clause-places
record_both-requires-clause-places g c =
    let rs = c.args.room.now.recs.items in
    let i = c.place_of-own.result in
    let m = c.place_of-other.result in
    let size = ap (λ (l : List RecView). length l) c.as_mut_slice-recs.ensures.value in
    let low = c.place_of-own.ensures.below in
    let low2 = c.place_of-other.ensures.below in
    let r = found rs i low in
    let q = found rs m low2 in (
      omega (arith, size, low),
      omega (arith, size, low2),
      places_apart rs i m (get_or rs i no_rec) (get_or rs m no_rec) c.args.from c.args.to r q (c.place_of-own.ensures.number (get_or rs i no_rec) r) (c.place_of-other.ensures.number (get_or rs m no_rec) q) c.requires.apart,
    )

pub record_both-requires-clause-room : goal.record_both-requires-clause-room
record_both-requires-clause-room g c =
    let same = c.as_mut_slice-recs.ensures.value in (
      λ r at. c.requires.room c.place_of-own.result r (ap (λ (l : List RecView). slice_get l c.place_of-own.result) (sym same) ∙ at),
      λ r at. c.requires.room c.place_of-other.result r (ap (λ (l : List RecView). slice_get l c.place_of-other.result) (sym same) ∙ at),
    )

pub returns-clause-told : goal.returns-clause-told
returns-clause-told g c = λ xs here.
    let cs = g.N.FloorName.cards in
    let long_max = g.N.FloorName.long_max in
    let origin = fresh_streams cs long_max in
    let v = view_of c.args.room.now in
    let serial = c.args.room.now.serial in
    let rs = c.args.room.now.recs.items in
    let now = c.record_both.new.recs in
    let i = c.place_of-own.result in
    let m = c.place_of-other.result in
    let l = c.linked-link.result in
    let one = c.page_at-one.result in
    let two = c.page_at-two.result in
    let k = c.args.from in
    let j = c.args.to in
    let p = c.args.pass.now in
    let q = c.record_both.new.pass in
    let receipt : Receipt = record { sub = k; index = c.count_at-index.result } in
    let shows : (n : SubId) (zs : List ModelMember) → slice_get (numbers_of v.members) i ≡ Some n → AllStandFor v.members zs → IsPageIn one (stream_of n zs) =
    subst (λ (ms : List (Member AnyCard ghosts)). (n : SubId) (zs : List ModelMember) → slice_get (numbers_of ms) i ≡ Some n → AllStandFor ms zs → IsPageIn one (stream_of n zs)) c.members.ensures.members c.page_at-one.ensures.shows in
    let shows2 : (n : SubId) (zs : List ModelMember) → slice_get (numbers_of v.members) m ≡ Some n → AllStandFor v.members zs → IsPageIn two (stream_of n zs) =
    subst (λ (ms : List (Member AnyCard ghosts)). (n : SubId) (zs : List ModelMember) → slice_get (numbers_of ms) m ≡ Some n → AllStandFor ms zs → IsPageIn two (stream_of n zs)) c.members-2.ensures.members c.page_at-two.ensures.shows in
    let recorded : (r s : RecView) → slice_get rs i ≡ Some r → slice_get rs m ≡ Some s → (mid : List RecView) × IsLinkRecorded i m l one two r s rs mid mid now p q =
    subst (λ (zs : List RecView). (r s : RecView) → slice_get zs i ≡ Some r → slice_get zs m ≡ Some s → (mid : List RecView) × IsLinkRecorded i m l one two r s zs mid mid now p q) c.as_mut_slice-recs.ensures.value c.record_both.ensures.recorded in
    let t = told_within cs long_max serial xs v now c.args.client k j i m l one two receipt p q here (c.place_of-own.ensures.below, c.place_of-other.ensures.below) c.place_of-own.ensures.number c.place_of-other.ensures.number c.requires.apart c.linked-link.ensures shows shows2 recorded c.record_both.ensures.list refl c.count_at-index.ensures in
    let mid = t.0 in
    let both : ToldWithin cs long_max serial xs v mid now c.args.client k j i m l one two receipt p q = t.1 in
    let items = with_items_is c.args.room.now.recs now (c.record_both.auto.recs ∙ c.as_mut_slice-recs.ensures.len) in
    let laws = c.moves.ensures in
    let stays = within_fits cs long_max serial xs v mid now c.args.client k j i m l one two receipt p q both laws.entries laws.log laws.change in
    let again = subst (λ (zs : List RecView). FitsIn origin (length cs) serial v.number xs zs v.book) (sym items) stays in
    (within_done cs long_max serial xs v mid now c.args.client k j i m l one two receipt p q both _ items refl, record { stand = here.stand; fits_in = again })

pub returns-clause-pass : goal.returns-clause-pass
returns-clause-pass g c =
    let cs = g.N.FloorName.cards in
    let long_max = g.N.FloorName.long_max in
    let origin = fresh_streams cs long_max in
    let v = view_of c.args.room.now in
    let serial = c.args.room.now.serial in
    let rs = c.args.room.now.recs.items in
    let now = c.record_both.new.recs in
    let i = c.place_of-own.result in
    let m = c.place_of-other.result in
    let l = c.linked-link.result in
    let one = c.page_at-one.result in
    let two = c.page_at-two.result in
    let k = c.args.from in
    let j = c.args.to in
    let p = c.args.pass.now in
    let q = c.record_both.new.pass in
    let receipt : Receipt = record { sub = k; index = c.count_at-index.result } in
    let shows : (n : SubId) (zs : List ModelMember) → slice_get (numbers_of v.members) i ≡ Some n → AllStandFor v.members zs → IsPageIn one (stream_of n zs) =
    subst (λ (ms : List (Member AnyCard ghosts)). (n : SubId) (zs : List ModelMember) → slice_get (numbers_of ms) i ≡ Some n → AllStandFor ms zs → IsPageIn one (stream_of n zs)) c.members.ensures.members c.page_at-one.ensures.shows in
    let shows2 : (n : SubId) (zs : List ModelMember) → slice_get (numbers_of v.members) m ≡ Some n → AllStandFor v.members zs → IsPageIn two (stream_of n zs) =
    subst (λ (ms : List (Member AnyCard ghosts)). (n : SubId) (zs : List ModelMember) → slice_get (numbers_of ms) m ≡ Some n → AllStandFor ms zs → IsPageIn two (stream_of n zs)) c.members-2.ensures.members c.page_at-two.ensures.shows in
    let recorded : (r s : RecView) → slice_get rs i ≡ Some r → slice_get rs m ≡ Some s → (mid : List RecView) × IsLinkRecorded i m l one two r s rs mid mid now p q =
    subst (λ (zs : List RecView). (r s : RecView) → slice_get zs i ≡ Some r → slice_get zs m ≡ Some s → (mid : List RecView) × IsLinkRecorded i m l one two r s zs mid mid now p q) c.as_mut_slice-recs.ensures.value c.record_both.ensures.recorded in
    let xs = c.requires.fits.streams in
    let here : IsIn origin (length cs) serial v xs = in_room origin (length cs) serial v c.requires.fits in
    let t = told_within cs long_max serial xs v now c.args.client k j i m l one two receipt p q here (c.place_of-own.ensures.below, c.place_of-other.ensures.below) c.place_of-own.ensures.number c.place_of-other.ensures.number c.requires.apart c.linked-link.ensures shows shows2 recorded c.record_both.ensures.list refl c.count_at-index.ensures in
    let mid = t.0 in
    let both : ToldWithin cs long_max serial xs v mid now c.args.client k j i m l one two receipt p q = t.1 in
    within_known cs long_max serial xs v mid now c.args.client k j i m l one two receipt p q both c.moves.ensures.entries c.moves.ensures.log

pub returns-clause-receipt : goal.returns-clause-receipt
returns-clause-receipt g c =
    let cs = g.N.FloorName.cards in
    let long_max = g.N.FloorName.long_max in
    let origin = fresh_streams cs long_max in
    let v = view_of c.args.room.now in
    let serial = c.args.room.now.serial in
    let rs = c.args.room.now.recs.items in
    let now = c.record_both.new.recs in
    let i = c.place_of-own.result in
    let m = c.place_of-other.result in
    let l = c.linked-link.result in
    let one = c.page_at-one.result in
    let two = c.page_at-two.result in
    let k = c.args.from in
    let j = c.args.to in
    let p = c.args.pass.now in
    let q = c.record_both.new.pass in
    let receipt : Receipt = record { sub = k; index = c.count_at-index.result } in
    let shows : (n : SubId) (zs : List ModelMember) → slice_get (numbers_of v.members) i ≡ Some n → AllStandFor v.members zs → IsPageIn one (stream_of n zs) =
    subst (λ (ms : List (Member AnyCard ghosts)). (n : SubId) (zs : List ModelMember) → slice_get (numbers_of ms) i ≡ Some n → AllStandFor ms zs → IsPageIn one (stream_of n zs)) c.members.ensures.members c.page_at-one.ensures.shows in
    let shows2 : (n : SubId) (zs : List ModelMember) → slice_get (numbers_of v.members) m ≡ Some n → AllStandFor v.members zs → IsPageIn two (stream_of n zs) =
    subst (λ (ms : List (Member AnyCard ghosts)). (n : SubId) (zs : List ModelMember) → slice_get (numbers_of ms) m ≡ Some n → AllStandFor ms zs → IsPageIn two (stream_of n zs)) c.members-2.ensures.members c.page_at-two.ensures.shows in
    let recorded : (r s : RecView) → slice_get rs i ≡ Some r → slice_get rs m ≡ Some s → (mid : List RecView) × IsLinkRecorded i m l one two r s rs mid mid now p q =
    subst (λ (zs : List RecView). (r s : RecView) → slice_get zs i ≡ Some r → slice_get zs m ≡ Some s → (mid : List RecView) × IsLinkRecorded i m l one two r s zs mid mid now p q) c.as_mut_slice-recs.ensures.value c.record_both.ensures.recorded in
    let xs = c.requires.fits.streams in
    let here : IsIn origin (length cs) serial v xs = in_room origin (length cs) serial v c.requires.fits in
    let t = told_within cs long_max serial xs v now c.args.client k j i m l one two receipt p q here (c.place_of-own.ensures.below, c.place_of-other.ensures.below) c.place_of-own.ensures.number c.place_of-other.ensures.number c.requires.apart c.linked-link.ensures shows shows2 recorded c.record_both.ensures.list refl c.count_at-index.ensures in
    let mid = t.0 in
    let both : ToldWithin cs long_max serial xs v mid now c.args.client k j i m l one two receipt p q = t.1 in
    within_receipt cs long_max serial xs v mid now c.args.client k j i m l one two receipt p q both

pub returns-clause-lists : goal.returns-clause-lists
returns-clause-lists g c =
    let cs = g.N.FloorName.cards in
    let long_max = g.N.FloorName.long_max in
    let origin = fresh_streams cs long_max in
    let v = view_of c.args.room.now in
    let serial = c.args.room.now.serial in
    let rs = c.args.room.now.recs.items in
    let now = c.record_both.new.recs in
    let i = c.place_of-own.result in
    let m = c.place_of-other.result in
    let l = c.linked-link.result in
    let one = c.page_at-one.result in
    let two = c.page_at-two.result in
    let k = c.args.from in
    let j = c.args.to in
    let p = c.args.pass.now in
    let q = c.record_both.new.pass in
    let receipt : Receipt = record { sub = k; index = c.count_at-index.result } in
    let shows : (n : SubId) (zs : List ModelMember) → slice_get (numbers_of v.members) i ≡ Some n → AllStandFor v.members zs → IsPageIn one (stream_of n zs) =
    subst (λ (ms : List (Member AnyCard ghosts)). (n : SubId) (zs : List ModelMember) → slice_get (numbers_of ms) i ≡ Some n → AllStandFor ms zs → IsPageIn one (stream_of n zs)) c.members.ensures.members c.page_at-one.ensures.shows in
    let shows2 : (n : SubId) (zs : List ModelMember) → slice_get (numbers_of v.members) m ≡ Some n → AllStandFor v.members zs → IsPageIn two (stream_of n zs) =
    subst (λ (ms : List (Member AnyCard ghosts)). (n : SubId) (zs : List ModelMember) → slice_get (numbers_of ms) m ≡ Some n → AllStandFor ms zs → IsPageIn two (stream_of n zs)) c.members-2.ensures.members c.page_at-two.ensures.shows in
    let recorded : (r s : RecView) → slice_get rs i ≡ Some r → slice_get rs m ≡ Some s → (mid : List RecView) × IsLinkRecorded i m l one two r s rs mid mid now p q =
    subst (λ (zs : List RecView). (r s : RecView) → slice_get zs i ≡ Some r → slice_get zs m ≡ Some s → (mid : List RecView) × IsLinkRecorded i m l one two r s zs mid mid now p q) c.as_mut_slice-recs.ensures.value c.record_both.ensures.recorded in
    let xs = c.requires.fits.streams in
    let here : IsIn origin (length cs) serial v xs = in_room origin (length cs) serial v c.requires.fits in
    let t = told_within cs long_max serial xs v now c.args.client k j i m l one two receipt p q here (c.place_of-own.ensures.below, c.place_of-other.ensures.below) c.place_of-own.ensures.number c.place_of-other.ensures.number c.requires.apart c.linked-link.ensures shows shows2 recorded c.record_both.ensures.list refl c.count_at-index.ensures in
    let mid = t.0 in
    let both : ToldWithin cs long_max serial xs v mid now c.args.client k j i m l one two receipt p q = t.1 in
    let items = with_items_is c.args.room.now.recs now (c.record_both.auto.recs ∙ c.as_mut_slice-recs.ensures.len) in
    let lists = within_lists cs long_max serial xs v mid now c.args.client k j i m l one two receipt p q both in
    (lists.0 ∙ ap (log_in k) (sym items), lists.1 ∙ ap (log_in j) (sym items))

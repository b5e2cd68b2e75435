use Rattle.std.proofs.Common.{◌≡◌, ◌<◌, ◌-◌, ℕ, Bool, true, false, cond, List, [], ◌∷◌, ◌++◌, length, slice_get, get_or, Some, refl, sym, ap, ◌∙◌, subst, arith}
use Rattle.card_emul.specs.declared.any_card.AnyCard.{AnyCard}
use Rattle.card_emul.specs.contracts.any_card.AnyCardCard.TheImpl.{ghosts}
use Rattle.floor_rule.specs.Causes.{Causes}
use Rattle.floor_rule.specs.declared.entry.Entry.TheVariants as entry
use Rattle.floor_rule.specs.declared.rule.Marked.{Marked}
use Rattle.pcm_base.specs.declared.ids.SubId.{SubId}
use Rattle.pcm_base.specs.model.Group.{stream_of}
use Rattle.pcm_base.specs.model.Replay.{is_member}
use Rattle.pcm_base.specs.model.Sleep.{mask_of, wake}
use Rattle.pcm_base.specs.model.Stream.{Member as ModelMember, Stream}
use Rattle.pcm_base.specs.model.World.{only_member, without_member}
use Rattle.pcm_group.specs.Inside.{members_in}
use Rattle.pcm_group.specs.declared.group.Group.{Group}
use Rattle.pcm_stream.specs.Members.{numbers_of}
use Rattle.pcm_stream.specs.MembersStand.{AllStandFor}
use Rattle.pcm_stream.specs.declared.members.Member.{Member}
use Rattle.room_book.specs.Logs.{is_ok}
use Rattle.room_book.specs.Rooms.{fresh_streams}
use Rattle.room_book.specs.declared.book.BookEntry.{BookEntry}
use Rattle.room_book.specs.declared.book.BookEntry.TheVariants.{In, Out}
use Rattle.room_parts.specs.Recs.{RecView, sub_of, subs_of}
use Rattle.room_lock.specs.InRoom.{FitsIn, InRoom, IsIn, RoomView}
use Rattle.room_lock.specs.Inside.{view_of}
use Rattle.room_lock.specs.Joined.{HasRoom}
use Rattle.room_lock.specs.InGroup.{IsPageIn}
use Rattle.room_lock.specs.Leaving.{woken_apart}
use Rattle.room_lock.specs.Parting.{at_home}
use Rattle.room_lock.proofs.JoinedLemmas.{in_again}
use Rattle.room_lock.proofs.LeavingLemmas.{empty_in, empty_recs, gone_fits, in_cause, in_known, in_receipt, rec_at, rec_low, rec_room, rec_sub, still_fits, told_in, told_subs}
use Rattle.room_lock.proofs.PartingLemmas.{is_kept, is_parted, nobody_stays, other_home, other_of}
use Rattle.room_lock.proofs.MemberLemmas.{all_distinct, numbers_are}
use Rattle.room_lock.proofs.RecLemmas.{found, get_other, no_rec, some_one}
use Rattle.room_lock.proofs.Records.{length_map, number_at}
use Rattle.room_lock.proofs.parting.tell_and_part.Goals as goal

-- the recs of a room have the numbers of its members
recs_are : (origin : SubId → Stream) (cards serial : ℕ) (v : RoomView) → InRoom origin cards serial v → subs_of v.recs ≡ numbers_of v.members
recs_are origin cards serial v h = h.fits_in.recs_are ∙ numbers_are v.members h.streams h.stand

-- so they are as many
two_recs : (origin : SubId → Stream) (cards serial : ℕ) (v : RoomView) → InRoom origin cards serial v → length v.members ≡ 2 → length v.recs ≡ 2
two_recs origin cards serial v h two = sym (length_map sub_of v.recs) ∙ ap length (recs_are origin cards serial v h) ∙ length_map (λ (x : Member AnyCard ghosts). x.sub) v.members ∙ two

pub place_of-place-requires : goal.place_of-place-requires
place_of-place-requires g c =
    ap (is_member c.args.sub) (recs_are (fresh_streams g.N.FloorName.cards g.N.FloorName.long_max) (length g.N.FloorName.cards) c.args.room.now.serial (view_of c.args.room.now) c.requires.room) ∙ c.requires.here.0

pub tell_unlink-told-requires-clause-members : goal.tell_unlink-told-requires-clause-members
tell_unlink-told-requires-clause-members g c =
    sym (recs_are (fresh_streams g.N.FloorName.cards g.N.FloorName.long_max) (length g.N.FloorName.cards) c.args.room.now.serial (view_of c.args.room.now) c.requires.room)

pub tell_unlink-told-requires-clause-room : goal.tell_unlink-told-requires-clause-room
tell_unlink-told-requires-clause-room g c = λ r at. c.requires.spare c.place_of-place.result r at

pub returns-then-not-is_ok-clause-parted : goal.returns-then-not-is_ok-clause-parted
returns-then-not-is_ok-clause-parted g c = λ xs here.
    let cs = g.N.FloorName.cards in
    let long_max = g.N.FloorName.long_max in
    let origin = fresh_streams cs long_max in
    let v = view_of c.args.room.now in
    let a = view_of c.args.own.now in
    let b = view_of c.args.other.now in
    let k = c.args.sub in
    let i = c.place_of-place.result in
    let told = c.tell_unlink-told.result in
    let now = c.tell_unlink-told.new.room.recs.items in
    let t = told_in cs long_max c.args.room.now.serial xs v i c.args.client k told now c.args.pass.now c.tell_unlink-told.new.pass here.fits_in (c.tell_unlink-told.ensures.told xs here.stand) c.tell_unlink-told.ensures.reply in
    let same = c.tell_unlink-told.ensures.same in
    let no : is_ok told.reply ≡ false = sym c.is_ok.ensures ∙ c.if-not-is_ok.true in
    is_kept t (view_of c.tell_unlink-told.new.room) a a b b refl same.1 refl refl no

pub returns-then-not-is_ok-clause-members : goal.returns-then-not-is_ok-clause-members
returns-then-not-is_ok-clause-members g c = λ xs here.
    let cs = g.N.FloorName.cards in
    let long_max = g.N.FloorName.long_max in
    let origin = fresh_streams cs long_max in
    let v = view_of c.args.room.now in
    let a = view_of c.args.own.now in
    let b = view_of c.args.other.now in
    let k = c.args.sub in
    let i = c.place_of-place.result in
    let told = c.tell_unlink-told.result in
    let now = c.tell_unlink-told.new.room.recs.items in
    let t = told_in cs long_max c.args.room.now.serial xs v i c.args.client k told now c.args.pass.now c.tell_unlink-told.new.pass here.fits_in (c.tell_unlink-told.ensures.told xs here.stand) c.tell_unlink-told.ensures.reply in
    let same = c.tell_unlink-told.ensures.same in
    let no : is_ok told.reply ≡ false = sym c.is_ok.ensures ∙ c.if-not-is_ok.true in
    let laws = c.moves.ensures in
    let v' = view_of c.tell_unlink-told.new.room in
    let stand : AllStandFor v'.members xs = subst (λ (x : Group AnyCard ghosts). AllStandFor (members_in x) xs) (sym same.0) here.stand in
    let stays = in_again origin (length cs) c.args.room.now.serial c.tell_unlink-told.new.room.serial v v' v.book xs same.3 same.2 same.1 stand (still_fits t laws.entries laws.log laws.change no) in
    let own = empty_in origin (length cs) c.args.own.now.serial a c.requires.own c.requires.empty.0 in
    let other = empty_in origin (length cs) c.args.other.now.serial b c.requires.other c.requires.empty.1 in (
      subst (λ (zs : List ModelMember). IsIn origin (length cs) c.tell_unlink-told.new.room.serial v' zs) (sym (ap (λ (z : Bool). cond z [] xs) no)) stays,
      subst (λ (zs : List ModelMember). IsIn origin (length cs) c.args.own.now.serial a zs) (sym (ap (λ (z : Bool). cond z (wake (only_member k (wake xs))) []) no)) own,
      subst (λ (zs : List ModelMember). IsIn origin (length cs) c.args.other.now.serial b zs) (sym (ap (λ (z : Bool). cond z (wake (without_member k (wake xs))) []) no)) other,
    )

pub returns-then-not-is_ok-clause-pass : goal.returns-then-not-is_ok-clause-pass
returns-then-not-is_ok-clause-pass g c =
    let cs = g.N.FloorName.cards in
    let long_max = g.N.FloorName.long_max in
    let origin = fresh_streams cs long_max in
    let v = view_of c.args.room.now in
    let a = view_of c.args.own.now in
    let b = view_of c.args.other.now in
    let k = c.args.sub in
    let i = c.place_of-place.result in
    let told = c.tell_unlink-told.result in
    let now = c.tell_unlink-told.new.room.recs.items in
    let xs = c.requires.room.streams in
    let here : IsIn origin (length cs) c.args.room.now.serial v xs = record { stand = c.requires.room.stand; fits_in = c.requires.room.fits_in } in
    let t = told_in cs long_max c.args.room.now.serial xs v i c.args.client k told now c.args.pass.now c.tell_unlink-told.new.pass here.fits_in (c.tell_unlink-told.ensures.told xs here.stand) c.tell_unlink-told.ensures.reply in
    let same = c.tell_unlink-told.ensures.same in
    in_known t c.moves.ensures.entries c.moves.ensures.log

pub returns-then-not-is_ok-clause-receipt : goal.returns-then-not-is_ok-clause-receipt
returns-then-not-is_ok-clause-receipt g c =
    let cs = g.N.FloorName.cards in
    let long_max = g.N.FloorName.long_max in
    let origin = fresh_streams cs long_max in
    let v = view_of c.args.room.now in
    let a = view_of c.args.own.now in
    let b = view_of c.args.other.now in
    let k = c.args.sub in
    let i = c.place_of-place.result in
    let told = c.tell_unlink-told.result in
    let now = c.tell_unlink-told.new.room.recs.items in
    let xs = c.requires.room.streams in
    let here : IsIn origin (length cs) c.args.room.now.serial v xs = record { stand = c.requires.room.stand; fits_in = c.requires.room.fits_in } in
    let t = told_in cs long_max c.args.room.now.serial xs v i c.args.client k told now c.args.pass.now c.tell_unlink-told.new.pass here.fits_in (c.tell_unlink-told.ensures.told xs here.stand) c.tell_unlink-told.ensures.reply in
    let same = c.tell_unlink-told.ensures.same in
    in_receipt t

pub returns-clause-pass : goal.returns-clause-pass
returns-clause-pass g c =
    let cs = g.N.FloorName.cards in
    let long_max = g.N.FloorName.long_max in
    let origin = fresh_streams cs long_max in
    let v = view_of c.args.room.now in
    let a = view_of c.args.own.now in
    let b = view_of c.args.other.now in
    let k = c.args.sub in
    let i = c.place_of-place.result in
    let told = c.tell_unlink-told.result in
    let now = c.tell_unlink-told.new.room.recs.items in
    let xs = c.requires.room.streams in
    let here : IsIn origin (length cs) c.args.room.now.serial v xs = record { stand = c.requires.room.stand; fits_in = c.requires.room.fits_in } in
    let t = told_in cs long_max c.args.room.now.serial xs v i c.args.client k told now c.args.pass.now c.tell_unlink-told.new.pass here.fits_in (c.tell_unlink-told.ensures.told xs here.stand) c.tell_unlink-told.ensures.reply in
    let same = c.tell_unlink-told.ensures.same in
    in_known t c.moves.ensures.entries c.moves.ensures.log

pub returns-clause-receipt : goal.returns-clause-receipt
returns-clause-receipt g c =
    let cs = g.N.FloorName.cards in
    let long_max = g.N.FloorName.long_max in
    let origin = fresh_streams cs long_max in
    let v = view_of c.args.room.now in
    let a = view_of c.args.own.now in
    let b = view_of c.args.other.now in
    let k = c.args.sub in
    let i = c.place_of-place.result in
    let told = c.tell_unlink-told.result in
    let now = c.tell_unlink-told.new.room.recs.items in
    let xs = c.requires.room.streams in
    let here : IsIn origin (length cs) c.args.room.now.serial v xs = record { stand = c.requires.room.stand; fits_in = c.requires.room.fits_in } in
    let t = told_in cs long_max c.args.room.now.serial xs v i c.args.client k told now c.args.pass.now c.tell_unlink-told.new.pass here.fits_in (c.tell_unlink-told.ensures.told xs here.stand) c.tell_unlink-told.ensures.reply in
    let same = c.tell_unlink-told.ensures.same in
    in_receipt t

pub part-woken-requires-clause-two : goal.part-woken-requires-clause-two
part-woken-requires-clause-two g c =
    let cs = g.N.FloorName.cards in
    let long_max = g.N.FloorName.long_max in
    let origin = fresh_streams cs long_max in
    let v = view_of c.args.room.now in
    let a = view_of c.args.own.now in
    let b = view_of c.args.other.now in
    let k = c.args.sub in
    let i = c.place_of-place.result in
    let told = c.tell_unlink-told.result in
    let now = c.tell_unlink-told.new.room.recs.items in
    let xs = c.requires.room.streams in
    let here : IsIn origin (length cs) c.args.room.now.serial v xs = record { stand = c.requires.room.stand; fits_in = c.requires.room.fits_in } in
    let t = told_in cs long_max c.args.room.now.serial xs v i c.args.client k told now c.args.pass.now c.tell_unlink-told.new.pass here.fits_in (c.tell_unlink-told.ensures.told xs here.stand) c.tell_unlink-told.ensures.reply in
    let same = c.tell_unlink-told.ensures.same in
    sym (length_map sub_of now) ∙ ap length (told_subs t) ∙ length_map sub_of v.recs ∙ two_recs origin (length cs) c.args.room.now.serial v c.requires.room c.requires.here.1

pub overflow_sub-place : goal.overflow_sub-place
overflow_sub-place g c =
    let cs = g.N.FloorName.cards in
    let two = two_recs (fresh_streams cs g.N.FloorName.long_max) (length cs) c.args.room.now.serial (view_of c.args.room.now) c.requires.room c.requires.here.1 in
    let below = c.place_of-place.ensures.below in
    omega (arith, below, two)

pub part-woken-requires-clause-place : goal.part-woken-requires-clause-place
part-woken-requires-clause-place g c =
    let cs = g.N.FloorName.cards in
    let two = two_recs (fresh_streams cs g.N.FloorName.long_max) (length cs) c.args.room.now.serial (view_of c.args.room.now) c.requires.room c.requires.here.1 in
    let below = c.place_of-place.ensures.below in
    omega (arith, below, two)

pub page_at-left-requires-clause-place : goal.page_at-left-requires-clause-place
page_at-left-requires-clause-place g c =
    let cs = g.N.FloorName.cards in
    let two = two_recs (fresh_streams cs g.N.FloorName.long_max) (length cs) c.args.room.now.serial (view_of c.args.room.now) c.requires.room c.requires.here.1 in
    let below = c.place_of-place.ensures.below in
    let size = ap (λ (l : List (Member AnyCard ghosts)). length l) c.members.ensures.members ∙ ap (λ (x : Group AnyCard ghosts). length (members_in x)) c.tell_unlink-told.ensures.same.0 ∙ c.requires.here.1 in
    omega (arith, below, two, size)

pub part-woken-requires-clause-sub : goal.part-woken-requires-clause-sub
part-woken-requires-clause-sub g c =
    let cs = g.N.FloorName.cards in
    let long_max = g.N.FloorName.long_max in
    let origin = fresh_streams cs long_max in
    let v = view_of c.args.room.now in
    let a = view_of c.args.own.now in
    let b = view_of c.args.other.now in
    let k = c.args.sub in
    let i = c.place_of-place.result in
    let told = c.tell_unlink-told.result in
    let now = c.tell_unlink-told.new.room.recs.items in
    let xs = c.requires.room.streams in
    let here : IsIn origin (length cs) c.args.room.now.serial v xs = record { stand = c.requires.room.stand; fits_in = c.requires.room.fits_in } in
    let t = told_in cs long_max c.args.room.now.serial xs v i c.args.client k told now c.args.pass.now c.tell_unlink-told.new.pass here.fits_in (c.tell_unlink-told.ensures.told xs here.stand) c.tell_unlink-told.ensures.reply in
    let same = c.tell_unlink-told.ensures.same in
    λ r at. ap sub_of (some_one r t.told_is.recorded.rec (sym at ∙ rec_at t)) ∙ rec_sub t ∙ sym (in_receipt t).0

pub part-woken-requires-clause-members : goal.part-woken-requires-clause-members
part-woken-requires-clause-members g c =
    let cs = g.N.FloorName.cards in
    let long_max = g.N.FloorName.long_max in
    let origin = fresh_streams cs long_max in
    let v = view_of c.args.room.now in
    let a = view_of c.args.own.now in
    let b = view_of c.args.other.now in
    let k = c.args.sub in
    let i = c.place_of-place.result in
    let told = c.tell_unlink-told.result in
    let now = c.tell_unlink-told.new.room.recs.items in
    let xs = c.requires.room.streams in
    let here : IsIn origin (length cs) c.args.room.now.serial v xs = record { stand = c.requires.room.stand; fits_in = c.requires.room.fits_in } in
    let t = told_in cs long_max c.args.room.now.serial xs v i c.args.client k told now c.args.pass.now c.tell_unlink-told.new.pass here.fits_in (c.tell_unlink-told.ensures.told xs here.stand) c.tell_unlink-told.ensures.reply in
    let same = c.tell_unlink-told.ensures.same in
    ap (λ (x : Group AnyCard ghosts). numbers_of (members_in x)) same.0 ∙ sym (recs_are origin (length cs) c.args.room.now.serial v c.requires.room) ∙ sym (told_subs t)

pub part-woken-requires-clause-cause : goal.part-woken-requires-clause-cause
part-woken-requires-clause-cause g c =
    let cs = g.N.FloorName.cards in
    let long_max = g.N.FloorName.long_max in
    let origin = fresh_streams cs long_max in
    let v = view_of c.args.room.now in
    let a = view_of c.args.own.now in
    let b = view_of c.args.other.now in
    let k = c.args.sub in
    let i = c.place_of-place.result in
    let told = c.tell_unlink-told.result in
    let now = c.tell_unlink-told.new.room.recs.items in
    let xs = c.requires.room.streams in
    let here : IsIn origin (length cs) c.args.room.now.serial v xs = record { stand = c.requires.room.stand; fits_in = c.requires.room.fits_in } in
    let t = told_in cs long_max c.args.room.now.serial xs v i c.args.client k told now c.args.pass.now c.tell_unlink-told.new.pass here.fits_in (c.tell_unlink-told.ensures.told xs here.stand) c.tell_unlink-told.ensures.reply in
    let same = c.tell_unlink-told.ensures.same in
    let ok : is_ok told.reply ≡ true = sym c.is_ok.ensures ∙ c.if-not-is_ok.false in
    λ r at.
    let told_at = in_cause t ok in
    subst (λ (x : RecView). (x.knows.sub < length cs) × ((e : Marked) × (slice_get x.knows.log told.receipt.index ≡ Some e) × Causes e.entry (entry.Moved a.number) × Causes e.entry (entry.Moved b.number))) (some_one t.told_is.recorded.rec r (sym (rec_at t) ∙ at))
    (rec_low t, (told_at.0, told_at.1, told_at.2 a.number, told_at.2 b.number))

pub part-woken-requires-clause-room : goal.part-woken-requires-clause-room
part-woken-requires-clause-room g c =
    let cs = g.N.FloorName.cards in
    let long_max = g.N.FloorName.long_max in
    let origin = fresh_streams cs long_max in
    let v = view_of c.args.room.now in
    let a = view_of c.args.own.now in
    let b = view_of c.args.other.now in
    let k = c.args.sub in
    let i = c.place_of-place.result in
    let told = c.tell_unlink-told.result in
    let now = c.tell_unlink-told.new.room.recs.items in
    let xs = c.requires.room.streams in
    let here : IsIn origin (length cs) c.args.room.now.serial v xs = record { stand = c.requires.room.stand; fits_in = c.requires.room.fits_in } in
    let t = told_in cs long_max c.args.room.now.serial xs v i c.args.client k told now c.args.pass.now c.tell_unlink-told.new.pass here.fits_in (c.tell_unlink-told.ensures.told xs here.stand) c.tell_unlink-told.ensures.reply in
    let same = c.tell_unlink-told.ensures.same in
    let laws = c.moves.ensures in
    let keep = c.links.ensures.wakes in
    let two = two_recs origin (length cs) c.args.room.now.serial v c.requires.room c.requires.here.1 in
    let lt : i < 2 = (let below = c.place_of-place.ensures.below in omega (arith, below, two)) in
    let q = get_or v.recs (1 - i) no_rec in
    let q_at : slice_get v.recs (1 - i) ≡ Some q = found v.recs (1 - i) (omega (arith, two, lt)) in
    let o = other_of t laws.going laws.streams keep (at_home b) q two lt q_at (ap (is_member (at_home b)) (numbers_are v.members xs here.stand) ∙ c.requires.homes.1) c.requires.homes.2 in
    let q_now : slice_get now (1 - i) ≡ Some q = ap (λ (rs : List RecView). slice_get rs (1 - i)) t.told_is.recorded.recs ∙ get_other v.recs i (1 - i) t.told_is.recorded.rec (λ e. let never : ⊥ = omega (arith, e, lt) in never) ∙ q_at in
    let roomy = c.requires.spare (1 - i) q q_at in
    let enough = roomy.0 in
    let short = roomy.1 in (
      λ r at. subst (HasRoom 1) (some_one t.told_is.recorded.rec r (sym (rec_at t) ∙ at)) (rec_room t (c.requires.spare i t.told_is.before t.told_is.at)),
      λ r at. subst (HasRoom 1) (some_one q r (sym q_now ∙ at)) (omega (arith, enough), omega (arith, short)),
    )

pub returns-clause-parted : goal.returns-clause-parted
returns-clause-parted g c = λ xs here.
    let cs = g.N.FloorName.cards in
    let long_max = g.N.FloorName.long_max in
    let origin = fresh_streams cs long_max in
    let v = view_of c.args.room.now in
    let a = view_of c.args.own.now in
    let b = view_of c.args.other.now in
    let k = c.args.sub in
    let i = c.place_of-place.result in
    let told = c.tell_unlink-told.result in
    let now = c.tell_unlink-told.new.room.recs.items in
    let t = told_in cs long_max c.args.room.now.serial xs v i c.args.client k told now c.args.pass.now c.tell_unlink-told.new.pass here.fits_in (c.tell_unlink-told.ensures.told xs here.stand) c.tell_unlink-told.ensures.reply in
    let same = c.tell_unlink-told.ensures.same in
    let ok : is_ok told.reply ≡ true = sym c.is_ok.ensures ∙ c.if-not-is_ok.false in
    let laws = c.moves.ensures in
    let keep = c.links.ensures.wakes in
    let two = two_recs origin (length cs) c.args.room.now.serial v c.requires.room c.requires.here.1 in
    let lt : i < 2 = (let below = c.place_of-place.ensures.below in omega (arith, below, two)) in
    let q = get_or v.recs (1 - i) no_rec in
    let q_at : slice_get v.recs (1 - i) ≡ Some q = found v.recs (1 - i) (omega (arith, two, lt)) in
    let o = other_of t laws.going laws.streams keep (at_home b) q two lt q_at (ap (is_member (at_home b)) (numbers_are v.members xs here.stand) ∙ c.requires.homes.1) c.requires.homes.2 in
    let q_now : slice_get now (1 - i) ≡ Some q = ap (λ (rs : List RecView). slice_get rs (1 - i)) t.told_is.recorded.recs ∙ get_other v.recs i (1 - i) t.told_is.recorded.rec (λ e. let never : ⊥ = omega (arith, e, lt) in never) ∙ q_at in
    let r = t.told_is.recorded.rec in
    let stand : AllStandFor (members_in c.tell_unlink-told.new.room.group) xs = subst (λ (x : Group AnyCard ghosts). AllStandFor (members_in x) xs) (sym same.0) here.stand in
    let came = c.part-woken.ensures.recs r q (rec_at t) q_now in
    let s = came.0 in
    let u = came.1 in
    let no_recs : a.recs ≡ [] = empty_recs origin (length cs) c.args.own.now.serial a c.requires.own c.requires.empty.0 in
    let no_recs2 : b.recs ≡ [] = empty_recs origin (length cs) c.args.other.now.serial b c.requires.other c.requires.empty.1 in
    let own_recs : c.part-woken.new.own.recs.items ≡ s ∷ [] = came.2 ∙ ap (λ (l : List RecView). l ++ s ∷ []) no_recs in
    let other_recs : c.part-woken.new.other.recs.items ≡ u ∷ [] = came.3 ∙ ap (λ (l : List RecView). l ++ u ∷ []) no_recs2 in
    let moved = came.4 in
    let other_moved = came.5 in
    let place = in_receipt t in
    let v' = view_of c.part-woken.new.room in
    let a' = view_of c.part-woken.new.own in
    let b' = view_of c.part-woken.new.other in
    let books = c.part-woken.ensures.books q q_now in
    let book : v'.book ≡ v.book ++ Out k ∷ Out (at_home b) ∷ [] = books.0 ∙ ap (λ (z : List BookEntry × SubId × SubId). z.0 ++ Out z.1 ∷ Out z.2 ∷ []) (λ n. (same.1 n, place.0 n, o.sub n)) in
    let own_book : a'.book ≡ a.book ++ In k ∷ [] = books.1 ∙ ap (λ (x : SubId). a.book ++ In x ∷ []) place.0 in
    let other_book : b'.book ≡ b.book ++ In (at_home b) ∷ [] = books.2 ∙ ap (λ (x : SubId). b.book ++ In x ∷ []) o.sub in
    let number_is : slice_get (numbers_of v.members) (1 - i) ≡ Some (at_home b) = number_at (numbers_of v.members) v.recs (1 - i) q (at_home b) (recs_are origin (length cs) c.args.room.now.serial v c.requires.room) q_at o.sub in
    let shows : IsPageIn c.page_at-left.result (stream_of (at_home b) xs) =
    c.page_at-left.ensures.shows (at_home b) xs
    (ap (λ (l : List (Member AnyCard ghosts)). slice_get (numbers_of l) (1 - i)) (c.members.ensures.members ∙ ap (λ (x : Group AnyCard ghosts). members_in x) same.0) ∙ number_is)
    (subst (λ (l : List (Member AnyCard ghosts)). AllStandFor l xs) (sym c.members.ensures.members) stand) in
    is_parted t v' a a' b b' c.part-woken.result q s u c.page_at-left.result o ok own_recs other_recs moved other_moved shows book own_book other_book (c.part-woken.ensures.woken xs stand ∙ ap (λ (x : SubId). mask_of (woken_apart x xs)) place.0)

pub returns-clause-members : goal.returns-clause-members
returns-clause-members g c = λ xs here.
    let cs = g.N.FloorName.cards in
    let long_max = g.N.FloorName.long_max in
    let origin = fresh_streams cs long_max in
    let v = view_of c.args.room.now in
    let a = view_of c.args.own.now in
    let b = view_of c.args.other.now in
    let k = c.args.sub in
    let i = c.place_of-place.result in
    let told = c.tell_unlink-told.result in
    let now = c.tell_unlink-told.new.room.recs.items in
    let t = told_in cs long_max c.args.room.now.serial xs v i c.args.client k told now c.args.pass.now c.tell_unlink-told.new.pass here.fits_in (c.tell_unlink-told.ensures.told xs here.stand) c.tell_unlink-told.ensures.reply in
    let same = c.tell_unlink-told.ensures.same in
    let ok : is_ok told.reply ≡ true = sym c.is_ok.ensures ∙ c.if-not-is_ok.false in
    let laws = c.moves.ensures in
    let keep = c.links.ensures.wakes in
    let two = two_recs origin (length cs) c.args.room.now.serial v c.requires.room c.requires.here.1 in
    let lt : i < 2 = (let below = c.place_of-place.ensures.below in omega (arith, below, two)) in
    let q = get_or v.recs (1 - i) no_rec in
    let q_at : slice_get v.recs (1 - i) ≡ Some q = found v.recs (1 - i) (omega (arith, two, lt)) in
    let o = other_of t laws.going laws.streams keep (at_home b) q two lt q_at (ap (is_member (at_home b)) (numbers_are v.members xs here.stand) ∙ c.requires.homes.1) c.requires.homes.2 in
    let q_now : slice_get now (1 - i) ≡ Some q = ap (λ (rs : List RecView). slice_get rs (1 - i)) t.told_is.recorded.recs ∙ get_other v.recs i (1 - i) t.told_is.recorded.rec (λ e. let never : ⊥ = omega (arith, e, lt) in never) ∙ q_at in
    let r = t.told_is.recorded.rec in
    let stand : AllStandFor (members_in c.tell_unlink-told.new.room.group) xs = subst (λ (x : Group AnyCard ghosts). AllStandFor (members_in x) xs) (sym same.0) here.stand in
    let came = c.part-woken.ensures.recs r q (rec_at t) q_now in
    let s = came.0 in
    let u = came.1 in
    let no_recs : a.recs ≡ [] = empty_recs origin (length cs) c.args.own.now.serial a c.requires.own c.requires.empty.0 in
    let no_recs2 : b.recs ≡ [] = empty_recs origin (length cs) c.args.other.now.serial b c.requires.other c.requires.empty.1 in
    let own_recs : c.part-woken.new.own.recs.items ≡ s ∷ [] = came.2 ∙ ap (λ (l : List RecView). l ++ s ∷ []) no_recs in
    let other_recs : c.part-woken.new.other.recs.items ≡ u ∷ [] = came.3 ∙ ap (λ (l : List RecView). l ++ u ∷ []) no_recs2 in
    let moved = came.4 in
    let other_moved = came.5 in
    let place = in_receipt t in
    let v' = view_of c.part-woken.new.room in
    let a' = view_of c.part-woken.new.own in
    let b' = view_of c.part-woken.new.other in
    let books = c.part-woken.ensures.books q q_now in
    let book : v'.book ≡ v.book ++ Out k ∷ Out (at_home b) ∷ [] = books.0 ∙ ap (λ (z : List BookEntry × SubId × SubId). z.0 ++ Out z.1 ∷ Out z.2 ∷ []) (λ n. (same.1 n, place.0 n, o.sub n)) in
    let own_book : a'.book ≡ a.book ++ In k ∷ [] = books.1 ∙ ap (λ (x : SubId). a.book ++ In x ∷ []) place.0 in
    let other_book : b'.book ≡ b.book ++ In (at_home b) ∷ [] = books.2 ∙ ap (λ (x : SubId). b.book ++ In x ∷ []) o.sub in
    let number_is : slice_get (numbers_of v.members) (1 - i) ≡ Some (at_home b) = number_at (numbers_of v.members) v.recs (1 - i) q (at_home b) (recs_are origin (length cs) c.args.room.now.serial v c.requires.room) q_at o.sub in
    let shows : IsPageIn c.page_at-left.result (stream_of (at_home b) xs) =
    c.page_at-left.ensures.shows (at_home b) xs
    (ap (λ (l : List (Member AnyCard ghosts)). slice_get (numbers_of l) (1 - i)) (c.members.ensures.members ∙ ap (λ (x : Group AnyCard ghosts). members_in x) same.0) ∙ number_is)
    (subst (λ (l : List (Member AnyCard ghosts)). AllStandFor l xs) (sym c.members.ensures.members) stand) in
    let law = c.steps.ensures.wake in
    let stands = subst (λ (x : SubId). AllStandFor a'.members (wake (only_member x (wake xs))) × AllStandFor b'.members (wake (without_member x (wake xs)))) place.0 (c.part-woken.ensures.stands xs stand) in
    let gone = c.part-woken.ensures.gone in
    let nobody : AllStandFor v'.members [] = subst (λ (l : List (Member AnyCard ghosts)). AllStandFor l []) (sym gone.1) tt in
    let left = subst (λ (z : List RecView × List BookEntry). FitsIn origin (length cs) c.args.room.now.serial v.number [] z.0 z.1) (λ n. (sym gone.0 n, sym book n)) (nobody_stays t o laws.going laws.streams keep) in
    let none : FitsIn origin (length cs) c.args.own.now.serial a.number [] [] a.book = subst (λ (rs : List RecView). FitsIn origin (length cs) c.args.own.now.serial a.number [] rs a.book) no_recs (empty_in origin (length cs) c.args.own.now.serial a c.requires.own c.requires.empty.0).fits_in in
    let none2 : FitsIn origin (length cs) c.args.other.now.serial b.number [] [] b.book = subst (λ (rs : List RecView). FitsIn origin (length cs) c.args.other.now.serial b.number [] rs b.book) no_recs2 (empty_in origin (length cs) c.args.other.now.serial b c.requires.other c.requires.empty.1).fits_in in
    let one_home = subst (λ (z : List RecView × List BookEntry). FitsIn origin (length cs) c.args.own.now.serial a.number (wake (only_member k (wake xs))) z.0 z.1) (λ n. (sym own_recs n, sym own_book n))
    (gone_fits t laws.entries laws.log laws.coming laws.streams keep law c.args.own.now.serial a s ok none moved c.requires.homes.0 c.requires.low.0 (all_distinct a'.members (wake (only_member k (wake xs))) stands.0)) in
    let two_home = subst (λ (z : List RecView × List BookEntry). FitsIn origin (length cs) c.args.other.now.serial b.number (wake (without_member k (wake xs))) z.0 z.1) (λ n. (sym other_recs n, sym other_book n))
    (other_home t o laws.going laws.log laws.coming laws.streams keep law c.args.other.now.serial b.number b.book u c.page_at-left.result ok none2 other_moved shows refl c.requires.low.1 (all_distinct b'.members (wake (without_member k (wake xs))) stands.1)) in
    let x = in_again origin (length cs) c.args.room.now.serial c.part-woken.new.room.serial v v' v'.book [] (c.part-woken.ensures.serials.0 ∙ same.3) (c.part-woken.ensures.numbers.0 ∙ same.2) refl nobody left in
    let y = in_again origin (length cs) c.args.own.now.serial c.part-woken.new.own.serial a a' a'.book (wake (only_member k (wake xs))) c.part-woken.ensures.serials.1 c.part-woken.ensures.numbers.1 refl stands.0 one_home in
    let z = in_again origin (length cs) c.args.other.now.serial c.part-woken.new.other.serial b b' b'.book (wake (without_member k (wake xs))) c.part-woken.ensures.serials.2 c.part-woken.ensures.numbers.2 refl stands.1 two_home in (
      subst (λ (zs : List ModelMember). IsIn origin (length cs) c.part-woken.new.room.serial v' zs) (sym (ap (λ (w : Bool). cond w [] xs) ok)) x,
      subst (λ (zs : List ModelMember). IsIn origin (length cs) c.part-woken.new.own.serial a' zs) (sym (ap (λ (w : Bool). cond w (wake (only_member k (wake xs))) []) ok)) y,
      subst (λ (zs : List ModelMember). IsIn origin (length cs) c.part-woken.new.other.serial b' zs) (sym (ap (λ (w : Bool). cond w (wake (without_member k (wake xs))) []) ok)) z,
    )

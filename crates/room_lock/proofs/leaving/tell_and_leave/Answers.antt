use Rattle.std.proofs.Common.{◌≡◌, ◌<◌, ◌≤◌, ℕ, Bool, true, false, cond, List, [], ◌∷◌, ◌++◌, length, slice_get, Some, refl, sym, ap, ◌∙◌, subst, arith}
use Rattle.card_emul.specs.declared.any_card.AnyCard.{AnyCard}
use Rattle.card_emul.specs.contracts.any_card.AnyCardCard.TheImpl.{ghosts}
use Rattle.floor_rule.specs.Causes.{Causes}
use Rattle.floor_rule.specs.declared.entry.Entry.TheVariants as entry
use Rattle.floor_rule.specs.declared.rule.Marked.{Marked}
use Rattle.pcm_base.specs.declared.ids.SubId.{SubId}
use Rattle.pcm_base.specs.model.Replay.{is_member}
use Rattle.pcm_base.specs.model.Sleep.{mask_of, wake}
use Rattle.pcm_base.specs.model.Stream.{Member as ModelMember, Stream}
use Rattle.pcm_base.specs.model.World.{only_member, without_member}
use Rattle.pcm_group.specs.Inside.{members_in}
use Rattle.pcm_group.specs.declared.group.Group.{Group}
use Rattle.pcm_stream.specs.Members.{numbers_of}
use Rattle.pcm_stream.specs.MembersStand.{AllStandFor}
use Rattle.pcm_stream.specs.declared.members.Member.{Member}
use Rattle.room_book.specs.Logs.{is_ok}
use Rattle.room_book.specs.Rooms.{fresh_streams}
use Rattle.room_book.specs.declared.book.BookEntry.{BookEntry}
use Rattle.room_book.specs.declared.book.BookEntry.TheVariants.{In, Out}
use Rattle.room_parts.specs.Recs.{RecView, sub_of, subs_of}
use Rattle.room_lock.specs.InRoom.{FitsIn, InRoom, IsIn, RoomView}
use Rattle.room_lock.specs.Inside.{view_of}
use Rattle.room_lock.specs.Joined.{HasRoom}
use Rattle.room_lock.specs.Leaving.{woken_apart}
use Rattle.room_lock.proofs.JoinedLemmas.{in_again}
use Rattle.room_lock.proofs.LeavingLemmas.{empty_in, empty_recs, gone_fits, in_cause, in_known, in_receipt, is_leaving, is_refused, linked_high, others_fit, rec_at, rec_low, rec_room, rec_sub, still_fits, told_in, told_subs}
use Rattle.room_lock.proofs.MemberLemmas.{all_distinct, numbers_are}
use Rattle.room_lock.proofs.RecLemmas.{some_one}
use Rattle.room_lock.proofs.Records.{length_map}
use Rattle.room_lock.proofs.leaving.tell_and_leave.Goals as goal

-- the recs of a room have the numbers of its members
recs_are : (origin : SubId → Stream) (cards serial : ℕ) (v : RoomView) → InRoom origin cards serial v → subs_of v.recs ≡ numbers_of v.members
recs_are origin cards serial v h = h.fits_in.recs_are ∙ numbers_are v.members h.streams h.stand

pub place_of-place-requires : goal.place_of-place-requires
place_of-place-requires g c =
    ap (is_member c.args.sub) (recs_are (fresh_streams g.N.FloorName.cards g.N.FloorName.long_max) (length g.N.FloorName.cards) c.args.room.now.serial (view_of c.args.room.now) c.requires.room) ∙ c.requires.here

pub tell_unlink-told-requires-clause-members : goal.tell_unlink-told-requires-clause-members
tell_unlink-told-requires-clause-members g c =
    sym (recs_are (fresh_streams g.N.FloorName.cards g.N.FloorName.long_max) (length g.N.FloorName.cards) c.args.room.now.serial (view_of c.args.room.now) c.requires.room)

pub tell_unlink-told-requires-clause-room : goal.tell_unlink-told-requires-clause-room
tell_unlink-told-requires-clause-room g c = λ r at. c.requires.spare c.place_of-place.result r at

pub returns-then-not-is_ok-clause-left : goal.returns-then-not-is_ok-clause-left
returns-then-not-is_ok-clause-left g c = λ xs here.
    let cs = g.N.FloorName.cards in
    let long_max = g.N.FloorName.long_max in
    let origin = fresh_streams cs long_max in
    let v = view_of c.args.room.now in
    let a = view_of c.args.own.now in
    let k = c.args.sub in
    let i = c.place_of-place.result in
    let told = c.tell_unlink-told.result in
    let now = c.tell_unlink-told.new.room.recs.items in
    let t = told_in cs long_max c.args.room.now.serial xs v i c.args.client k told now c.args.pass.now c.tell_unlink-told.new.pass here.fits_in (c.tell_unlink-told.ensures.told xs here.stand) c.tell_unlink-told.ensures.reply in
    let same = c.tell_unlink-told.ensures.same in
    let no : is_ok told.reply ≡ false = sym c.is_ok.ensures ∙ c.if-not-is_ok.true in
    is_refused t (view_of c.tell_unlink-told.new.room) a a refl same.1 refl no

pub returns-then-not-is_ok-clause-members : goal.returns-then-not-is_ok-clause-members
returns-then-not-is_ok-clause-members g c = λ xs here.
    let cs = g.N.FloorName.cards in
    let long_max = g.N.FloorName.long_max in
    let origin = fresh_streams cs long_max in
    let v = view_of c.args.room.now in
    let a = view_of c.args.own.now in
    let k = c.args.sub in
    let i = c.place_of-place.result in
    let told = c.tell_unlink-told.result in
    let now = c.tell_unlink-told.new.room.recs.items in
    let t = told_in cs long_max c.args.room.now.serial xs v i c.args.client k told now c.args.pass.now c.tell_unlink-told.new.pass here.fits_in (c.tell_unlink-told.ensures.told xs here.stand) c.tell_unlink-told.ensures.reply in
    let same = c.tell_unlink-told.ensures.same in
    let no : is_ok told.reply ≡ false = sym c.is_ok.ensures ∙ c.if-not-is_ok.true in
    let laws = c.moves.ensures in
    let v' = view_of c.tell_unlink-told.new.room in
    let stand : AllStandFor v'.members xs = subst (λ (x : Group AnyCard ghosts). AllStandFor (members_in x) xs) (sym same.0) here.stand in
    let stays = in_again origin (length cs) c.args.room.now.serial c.tell_unlink-told.new.room.serial v v' v.book xs same.3 same.2 same.1 stand (still_fits t laws.entries laws.log laws.change no) in
    let own = empty_in origin (length cs) c.args.own.now.serial a c.requires.own c.requires.home.2 in (
      subst (λ (zs : List ModelMember). IsIn origin (length cs) c.tell_unlink-told.new.room.serial v' zs) (sym (ap (λ (z : Bool). cond z (wake (without_member k (wake xs))) xs) no)) stays,
      subst (λ (zs : List ModelMember). IsIn origin (length cs) c.args.own.now.serial a zs) (sym (ap (λ (z : Bool). cond z (wake (only_member k (wake xs))) []) no)) own,
    )

pub returns-then-not-is_ok-clause-pass : goal.returns-then-not-is_ok-clause-pass
returns-then-not-is_ok-clause-pass g c =
    let cs = g.N.FloorName.cards in
    let long_max = g.N.FloorName.long_max in
    let origin = fresh_streams cs long_max in
    let v = view_of c.args.room.now in
    let a = view_of c.args.own.now in
    let k = c.args.sub in
    let i = c.place_of-place.result in
    let told = c.tell_unlink-told.result in
    let now = c.tell_unlink-told.new.room.recs.items in
    let xs = c.requires.room.streams in
    let here : IsIn origin (length cs) c.args.room.now.serial v xs = record { stand = c.requires.room.stand; fits_in = c.requires.room.fits_in } in
    let t = told_in cs long_max c.args.room.now.serial xs v i c.args.client k told now c.args.pass.now c.tell_unlink-told.new.pass here.fits_in (c.tell_unlink-told.ensures.told xs here.stand) c.tell_unlink-told.ensures.reply in
    let same = c.tell_unlink-told.ensures.same in
    in_known t c.moves.ensures.entries c.moves.ensures.log

pub returns-then-not-is_ok-clause-receipt : goal.returns-then-not-is_ok-clause-receipt
returns-then-not-is_ok-clause-receipt g c =
    let cs = g.N.FloorName.cards in
    let long_max = g.N.FloorName.long_max in
    let origin = fresh_streams cs long_max in
    let v = view_of c.args.room.now in
    let a = view_of c.args.own.now in
    let k = c.args.sub in
    let i = c.place_of-place.result in
    let told = c.tell_unlink-told.result in
    let now = c.tell_unlink-told.new.room.recs.items in
    let xs = c.requires.room.streams in
    let here : IsIn origin (length cs) c.args.room.now.serial v xs = record { stand = c.requires.room.stand; fits_in = c.requires.room.fits_in } in
    let t = told_in cs long_max c.args.room.now.serial xs v i c.args.client k told now c.args.pass.now c.tell_unlink-told.new.pass here.fits_in (c.tell_unlink-told.ensures.told xs here.stand) c.tell_unlink-told.ensures.reply in
    let same = c.tell_unlink-told.ensures.same in
    in_receipt t

pub returns-clause-pass : goal.returns-clause-pass
returns-clause-pass g c =
    let cs = g.N.FloorName.cards in
    let long_max = g.N.FloorName.long_max in
    let origin = fresh_streams cs long_max in
    let v = view_of c.args.room.now in
    let a = view_of c.args.own.now in
    let k = c.args.sub in
    let i = c.place_of-place.result in
    let told = c.tell_unlink-told.result in
    let now = c.tell_unlink-told.new.room.recs.items in
    let xs = c.requires.room.streams in
    let here : IsIn origin (length cs) c.args.room.now.serial v xs = record { stand = c.requires.room.stand; fits_in = c.requires.room.fits_in } in
    let t = told_in cs long_max c.args.room.now.serial xs v i c.args.client k told now c.args.pass.now c.tell_unlink-told.new.pass here.fits_in (c.tell_unlink-told.ensures.told xs here.stand) c.tell_unlink-told.ensures.reply in
    let same = c.tell_unlink-told.ensures.same in
    in_known t c.moves.ensures.entries c.moves.ensures.log

pub returns-clause-receipt : goal.returns-clause-receipt
returns-clause-receipt g c =
    let cs = g.N.FloorName.cards in
    let long_max = g.N.FloorName.long_max in
    let origin = fresh_streams cs long_max in
    let v = view_of c.args.room.now in
    let a = view_of c.args.own.now in
    let k = c.args.sub in
    let i = c.place_of-place.result in
    let told = c.tell_unlink-told.result in
    let now = c.tell_unlink-told.new.room.recs.items in
    let xs = c.requires.room.streams in
    let here : IsIn origin (length cs) c.args.room.now.serial v xs = record { stand = c.requires.room.stand; fits_in = c.requires.room.fits_in } in
    let t = told_in cs long_max c.args.room.now.serial xs v i c.args.client k told now c.args.pass.now c.tell_unlink-told.new.pass here.fits_in (c.tell_unlink-told.ensures.told xs here.stand) c.tell_unlink-told.ensures.reply in
    let same = c.tell_unlink-told.ensures.same in
    in_receipt t

pub leave-woken-requires-clause-sub : goal.leave-woken-requires-clause-sub
leave-woken-requires-clause-sub g c =
    let cs = g.N.FloorName.cards in
    let long_max = g.N.FloorName.long_max in
    let origin = fresh_streams cs long_max in
    let v = view_of c.args.room.now in
    let a = view_of c.args.own.now in
    let k = c.args.sub in
    let i = c.place_of-place.result in
    let told = c.tell_unlink-told.result in
    let now = c.tell_unlink-told.new.room.recs.items in
    let xs = c.requires.room.streams in
    let here : IsIn origin (length cs) c.args.room.now.serial v xs = record { stand = c.requires.room.stand; fits_in = c.requires.room.fits_in } in
    let t = told_in cs long_max c.args.room.now.serial xs v i c.args.client k told now c.args.pass.now c.tell_unlink-told.new.pass here.fits_in (c.tell_unlink-told.ensures.told xs here.stand) c.tell_unlink-told.ensures.reply in
    let same = c.tell_unlink-told.ensures.same in
    λ r at. ap sub_of (some_one r t.told_is.recorded.rec (sym at ∙ rec_at t)) ∙ rec_sub t ∙ sym (in_receipt t).0

pub leave-woken-requires-clause-members : goal.leave-woken-requires-clause-members
leave-woken-requires-clause-members g c =
    let cs = g.N.FloorName.cards in
    let long_max = g.N.FloorName.long_max in
    let origin = fresh_streams cs long_max in
    let v = view_of c.args.room.now in
    let a = view_of c.args.own.now in
    let k = c.args.sub in
    let i = c.place_of-place.result in
    let told = c.tell_unlink-told.result in
    let now = c.tell_unlink-told.new.room.recs.items in
    let xs = c.requires.room.streams in
    let here : IsIn origin (length cs) c.args.room.now.serial v xs = record { stand = c.requires.room.stand; fits_in = c.requires.room.fits_in } in
    let t = told_in cs long_max c.args.room.now.serial xs v i c.args.client k told now c.args.pass.now c.tell_unlink-told.new.pass here.fits_in (c.tell_unlink-told.ensures.told xs here.stand) c.tell_unlink-told.ensures.reply in
    let same = c.tell_unlink-told.ensures.same in
    ap (λ (x : Group AnyCard ghosts). numbers_of (members_in x)) same.0 ∙ sym (recs_are origin (length cs) c.args.room.now.serial v c.requires.room) ∙ sym (told_subs t)

pub leave-woken-requires-clause-cause : goal.leave-woken-requires-clause-cause
leave-woken-requires-clause-cause g c =
    let cs = g.N.FloorName.cards in
    let long_max = g.N.FloorName.long_max in
    let origin = fresh_streams cs long_max in
    let v = view_of c.args.room.now in
    let a = view_of c.args.own.now in
    let k = c.args.sub in
    let i = c.place_of-place.result in
    let told = c.tell_unlink-told.result in
    let now = c.tell_unlink-told.new.room.recs.items in
    let xs = c.requires.room.streams in
    let here : IsIn origin (length cs) c.args.room.now.serial v xs = record { stand = c.requires.room.stand; fits_in = c.requires.room.fits_in } in
    let t = told_in cs long_max c.args.room.now.serial xs v i c.args.client k told now c.args.pass.now c.tell_unlink-told.new.pass here.fits_in (c.tell_unlink-told.ensures.told xs here.stand) c.tell_unlink-told.ensures.reply in
    let same = c.tell_unlink-told.ensures.same in
    let ok : is_ok told.reply ≡ true = sym c.is_ok.ensures ∙ c.if-not-is_ok.false in
    let told_at = in_cause t ok in
    λ r at.
    subst (λ (x : RecView). (x.knows.sub < length cs) × ((e : Marked) × (slice_get x.knows.log told.receipt.index ≡ Some e) × Causes e.entry (entry.Moved a.number))) (some_one t.told_is.recorded.rec r (sym (rec_at t) ∙ at))
    (rec_low t, (told_at.0, told_at.1, told_at.2 a.number))

pub leave-woken-requires-clause-room : goal.leave-woken-requires-clause-room
leave-woken-requires-clause-room g c =
    let cs = g.N.FloorName.cards in
    let long_max = g.N.FloorName.long_max in
    let origin = fresh_streams cs long_max in
    let v = view_of c.args.room.now in
    let a = view_of c.args.own.now in
    let k = c.args.sub in
    let i = c.place_of-place.result in
    let told = c.tell_unlink-told.result in
    let now = c.tell_unlink-told.new.room.recs.items in
    let xs = c.requires.room.streams in
    let here : IsIn origin (length cs) c.args.room.now.serial v xs = record { stand = c.requires.room.stand; fits_in = c.requires.room.fits_in } in
    let t = told_in cs long_max c.args.room.now.serial xs v i c.args.client k told now c.args.pass.now c.tell_unlink-told.new.pass here.fits_in (c.tell_unlink-told.ensures.told xs here.stand) c.tell_unlink-told.ensures.reply in
    let same = c.tell_unlink-told.ensures.same in
    λ r at.
    subst (HasRoom 1) (some_one t.told_is.recorded.rec r (sym (rec_at t) ∙ at)) (rec_room t (c.requires.spare i t.told_is.before t.told_is.at))

pub returns-clause-left : goal.returns-clause-left
returns-clause-left g c = λ xs here.
    let cs = g.N.FloorName.cards in
    let long_max = g.N.FloorName.long_max in
    let origin = fresh_streams cs long_max in
    let v = view_of c.args.room.now in
    let a = view_of c.args.own.now in
    let k = c.args.sub in
    let i = c.place_of-place.result in
    let told = c.tell_unlink-told.result in
    let now = c.tell_unlink-told.new.room.recs.items in
    let t = told_in cs long_max c.args.room.now.serial xs v i c.args.client k told now c.args.pass.now c.tell_unlink-told.new.pass here.fits_in (c.tell_unlink-told.ensures.told xs here.stand) c.tell_unlink-told.ensures.reply in
    let same = c.tell_unlink-told.ensures.same in
    let ok : is_ok told.reply ≡ true = sym c.is_ok.ensures ∙ c.if-not-is_ok.false in
    let r = t.told_is.recorded.rec in
    let stand : AllStandFor (members_in c.tell_unlink-told.new.room.group) xs = subst (λ (x : Group AnyCard ghosts). AllStandFor (members_in x) xs) (sym same.0) here.stand in
    let came = c.leave-woken.ensures.rec r (rec_at t) in
    let s = came.0 in
    let no_recs : a.recs ≡ [] = empty_recs origin (length cs) c.args.own.now.serial a c.requires.own c.requires.home.2 in
    let own_recs : c.leave-woken.new.own.recs.items ≡ s ∷ [] = came.1 ∙ ap (λ (l : List RecView). l ++ s ∷ []) no_recs in
    let place = in_receipt t in
    let v' = view_of c.leave-woken.new.room in
    let a' = view_of c.leave-woken.new.own in
    let book : v'.book ≡ v.book ++ Out k ∷ [] = c.leave-woken.ensures.books.0 ∙ ap (λ (z : List BookEntry × SubId). z.0 ++ Out z.1 ∷ []) (λ n. (same.1 n, place.0 n)) in
    let own_book : a'.book ≡ a.book ++ In k ∷ [] = c.leave-woken.ensures.books.1 ∙ ap (λ (x : SubId). a.book ++ In x ∷ []) place.0 in
    is_leaving t v' a a' c.leave-woken.result s ok c.leave-woken.ensures.left own_recs came.2 book own_book (c.leave-woken.ensures.woken xs stand ∙ ap (λ (x : SubId). mask_of (woken_apart x xs)) place.0)

pub returns-clause-members : goal.returns-clause-members
returns-clause-members g c = λ xs here.
    let cs = g.N.FloorName.cards in
    let long_max = g.N.FloorName.long_max in
    let origin = fresh_streams cs long_max in
    let v = view_of c.args.room.now in
    let a = view_of c.args.own.now in
    let k = c.args.sub in
    let i = c.place_of-place.result in
    let told = c.tell_unlink-told.result in
    let now = c.tell_unlink-told.new.room.recs.items in
    let t = told_in cs long_max c.args.room.now.serial xs v i c.args.client k told now c.args.pass.now c.tell_unlink-told.new.pass here.fits_in (c.tell_unlink-told.ensures.told xs here.stand) c.tell_unlink-told.ensures.reply in
    let same = c.tell_unlink-told.ensures.same in
    let ok : is_ok told.reply ≡ true = sym c.is_ok.ensures ∙ c.if-not-is_ok.false in
    let r = t.told_is.recorded.rec in
    let stand : AllStandFor (members_in c.tell_unlink-told.new.room.group) xs = subst (λ (x : Group AnyCard ghosts). AllStandFor (members_in x) xs) (sym same.0) here.stand in
    let came = c.leave-woken.ensures.rec r (rec_at t) in
    let s = came.0 in
    let no_recs : a.recs ≡ [] = empty_recs origin (length cs) c.args.own.now.serial a c.requires.own c.requires.home.2 in
    let own_recs : c.leave-woken.new.own.recs.items ≡ s ∷ [] = came.1 ∙ ap (λ (l : List RecView). l ++ s ∷ []) no_recs in
    let place = in_receipt t in
    let v' = view_of c.leave-woken.new.room in
    let a' = view_of c.leave-woken.new.own in
    let book : v'.book ≡ v.book ++ Out k ∷ [] = c.leave-woken.ensures.books.0 ∙ ap (λ (z : List BookEntry × SubId). z.0 ++ Out z.1 ∷ []) (λ n. (same.1 n, place.0 n)) in
    let own_book : a'.book ≡ a.book ++ In k ∷ [] = c.leave-woken.ensures.books.1 ∙ ap (λ (x : SubId). a.book ++ In x ∷ []) place.0 in
    let laws = c.moves.ensures in
    let keep = c.links.ensures.wakes in
    let law = c.steps.ensures.wake in
    let high = linked_high t ok in
    let size : length v.members ≡ length v.recs = sym (length_map (λ (x : Member AnyCard ghosts). x.sub) v.members) ∙ ap length (sym (recs_are origin (length cs) c.args.room.now.serial v c.requires.room)) ∙ length_map sub_of v.recs in
    let three : 3 ≤ length v.recs = (let many = c.requires.three in omega (arith, size, many)) in
    let stands = subst (λ (x : SubId). AllStandFor v'.members (wake (without_member x (wake xs))) × AllStandFor a'.members (wake (only_member x (wake xs)))) place.0 (c.leave-woken.ensures.stands xs stand) in
    let left = subst (λ (z : List RecView × List BookEntry). FitsIn origin (length cs) c.args.room.now.serial v.number (wake (without_member k (wake xs))) z.0 z.1) (λ n. (sym c.leave-woken.ensures.left n, sym book n))
    (others_fit t laws.going laws.streams keep law high three (all_distinct v'.members (wake (without_member k (wake xs))) stands.0)) in
    let empty = (empty_in origin (length cs) c.args.own.now.serial a c.requires.own c.requires.home.2).fits_in in
    let none : FitsIn origin (length cs) c.args.own.now.serial a.number [] [] a.book = subst (λ (rs : List RecView). FitsIn origin (length cs) c.args.own.now.serial a.number [] rs a.book) no_recs empty in
    let gone = subst (λ (z : List RecView × List BookEntry). FitsIn origin (length cs) c.args.own.now.serial a.number (wake (only_member k (wake xs))) z.0 z.1) (λ n. (sym own_recs n, sym own_book n))
    (gone_fits t laws.entries laws.log laws.coming laws.streams keep law c.args.own.now.serial a s ok none came.2 c.requires.home.0 c.requires.home.1 (all_distinct a'.members (wake (only_member k (wake xs))) stands.1)) in
    let one = in_again origin (length cs) c.args.room.now.serial c.leave-woken.new.room.serial v v' v'.book (wake (without_member k (wake xs))) (c.leave-woken.ensures.serials.0 ∙ same.3) (c.leave-woken.ensures.numbers.0 ∙ same.2) refl stands.0 left in
    let two = in_again origin (length cs) c.args.own.now.serial c.leave-woken.new.own.serial a a' a'.book (wake (only_member k (wake xs))) c.leave-woken.ensures.serials.1 c.leave-woken.ensures.numbers.1 refl stands.1 gone in (
      subst (λ (zs : List ModelMember). IsIn origin (length cs) c.leave-woken.new.room.serial v' zs) (sym (ap (λ (z : Bool). cond z (wake (without_member k (wake xs))) xs) ok)) one,
      subst (λ (zs : List ModelMember). IsIn origin (length cs) c.leave-woken.new.own.serial a' zs) (sym (ap (λ (z : Bool). cond z (wake (only_member k (wake xs))) []) ok)) two,
    )

use Rattle.std.proofs.Common.{◌≡◌, ◌<◌, ◌≤◌, inl, inr, ℕ, Bool, true, false, cond, List, [], ◌∷◌, ◌++◌, length, length-append, slice_get, Some, refl, sym, ap, ◌∙◌, subst, arith}
use Rattle.std.proofs.lemmas.Option.{slice_get_within}
use Rattle.card_emul.specs.declared.any_card.AnyCard.{AnyCard}
use Rattle.card_emul.specs.contracts.any_card.AnyCardCard.TheImpl.{ghosts}
use Rattle.floor_rule.specs.Causes.{Causes}
use Rattle.floor_rule.specs.declared.entry.Entry.TheVariants as entry
use Rattle.floor_rule.specs.declared.rule.Marked.{Marked}
use Rattle.pcm_base.specs.declared.ids.SubId.{SubId}
use Rattle.pcm_base.specs.model.Acts.{subs}
use Rattle.pcm_base.specs.model.Replay.{Distinct, is_member}
use Rattle.pcm_base.specs.model.Sleep.{wake}
use Rattle.pcm_base.specs.model.Stream.{Member as ModelMember, Stream}
use Rattle.pcm_group.specs.Inside.{members_in}
use Rattle.pcm_group.specs.declared.group.Group.{Group}
use Rattle.pcm_stream.specs.Members.{numbers_of}
use Rattle.pcm_stream.specs.MembersStand.{AllStandFor}
use Rattle.pcm_stream.specs.declared.members.Member.{Member}
use Rattle.room_book.specs.Logs.{is_ok}
use Rattle.room_book.specs.Rooms.{fresh_streams}
use Rattle.room_book.specs.declared.book.BookEntry.{BookEntry}
use Rattle.room_book.specs.declared.book.BookEntry.TheVariants.{In, Out}
use Rattle.room_parts.specs.Recs.{RecView, sub_of, subs_of}
use Rattle.room_lock.specs.InRoom.{FitsIn, InRoom, IsIn, RoomView}
use Rattle.room_lock.specs.Inside.{view_of}
use Rattle.room_lock.specs.Linked.{HasMoved, link_marked}
use Rattle.room_lock.proofs.JoinedLemmas.{ToldBoth, apart_of, both_joined, both_known, both_refused, both_stay, cause_at, in_again, joined_fits, receipt_is, second_gone, second_low, second_recs, second_sub}
use Rattle.room_lock.proofs.MemberLemmas.{all_distinct, numbers_are}
use Rattle.room_lock.proofs.RecLemmas.{some_one}
use Rattle.room_lock.proofs.Records.{length_map}
use Rattle.room_lock.proofs.SeatLemmas.{seat_left}
use Rattle.room_lock.proofs.TellingLemmas.{link_moves}
use Rattle.room_lock.proofs.joining.tell_and_join.Goals as goal

-- the recs of a room have the numbers of its members
recs_are : (origin : SubId → Stream) (cards serial : ℕ) (v : RoomView) → InRoom origin cards serial v → subs_of v.recs ≡ numbers_of v.members
recs_are origin cards serial v h = h.fits_in.recs_are ∙ numbers_are v.members h.streams h.stand

pub place_of-own-requires : goal.place_of-own-requires
place_of-own-requires g c =
    let numbers = recs_are (fresh_streams g.N.FloorName.cards g.N.FloorName.long_max) (length g.N.FloorName.cards) c.args.first.now.serial (view_of c.args.first.now) c.requires.first in
    ap (is_member c.args.from) numbers ∙ c.requires.here.0

pub place_of-other-requires : goal.place_of-other-requires
place_of-other-requires g c =
    let numbers = recs_are (fresh_streams g.N.FloorName.cards g.N.FloorName.long_max) (length g.N.FloorName.cards) c.args.second.now.serial (view_of c.args.second.now) c.requires.second in
    ap (is_member c.args.to) numbers ∙ c.requires.here.1

pub tell_link-told-requires-clause-first : goal.tell_link-told-requires-clause-first
tell_link-told-requires-clause-first g c =
    let numbers = recs_are (fresh_streams g.N.FloorName.cards g.N.FloorName.long_max) (length g.N.FloorName.cards) c.args.first.now.serial (view_of c.args.first.now) c.requires.first in
    (sym numbers, λ r at. (c.place_of-own.ensures.number r at, (c.requires.first.fits_in.placed c.place_of-own.result r at).1))

pub tell_link-told-requires-clause-second : goal.tell_link-told-requires-clause-second
tell_link-told-requires-clause-second g c =
    let numbers = recs_are (fresh_streams g.N.FloorName.cards g.N.FloorName.long_max) (length g.N.FloorName.cards) c.args.second.now.serial (view_of c.args.second.now) c.requires.second in
    (sym numbers, c.place_of-other.ensures.number)

pub tell_link-told-requires-clause-room : goal.tell_link-told-requires-clause-room
tell_link-told-requires-clause-room g c =
    (λ r at. c.requires.room.0 c.place_of-own.result r at, λ r at. c.requires.room.1 c.place_of-other.result r at)

pub returns-then-not-is_ok-clause-joined : goal.returns-then-not-is_ok-clause-joined
returns-then-not-is_ok-clause-joined g c = λ xs ys in1 in2.
    let cs = g.N.FloorName.cards in
    let long_max = g.N.FloorName.long_max in
    let origin = fresh_streams cs long_max in
    let v = view_of c.args.first.now in
    let w = view_of c.args.second.now in
    let s1 = c.args.first.now.serial in
    let s2 = c.args.second.now.serial in
    let k = c.args.from in
    let j = c.args.to in
    let i = c.place_of-own.result in
    let m = c.place_of-other.result in
    let told = c.tell_link-told.result in
    let now = c.tell_link-told.new.first.recs.items in
    let now2 = c.tell_link-told.new.second.recs.items in
    let p = c.args.pass.now in
    let p' = c.tell_link-told.new.pass in
    let t : ToldBoth cs long_max s1 s2 xs ys v w now now2 c.args.client k j i m told.link told.one told.two told.receipt p p' = record {
      fits = in1.fits_in;
      fits2 = in2.fits_in;
      told = c.tell_link-told.ensures.first xs in1.stand;
      told2 = c.tell_link-told.ensures.second ys in2.stand;
      link_is = c.tell_link-told.ensures.link;
      linked = c.tell_link-told.ensures.linked;
      apart = apart_of (numbers_of v.members) k j c.requires.here.0 c.requires.apart;
    } in
    let no : is_ok told.link.reply ≡ false = sym c.is_ok.ensures ∙ c.if-not-is_ok.true in
    both_refused cs long_max s1 s2 xs ys v w now now2 c.args.client k j i m told.link told.one told.two told.receipt p p' t (view_of c.tell_link-told.new.first) (view_of c.tell_link-told.new.second) refl c.tell_link-told.ensures.first_same.1 refl c.tell_link-told.ensures.second_same.1 no

pub returns-then-not-is_ok-clause-members : goal.returns-then-not-is_ok-clause-members
returns-then-not-is_ok-clause-members g c = λ xs ys in1 in2.
    let cs = g.N.FloorName.cards in
    let long_max = g.N.FloorName.long_max in
    let origin = fresh_streams cs long_max in
    let v = view_of c.args.first.now in
    let w = view_of c.args.second.now in
    let s1 = c.args.first.now.serial in
    let s2 = c.args.second.now.serial in
    let k = c.args.from in
    let j = c.args.to in
    let i = c.place_of-own.result in
    let m = c.place_of-other.result in
    let told = c.tell_link-told.result in
    let now = c.tell_link-told.new.first.recs.items in
    let now2 = c.tell_link-told.new.second.recs.items in
    let p = c.args.pass.now in
    let p' = c.tell_link-told.new.pass in
    let t : ToldBoth cs long_max s1 s2 xs ys v w now now2 c.args.client k j i m told.link told.one told.two told.receipt p p' = record {
      fits = in1.fits_in;
      fits2 = in2.fits_in;
      told = c.tell_link-told.ensures.first xs in1.stand;
      told2 = c.tell_link-told.ensures.second ys in2.stand;
      link_is = c.tell_link-told.ensures.link;
      linked = c.tell_link-told.ensures.linked;
      apart = apart_of (numbers_of v.members) k j c.requires.here.0 c.requires.apart;
    } in
    let no : is_ok told.link.reply ≡ false = sym c.is_ok.ensures ∙ c.if-not-is_ok.true in
    let laws = c.moves.ensures in
    let stays = both_stay cs long_max s1 s2 xs ys v w now now2 c.args.client k j i m told.link told.one told.two told.receipt p p' t laws.entries laws.log laws.change no in
    let one = c.tell_link-told.ensures.first_same in
    let two = c.tell_link-told.ensures.second_same in
    let v' = view_of c.tell_link-told.new.first in
    let w' = view_of c.tell_link-told.new.second in
    let stand : AllStandFor v'.members xs = subst (λ (x : Group AnyCard ghosts). AllStandFor (members_in x) xs) (sym one.0) in1.stand in
    let stand2 : AllStandFor w'.members ys = subst (λ (x : Group AnyCard ghosts). AllStandFor (members_in x) ys) (sym two.0) in2.stand in
    let a = in_again origin (length cs) s1 c.tell_link-told.new.first.serial v v' v.book xs one.3 one.2 one.1 stand stays.0 in
    let b = in_again origin (length cs) s2 c.tell_link-told.new.second.serial w w' w.book ys two.3 two.2 two.1 stand2 stays.1 in (
      subst (λ (zs : List ModelMember). IsIn origin (length cs) c.tell_link-told.new.first.serial v' zs) (sym (ap (λ (z : Bool). cond z (wake (wake xs ++ wake ys)) xs) no)) a,
      subst (λ (zs : List ModelMember). IsIn origin (length cs) c.tell_link-told.new.second.serial w' zs) (sym (ap (λ (z : Bool). cond z [] ys) no)) b,
    )

pub returns-then-not-is_ok-clause-pass : goal.returns-then-not-is_ok-clause-pass
returns-then-not-is_ok-clause-pass g c =
    let cs = g.N.FloorName.cards in
    let long_max = g.N.FloorName.long_max in
    let origin = fresh_streams cs long_max in
    let v = view_of c.args.first.now in
    let w = view_of c.args.second.now in
    let s1 = c.args.first.now.serial in
    let s2 = c.args.second.now.serial in
    let k = c.args.from in
    let j = c.args.to in
    let i = c.place_of-own.result in
    let m = c.place_of-other.result in
    let told = c.tell_link-told.result in
    let now = c.tell_link-told.new.first.recs.items in
    let now2 = c.tell_link-told.new.second.recs.items in
    let p = c.args.pass.now in
    let p' = c.tell_link-told.new.pass in
    let xs = c.requires.first.streams in
    let ys = c.requires.second.streams in
    let in1 : IsIn origin (length cs) s1 v xs = record { stand = c.requires.first.stand; fits_in = c.requires.first.fits_in } in
    let in2 : IsIn origin (length cs) s2 w ys = record { stand = c.requires.second.stand; fits_in = c.requires.second.fits_in } in
    let t : ToldBoth cs long_max s1 s2 xs ys v w now now2 c.args.client k j i m told.link told.one told.two told.receipt p p' = record {
      fits = in1.fits_in;
      fits2 = in2.fits_in;
      told = c.tell_link-told.ensures.first xs in1.stand;
      told2 = c.tell_link-told.ensures.second ys in2.stand;
      link_is = c.tell_link-told.ensures.link;
      linked = c.tell_link-told.ensures.linked;
      apart = apart_of (numbers_of v.members) k j c.requires.here.0 c.requires.apart;
    } in
    both_known cs long_max s1 s2 xs ys v w now now2 c.args.client k j i m told.link told.one told.two told.receipt p p' t c.moves.ensures.entries c.moves.ensures.log

pub returns-then-not-is_ok-clause-receipt : goal.returns-then-not-is_ok-clause-receipt
returns-then-not-is_ok-clause-receipt g c =
    let cs = g.N.FloorName.cards in
    let long_max = g.N.FloorName.long_max in
    let origin = fresh_streams cs long_max in
    let v = view_of c.args.first.now in
    let w = view_of c.args.second.now in
    let s1 = c.args.first.now.serial in
    let s2 = c.args.second.now.serial in
    let k = c.args.from in
    let j = c.args.to in
    let i = c.place_of-own.result in
    let m = c.place_of-other.result in
    let told = c.tell_link-told.result in
    let now = c.tell_link-told.new.first.recs.items in
    let now2 = c.tell_link-told.new.second.recs.items in
    let p = c.args.pass.now in
    let p' = c.tell_link-told.new.pass in
    let xs = c.requires.first.streams in
    let ys = c.requires.second.streams in
    let in1 : IsIn origin (length cs) s1 v xs = record { stand = c.requires.first.stand; fits_in = c.requires.first.fits_in } in
    let in2 : IsIn origin (length cs) s2 w ys = record { stand = c.requires.second.stand; fits_in = c.requires.second.fits_in } in
    let t : ToldBoth cs long_max s1 s2 xs ys v w now now2 c.args.client k j i m told.link told.one told.two told.receipt p p' = record {
      fits = in1.fits_in;
      fits2 = in2.fits_in;
      told = c.tell_link-told.ensures.first xs in1.stand;
      told2 = c.tell_link-told.ensures.second ys in2.stand;
      link_is = c.tell_link-told.ensures.link;
      linked = c.tell_link-told.ensures.linked;
      apart = apart_of (numbers_of v.members) k j c.requires.here.0 c.requires.apart;
    } in
    receipt_is cs long_max s1 s2 xs ys v w now now2 c.args.client k j i m told.link told.one told.two told.receipt p p' t

pub join-woken-requires-clause-number : goal.join-woken-requires-clause-number
join-woken-requires-clause-number g c =
    let n = c.tell_link-told.ensures.first_same.2 in
    let there = c.requires.there in
    omega (arith, n, there)

pub join-woken-requires-clause-own : goal.join-woken-requires-clause-own
join-woken-requires-clause-own g c =
    let cs = g.N.FloorName.cards in
    let long_max = g.N.FloorName.long_max in
    let origin = fresh_streams cs long_max in
    let v = view_of c.args.first.now in
    let w = view_of c.args.second.now in
    let s1 = c.args.first.now.serial in
    let s2 = c.args.second.now.serial in
    let k = c.args.from in
    let j = c.args.to in
    let i = c.place_of-own.result in
    let m = c.place_of-other.result in
    let told = c.tell_link-told.result in
    let now = c.tell_link-told.new.first.recs.items in
    let now2 = c.tell_link-told.new.second.recs.items in
    let p = c.args.pass.now in
    let p' = c.tell_link-told.new.pass in
    let xs = c.requires.first.streams in
    let ys = c.requires.second.streams in
    let in1 : IsIn origin (length cs) s1 v xs = record { stand = c.requires.first.stand; fits_in = c.requires.first.fits_in } in
    let in2 : IsIn origin (length cs) s2 w ys = record { stand = c.requires.second.stand; fits_in = c.requires.second.fits_in } in
    let t : ToldBoth cs long_max s1 s2 xs ys v w now now2 c.args.client k j i m told.link told.one told.two told.receipt p p' = record {
      fits = in1.fits_in;
      fits2 = in2.fits_in;
      told = c.tell_link-told.ensures.first xs in1.stand;
      told2 = c.tell_link-told.ensures.second ys in2.stand;
      link_is = c.tell_link-told.ensures.link;
      linked = c.tell_link-told.ensures.linked;
      apart = apart_of (numbers_of v.members) k j c.requires.here.0 c.requires.apart;
    } in
    slice_get_within now i t.told.after (cause_at cs long_max s1 s2 xs ys v w now now2 c.args.client k j i m told.link told.one told.two told.receipt p p' t).0

pub join-woken-requires-clause-cause : goal.join-woken-requires-clause-cause
join-woken-requires-clause-cause g c =
    let cs = g.N.FloorName.cards in
    let long_max = g.N.FloorName.long_max in
    let origin = fresh_streams cs long_max in
    let v = view_of c.args.first.now in
    let w = view_of c.args.second.now in
    let s1 = c.args.first.now.serial in
    let s2 = c.args.second.now.serial in
    let k = c.args.from in
    let j = c.args.to in
    let i = c.place_of-own.result in
    let m = c.place_of-other.result in
    let told = c.tell_link-told.result in
    let now = c.tell_link-told.new.first.recs.items in
    let now2 = c.tell_link-told.new.second.recs.items in
    let p = c.args.pass.now in
    let p' = c.tell_link-told.new.pass in
    let xs = c.requires.first.streams in
    let ys = c.requires.second.streams in
    let in1 : IsIn origin (length cs) s1 v xs = record { stand = c.requires.first.stand; fits_in = c.requires.first.fits_in } in
    let in2 : IsIn origin (length cs) s2 w ys = record { stand = c.requires.second.stand; fits_in = c.requires.second.fits_in } in
    let t : ToldBoth cs long_max s1 s2 xs ys v w now now2 c.args.client k j i m told.link told.one told.two told.receipt p p' = record {
      fits = in1.fits_in;
      fits2 = in2.fits_in;
      told = c.tell_link-told.ensures.first xs in1.stand;
      told2 = c.tell_link-told.ensures.second ys in2.stand;
      link_is = c.tell_link-told.ensures.link;
      linked = c.tell_link-told.ensures.linked;
      apart = apart_of (numbers_of v.members) k j c.requires.here.0 c.requires.apart;
    } in
    let ok : is_ok told.link.reply ≡ true = sym c.is_ok.ensures ∙ c.if-not-is_ok.false in
    λ r at.
    let cause = cause_at cs long_max s1 s2 xs ys v w now now2 c.args.client k j i m told.link told.one told.two told.receipt p p' t in
    let place = receipt_is cs long_max s1 s2 xs ys v w now now2 c.args.client k j i m told.link told.one told.two told.receipt p p' t in
    let same : t.told.after ≡ r = some_one t.told.after r (sym cause.0 ∙ at) in
    let low : t.told.before.knows.sub < length cs = (in1.fits_in.placed i t.told.before t.told.at).1 in
    subst (λ (x : RecView). (x.knows.sub ≡ told.receipt.sub.0) × (x.knows.sub < length cs) × ((e : Marked) × (slice_get x.knows.log told.receipt.index ≡ Some e) × Causes e.entry (entry.Moved c.tell_link-told.new.first.number))) same (
      ap (λ (x : SubId). x.0) (cause.1 ∙ sym place.0),
      subst (λ (n : ℕ). n < length cs) (sym t.told.joined.sub) low,
      (link_marked told.link told.one.state told.one.hw p.knows, cause.2, link_moves told.link told.one.state told.one.hw p.knows c.tell_link-told.new.first.number ok),
    )

pub join-woken-requires-clause-second : goal.join-woken-requires-clause-second
join-woken-requires-clause-second g c =
    let cs = g.N.FloorName.cards in
    let long_max = g.N.FloorName.long_max in
    let origin = fresh_streams cs long_max in
    let v = view_of c.args.first.now in
    let w = view_of c.args.second.now in
    let s1 = c.args.first.now.serial in
    let s2 = c.args.second.now.serial in
    let k = c.args.from in
    let j = c.args.to in
    let i = c.place_of-own.result in
    let m = c.place_of-other.result in
    let told = c.tell_link-told.result in
    let now = c.tell_link-told.new.first.recs.items in
    let now2 = c.tell_link-told.new.second.recs.items in
    let p = c.args.pass.now in
    let p' = c.tell_link-told.new.pass in
    let xs = c.requires.first.streams in
    let ys = c.requires.second.streams in
    let in1 : IsIn origin (length cs) s1 v xs = record { stand = c.requires.first.stand; fits_in = c.requires.first.fits_in } in
    let in2 : IsIn origin (length cs) s2 w ys = record { stand = c.requires.second.stand; fits_in = c.requires.second.fits_in } in
    let t : ToldBoth cs long_max s1 s2 xs ys v w now now2 c.args.client k j i m told.link told.one told.two told.receipt p p' = record {
      fits = in1.fits_in;
      fits2 = in2.fits_in;
      told = c.tell_link-told.ensures.first xs in1.stand;
      told2 = c.tell_link-told.ensures.second ys in2.stand;
      link_is = c.tell_link-told.ensures.link;
      linked = c.tell_link-told.ensures.linked;
      apart = apart_of (numbers_of v.members) k j c.requires.here.0 c.requires.apart;
    } in
    let ok : is_ok told.link.reply ≡ true = sym c.is_ok.ensures ∙ c.if-not-is_ok.false in
    let recs = second_recs cs long_max s1 s2 xs ys v w now now2 c.args.client k j i m told.link told.one told.two told.receipt p p' t ok in
    let q = t.told2.after in
    let low = second_low cs long_max s1 s2 xs ys v w now now2 c.args.client k j i m told.link told.one told.two told.receipt p p' t ok in
    let group = c.tell_link-told.ensures.second_same.0 in
    let numbers : numbers_of w.members ≡ sub_of q ∷ [] = sym (recs_are origin (length cs) s2 w c.requires.second) ∙ ap subs_of recs.0 ∙ ap (λ (n : ℕ). let x : SubId = record { 0 = n } in x ∷ []) (sym t.told2.joined.sub) in
    let room = c.requires.room.1 m t.told2.before t.told2.at in
    let spare = t.told2.joined.spare in
    let size = ap (λ (l : List Marked). length l) t.told2.joined.log ∙ length-append t.told2.before.knows.log (link_marked told.link told.two.state told.two.hw p.knows ∷ []) in
    let enough = room.0 in
    let short = room.1 in (
      q,
      recs.1,
      ap (λ (x : Group AnyCard ghosts). numbers_of (members_in x)) group ∙ numbers,
      (omega (arith, enough, spare), omega (arith, short, size)),
      ap (λ (z : SubId × Group AnyCard ghosts). is_member z.0 (numbers_of (members_in z.1))) (λ n. (second_sub cs long_max s1 s2 xs ys v w now now2 c.args.client k j i m told.link told.one told.two told.receipt p p' t n, c.tell_link-told.ensures.first_same.0 n)) ∙ c.requires.apart,
    )

pub join-woken-requires-clause-seat : goal.join-woken-requires-clause-seat
join-woken-requires-clause-seat g c =
    let cs = g.N.FloorName.cards in
    let long_max = g.N.FloorName.long_max in
    let origin = fresh_streams cs long_max in
    let v = view_of c.args.first.now in
    let w = view_of c.args.second.now in
    let s1 = c.args.first.now.serial in
    let s2 = c.args.second.now.serial in
    let k = c.args.from in
    let j = c.args.to in
    let i = c.place_of-own.result in
    let m = c.place_of-other.result in
    let told = c.tell_link-told.result in
    let now = c.tell_link-told.new.first.recs.items in
    let now2 = c.tell_link-told.new.second.recs.items in
    let p = c.args.pass.now in
    let p' = c.tell_link-told.new.pass in
    let xs = c.requires.first.streams in
    let ys = c.requires.second.streams in
    let in1 : IsIn origin (length cs) s1 v xs = record { stand = c.requires.first.stand; fits_in = c.requires.first.fits_in } in
    let in2 : IsIn origin (length cs) s2 w ys = record { stand = c.requires.second.stand; fits_in = c.requires.second.fits_in } in
    let t : ToldBoth cs long_max s1 s2 xs ys v w now now2 c.args.client k j i m told.link told.one told.two told.receipt p p' = record {
      fits = in1.fits_in;
      fits2 = in2.fits_in;
      told = c.tell_link-told.ensures.first xs in1.stand;
      told2 = c.tell_link-told.ensures.second ys in2.stand;
      link_is = c.tell_link-told.ensures.link;
      linked = c.tell_link-told.ensures.linked;
      apart = apart_of (numbers_of v.members) k j c.requires.here.0 c.requires.apart;
    } in
    let numbers = recs_are origin (length cs) s1 v c.requires.first in
    let apart = subst Distinct (sym in1.fits_in.recs_are) in1.fits_in.fits.fits.apart in
    let low : j.0 < length cs = subst (λ (x : SubId). x.0 < length cs) t.told2.sub (in2.fits_in.placed m t.told2.before t.told2.at).1 in
    let few = seat_left v.number (length cs) v.recs j apart in1.fits_in.placed (ap (is_member j) numbers ∙ c.requires.apart) low c.requires.cards in
    let size = sym (length_map (λ (x : Member AnyCard ghosts). x.sub) v.members) ∙ ap length (sym numbers) ∙ length_map sub_of v.recs in
    let same = ap (λ (x : Group AnyCard ghosts). length (members_in x)) c.tell_link-told.ensures.first_same.0 in
    omega (arith, few, size, same)

pub returns-clause-joined : goal.returns-clause-joined
returns-clause-joined g c = λ xs ys in1 in2.
    let cs = g.N.FloorName.cards in
    let long_max = g.N.FloorName.long_max in
    let origin = fresh_streams cs long_max in
    let v = view_of c.args.first.now in
    let w = view_of c.args.second.now in
    let s1 = c.args.first.now.serial in
    let s2 = c.args.second.now.serial in
    let k = c.args.from in
    let j = c.args.to in
    let i = c.place_of-own.result in
    let m = c.place_of-other.result in
    let told = c.tell_link-told.result in
    let now = c.tell_link-told.new.first.recs.items in
    let now2 = c.tell_link-told.new.second.recs.items in
    let p = c.args.pass.now in
    let p' = c.tell_link-told.new.pass in
    let t : ToldBoth cs long_max s1 s2 xs ys v w now now2 c.args.client k j i m told.link told.one told.two told.receipt p p' = record {
      fits = in1.fits_in;
      fits2 = in2.fits_in;
      told = c.tell_link-told.ensures.first xs in1.stand;
      told2 = c.tell_link-told.ensures.second ys in2.stand;
      link_is = c.tell_link-told.ensures.link;
      linked = c.tell_link-told.ensures.linked;
      apart = apart_of (numbers_of v.members) k j c.requires.here.0 c.requires.apart;
    } in
    let ok : is_ok told.link.reply ≡ true = sym c.is_ok.ensures ∙ c.if-not-is_ok.false in
    let recs = second_recs cs long_max s1 s2 xs ys v w now now2 c.args.client k j i m told.link told.one told.two told.receipt p p' t ok in
    let came = c.join-woken.ensures.recs t.told2.after recs.1 in
    let books = c.join-woken.ensures.books t.told2.after recs.1 in
    let one = c.tell_link-told.ensures.first_same in
    let two = c.tell_link-told.ensures.second_same in
    let v' = view_of c.join-woken.new.first in
    let w' = view_of c.join-woken.new.second in
    let q3 = came.0 in
    let moved : HasMoved t.told2.after q3 v.number told.two told.receipt = subst (λ (n : ℕ). HasMoved t.told2.after q3 n told.two told.receipt) one.2 came.2 in
    let sub = second_sub cs long_max s1 s2 xs ys v w now now2 c.args.client k j i m told.link told.one told.two told.receipt p p' t in
    let book : v'.book ≡ v.book ++ In j ∷ [] = books.0 ∙ ap (λ (z : List BookEntry × SubId). z.0 ++ In z.1 ∷ []) (λ n. (one.1 n, sub n)) in
    let book2 : w'.book ≡ w.book ++ Out j ∷ [] = books.1 ∙ ap (λ (z : List BookEntry × SubId). z.0 ++ Out z.1 ∷ []) (λ n. (two.1 n, sub n)) in
    let stand : AllStandFor (members_in c.tell_link-told.new.first.group) xs = subst (λ (x : Group AnyCard ghosts). AllStandFor (members_in x) xs) (sym one.0) in1.stand in
    let stand2 : AllStandFor (members_in c.tell_link-told.new.second.group) ys = subst (λ (x : Group AnyCard ghosts). AllStandFor (members_in x) ys) (sym two.0) in2.stand in
    both_joined cs long_max s1 s2 xs ys v w now now2 c.args.client k j i m told.link told.one told.two told.receipt p p' t v' w' c.join-woken.result q3 ok came.1 moved book book2 (c.join-woken.ensures.woken xs ys stand stand2)

pub returns-clause-members : goal.returns-clause-members
returns-clause-members g c = λ xs ys in1 in2.
    let cs = g.N.FloorName.cards in
    let long_max = g.N.FloorName.long_max in
    let origin = fresh_streams cs long_max in
    let v = view_of c.args.first.now in
    let w = view_of c.args.second.now in
    let s1 = c.args.first.now.serial in
    let s2 = c.args.second.now.serial in
    let k = c.args.from in
    let j = c.args.to in
    let i = c.place_of-own.result in
    let m = c.place_of-other.result in
    let told = c.tell_link-told.result in
    let now = c.tell_link-told.new.first.recs.items in
    let now2 = c.tell_link-told.new.second.recs.items in
    let p = c.args.pass.now in
    let p' = c.tell_link-told.new.pass in
    let t : ToldBoth cs long_max s1 s2 xs ys v w now now2 c.args.client k j i m told.link told.one told.two told.receipt p p' = record {
      fits = in1.fits_in;
      fits2 = in2.fits_in;
      told = c.tell_link-told.ensures.first xs in1.stand;
      told2 = c.tell_link-told.ensures.second ys in2.stand;
      link_is = c.tell_link-told.ensures.link;
      linked = c.tell_link-told.ensures.linked;
      apart = apart_of (numbers_of v.members) k j c.requires.here.0 c.requires.apart;
    } in
    let ok : is_ok told.link.reply ≡ true = sym c.is_ok.ensures ∙ c.if-not-is_ok.false in
    let recs = second_recs cs long_max s1 s2 xs ys v w now now2 c.args.client k j i m told.link told.one told.two told.receipt p p' t ok in
    let came = c.join-woken.ensures.recs t.told2.after recs.1 in
    let books = c.join-woken.ensures.books t.told2.after recs.1 in
    let one = c.tell_link-told.ensures.first_same in
    let two = c.tell_link-told.ensures.second_same in
    let v' = view_of c.join-woken.new.first in
    let w' = view_of c.join-woken.new.second in
    let q3 = came.0 in
    let moved : HasMoved t.told2.after q3 v.number told.two told.receipt = subst (λ (n : ℕ). HasMoved t.told2.after q3 n told.two told.receipt) one.2 came.2 in
    let sub = second_sub cs long_max s1 s2 xs ys v w now now2 c.args.client k j i m told.link told.one told.two told.receipt p p' t in
    let book : v'.book ≡ v.book ++ In j ∷ [] = books.0 ∙ ap (λ (z : List BookEntry × SubId). z.0 ++ In z.1 ∷ []) (λ n. (one.1 n, sub n)) in
    let book2 : w'.book ≡ w.book ++ Out j ∷ [] = books.1 ∙ ap (λ (z : List BookEntry × SubId). z.0 ++ Out z.1 ∷ []) (λ n. (two.1 n, sub n)) in
    let stand : AllStandFor (members_in c.tell_link-told.new.first.group) xs = subst (λ (x : Group AnyCard ghosts). AllStandFor (members_in x) xs) (sym one.0) in1.stand in
    let stand2 : AllStandFor (members_in c.tell_link-told.new.second.group) ys = subst (λ (x : Group AnyCard ghosts). AllStandFor (members_in x) ys) (sym two.0) in2.stand in
    let laws = c.moves.ensures in
    let high : 16 ≤ v.number = elim c.requires.group [ inl h ↦ h | inr h ↦ (let low = second_low cs long_max s1 s2 xs ys v w now now2 c.args.client k j i m told.link told.one told.two told.receipt p p' t ok in absurd (omega (arith, h, low))) ] in
    let none : is_member j (subs xs) ≡ false = ap (is_member j) (numbers_are v.members xs in1.stand) ∙ c.requires.apart in
    let stands = c.join-woken.ensures.stands xs ys stand stand2 in
    let fits = joined_fits cs long_max s1 s2 xs ys v w now now2 c.args.client k j i m told.link told.one told.two told.receipt p p' t laws.entries laws.log laws.change laws.coming laws.streams c.links.ensures.wakes c.steps.ensures.wake v' q3 ok high none came.1 moved book (all_distinct v'.members (wake (wake xs ++ wake ys)) stands) in
    let a = in_again origin (length cs) s1 c.join-woken.new.first.serial v v' v'.book (wake (wake xs ++ wake ys)) (c.join-woken.ensures.serials.0 ∙ one.3) (c.join-woken.ensures.numbers.0 ∙ one.2) refl stands fits in
    let gone = c.join-woken.ensures.gone in
    let nobody : AllStandFor w'.members [] = subst (λ (l : List (Member AnyCard ghosts)). AllStandFor l []) (sym gone.1) tt in
    let left = subst (λ (rs : List RecView). FitsIn origin (length cs) s2 w.number [] rs w'.book) (sym gone.0) (second_gone cs long_max s1 s2 xs ys v w now now2 c.args.client k j i m told.link told.one told.two told.receipt p p' t laws.going ok w'.book book2) in
    let b = in_again origin (length cs) s2 c.join-woken.new.second.serial w w' w'.book [] (c.join-woken.ensures.serials.1 ∙ two.3) (c.join-woken.ensures.numbers.1 ∙ two.2) refl nobody left in (
      subst (λ (zs : List ModelMember). IsIn origin (length cs) c.join-woken.new.first.serial v' zs) (sym (ap (λ (z : Bool). cond z (wake (wake xs ++ wake ys)) xs) ok)) a,
      subst (λ (zs : List ModelMember). IsIn origin (length cs) c.join-woken.new.second.serial w' zs) (sym (ap (λ (z : Bool). cond z [] ys) ok)) b,
    )

pub returns-clause-pass : goal.returns-clause-pass
returns-clause-pass g c =
    let cs = g.N.FloorName.cards in
    let long_max = g.N.FloorName.long_max in
    let origin = fresh_streams cs long_max in
    let v = view_of c.args.first.now in
    let w = view_of c.args.second.now in
    let s1 = c.args.first.now.serial in
    let s2 = c.args.second.now.serial in
    let k = c.args.from in
    let j = c.args.to in
    let i = c.place_of-own.result in
    let m = c.place_of-other.result in
    let told = c.tell_link-told.result in
    let now = c.tell_link-told.new.first.recs.items in
    let now2 = c.tell_link-told.new.second.recs.items in
    let p = c.args.pass.now in
    let p' = c.tell_link-told.new.pass in
    let xs = c.requires.first.streams in
    let ys = c.requires.second.streams in
    let in1 : IsIn origin (length cs) s1 v xs = record { stand = c.requires.first.stand; fits_in = c.requires.first.fits_in } in
    let in2 : IsIn origin (length cs) s2 w ys = record { stand = c.requires.second.stand; fits_in = c.requires.second.fits_in } in
    let t : ToldBoth cs long_max s1 s2 xs ys v w now now2 c.args.client k j i m told.link told.one told.two told.receipt p p' = record {
      fits = in1.fits_in;
      fits2 = in2.fits_in;
      told = c.tell_link-told.ensures.first xs in1.stand;
      told2 = c.tell_link-told.ensures.second ys in2.stand;
      link_is = c.tell_link-told.ensures.link;
      linked = c.tell_link-told.ensures.linked;
      apart = apart_of (numbers_of v.members) k j c.requires.here.0 c.requires.apart;
    } in
    both_known cs long_max s1 s2 xs ys v w now now2 c.args.client k j i m told.link told.one told.two told.receipt p p' t c.moves.ensures.entries c.moves.ensures.log

pub returns-clause-receipt : goal.returns-clause-receipt
returns-clause-receipt g c =
    let cs = g.N.FloorName.cards in
    let long_max = g.N.FloorName.long_max in
    let origin = fresh_streams cs long_max in
    let v = view_of c.args.first.now in
    let w = view_of c.args.second.now in
    let s1 = c.args.first.now.serial in
    let s2 = c.args.second.now.serial in
    let k = c.args.from in
    let j = c.args.to in
    let i = c.place_of-own.result in
    let m = c.place_of-other.result in
    let told = c.tell_link-told.result in
    let now = c.tell_link-told.new.first.recs.items in
    let now2 = c.tell_link-told.new.second.recs.items in
    let p = c.args.pass.now in
    let p' = c.tell_link-told.new.pass in
    let xs = c.requires.first.streams in
    let ys = c.requires.second.streams in
    let in1 : IsIn origin (length cs) s1 v xs = record { stand = c.requires.first.stand; fits_in = c.requires.first.fits_in } in
    let in2 : IsIn origin (length cs) s2 w ys = record { stand = c.requires.second.stand; fits_in = c.requires.second.fits_in } in
    let t : ToldBoth cs long_max s1 s2 xs ys v w now now2 c.args.client k j i m told.link told.one told.two told.receipt p p' = record {
      fits = in1.fits_in;
      fits2 = in2.fits_in;
      told = c.tell_link-told.ensures.first xs in1.stand;
      told2 = c.tell_link-told.ensures.second ys in2.stand;
      link_is = c.tell_link-told.ensures.link;
      linked = c.tell_link-told.ensures.linked;
      apart = apart_of (numbers_of v.members) k j c.requires.here.0 c.requires.apart;
    } in
    receipt_is cs long_max s1 s2 xs ys v w now now2 c.args.client k j i m told.link told.one told.two told.receipt p p' t

use Rattle.std.specs.Prelude.{not}
use Rattle.std.proofs.Common.{◌≡◌, ◌<◌, ℕ, Bool, true, false, nat_le, List, [], ◌∷◌, length, slice_set, refl, sym, ap, ◌∙◌, subst, arith}
use Rattle.std.proofs.lemmas.Bool.Decides.{nat_tests}
use Rattle.pcm_base.specs.declared.ids.SubId.{SubId}
use Rattle.pcm_base.specs.declared.state.Errno.TheVariants as errno
use Rattle.pcm_base.specs.declared.state.State.{State}
use Rattle.pcm_base.specs.model.Group.{stream_of}
use Rattle.pcm_base.specs.model.Stream.{Stream}
use Rattle.pcm_base.specs.model.Words.{when, ◌then◌, is_closed}
use Rattle.pcm_group.specs.Inside.{members_in}
use Rattle.pcm_group.specs.declared.group.Group.{Group}
use Rattle.card_emul.specs.declared.any_card.AnyCard.{AnyCard}
use Rattle.card_emul.specs.contracts.any_card.AnyCardCard.TheImpl.{ghosts}
use Rattle.pcm_stream.specs.Members.{numbers_of}
use Rattle.pcm_stream.specs.MembersStand.{AllStandFor}
use Rattle.room_book.specs.Logs.{answered, is_ok}
use Rattle.room_book.specs.Rooms.{fresh_streams}
use Rattle.room_book.specs.declared.book.BookEntry.{BookEntry}
use Rattle.floor_rule.specs.declared.rule.Marked.{Marked}
use Rattle.room_parts.specs.Recs.{RecView, sub_of}
use Rattle.room_lock.specs.InRoom.{FitsIn, InRoom, IsIn, RoomView}
use Rattle.room_lock.specs.Inside.{view_of}
use Rattle.room_lock.specs.Staying.{IsUnlinkTold, unlink_by, unlink_reply}
use Rattle.room_lock.specs.Turning.{logs_of}
use Rattle.room_lock.proofs.JoinedLemmas.{only_one}
use Rattle.room_lock.proofs.LinkLemmas.{room_fits, standing_of}
use Rattle.room_lock.proofs.MemberLemmas.{numbers_are}
use Rattle.room_lock.proofs.TellingLemmas.{Alone, alone_rec, first_is}
use Rattle.room_lock.proofs.ToldLemmas.{distinct_recs, log_of_rec}
use Rattle.room_lock.proofs.UnlinkLemmas.{unlink_known, unlink_stays, unlinked_log}
use Rattle.room_lock.proofs.unlinking.tell_alone.Goals as goal

-- the only rec
here_of : (origin : SubId → Stream) (cards serial : ℕ) (v : RoomView) (k : SubId) → InRoom origin cards serial v → numbers_of v.members ≡ k ∷ [] → Alone v.recs k
here_of origin cards serial v k h here = alone_rec v.recs k (h.fits_in.recs_are ∙ numbers_are v.members h.streams h.stand ∙ here)

refused_low : (s : State) (number : ℕ) → number < 16 → is_ok (unlink_reply s number) ≡ false
refused_low s number low =
    let test : nat_le 16 number ≡ false = grind (arith, nat_tests, low) in by (is_closed s) (nat_le 16 number) test
  where
    by : (b d : Bool) → d ≡ false → is_ok (answered (when b errno.Enxio then when (not d) errno.Ealready)) ≡ false
    by true d e = refl
    by false false e = refl
    by false true e = absurd (let no : ⊥ = cc in no)

pub tell_unlink-told-requires-clause-place : goal.tell_unlink-told-requires-clause-place
tell_unlink-told-requires-clause-place g c =
    let a = here_of (fresh_streams g.N.FloorName.cards g.N.FloorName.long_max) (length g.N.FloorName.cards) c.args.room.now.serial (view_of c.args.room.now) c.args.sub c.requires.fits c.requires.here in
    let size = ap length a.recs in
    omega (arith, size)

pub tell_unlink-told-requires-clause-members : goal.tell_unlink-told-requires-clause-members
tell_unlink-told-requires-clause-members g c =
    sym (c.requires.fits.fits_in.recs_are ∙ numbers_are (members_in c.args.room.now.group) c.requires.fits.streams c.requires.fits.stand)

pub tell_unlink-told-requires-clause-sub : goal.tell_unlink-told-requires-clause-sub
tell_unlink-told-requires-clause-sub g c = λ r at.
    let v = view_of c.args.room.now in
    let a = here_of (fresh_streams g.N.FloorName.cards g.N.FloorName.long_max) (length g.N.FloorName.cards) c.args.room.now.serial v c.args.sub c.requires.fits c.requires.here in
    let one = only_one v.recs c.args.sub 0 r a at in
    let there = first_is v.recs c.args.sub a in
    let same : a.rec ≡ r = cc in
    (ap sub_of (sym same) ∙ a.sub, (c.requires.fits.fits_in.placed 0 r at).1)

pub tell_unlink-told-requires-clause-room : goal.tell_unlink-told-requires-clause-room
tell_unlink-told-requires-clause-room g c = λ r at. c.requires.room 0 r at

pub returns-clause-told : goal.returns-clause-told
returns-clause-told g c = λ xs here.
    let cs = g.N.FloorName.cards in
    let long_max = g.N.FloorName.long_max in
    let origin = fresh_streams cs long_max in
    let v = view_of c.args.room.now in
    let serial = c.args.room.now.serial in
    let k = c.args.sub in
    let told = c.tell_unlink-told.result in
    let now = c.tell_unlink-told.new.room.recs.items in
    let p = c.args.pass.now in
    let q = c.tell_unlink-told.new.pass in
    let a : Alone v.recs k = here_of origin (length cs) serial v k c.requires.fits c.requires.here in
    let t : IsUnlinkTold 0 (unlink_by c.args.client k) told.reply told.page xs v.recs now p q told.receipt = c.tell_unlink-told.ensures.told xs here.stand in
    let stand = standing_of origin (length cs) serial v.number xs v.recs v.book here.fits_in in
    let apart = distinct_recs origin (length cs) serial v.number xs v.recs v.book stand in
    let is : told.reply ≡ unlink_reply told.page.state v.number = c.tell_unlink-told.ensures.reply in
    let one = only_one v.recs k 0 t.before a t.at in
    let reply_is : told.reply ≡ unlink_reply (stream_of k xs).state v.number = is ∙ ap (λ (s : State). unlink_reply s v.number) t.shows.state in
    let no : is_ok told.reply ≡ false = ap is_ok is ∙ refused_low told.page.state v.number c.requires.lone in
    let laws = c.moves.ensures in
    let same = c.tell_unlink-told.ensures.same in
    let stays = unlink_stays 0 c.args.client k told.reply told.page xs v.recs now p q told.receipt t laws.entries laws.log laws.change origin (length cs) serial v.number v.book stand is no in
    let now_is : now ≡ t.recorded.rec ∷ [] = t.recorded.recs ∙ ap (λ (l : List RecView). slice_set l 0 t.recorded.rec) one.1 in
    let fits = room_fits origin (length cs) serial v.number xs now v.book stays here.fits_in.fits.size here.fits_in.fits.asleep in (
      record {
        reply_is = reply_is;
        logs = ap logs_of now_is ∙ ap (λ (l : List Marked). l ∷ []) (unlinked_log 0 c.args.client k told.reply told.page xs v.recs now p q told.receipt t apart);
        book = same.1;
        woken = refl;
      },
      record {
        stand = subst (λ (x : Group AnyCard ghosts). AllStandFor (members_in x) xs) (sym same.0) here.stand;
        fits_in = subst (λ (z : ℕ × ℕ × List BookEntry). FitsIn origin (length cs) z.0 z.1 xs now z.2) (λ i. (sym same.3 i, sym same.2 i, sym same.1 i)) fits;
      },
    )

pub returns-clause-pass : goal.returns-clause-pass
returns-clause-pass g c =
    let cs = g.N.FloorName.cards in
    let long_max = g.N.FloorName.long_max in
    let origin = fresh_streams cs long_max in
    let v = view_of c.args.room.now in
    let serial = c.args.room.now.serial in
    let k = c.args.sub in
    let told = c.tell_unlink-told.result in
    let now = c.tell_unlink-told.new.room.recs.items in
    let p = c.args.pass.now in
    let q = c.tell_unlink-told.new.pass in
    let a : Alone v.recs k = here_of origin (length cs) serial v k c.requires.fits c.requires.here in
    let xs = c.requires.fits.streams in
    let here : IsIn origin (length cs) serial v xs = record { stand = c.requires.fits.stand; fits_in = c.requires.fits.fits_in } in
    let t : IsUnlinkTold 0 (unlink_by c.args.client k) told.reply told.page xs v.recs now p q told.receipt = c.tell_unlink-told.ensures.told xs here.stand in
    let stand = standing_of origin (length cs) serial v.number xs v.recs v.book here.fits_in in
    let apart = distinct_recs origin (length cs) serial v.number xs v.recs v.book stand in
    let is : told.reply ≡ unlink_reply told.page.state v.number = c.tell_unlink-told.ensures.reply in
    unlink_known c.moves.ensures.entries c.moves.ensures.log cs long_max serial v.number v.book 0 c.args.client k told.reply told.page xs v.recs now p q told.receipt stand t is

pub returns-clause-receipt : goal.returns-clause-receipt
returns-clause-receipt g c =
    let cs = g.N.FloorName.cards in
    let long_max = g.N.FloorName.long_max in
    let origin = fresh_streams cs long_max in
    let v = view_of c.args.room.now in
    let serial = c.args.room.now.serial in
    let k = c.args.sub in
    let told = c.tell_unlink-told.result in
    let now = c.tell_unlink-told.new.room.recs.items in
    let p = c.args.pass.now in
    let q = c.tell_unlink-told.new.pass in
    let a : Alone v.recs k = here_of origin (length cs) serial v k c.requires.fits c.requires.here in
    let xs = c.requires.fits.streams in
    let here : IsIn origin (length cs) serial v xs = record { stand = c.requires.fits.stand; fits_in = c.requires.fits.fits_in } in
    let t : IsUnlinkTold 0 (unlink_by c.args.client k) told.reply told.page xs v.recs now p q told.receipt = c.tell_unlink-told.ensures.told xs here.stand in
    let stand = standing_of origin (length cs) serial v.number xs v.recs v.book here.fits_in in
    let apart = distinct_recs origin (length cs) serial v.number xs v.recs v.book stand in
    let is : told.reply ≡ unlink_reply told.page.state v.number = c.tell_unlink-told.ensures.reply in
    (t.receipt_is.0, t.receipt_is.1 ∙ ap length (sym (log_of_rec v.recs 0 t.before k apart t.at t.sub)))

use Rattle.std.proofs.Common.{◌<◌, ℕ, List, length, sym, ap, ◌∙◌, subst}
use Rattle.card_emul.specs.declared.any_card.AnyCard.{AnyCard}
use Rattle.card_emul.specs.contracts.any_card.AnyCardCard.TheImpl.{ghosts}
use Rattle.pcm_base.specs.declared.ids.SubId.{SubId}
use Rattle.pcm_base.specs.model.Replay.{is_member}
use Rattle.pcm_stream.specs.MembersStand.{AllStandFor}
use Rattle.pcm_group.specs.Inside.{members_in}
use Rattle.pcm_group.specs.declared.group.Group.{Group}
use Rattle.floor_rule.specs.declared.rule.RecKnows.{RecKnows}
use Rattle.room_book.specs.Rooms.{fresh_streams}
use Rattle.room_book.specs.declared.book.BookEntry.{BookEntry}
use Rattle.room_lock.specs.InRoom.{FitsIn}
use Rattle.room_lock.specs.Turned.{IsTurned}
use Rattle.room_lock.proofs.MemberLemmas.{numbers_are}
use Rattle.room_lock.proofs.ReadyLemmas.{fits_known, known_at}
use Rattle.pcm_base.specs.model.Group.{stream_of}
use Rattle.pcm_base.specs.model.Replay.{reading_length}
use Rattle.room_book.specs.Laws.{step_of}
use Rattle.room_book.specs.Logs.{client_of}
use Rattle.room_lock.proofs.DoneLemmas.{lent_front}
use Rattle.room_lock.proofs.TurnLemmas.{fits_refused, on_done, on_full, short_full, size_known}
use Rattle.room_lock.proofs.contents.Contents.turn.Goals as goal

pub returns-in-Some-clause-fits : goal.returns-in-Some-clause-fits
returns-in-Some-clause-fits g c =
    let rs = c.args.self.now.recs.items in
    let ms = members_in c.args.self.now.group in
    let e = c.args.event.now in
    let room = c.requires.fits.fits_in in
    let xs = c.requires.fits.streams in
    let st = c.requires.fits.stand in
    record {
      streams = xs;
      stand = st;
      fits_in = on_full c.refuse.result _ _ c.refuse.ensures.full c.refuse.ensures.refused
          (λ sub count no. fits_refused (fresh_streams g.N.FloorName.cards g.N.FloorName.long_max) (length g.N.FloorName.cards) c.args.self.now.serial c.args.self.now.number xs rs c.refuse.new.recs.items c.args.self.now.book.items no.logs no.subs no.places room);
    }

pub place_of-own-requires : goal.place_of-own-requires
place_of-own-requires g c =
    let rs = c.args.self.now.recs.items in
    let ms = members_in c.args.self.now.group in
    let e = c.args.event.now in
    let room = c.requires.fits.fits_in in
    let xs = c.requires.fits.streams in
    let st = c.requires.fits.stand in
    ap (λ (l : List SubId). is_member e.sub l) (room.recs_are ∙ numbers_are ms xs st) ∙ c.requires.here

pub prepare-requires-clause-members : goal.prepare-requires-clause-members
prepare-requires-clause-members g c =
    let rs = c.args.self.now.recs.items in
    let ms = members_in c.args.self.now.group in
    let e = c.args.event.now in
    let room = c.requires.fits.fits_in in
    let xs = c.requires.fits.streams in
    let st = c.requires.fits.stand in
    room.recs_are ∙ numbers_are ms xs st

pub make-requires-clause-sub : goal.make-requires-clause-sub
make-requires-clause-sub g c =
    let rs = c.args.self.now.recs.items in
    λ a at. (let old = known_at rs c.prepare.new.self.recs.items c.place_of-own.result a c.prepare.ensures.recs at in ap (λ (k : RecKnows). let j : SubId = record { 0 = k.sub } in j) old.2 ∙ c.place_of-own.ensures.number old.0 old.1)

pub make-requires-clause-fits : goal.make-requires-clause-fits
make-requires-clause-fits g c =
    let rs = c.args.self.now.recs.items in
    let ms = members_in c.args.self.now.group in
    let e = c.args.event.now in
    let room = c.requires.fits.fits_in in
    let xs = c.requires.fits.streams in
    let st = c.requires.fits.stand in
    let was = c.prepare.ensures in
    let ts = c.prepare.new.self.recs.items in
    let known : FitsIn (fresh_streams g.N.FloorName.cards g.N.FloorName.long_max) (length g.N.FloorName.cards) c.prepare.new.self.serial c.prepare.new.self.number xs ts c.prepare.new.self.book.items =
    subst (λ (z : ℕ × ℕ × List BookEntry). FitsIn (fresh_streams g.N.FloorName.cards g.N.FloorName.long_max) (length g.N.FloorName.cards) z.0 z.1 xs ts z.2) (λ j. (sym was.number.1 j, sym was.number.0 j, sym was.book j))
    (fits_known (fresh_streams g.N.FloorName.cards g.N.FloorName.long_max) (length g.N.FloorName.cards) c.args.self.now.serial c.args.self.now.number xs rs ts c.args.self.now.book.items was.recs room) in
    let stands = subst (λ (x : Group AnyCard ghosts). AllStandFor (members_in x) xs) (sym was.group) st in
    record { streams = xs; stand = stands; fits_in = known }

pub returns-in-None-clause-fits : goal.returns-in-None-clause-fits
returns-in-None-clause-fits g c =
    let rs = c.args.self.now.recs.items in
    let ms = members_in c.args.self.now.group in
    let e = c.args.event.now in
    let room = c.requires.fits.fits_in in
    let xs = c.requires.fits.streams in
    let st = c.requires.fits.stand in
    let was = c.prepare.ensures in
    let ts = c.prepare.new.self.recs.items in
    let known : FitsIn (fresh_streams g.N.FloorName.cards g.N.FloorName.long_max) (length g.N.FloorName.cards) c.prepare.new.self.serial c.prepare.new.self.number xs ts c.prepare.new.self.book.items =
    subst (λ (z : ℕ × ℕ × List BookEntry). FitsIn (fresh_streams g.N.FloorName.cards g.N.FloorName.long_max) (length g.N.FloorName.cards) z.0 z.1 xs ts z.2) (λ j. (sym was.number.1 j, sym was.number.0 j, sym was.book j))
    (fits_known (fresh_streams g.N.FloorName.cards g.N.FloorName.long_max) (length g.N.FloorName.cards) c.args.self.now.serial c.args.self.now.number xs rs ts c.args.self.now.book.items was.recs room) in
    let stands = subst (λ (x : Group AnyCard ghosts). AllStandFor (members_in x) xs) (sym was.group) st in
    record { streams = xs; stand = stands; fits_in = known }

pub returns-in-None-clause-full : goal.returns-in-None-clause-full
returns-in-None-clause-full g c =
    λ k is. absurd (short_full c.args.self.now.recs.items k c.in_default.ensures.none is)

pub returns-in-Some-prepare-clause-full : goal.returns-in-Some-prepare-clause-full
returns-in-Some-prepare-clause-full g c =
    λ k is. absurd (short_full c.args.self.now.recs.items k c.in_default.ensures.none is)

pub returns-in-Some-prepare-clause-done : goal.returns-in-Some-prepare-clause-done
returns-in-Some-prepare-clause-done g c =
    λ xs room st.
    let rs = c.args.self.now.recs.items in
    let e = c.args.event.now in
    let was = c.prepare.ensures in
    let ts = c.prepare.new.self.recs.items in
    let known : FitsIn (fresh_streams g.N.FloorName.cards g.N.FloorName.long_max) (length g.N.FloorName.cards) c.prepare.new.self.serial c.prepare.new.self.number xs ts c.prepare.new.self.book.items =
    subst (λ (z : ℕ × ℕ × List BookEntry). FitsIn (fresh_streams g.N.FloorName.cards g.N.FloorName.long_max) (length g.N.FloorName.cards) z.0 z.1 xs ts z.2) (λ j. (sym was.number.1 j, sym was.number.0 j, sym was.book j))
    (fits_known (fresh_streams g.N.FloorName.cards g.N.FloorName.long_max) (length g.N.FloorName.cards) c.args.self.now.serial c.args.self.now.number xs rs ts c.args.self.now.book.items was.recs room) in
    let stands = subst (λ (x : Group AnyCard ghosts). AllStandFor (members_in x) xs) (sym was.group) st in
    on_done c.make.result _ _
    (λ reply receipt woken did. record {
      place = c.place_of-own.result;
      ready = ts;
      lent = c.in-Some-prepare.plan.lent;
      known = was.recs;
      here = subst (λ (n : ℕ). c.place_of-own.result < n) (sym (size_known rs ts was.recs)) c.place_of-own.ensures.below;
      own = λ a at. (let old = known_at rs c.prepare.new.self.recs.items c.place_of-own.result a c.prepare.ensures.recs at in ap (λ (k : RecKnows). let j : SubId = record { 0 = k.sub } in j) old.2 ∙ c.place_of-own.ensures.number old.0 old.1);
      lent_is = (c.in-Some-prepare.ensures.plan xs st).lent;
      turned = subst (λ (z : ℕ × ℕ × List BookEntry). IsTurned e c.args.io.now c.make.new.io c.in-Some-prepare.plan.lent xs c.place_of-own.result z.0 z.1 ts c.make.new.self.recs.items z.2 c.make.new.self.book.items (members_in c.make.new.self.group) c.args.pass.now c.make.new.pass reply receipt woken)
          (λ j. (was.number.0 j, (was.number.1 ∙ room.acts) j, was.book j)) did;
    }) (c.make.ensures.done xs known stands)

pub returns-in-Some-prepare-clause-fit : goal.returns-in-Some-prepare-clause-fit
returns-in-Some-prepare-clause-fit g c =
    λ xs room st.
    let rs = c.args.self.now.recs.items in
    let e = c.args.event.now in
    let was = c.prepare.ensures in
    let ts = c.prepare.new.self.recs.items in
    let known : FitsIn (fresh_streams g.N.FloorName.cards g.N.FloorName.long_max) (length g.N.FloorName.cards) c.prepare.new.self.serial c.prepare.new.self.number xs ts c.prepare.new.self.book.items =
    subst (λ (z : ℕ × ℕ × List BookEntry). FitsIn (fresh_streams g.N.FloorName.cards g.N.FloorName.long_max) (length g.N.FloorName.cards) z.0 z.1 xs ts z.2) (λ j. (sym was.number.1 j, sym was.number.0 j, sym was.book j))
    (fits_known (fresh_streams g.N.FloorName.cards g.N.FloorName.long_max) (length g.N.FloorName.cards) c.args.self.now.serial c.args.self.now.number xs rs ts c.args.self.now.book.items was.recs room) in
    let stands = subst (λ (x : Group AnyCard ghosts). AllStandFor (members_in x) xs) (sym was.group) st in
    let client = client_of e.client in
    on_done c.make.result _ _
    (λ reply receipt woken f. subst (λ (l : List ℕ). FitsIn (fresh_streams g.N.FloorName.cards g.N.FloorName.long_max) (length g.N.FloorName.cards) c.make.new.self.serial c.make.new.self.number (step_of e l xs).members c.make.new.self.recs.items c.make.new.self.book.items)
    (lent_front (reading_length e.call client (stream_of e.sub xs)) c.args.io.now c.in-Some-prepare.plan.lent (c.in-Some-prepare.ensures.plan xs st).lent) f) (c.make.ensures.fit xs known stands)

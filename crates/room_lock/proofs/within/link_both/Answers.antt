use Rattle.std.proofs.Common.{◌≡◌, length, refl, ap, ◌∙◌}
use Rattle.std.proofs.lemmas.Option.{slice_get_within}
use Rattle.room_book.specs.Rooms.{fresh_streams}
use Rattle.room_lock.specs.Answers.{log_in}
use Rattle.room_lock.specs.InRoom.{InRoom}
use Rattle.room_lock.specs.Inside.{view_of}
use Rattle.room_lock.proofs.KnownLemmas.{Knows, in_known, in_room, log_in_known, room_in, room_known}
use Rattle.room_lock.proofs.RoomLemmas.{full_of, memory_of, on_all}
use Rattle.room_lock.proofs.TurnLemmas.{fits_refused, on_done, on_full, short_full}
use Rattle.room_lock.proofs.WithinLemmas.{within_same}
use Rattle.room_lock.proofs.within.link_both.Goals as goal

pub returns-in-Some-clause-fits : goal.returns-in-Some-clause-fits
returns-in-Some-clause-fits g c =
    let cs = g.N.FloorName.cards in
    let origin = fresh_streams cs g.N.FloorName.long_max in
    record {
      streams = c.requires.fits.streams;
      stand = c.requires.fits.stand;
      fits_in = on_full c.refuse.result _ _ c.refuse.ensures.full c.refuse.ensures.refused
          (λ sub count no. fits_refused origin (length cs) c.args.room.now.serial c.args.room.now.number c.requires.fits.streams c.args.room.now.recs.items c.refuse.new.recs.items c.args.room.now.book.items no.logs no.subs no.places c.requires.fits.fits_in);
    }

pub tell_both-requires-clause-fits : goal.tell_both-requires-clause-fits
tell_both-requires-clause-fits g c =
    let cs = g.N.FloorName.cards in
    let long_max = g.N.FloorName.long_max in
    let origin = fresh_streams cs long_max in
    let v = view_of c.args.room.now in
    let w = record v { recs = c.reserve_all.new.recs.items } in
    let serial = c.args.room.now.serial in
    let known : Knows serial serial v w = record { serial = refl; number = refl; members = refl; recs = c.reserve_all.ensures.same; book = refl } in
    room_in origin (length cs) serial w c.requires.fits.streams (in_known origin (length cs) serial serial v w c.requires.fits.streams known (in_room origin (length cs) serial v c.requires.fits))

pub tell_both-requires-clause-room : goal.tell_both-requires-clause-room
tell_both-requires-clause-room g c =
    let ts = c.reserve_all.new.recs.items in
    room_known c.args.room.now.recs.items ts c.reserve_all.ensures.same c.in_default.ensures.none (λ i r at. c.in-Ok.ensures.spare i r (slice_get_within ts i r at) at)

pub returns-in-Ok-clause-fits : goal.returns-in-Ok-clause-fits
returns-in-Ok-clause-fits g c =
    let cs = g.N.FloorName.cards in
    let long_max = g.N.FloorName.long_max in
    let origin = fresh_streams cs long_max in
    let v = view_of c.args.room.now in
    let w = record v { recs = c.reserve_all.new.recs.items } in
    let serial = c.args.room.now.serial in
    let known : Knows serial serial v w = record { serial = refl; number = refl; members = refl; recs = c.reserve_all.ensures.same; book = refl } in
    let told = c.tell_both.ensures.told c.requires.fits.streams (in_known origin (length cs) serial serial v w c.requires.fits.streams known (in_room origin (length cs) serial v c.requires.fits)) in
    let P : Type 0 = InRoom origin (length cs) c.tell_both.new.room.serial (view_of c.tell_both.new.room) in
    on_all c.tell_both.result P
    (on_done c.tell_both.result _ (λ reply receipt woken. P) (λ reply receipt woken m. room_in origin (length cs) c.tell_both.new.room.serial (view_of c.tell_both.new.room) _ m.1) told)
    (full_of c.tell_both.result (λ sub count. ⊥) (λ sub count. P) (λ sub count no. absurd no) c.tell_both.ensures.done.0)
    (memory_of c.tell_both.result ⊥ P (λ no. absurd no) c.tell_both.ensures.done.1)

pub returns-in-Ok-clause-told : goal.returns-in-Ok-clause-told
returns-in-Ok-clause-told g c = λ xs here.
    let cs = g.N.FloorName.cards in
    let long_max = g.N.FloorName.long_max in
    let origin = fresh_streams cs long_max in
    let v = view_of c.args.room.now in
    let w = record v { recs = c.reserve_all.new.recs.items } in
    let serial = c.args.room.now.serial in
    let known : Knows serial serial v w = record { serial = refl; number = refl; members = refl; recs = c.reserve_all.ensures.same; book = refl } in
    on_done c.tell_both.result _ _ (λ reply receipt woken m. (within_same serial serial _ c.args.pass.now.knows v w (view_of c.tell_both.new.room) xs reply woken known m.0, m.1)) (c.tell_both.ensures.told xs (in_known origin (length cs) serial serial v w xs known here))

pub returns-in-Ok-clause-receipt : goal.returns-in-Ok-clause-receipt
returns-in-Ok-clause-receipt g c =
    let same : length (log_in c.args.from c.reserve_all.new.recs.items) ≡ length (log_in c.args.from c.args.room.now.recs.items) = ap length (log_in_known c.args.from c.args.room.now.recs.items c.reserve_all.new.recs.items c.reserve_all.ensures.same) in
    on_done c.tell_both.result _ _ (λ reply receipt woken r. (r.0, r.1 ∙ same)) c.tell_both.ensures.receipt

pub returns-in-Ok-clause-full : goal.returns-in-Ok-clause-full
returns-in-Ok-clause-full g c = λ k f. absurd (short_full c.args.room.now.recs.items k c.in_default.ensures.none f)

pub returns-in-Err-clause-fits : goal.returns-in-Err-clause-fits
returns-in-Err-clause-fits g c =
    let cs = g.N.FloorName.cards in
    let long_max = g.N.FloorName.long_max in
    let origin = fresh_streams cs long_max in
    let v = view_of c.args.room.now in
    let w = record v { recs = c.reserve_all.new.recs.items } in
    let serial = c.args.room.now.serial in
    let known : Knows serial serial v w = record { serial = refl; number = refl; members = refl; recs = c.reserve_all.ensures.same; book = refl } in
    room_in origin (length cs) serial w c.requires.fits.streams (in_known origin (length cs) serial serial v w c.requires.fits.streams known (in_room origin (length cs) serial v c.requires.fits))

pub returns-in-Err-clause-full : goal.returns-in-Err-clause-full
returns-in-Err-clause-full g c = λ k f. absurd (short_full c.args.room.now.recs.items k c.in_default.ensures.none f)

pub returns-then-calls-eq18446744073709551615-clause-full : goal.returns-then-calls-eq18446744073709551615-clause-full
returns-then-calls-eq18446744073709551615-clause-full g c = λ k f. absurd (short_full c.args.room.now.recs.items k c.in_default.ensures.none f)

use Rattle.std.proofs.Common.{◌≡◌, length, ap, ◌∙◌}
use Rattle.card_emul.specs.declared.any_card.AnyCard.{AnyCard}
use Rattle.card_emul.specs.contracts.any_card.AnyCardCard.TheImpl.{ghosts}
use Rattle.pcm_group.specs.Inside.{members_in}
use Rattle.pcm_group.specs.declared.group.Group.{Group}
use Rattle.room_book.specs.Rooms.{fresh_streams}
use Rattle.room_lock.specs.Answers.{log_in}
use Rattle.room_lock.specs.InRoom.{InRoom}
use Rattle.room_lock.specs.Inside.{view_of}
use Rattle.room_lock.proofs.KnownLemmas.{Knows, in_known, in_room, log_in_known, room_in, room_known}
use Rattle.room_lock.proofs.LeavingLemmas.{empty_known, leaving_known}
use Rattle.room_lock.proofs.RoomLemmas.{full_of, memory_of, on_all}
use Rattle.room_lock.proofs.TurnLemmas.{fits_refused, on_done, on_full, short_full}
use Rattle.room_lock.proofs.leaving.unlink_one.Goals as goal

pub returns-in-Some-clause-room : goal.returns-in-Some-clause-room
returns-in-Some-clause-room g c =
    let origin = fresh_streams g.N.FloorName.cards g.N.FloorName.long_max in
    let cards = length g.N.FloorName.cards in
    record {
      streams = c.requires.room.streams;
      stand = c.requires.room.stand;
      fits_in = on_full c.refuse.result _ _ c.refuse.ensures.full c.refuse.ensures.refused
          (λ sub count no. fits_refused origin cards c.args.room.now.serial c.args.room.now.number c.requires.room.streams c.args.room.now.recs.items c.refuse.new.recs.items c.args.room.now.book.items no.logs no.subs no.places c.requires.room.fits_in);
    }

pub tell_and_leave-requires-clause-room : goal.tell_and_leave-requires-clause-room
tell_and_leave-requires-clause-room g c =
    let origin = fresh_streams g.N.FloorName.cards g.N.FloorName.long_max in
    let cards = length g.N.FloorName.cards in
    let v = view_of c.args.room.now in
    let v2 = view_of c.prepare_to_leave.new.room in
    let e = c.prepare_to_leave.ensures.room in
    let known : Knows c.args.room.now.serial c.prepare_to_leave.new.room.serial v v2 = record { serial = e.4; number = e.3; members = ap (λ (x : Group AnyCard ghosts). members_in x) e.2; recs = e.0; book = e.1 } in
    room_in origin cards c.prepare_to_leave.new.room.serial v2 c.requires.room.streams (in_known origin cards c.args.room.now.serial c.prepare_to_leave.new.room.serial v v2 c.requires.room.streams known (in_room origin cards c.args.room.now.serial v c.requires.room))

pub tell_and_leave-requires-clause-own : goal.tell_and_leave-requires-clause-own
tell_and_leave-requires-clause-own g c =
    let origin = fresh_streams g.N.FloorName.cards g.N.FloorName.long_max in
    let cards = length g.N.FloorName.cards in
    let v = view_of c.args.own.now in
    let v2 = view_of c.prepare_to_leave.new.own in
    let e = c.prepare_to_leave.ensures.own in
    let known : Knows c.args.own.now.serial c.prepare_to_leave.new.own.serial v v2 = record { serial = e.4; number = e.3; members = ap (λ (x : Group AnyCard ghosts). members_in x) e.2; recs = e.0; book = e.1 } in
    room_in origin cards c.prepare_to_leave.new.own.serial v2 c.requires.own.streams (in_known origin cards c.args.own.now.serial c.prepare_to_leave.new.own.serial v v2 c.requires.own.streams known (in_room origin cards c.args.own.now.serial v c.requires.own))

pub tell_and_leave-requires-clause-spare : goal.tell_and_leave-requires-clause-spare
tell_and_leave-requires-clause-spare g c =
    room_known c.args.room.now.recs.items c.prepare_to_leave.new.room.recs.items c.prepare_to_leave.ensures.room.0 c.in_default.ensures.none c.in-Some-prepare_to_leave.ensures.spare

pub returns-in-None-clause-room : goal.returns-in-None-clause-room
returns-in-None-clause-room g c =
    let origin = fresh_streams g.N.FloorName.cards g.N.FloorName.long_max in
    let cards = length g.N.FloorName.cards in
    let v = view_of c.args.room.now in
    let v2 = view_of c.prepare_to_leave.new.room in
    let e = c.prepare_to_leave.ensures.room in
    let known : Knows c.args.room.now.serial c.prepare_to_leave.new.room.serial v v2 = record { serial = e.4; number = e.3; members = ap (λ (x : Group AnyCard ghosts). members_in x) e.2; recs = e.0; book = e.1 } in
    room_in origin cards c.prepare_to_leave.new.room.serial v2 c.requires.room.streams (in_known origin cards c.args.room.now.serial c.prepare_to_leave.new.room.serial v v2 c.requires.room.streams known (in_room origin cards c.args.room.now.serial v c.requires.room))

pub returns-in-None-clause-own : goal.returns-in-None-clause-own
returns-in-None-clause-own g c =
    let origin = fresh_streams g.N.FloorName.cards g.N.FloorName.long_max in
    let cards = length g.N.FloorName.cards in
    let v = view_of c.args.own.now in
    let v2 = view_of c.prepare_to_leave.new.own in
    let e = c.prepare_to_leave.ensures.own in
    let known : Knows c.args.own.now.serial c.prepare_to_leave.new.own.serial v v2 = record { serial = e.4; number = e.3; members = ap (λ (x : Group AnyCard ghosts). members_in x) e.2; recs = e.0; book = e.1 } in
    room_in origin cards c.prepare_to_leave.new.own.serial v2 c.requires.own.streams (in_known origin cards c.args.own.now.serial c.prepare_to_leave.new.own.serial v v2 c.requires.own.streams known (in_room origin cards c.args.own.now.serial v c.requires.own))

pub returns-in-None-clause-full : goal.returns-in-None-clause-full
returns-in-None-clause-full g c = λ k f. absurd (short_full c.args.room.now.recs.items k c.in_default.ensures.none f)

pub returns-in-Some-prepare_to_leave-clause-full : goal.returns-in-Some-prepare_to_leave-clause-full
returns-in-Some-prepare_to_leave-clause-full g c = λ k f. absurd (short_full c.args.room.now.recs.items k c.in_default.ensures.none f)

pub returns-in-Some-prepare_to_leave-clause-receipt : goal.returns-in-Some-prepare_to_leave-clause-receipt
returns-in-Some-prepare_to_leave-clause-receipt g c =
    let same : length (log_in c.args.sub c.prepare_to_leave.new.room.recs.items) ≡ length (log_in c.args.sub c.args.room.now.recs.items) = ap length (log_in_known c.args.sub c.args.room.now.recs.items c.prepare_to_leave.new.room.recs.items c.prepare_to_leave.ensures.room.0) in
    on_done c.tell_and_leave.result _ _ (λ reply receipt woken r. (r.0, r.1 ∙ same)) c.tell_and_leave.ensures.receipt

pub returns-in-Some-prepare_to_leave-clause-members : goal.returns-in-Some-prepare_to_leave-clause-members
returns-in-Some-prepare_to_leave-clause-members g c = λ xs here.
    let origin = fresh_streams g.N.FloorName.cards g.N.FloorName.long_max in
    let cards = length g.N.FloorName.cards in
    let v = view_of c.args.room.now in
    let v2 = view_of c.prepare_to_leave.new.room in
    let e = c.prepare_to_leave.ensures.room in
    let known : Knows c.args.room.now.serial c.prepare_to_leave.new.room.serial v v2 = record { serial = e.4; number = e.3; members = ap (λ (x : Group AnyCard ghosts). members_in x) e.2; recs = e.0; book = e.1 } in
    c.tell_and_leave.ensures.members xs (in_known origin cards c.args.room.now.serial c.prepare_to_leave.new.room.serial v v2 xs known here)

pub returns-in-Some-prepare_to_leave-clause-left : goal.returns-in-Some-prepare_to_leave-clause-left
returns-in-Some-prepare_to_leave-clause-left g c = λ xs here.
    let origin = fresh_streams g.N.FloorName.cards g.N.FloorName.long_max in
    let cards = length g.N.FloorName.cards in
    let v = view_of c.args.room.now in
    let v2 = view_of c.prepare_to_leave.new.room in
    let e = c.prepare_to_leave.ensures.room in
    let known : Knows c.args.room.now.serial c.prepare_to_leave.new.room.serial v v2 = record { serial = e.4; number = e.3; members = ap (λ (x : Group AnyCard ghosts). members_in x) e.2; recs = e.0; book = e.1 } in
    let a = view_of c.args.own.now in
    let a2 = view_of c.prepare_to_leave.new.own in
    let o = c.prepare_to_leave.ensures.own in
    let same : a2 ≡ a = empty_known origin cards c.args.own.now.serial a a2 c.requires.own c.requires.home.2 o.3 (ap (λ (x : Group AnyCard ghosts). members_in x) o.2) o.0 o.1 in
    on_done c.tell_and_leave.result _ _
    (λ reply receipt woken m. leaving_known c.args.room.now.serial c.prepare_to_leave.new.room.serial _ c.args.pass.now.knows v v2 (view_of c.tell_and_leave.new.room) a a2 (view_of c.tell_and_leave.new.own) xs reply woken known same m)
    (c.tell_and_leave.ensures.left xs (in_known origin cards c.args.room.now.serial c.prepare_to_leave.new.room.serial v v2 xs known here))

pub returns-in-Some-prepare_to_leave-clause-room : goal.returns-in-Some-prepare_to_leave-clause-room
returns-in-Some-prepare_to_leave-clause-room g c =
    let origin = fresh_streams g.N.FloorName.cards g.N.FloorName.long_max in
    let cards = length g.N.FloorName.cards in
    let v = view_of c.args.room.now in
    let v2 = view_of c.prepare_to_leave.new.room in
    let e = c.prepare_to_leave.ensures.room in
    let known : Knows c.args.room.now.serial c.prepare_to_leave.new.room.serial v v2 = record { serial = e.4; number = e.3; members = ap (λ (x : Group AnyCard ghosts). members_in x) e.2; recs = e.0; book = e.1 } in
    let inside = in_known origin cards c.args.room.now.serial c.prepare_to_leave.new.room.serial v v2 c.requires.room.streams known (in_room origin cards c.args.room.now.serial v c.requires.room) in
    let P : Type 0 = InRoom origin cards c.tell_and_leave.new.room.serial (view_of c.tell_and_leave.new.room) in
    on_all c.tell_and_leave.result P
    (on_done c.tell_and_leave.result _ (λ reply receipt woken. P) (λ reply receipt woken m. room_in origin cards c.tell_and_leave.new.room.serial (view_of c.tell_and_leave.new.room) _ m.0) (c.tell_and_leave.ensures.members c.requires.room.streams inside))
    (full_of c.tell_and_leave.result (λ sub count. ⊥) (λ sub count. P) (λ sub count no. absurd no) c.tell_and_leave.ensures.done.0)
    (memory_of c.tell_and_leave.result ⊥ P (λ no. absurd no) c.tell_and_leave.ensures.done.1)

pub returns-in-Some-prepare_to_leave-clause-own : goal.returns-in-Some-prepare_to_leave-clause-own
returns-in-Some-prepare_to_leave-clause-own g c =
    let origin = fresh_streams g.N.FloorName.cards g.N.FloorName.long_max in
    let cards = length g.N.FloorName.cards in
    let v = view_of c.args.room.now in
    let v2 = view_of c.prepare_to_leave.new.room in
    let e = c.prepare_to_leave.ensures.room in
    let known : Knows c.args.room.now.serial c.prepare_to_leave.new.room.serial v v2 = record { serial = e.4; number = e.3; members = ap (λ (x : Group AnyCard ghosts). members_in x) e.2; recs = e.0; book = e.1 } in
    let inside = in_known origin cards c.args.room.now.serial c.prepare_to_leave.new.room.serial v v2 c.requires.room.streams known (in_room origin cards c.args.room.now.serial v c.requires.room) in
    let P : Type 0 = InRoom origin cards c.tell_and_leave.new.own.serial (view_of c.tell_and_leave.new.own) in
    on_all c.tell_and_leave.result P
    (on_done c.tell_and_leave.result _ (λ reply receipt woken. P) (λ reply receipt woken m. room_in origin cards c.tell_and_leave.new.own.serial (view_of c.tell_and_leave.new.own) _ m.1) (c.tell_and_leave.ensures.members c.requires.room.streams inside))
    (full_of c.tell_and_leave.result (λ sub count. ⊥) (λ sub count. P) (λ sub count no. absurd no) c.tell_and_leave.ensures.done.0)
    (memory_of c.tell_and_leave.result ⊥ P (λ no. absurd no) c.tell_and_leave.ensures.done.1)

use Rattle.std.proofs.Common.{◌≡◌, ◌≢◌, ℕ, true, length, sym, subst}
use Rattle.pcm_base.specs.declared.call.Event.{Event}
use Rattle.pcm_base.specs.model.Replay.{is_member}
use Rattle.pcm_stream.specs.Members.{numbers_of}
use Rattle.room_book.specs.Rooms.{fresh_streams}
use Rattle.room_lock.specs.Answers.{OnDone, OnFull, OnMemory}
use Rattle.room_lock.specs.InRoom.{RoomView}
use Rattle.room_lock.specs.Inside.{view_of}
use Rattle.room_lock.specs.Parting.{IsParting, at_home}
use Rattle.room_lock.specs.Ready.{IsFull}
use Rattle.room_lock.specs.Refused.{IsRefused}
use Rattle.room_lock.proofs.KnownLemmas.{caller_of_one}
use Rattle.room_lock.proofs.LinkRoomLemmas.{room_inside, room_outside}
use Rattle.room_lock.proofs.TurnLemmas.{on_done}
use Rattle.room_lock.proofs.room_links.unlink_rooms.Goals as goal

pub unlink_pair-requires-clause-here : goal.unlink_pair-requires-clause-here
unlink_pair-requires-clause-here g c = subst (λ (v : RoomView). (is_member c.args.event.now.sub (numbers_of v.members) ≡ true) × (length v.members ≡ 2)) (sym c.room.view_is) c.requires.here

pub unlink_pair-requires-clause-homes : goal.unlink_pair-requires-clause-homes
unlink_pair-requires-clause-homes g c =
    subst (λ (z : RoomView × RoomView × RoomView). (z.1.number ≡ c.args.event.now.sub.0) × (is_member (at_home z.2) (numbers_of z.0.members) ≡ true) × (z.2.number ≢ c.args.event.now.sub.0)) (λ i. (sym c.room.view_is i, sym c.own.view_is i, sym c.other.view_is i))
    (c.requires.own.0, c.requires.other.0, c.requires.other.2)

pub returns-clause-rooms : goal.returns-clause-rooms
returns-clause-rooms g c = λ xs h.
    let cs = g.N.FloorName.cards in
    let origin = fresh_streams cs g.N.FloorName.long_max in
    let here = room_inside origin (length cs) c.room.inside.inside.serial (view_of c.room.inside.inside) c.args.room.now xs c.room.view_is c.room.invariant.fits_in.acts h in
    on_done c.unlink_pair.result _ _
    (λ reply receipt woken m. (
      room_outside origin (length cs) c.unlink_pair.new.room.serial (view_of c.unlink_pair.new.room) _ m.0,
      room_outside origin (length cs) c.unlink_pair.new.own.serial (view_of c.unlink_pair.new.own) _ m.1,
      room_outside origin (length cs) c.unlink_pair.new.other.serial (view_of c.unlink_pair.new.other) _ m.2,
    )) (c.unlink_pair.ensures.members xs here)

pub returns-clause-parting : goal.returns-clause-parting
returns-clause-parting g c = λ xs h.
    let cs = g.N.FloorName.cards in
    let origin = fresh_streams cs g.N.FloorName.long_max in
    let here = room_inside origin (length cs) c.room.inside.inside.serial (view_of c.room.inside.inside) c.args.room.now xs c.room.view_is c.room.invariant.fits_in.acts h in
    on_done c.unlink_pair.result _ _
    (λ reply receipt woken m.
    subst (λ (z : RoomView × RoomView × RoomView × Event). IsParting z.3 c.args.pass.now.knows z.0 (view_of c.unlink_pair.new.room) z.1 (view_of c.unlink_pair.new.own) z.2 (view_of c.unlink_pair.new.other) xs reply woken)
    (λ i. (c.room.view_is i, c.own.view_is i, c.other.view_is i, sym c.unlink_part-client.ensures i)) m) (c.unlink_pair.ensures.parted xs here)

pub returns-clause-refused : goal.returns-clause-refused
returns-clause-refused g c =
    subst (λ (z : RoomView). OnFull c.unlink_pair.result (λ sub count. (k : ℕ) × IsRefused k z.recs c.unlink_pair.new.room.recs.items c.args.pass.now c.unlink_pair.new.pass sub count)) c.room.view_is c.unlink_pair.ensures.refused

pub returns-clause-full : goal.returns-clause-full
returns-clause-full g c =
    subst (λ (z : RoomView). (k : ℕ) → IsFull k z.recs → OnDone c.unlink_pair.result (λ reply receipt woken. ⊥) × OnMemory c.unlink_pair.result ⊥) c.room.view_is c.unlink_pair.ensures.full

pub returns-clause-caller : goal.returns-clause-caller
returns-clause-caller g c =
    caller_of_one c.unlink_pair.result g.N.FloorName.cards g.N.FloorName.long_max _ 0 c.args.pass.now c.unlink_pair.new.pass _ _ _ _ c.unlink_pair.ensures.pass c.unlink_pair.ensures.refused c.unlink_pair.ensures.memory

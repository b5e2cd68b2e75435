use Rattle.std.proofs.Common.{◌≡◌, ◌<◌, ◌≤◌, ℕ, [], true, length, sym, subst}
use Rattle.pcm_base.specs.declared.call.Event.{Event}
use Rattle.pcm_base.specs.model.Replay.{is_member}
use Rattle.pcm_stream.specs.Members.{numbers_of}
use Rattle.room_book.specs.Rooms.{fresh_streams}
use Rattle.room_lock.specs.Answers.{OnDone, OnFull, OnMemory}
use Rattle.room_lock.specs.InRoom.{RoomView}
use Rattle.room_lock.specs.Inside.{view_of}
use Rattle.room_lock.specs.Leaving.{IsLeaving}
use Rattle.room_lock.specs.Ready.{IsFull}
use Rattle.room_lock.specs.Refused.{IsRefused}
use Rattle.room_lock.proofs.KnownLemmas.{caller_of_one}
use Rattle.room_lock.proofs.LinkRoomLemmas.{room_inside, room_outside}
use Rattle.room_lock.proofs.TurnLemmas.{on_done}
use Rattle.room_lock.proofs.room_links.unlink_from_group.Goals as goal

pub unlink_one-requires-clause-here : goal.unlink_one-requires-clause-here
unlink_one-requires-clause-here g c = subst (λ (v : RoomView). is_member c.args.event.now.sub (numbers_of v.members) ≡ true) (sym c.room.view_is) c.requires.here

pub unlink_one-requires-clause-three : goal.unlink_one-requires-clause-three
unlink_one-requires-clause-three g c = subst (λ (v : RoomView). 3 ≤ length v.members) (sym c.room.view_is) c.requires.three

pub unlink_one-requires-clause-home : goal.unlink_one-requires-clause-home
unlink_one-requires-clause-home g c = subst (λ (v : RoomView). (v.number ≡ c.args.event.now.sub.0) × (v.number < 16) × (v.members ≡ [])) (sym c.own.view_is) c.requires.own

pub returns-clause-rooms : goal.returns-clause-rooms
returns-clause-rooms g c = λ xs h.
    let cs = g.N.FloorName.cards in
    let origin = fresh_streams cs g.N.FloorName.long_max in
    let here = room_inside origin (length cs) c.room.inside.inside.serial (view_of c.room.inside.inside) c.args.room.now xs c.room.view_is c.room.invariant.fits_in.acts h in
    on_done c.unlink_one.result _ _
    (λ reply receipt woken m. (
      room_outside origin (length cs) c.unlink_one.new.room.serial (view_of c.unlink_one.new.room) _ m.0,
      room_outside origin (length cs) c.unlink_one.new.own.serial (view_of c.unlink_one.new.own) _ m.1,
    )) (c.unlink_one.ensures.members xs here)

pub returns-clause-leaving : goal.returns-clause-leaving
returns-clause-leaving g c = λ xs h.
    let cs = g.N.FloorName.cards in
    let origin = fresh_streams cs g.N.FloorName.long_max in
    let here = room_inside origin (length cs) c.room.inside.inside.serial (view_of c.room.inside.inside) c.args.room.now xs c.room.view_is c.room.invariant.fits_in.acts h in
    on_done c.unlink_one.result _ _
    (λ reply receipt woken m.
    subst (λ (z : RoomView × RoomView × Event). IsLeaving z.2 c.args.pass.now.knows z.0 (view_of c.unlink_one.new.room) z.1 (view_of c.unlink_one.new.own) xs reply woken)
    (λ i. (c.room.view_is i, c.own.view_is i, sym c.unlink_part-client.ensures i)) m) (c.unlink_one.ensures.left xs here)

pub returns-clause-refused : goal.returns-clause-refused
returns-clause-refused g c =
    subst (λ (z : RoomView). OnFull c.unlink_one.result (λ sub count. (k : ℕ) × IsRefused k z.recs c.unlink_one.new.room.recs.items c.args.pass.now c.unlink_one.new.pass sub count)) c.room.view_is c.unlink_one.ensures.refused

pub returns-clause-full : goal.returns-clause-full
returns-clause-full g c =
    subst (λ (z : RoomView). (k : ℕ) → IsFull k z.recs → OnDone c.unlink_one.result (λ reply receipt woken. ⊥) × OnMemory c.unlink_one.result ⊥) c.room.view_is c.unlink_one.ensures.full

pub returns-clause-caller : goal.returns-clause-caller
returns-clause-caller g c =
    caller_of_one c.unlink_one.result g.N.FloorName.cards g.N.FloorName.long_max _ 0 c.args.pass.now c.unlink_one.new.pass _ _ _ _ c.unlink_one.ensures.pass c.unlink_one.ensures.refused c.unlink_one.ensures.memory

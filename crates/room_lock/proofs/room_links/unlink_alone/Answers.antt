use Rattle.std.proofs.Common.{◌≡◌, ◌<◌, ℕ, true, length, sym, subst}
use Rattle.pcm_base.specs.declared.call.Event.{Event}
use Rattle.pcm_base.specs.model.Replay.{is_member}
use Rattle.pcm_stream.specs.Members.{numbers_of}
use Rattle.room_book.specs.Rooms.{RightSize, fresh_streams}
use Rattle.room_lock.specs.Answers.{OnDone, OnFull, OnMemory}
use Rattle.room_lock.specs.InRoom.{RoomView}
use Rattle.room_lock.specs.Inside.{view_of}
use Rattle.room_lock.specs.Ready.{IsFull}
use Rattle.room_lock.specs.Refused.{IsRefused}
use Rattle.room_lock.specs.Staying.{IsUnlinkRefused}
use Rattle.room_lock.proofs.KnownLemmas.{caller_of_one}
use Rattle.room_lock.proofs.LinkRoomLemmas.{own_room, room_inside, room_outside}
use Rattle.room_lock.proofs.MemberLemmas.{numbers_are}
use Rattle.room_lock.proofs.TurnLemmas.{on_done}
use Rattle.room_lock.proofs.room_links.unlink_alone.Goals as goal

pub unlink_lone-requires-clause-here : goal.unlink_lone-requires-clause-here
unlink_lone-requires-clause-here g c =
    let u = view_of c.room.inside.inside in
    let sub = c.args.event.now.sub in
    let one = own_room u.number sub (numbers_of u.members) (subst (RightSize u.number) (numbers_are u.members c.room.invariant.streams c.room.invariant.stand) c.room.invariant.fits_in.fits.size)
    (subst (λ (v : RoomView). v.number < 16) (sym c.room.view_is) c.requires.here.0) (subst (λ (v : RoomView). is_member sub (numbers_of v.members) ≡ true) (sym c.room.view_is) c.requires.here.1) in
    one.0

pub returns-clause-room : goal.returns-clause-room
returns-clause-room g c = λ xs h.
    let cs = g.N.FloorName.cards in
    let origin = fresh_streams cs g.N.FloorName.long_max in
    let here = room_inside origin (length cs) c.room.inside.inside.serial (view_of c.room.inside.inside) c.args.room.now xs c.room.view_is c.room.invariant.fits_in.acts h in
    on_done c.unlink_lone.result _ _ (λ reply receipt woken m. room_outside origin (length cs) c.unlink_lone.new.room.serial (view_of c.unlink_lone.new.room) xs m.1) (c.unlink_lone.ensures.told xs here)

pub returns-clause-refusal : goal.returns-clause-refusal
returns-clause-refusal g c = λ xs h.
    let cs = g.N.FloorName.cards in
    let origin = fresh_streams cs g.N.FloorName.long_max in
    let u = view_of c.room.inside.inside in
    let here = room_inside origin (length cs) c.room.inside.inside.serial u c.args.room.now xs c.room.view_is c.room.invariant.fits_in.acts h in
    on_done c.unlink_lone.result _ _
    (λ reply receipt woken m.
    subst (λ (z : RoomView × Event). IsUnlinkRefused z.1 c.args.pass.now.knows z.0 (view_of c.unlink_lone.new.room) xs reply woken)
    (λ i. (c.room.view_is i, sym c.unlink_part-client.ensures i)) m.0) (c.unlink_lone.ensures.told xs here)

pub returns-clause-refused : goal.returns-clause-refused
returns-clause-refused g c =
    subst (λ (z : RoomView). OnFull c.unlink_lone.result (λ sub count. (k : ℕ) × IsRefused k z.recs c.unlink_lone.new.room.recs.items c.args.pass.now c.unlink_lone.new.pass sub count)) c.room.view_is c.unlink_lone.ensures.refused

pub returns-clause-full : goal.returns-clause-full
returns-clause-full g c =
    subst (λ (z : RoomView). (k : ℕ) → IsFull k z.recs → OnDone c.unlink_lone.result (λ reply receipt woken. ⊥) × OnMemory c.unlink_lone.result ⊥) c.room.view_is c.unlink_lone.ensures.full

pub returns-clause-caller : goal.returns-clause-caller
returns-clause-caller g c =
    caller_of_one c.unlink_lone.result g.N.FloorName.cards g.N.FloorName.long_max _ 0 c.args.pass.now c.unlink_lone.new.pass _ _ _ _ c.unlink_lone.ensures.pass c.unlink_lone.ensures.refused c.unlink_lone.ensures.memory

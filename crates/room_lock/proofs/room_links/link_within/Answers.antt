use Rattle.std.proofs.Common.{◌≡◌, ◌≢◌, ℕ, true, length, sym, ap, subst}
use Rattle.pcm_base.specs.declared.call.Event.{Event}
use Rattle.pcm_base.specs.declared.ids.ClientId.{ClientId}
use Rattle.pcm_base.specs.declared.ids.SubId.{SubId}
use Rattle.pcm_base.specs.model.Group.{stream_of}
use Rattle.pcm_base.specs.model.Replay.{is_member}
use Rattle.pcm_stream.specs.Members.{numbers_of}
use Rattle.room_book.specs.Logs.{client_of}
use Rattle.room_book.specs.Rooms.{fresh_streams}
use Rattle.room_lock.specs.Answers.{OnDone, OnFull, OnMemory}
use Rattle.room_lock.specs.InRoom.{RoomView}
use Rattle.room_lock.specs.Inside.{view_of}
use Rattle.room_lock.specs.Linked.{link_of, linked_to}
use Rattle.room_lock.specs.Ready.{IsFull}
use Rattle.room_lock.specs.Refused.{IsRefused}
use Rattle.room_lock.specs.Within.{IsLinkWithin}
use Rattle.room_lock.proofs.KnownLemmas.{caller_of_one}
use Rattle.room_lock.proofs.LinkRoomLemmas.{room_inside, room_outside}
use Rattle.room_lock.proofs.TurnLemmas.{on_done}
use Rattle.room_lock.proofs.room_links.link_within.Goals as goal

pub link_both-requires-clause-here : goal.link_both-requires-clause-here
link_both-requires-clause-here g c =
    let other_is : linked_to c.args.event.now.call ≡ c.link_parts.result.1 = ap (λ (e : Event). linked_to e.call) c.link_parts.ensures in (
      subst (λ (v : RoomView). is_member c.args.event.now.sub (numbers_of v.members) ≡ true) (sym c.room.view_is) c.requires.here,
      subst (λ (z : RoomView × SubId). is_member z.1 (numbers_of z.0.members) ≡ true) (λ i. (sym c.room.view_is i, other_is i)) c.requires.second,
    )

pub link_both-requires-clause-apart : goal.link_both-requires-clause-apart
link_both-requires-clause-apart g c =
    let other_is : linked_to c.args.event.now.call ≡ c.link_parts.result.1 = ap (λ (e : Event). linked_to e.call) c.link_parts.ensures in
    subst (λ (k : SubId). c.args.event.now.sub.0 ≢ k.0) other_is c.requires.apart

pub returns-clause-room : goal.returns-clause-room
returns-clause-room g c = λ xs h.
    let cs = g.N.FloorName.cards in
    let origin = fresh_streams cs g.N.FloorName.long_max in
    let here = room_inside origin (length cs) c.room.inside.inside.serial (view_of c.room.inside.inside) c.args.room.now xs c.room.view_is c.room.invariant.fits_in.acts h in
    on_done c.link_both.result _ _ (λ reply receipt woken m. room_outside origin (length cs) c.link_both.new.room.serial (view_of c.link_both.new.room) xs m.1) (c.link_both.ensures.told xs here)

pub returns-clause-refusal : goal.returns-clause-refusal
returns-clause-refusal g c = λ xs h.
    let cs = g.N.FloorName.cards in
    let origin = fresh_streams cs g.N.FloorName.long_max in
    let u = view_of c.room.inside.inside in
    let here = room_inside origin (length cs) c.room.inside.inside.serial u c.args.room.now xs c.room.view_is c.room.invariant.fits_in.acts h in
    let sub = c.args.event.now.sub in
    let other_is : linked_to c.args.event.now.call ≡ c.link_parts.result.1 = ap (λ (e : Event). linked_to e.call) c.link_parts.ensures in
    let client_is : client_of c.args.event.now.client ≡ c.link_parts.result.0 = ap (λ (e : Event). client_of e.client) c.link_parts.ensures in
    on_done c.link_both.result _ _
    (λ reply receipt woken m.
    subst (λ (z : RoomView × ClientId × SubId). IsLinkWithin (link_of z.1 sub z.2 (stream_of sub xs).state (stream_of z.2 xs).state true) c.args.pass.now.knows z.0 (view_of c.link_both.new.room) xs reply woken)
    (λ i. (c.room.view_is i, sym client_is i, sym other_is i)) m.0) (c.link_both.ensures.told xs here)

pub returns-clause-refused : goal.returns-clause-refused
returns-clause-refused g c =
    subst (λ (z : RoomView). OnFull c.link_both.result (λ sub count. (k : ℕ) × IsRefused k z.recs c.link_both.new.room.recs.items c.args.pass.now c.link_both.new.pass sub count)) c.room.view_is c.link_both.ensures.refused

pub returns-clause-full : goal.returns-clause-full
returns-clause-full g c =
    subst (λ (z : RoomView). (k : ℕ) → IsFull k z.recs → OnDone c.link_both.result (λ reply receipt woken. ⊥) × OnMemory c.link_both.result ⊥) c.room.view_is c.link_both.ensures.full

pub returns-clause-caller : goal.returns-clause-caller
returns-clause-caller g c =
    caller_of_one c.link_both.result g.N.FloorName.cards g.N.FloorName.long_max _ 0 c.args.pass.now c.link_both.new.pass _ _ _ _ c.link_both.ensures.pass c.link_both.ensures.refused c.link_both.ensures.memory

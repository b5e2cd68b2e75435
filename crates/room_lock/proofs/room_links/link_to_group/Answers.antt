use Rattle.std.proofs.Common.{◌≡◌, ◌≤◌, ◌⊎◌, true, false, nat_le, length, sym, ap, subst}
use Rattle.pcm_base.specs.declared.call.Event.{Event}
use Rattle.pcm_base.specs.declared.ids.ClientId.{ClientId}
use Rattle.pcm_base.specs.declared.ids.SubId.{SubId}
use Rattle.pcm_base.specs.model.Group.{stream_of}
use Rattle.pcm_base.specs.model.Replay.{is_member}
use Rattle.pcm_stream.specs.Members.{numbers_of}
use Rattle.room_book.specs.Logs.{client_of}
use Rattle.room_book.specs.Rooms.{fresh_streams}
use Rattle.room_lock.specs.Answers.{OnDone, OnFull, OnMemory}
use Rattle.room_lock.specs.InRoom.{RoomView}
use Rattle.room_lock.specs.Inside.{view_of}
use Rattle.room_lock.specs.Linked.{link_of, linked_to}
use Rattle.room_lock.specs.Joining.{IsJoining}
use Rattle.room_lock.specs.Refused.{AreFull, AreRefused}
use Rattle.room_lock.proofs.KnownLemmas.{caller_of_two}
use Rattle.room_lock.proofs.LinkRoomLemmas.{room_inside, room_outside}
use Rattle.room_lock.proofs.TurnLemmas.{on_done}
use Rattle.room_lock.proofs.room_links.link_to_group.Goals as goal

pub link_groups-requires-clause-here : goal.link_groups-requires-clause-here
link_groups-requires-clause-here g c =
    let other_is : linked_to c.args.event.now.call ≡ c.link_parts.result.1 = ap (λ (e : Event). linked_to e.call) c.link_parts.ensures in (
      subst (λ (v : RoomView). is_member c.args.event.now.sub (numbers_of v.members) ≡ true) (sym c.first.view_is) c.requires.first.1,
      subst (λ (z : RoomView × SubId). is_member z.1 (numbers_of z.0.members) ≡ true) (λ i. (sym c.second.view_is i, other_is i)) c.requires.second,
    )

pub link_groups-requires-clause-apart : goal.link_groups-requires-clause-apart
link_groups-requires-clause-apart g c =
    let other_is : linked_to c.args.event.now.call ≡ c.link_parts.result.1 = ap (λ (e : Event). linked_to e.call) c.link_parts.ensures in
    subst (λ (z : RoomView × SubId). is_member z.1 (numbers_of z.0.members) ≡ false) (λ i. (sym c.first.view_is i, other_is i)) c.requires.apart

pub link_groups-requires-clause-group : goal.link_groups-requires-clause-group
link_groups-requires-clause-group g c =
    subst (λ (z : RoomView × RoomView). (16 ≤ z.0.number) ⊎ (16 ≤ z.1.number)) (λ i. (sym c.first.view_is i, sym c.second.view_is i)) c.requires.group

pub returns-clause-rooms : goal.returns-clause-rooms
returns-clause-rooms g c = λ xs ys h h'.
    let cs = g.N.FloorName.cards in
    let origin = fresh_streams cs g.N.FloorName.long_max in
    let cards = length cs in
    let sub = c.args.event.now.sub in
    let u1 = view_of c.first.inside.inside in
    let u2 = view_of c.second.inside.inside in
    let other_is : linked_to c.args.event.now.call ≡ c.link_parts.result.1 = ap (λ (e : Event). linked_to e.call) c.link_parts.ensures in
    let client_is : client_of c.args.event.now.client ≡ c.link_parts.result.0 = ap (λ (e : Event). client_of e.client) c.link_parts.ensures in
    let in1 = room_inside origin cards c.first.inside.inside.serial u1 c.args.first.now xs c.first.view_is c.first.invariant.fits_in.acts h in
    let in2 = room_inside origin cards c.second.inside.inside.serial u2 c.args.second.now ys c.second.view_is c.second.invariant.fits_in.acts h' in
    on_done c.link_groups.result _ _
    (λ reply receipt woken m. (
      room_outside origin cards c.link_groups.new.first.serial (view_of c.link_groups.new.first) _ m.0,
      room_outside origin cards c.link_groups.new.second.serial (view_of c.link_groups.new.second) _ m.1,
    )) (c.link_groups.ensures.members xs ys in1 in2)

pub returns-clause-joining : goal.returns-clause-joining
returns-clause-joining g c = λ xs ys h h'.
    let cs = g.N.FloorName.cards in
    let origin = fresh_streams cs g.N.FloorName.long_max in
    let cards = length cs in
    let sub = c.args.event.now.sub in
    let u1 = view_of c.first.inside.inside in
    let u2 = view_of c.second.inside.inside in
    let other_is : linked_to c.args.event.now.call ≡ c.link_parts.result.1 = ap (λ (e : Event). linked_to e.call) c.link_parts.ensures in
    let client_is : client_of c.args.event.now.client ≡ c.link_parts.result.0 = ap (λ (e : Event). client_of e.client) c.link_parts.ensures in
    let in1 = room_inside origin cards c.first.inside.inside.serial u1 c.args.first.now xs c.first.view_is c.first.invariant.fits_in.acts h in
    let in2 = room_inside origin cards c.second.inside.inside.serial u2 c.args.second.now ys c.second.view_is c.second.invariant.fits_in.acts h' in
    on_done c.link_groups.result _ _
    (λ reply receipt woken m.
    subst (λ (z : RoomView × RoomView). IsJoining (link_of (client_of c.args.event.now.client) sub (linked_to c.args.event.now.call) (stream_of sub xs).state (stream_of (linked_to c.args.event.now.call) ys).state (nat_le 16 z.1.number)) c.args.pass.now.knows z.0 (view_of c.link_groups.new.first) z.1 (view_of c.link_groups.new.second) xs ys reply woken)
    (λ i. (c.first.view_is i, c.second.view_is i))
    (subst (λ (z : ClientId × SubId). IsJoining (link_of z.0 sub z.1 (stream_of sub xs).state (stream_of z.1 ys).state (nat_le 16 u2.number)) c.args.pass.now.knows u1 (view_of c.link_groups.new.first) u2 (view_of c.link_groups.new.second) xs ys reply woken)
    (λ i. (sym client_is i, sym other_is i)) m)) (c.link_groups.ensures.joined xs ys in1 in2)

pub returns-clause-refused : goal.returns-clause-refused
returns-clause-refused g c =
    subst (λ (z : RoomView × RoomView). OnFull c.link_groups.result (λ sub count. AreRefused z.0.recs c.link_groups.new.first.recs.items z.1.recs c.link_groups.new.second.recs.items c.args.pass.now c.link_groups.new.pass sub count))
    (λ i. (c.first.view_is i, c.second.view_is i)) c.link_groups.ensures.refused

pub returns-clause-full : goal.returns-clause-full
returns-clause-full g c =
    subst (λ (z : RoomView × RoomView). AreFull z.0.recs z.1.recs → OnDone c.link_groups.result (λ reply receipt woken. ⊥) × OnMemory c.link_groups.result ⊥)
    (λ i. (c.first.view_is i, c.second.view_is i)) c.link_groups.ensures.full

pub returns-clause-caller : goal.returns-clause-caller
returns-clause-caller g c =
    caller_of_two c.link_groups.result g.N.FloorName.cards g.N.FloorName.long_max _ 0 c.args.pass.now c.link_groups.new.pass _ _ _ _ _ _ c.link_groups.ensures.pass c.link_groups.ensures.refused c.link_groups.ensures.memory

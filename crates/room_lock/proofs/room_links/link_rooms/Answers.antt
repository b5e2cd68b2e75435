use Rattle.std.proofs.Common.{◌≡◌, ◌<◌, [], ◌∷◌, true, false, length, sym, ap, ◌∙◌, subst}
use Rattle.pcm_base.specs.declared.call.Event.{Event}
use Rattle.pcm_base.specs.declared.ids.ClientId.{ClientId}
use Rattle.pcm_base.specs.declared.ids.SubId.{SubId}
use Rattle.pcm_base.specs.model.Group.{stream_of}
use Rattle.pcm_base.specs.model.Replay.{is_member}
use Rattle.pcm_stream.specs.Members.{numbers_of}
use Rattle.room_book.specs.Logs.{client_of}
use Rattle.room_book.specs.Rooms.{RightSize, fresh_streams}
use Rattle.room_lock.specs.Answers.{OnDone, OnFull, OnMemory}
use Rattle.room_lock.specs.InRoom.{RoomView}
use Rattle.room_lock.specs.Inside.{view_of}
use Rattle.room_lock.specs.Linked.{link_of, linked_to}
use Rattle.room_lock.specs.Met.{IsMeeting}
use Rattle.room_lock.specs.Refused.{AreFull, AreRefused}
use Rattle.room_lock.proofs.KnownLemmas.{caller_of_two}
use Rattle.room_lock.proofs.LinkRoomLemmas.{own_room, room_inside, room_outside}
use Rattle.room_lock.proofs.MemberLemmas.{numbers_are}
use Rattle.room_lock.proofs.TurnLemmas.{on_done}
use Rattle.room_lock.proofs.room_links.link_rooms.Goals as goal

pub link_alone-requires-clause-here : goal.link_alone-requires-clause-here
link_alone-requires-clause-here g c =
    let cs = g.N.FloorName.cards in
    let long_max = g.N.FloorName.long_max in
    let origin = fresh_streams cs long_max in
    let cards = length cs in
    let sub = c.args.event.now.sub in
    let u1 = view_of c.first.inside.inside in
    let u2 = view_of c.second.inside.inside in
    let other_is : linked_to c.args.event.now.call ≡ c.link_parts.result.1 = ap (λ (e : Event). linked_to e.call) c.link_parts.ensures in
    let client_is : client_of c.args.event.now.client ≡ c.link_parts.result.0 = ap (λ (e : Event). client_of e.client) c.link_parts.ensures in
    let one = own_room u1.number sub (numbers_of u1.members) (subst (RightSize u1.number) (numbers_are u1.members c.first.invariant.streams c.first.invariant.stand) c.first.invariant.fits_in.fits.size)
    (subst (λ (v : RoomView). v.number < 16) (sym c.first.view_is) c.requires.first.0) (subst (λ (v : RoomView). is_member sub (numbers_of v.members) ≡ true) (sym c.first.view_is) c.requires.first.1) in
    let two = own_room u2.number (linked_to c.args.event.now.call) (numbers_of u2.members) (subst (RightSize u2.number) (numbers_are u2.members c.second.invariant.streams c.second.invariant.stand) c.second.invariant.fits_in.fits.size)
    (subst (λ (v : RoomView). v.number < 16) (sym c.second.view_is) c.requires.second.0) (subst (λ (v : RoomView). is_member (linked_to c.args.event.now.call) (numbers_of v.members) ≡ true) (sym c.second.view_is) c.requires.second.1) in
    (one.0, subst (λ (k : SubId). numbers_of u2.members ≡ k ∷ []) other_is two.0)

pub link_alone-requires-clause-apart : goal.link_alone-requires-clause-apart
link_alone-requires-clause-apart g c = λ e.
    let cs = g.N.FloorName.cards in
    let long_max = g.N.FloorName.long_max in
    let origin = fresh_streams cs long_max in
    let cards = length cs in
    let sub = c.args.event.now.sub in
    let u1 = view_of c.first.inside.inside in
    let u2 = view_of c.second.inside.inside in
    let other_is : linked_to c.args.event.now.call ≡ c.link_parts.result.1 = ap (λ (e : Event). linked_to e.call) c.link_parts.ensures in
    let client_is : client_of c.args.event.now.client ≡ c.link_parts.result.0 = ap (λ (e : Event). client_of e.client) c.link_parts.ensures in
    let one = own_room u1.number sub (numbers_of u1.members) (subst (RightSize u1.number) (numbers_are u1.members c.first.invariant.streams c.first.invariant.stand) c.first.invariant.fits_in.fits.size)
    (subst (λ (v : RoomView). v.number < 16) (sym c.first.view_is) c.requires.first.0) (subst (λ (v : RoomView). is_member sub (numbers_of v.members) ≡ true) (sym c.first.view_is) c.requires.first.1) in
    let two = own_room u2.number (linked_to c.args.event.now.call) (numbers_of u2.members) (subst (RightSize u2.number) (numbers_are u2.members c.second.invariant.streams c.second.invariant.stand) c.second.invariant.fits_in.fits.size)
    (subst (λ (v : RoomView). v.number < 16) (sym c.second.view_is) c.requires.second.0) (subst (λ (v : RoomView). is_member (linked_to c.args.event.now.call) (numbers_of v.members) ≡ true) (sym c.second.view_is) c.requires.second.1) in
    c.requires.apart (sym (ap (λ (v : RoomView). v.number) c.first.view_is) ∙ sym one.1 ∙ e ∙ sym (ap (λ (k : SubId). k.0) other_is) ∙ two.1 ∙ ap (λ (v : RoomView). v.number) c.second.view_is)

pub returns-clause-rooms : goal.returns-clause-rooms
returns-clause-rooms g c = λ xs ys h h'.
    let cs = g.N.FloorName.cards in
    let long_max = g.N.FloorName.long_max in
    let origin = fresh_streams cs long_max in
    let cards = length cs in
    let sub = c.args.event.now.sub in
    let u1 = view_of c.first.inside.inside in
    let u2 = view_of c.second.inside.inside in
    let other_is : linked_to c.args.event.now.call ≡ c.link_parts.result.1 = ap (λ (e : Event). linked_to e.call) c.link_parts.ensures in
    let client_is : client_of c.args.event.now.client ≡ c.link_parts.result.0 = ap (λ (e : Event). client_of e.client) c.link_parts.ensures in
    let in1 = room_inside origin cards c.first.inside.inside.serial u1 c.args.first.now xs c.first.view_is c.first.invariant.fits_in.acts h in
    let in2 = room_inside origin cards c.second.inside.inside.serial u2 c.args.second.now ys c.second.view_is c.second.invariant.fits_in.acts h' in
    on_done c.link_alone.result _ _
    (λ reply receipt woken m. (
      room_outside origin cards c.link_alone.new.first.serial (view_of c.link_alone.new.first) _ m.0,
      room_outside origin cards c.link_alone.new.second.serial (view_of c.link_alone.new.second) _ m.1,
      room_outside origin cards c.link_alone.new.group.serial (view_of c.link_alone.new.group) _ m.2,
    )) (c.link_alone.ensures.members xs ys in1 in2)

pub returns-clause-meeting : goal.returns-clause-meeting
returns-clause-meeting g c = λ xs ys h h'.
    let cs = g.N.FloorName.cards in
    let long_max = g.N.FloorName.long_max in
    let origin = fresh_streams cs long_max in
    let cards = length cs in
    let sub = c.args.event.now.sub in
    let u1 = view_of c.first.inside.inside in
    let u2 = view_of c.second.inside.inside in
    let other_is : linked_to c.args.event.now.call ≡ c.link_parts.result.1 = ap (λ (e : Event). linked_to e.call) c.link_parts.ensures in
    let client_is : client_of c.args.event.now.client ≡ c.link_parts.result.0 = ap (λ (e : Event). client_of e.client) c.link_parts.ensures in
    let in1 = room_inside origin cards c.first.inside.inside.serial u1 c.args.first.now xs c.first.view_is c.first.invariant.fits_in.acts h in
    let in2 = room_inside origin cards c.second.inside.inside.serial u2 c.args.second.now ys c.second.view_is c.second.invariant.fits_in.acts h' in
    on_done c.link_alone.result _ _
    (λ reply receipt woken m.
    subst (λ (z : RoomView × RoomView × RoomView). IsMeeting (link_of (client_of c.args.event.now.client) sub (linked_to c.args.event.now.call) (stream_of sub xs).state (stream_of (linked_to c.args.event.now.call) ys).state false) c.args.pass.now.knows z.0 (view_of c.link_alone.new.first) z.1 (view_of c.link_alone.new.second) z.2 (view_of c.link_alone.new.group) xs ys reply woken)
    (λ i. (c.first.view_is i, c.second.view_is i, c.group.view_is i))
    (subst (λ (z : ClientId × SubId). IsMeeting (link_of z.0 sub z.1 (stream_of sub xs).state (stream_of z.1 ys).state false) c.args.pass.now.knows u1 (view_of c.link_alone.new.first) u2 (view_of c.link_alone.new.second) (view_of c.group.inside.inside) (view_of c.link_alone.new.group) xs ys reply woken)
    (λ i. (sym client_is i, sym other_is i)) m)) (c.link_alone.ensures.met xs ys in1 in2)

pub returns-clause-refused : goal.returns-clause-refused
returns-clause-refused g c =
    subst (λ (z : RoomView × RoomView). OnFull c.link_alone.result (λ sub count. AreRefused z.0.recs c.link_alone.new.first.recs.items z.1.recs c.link_alone.new.second.recs.items c.args.pass.now c.link_alone.new.pass sub count))
    (λ i. (c.first.view_is i, c.second.view_is i)) c.link_alone.ensures.refused

pub returns-clause-full : goal.returns-clause-full
returns-clause-full g c =
    subst (λ (z : RoomView × RoomView). AreFull z.0.recs z.1.recs → OnDone c.link_alone.result (λ reply receipt woken. ⊥) × OnMemory c.link_alone.result ⊥)
    (λ i. (c.first.view_is i, c.second.view_is i)) c.link_alone.ensures.full

pub returns-clause-caller : goal.returns-clause-caller
returns-clause-caller g c =
    caller_of_two c.link_alone.result g.N.FloorName.cards g.N.FloorName.long_max _ 0 c.args.pass.now c.link_alone.new.pass _ _ _ _ _ _ c.link_alone.ensures.pass c.link_alone.ensures.refused c.link_alone.ensures.memory

use Rattle.std.specs.Prelude.{vec_capacity}
use Rattle.std.proofs.Common.{◌≤◌, ℕ, List, length, get_or, sym, ap, ◌∙◌, subst}
use Rattle.card_emul.specs.declared.any_card.AnyCard.{AnyCard}
use Rattle.card_emul.specs.contracts.any_card.AnyCardCard.TheImpl.{ghosts}
use Rattle.pcm_base.specs.declared.ids.SubId.{SubId}
use Rattle.pcm_base.specs.model.Group.{stream_of}
use Rattle.pcm_base.specs.model.Replay.{Distinct, IsLent, reading_length}
use Rattle.pcm_base.specs.model.Sleep.{mask_of}
use Rattle.pcm_stream.specs.declared.members.Member.{Member}
use Rattle.pcm_stream.specs.Members.{members_of, numbers_of}
use Rattle.pcm_stream.specs.MembersStand.{AllStandFor}
use Rattle.pcm_group.specs.Inside.{members_in}
use Rattle.pcm_group.specs.declared.group.Group.{Group}
use Rattle.room_book.specs.Laws.{step_of}
use Rattle.room_book.specs.Logs.{client_of}
use Rattle.room_book.specs.Rooms.{fresh_streams}
use Rattle.room_lock.specs.InRoom.{FitsIn}
use Rattle.room_lock.specs.Shaped.{IsLeft}
use Rattle.room_lock.specs.Stepped.{IsMade, IsStepped}
use Rattle.room_lock.proofs.AfterTurn.{own_is_member}
use Rattle.room_lock.proofs.FreeLemmas.{asleep_after}
use Rattle.room_lock.proofs.Making.{bytes_made, drop-front, fits_bytes, if_some, one_member, place_in, tail_made, take-front, task_fits}
use Rattle.room_lock.proofs.MemberLemmas.{is_among, numbers_are}
use Rattle.room_lock.proofs.RecLemmas.{found, no_rec}
use Rattle.room_lock.proofs.Records.{number_at}
use Rattle.room_lock.proofs.contents.Contents.make.Goals as goal

pub step-turn-requires-clause-member : goal.step-turn-requires-clause-member
step-turn-requires-clause-member g c =
    let rs = c.args.self.now.recs.items in
    let ms = members_in c.args.self.now.group in
    let e = c.args.event.now in
    let own = c.args.own in
    let r = get_or rs own no_rec in
    let at = found rs own c.requires.own in
    let is = c.requires.sub r at in
    let room = c.requires.fits.fits_in in
    let xs = c.requires.fits.streams in
    let st = c.requires.fits.stand in
    let numbers = room.recs_are ∙ numbers_are ms xs st in
    is_among (numbers_of ms) own e.sub (number_at (numbers_of ms) rs own r e.sub numbers at is)

pub step-turn-requires-clause-lent : goal.step-turn-requires-clause-lent
step-turn-requires-clause-lent g c =
    let rs = c.args.self.now.recs.items in
    let ms = members_in c.args.self.now.group in
    let e = c.args.event.now in
    let own = c.args.own in
    let r = get_or rs own no_rec in
    let at = found rs own c.requires.own in
    let is = c.requires.sub r at in
    λ xs st. (length c.args.io.now, subst (IsLent (reading_length e.call (client_of e.client) (stream_of e.sub xs)) (length c.args.io.now)) (sym c.split_at_mut-front.ensures.front_len) (c.requires.plan xs st).lent)

pub taken_at-requires-clause-place : goal.taken_at-requires-clause-place
taken_at-requires-clause-place g c =
    let rs = c.args.self.now.recs.items in
    let ms = members_in c.args.self.now.group in
    let e = c.args.event.now in
    let own = c.args.own in
    let r = get_or rs own no_rec in
    let at = found rs own c.requires.own in
    let is = c.requires.sub r at in
    let room = c.requires.fits.fits_in in
    let xs = c.requires.fits.streams in
    let st = c.requires.fits.stand in
    let numbers = room.recs_are ∙ numbers_are ms xs st in
    let now_numbers = numbers ∙ sym c.step-turn.ensures.numbers ∙ sym (ap (λ (l : List (Member AnyCard ghosts)). numbers_of l) c.members.ensures.members) in
    place_in (members_of c.members.result.now) rs own now_numbers c.requires.own

pub push_moved-requires-clause-whole : goal.push_moved-requires-clause-whole
push_moved-requires-clause-whole g c =
    let rs = c.args.self.now.recs.items in
    let ms = members_in c.args.self.now.group in
    let e = c.args.event.now in
    let own = c.args.own in
    let r = get_or rs own no_rec in
    let at = found rs own c.requires.own in
    let is = c.requires.sub r at in
    let room = c.requires.fits.fits_in in
    let xs = c.requires.fits.streams in
    let st = c.requires.fits.stand in
    let front = c.split_at_mut-front.result.0.now in
    let plan = c.requires.plan xs st in
    let lent : IsLent (reading_length e.call (client_of e.client) (stream_of e.sub xs)) (length c.args.io.now) (length front) = subst (IsLent (reading_length e.call (client_of e.client) (stream_of e.sub xs)) (length c.args.io.now)) (sym c.split_at_mut-front.ensures.front_len) plan.lent in
    let made = c.step-turn.ensures.made xs st (c.is_memory.ensures.no c.if-is_memory.false) in
    λ t ne. if_some c.args.plan.shape _ (λ h e_h. (fits_bytes e xs c.args.plan.shape (length c.args.io.now) front c.step-turn.new.io c.step-turn.result (members_in c.step-turn.new.group) made plan.shape lent t ne h e_h).0)

pub push_moved-requires-clause-within : goal.push_moved-requires-clause-within
push_moved-requires-clause-within g c =
    let rs = c.args.self.now.recs.items in
    let ms = members_in c.args.self.now.group in
    let e = c.args.event.now in
    let own = c.args.own in
    let r = get_or rs own no_rec in
    let at = found rs own c.requires.own in
    let is = c.requires.sub r at in
    let room = c.requires.fits.fits_in in
    let xs = c.requires.fits.streams in
    let st = c.requires.fits.stand in
    let front = c.split_at_mut-front.result.0.now in
    let plan = c.requires.plan xs st in
    let lent : IsLent (reading_length e.call (client_of e.client) (stream_of e.sub xs)) (length c.args.io.now) (length front) = subst (IsLent (reading_length e.call (client_of e.client) (stream_of e.sub xs)) (length c.args.io.now)) (sym c.split_at_mut-front.ensures.front_len) plan.lent in
    let made = c.step-turn.ensures.made xs st (c.is_memory.ensures.no c.if-is_memory.false) in
    λ t ne. if_some c.args.plan.shape _ (λ h e_h. (fits_bytes e xs c.args.plan.shape (length c.args.io.now) front c.step-turn.new.io c.step-turn.result (members_in c.step-turn.new.group) made plan.shape lent t ne h e_h).1)

pub push_moved-requires-clause-tail : goal.push_moved-requires-clause-tail
push_moved-requires-clause-tail g c =
    let rs = c.args.self.now.recs.items in
    let ms = members_in c.args.self.now.group in
    let e = c.args.event.now in
    let own = c.args.own in
    let r = get_or rs own no_rec in
    let at = found rs own c.requires.own in
    let is = c.requires.sub r at in
    let room = c.requires.fits.fits_in in
    let xs = c.requires.fits.streams in
    let st = c.requires.fits.stand in
    let numbers = room.recs_are ∙ numbers_are ms xs st in
    let front = c.split_at_mut-front.result.0.now in
    let plan = c.requires.plan xs st in
    let lent : IsLent (reading_length e.call (client_of e.client) (stream_of e.sub xs)) (length c.args.io.now) (length front) = subst (IsLent (reading_length e.call (client_of e.client) (stream_of e.sub xs)) (length c.args.io.now)) (sym c.split_at_mut-front.ensures.front_len) plan.lent in
    let made = c.step-turn.ensures.made xs st (c.is_memory.ensures.no c.if-is_memory.false) in
    let now_numbers = numbers ∙ sym c.step-turn.ensures.numbers ∙ sym (ap (λ (l : List (Member AnyCard ghosts)). numbers_of l) c.members.ensures.members) in
    let there = own_is_member rs xs own r e.sub room.recs_are at is in
    let stands = subst (λ (l : List (Member AnyCard ghosts)). AllStandFor l (step_of e front xs).members) (sym c.members.ensures.members) made.members in
    let taken = c.taken_at.ensures e.sub (step_of e front xs).members (number_at (numbers_of (members_of c.members.result.now)) rs own r e.sub now_numbers at is) stands in
    let tail = tail_made c.marks.ensures.streams e front xs c.args.plan.taken (vec_capacity c.args.plan.bytes) c.taken_at.result.now there plan.taken taken plan.room in
    λ t. subst (λ (l : List ℕ). length l ≤ vec_capacity c.args.plan.bytes) (sym c.since-tail.ensures) (tail t).1

pub record-receipt-requires-clause-members : goal.record-receipt-requires-clause-members
record-receipt-requires-clause-members g c =
    let rs = c.args.self.now.recs.items in
    let ms = members_in c.args.self.now.group in
    let e = c.args.event.now in
    let own = c.args.own in
    let r = get_or rs own no_rec in
    let at = found rs own c.requires.own in
    let is = c.requires.sub r at in
    let room = c.requires.fits.fits_in in
    let xs = c.requires.fits.streams in
    let st = c.requires.fits.stand in
    let numbers = room.recs_are ∙ numbers_are ms xs st in
    numbers ∙ sym c.step-turn.ensures.numbers

pub record-receipt-requires-clause-made : goal.record-receipt-requires-clause-made
record-receipt-requires-clause-made g c =
    let rs = c.args.self.now.recs.items in
    let ms = members_in c.args.self.now.group in
    let e = c.args.event.now in
    let own = c.args.own in
    let r = get_or rs own no_rec in
    let at = found rs own c.requires.own in
    let is = c.requires.sub r at in
    let room = c.requires.fits.fits_in in
    let xs = c.requires.fits.streams in
    let st = c.requires.fits.stand in
    let front = c.split_at_mut-front.result.0.now in
    let plan = c.requires.plan xs st in
    let lent : IsLent (reading_length e.call (client_of e.client) (stream_of e.sub xs)) (length c.args.io.now) (length front) = subst (IsLent (reading_length e.call (client_of e.client) (stream_of e.sub xs)) (length c.args.io.now)) (sym c.split_at_mut-front.ensures.front_len) plan.lent in
    let made = c.step-turn.ensures.made xs st (c.is_memory.ensures.no c.if-is_memory.false) in
    (xs, front, room, made.turn_is)

pub returns-clause-fits : goal.returns-clause-fits
returns-clause-fits g c =
    let rs = c.args.self.now.recs.items in
    let ms = members_in c.args.self.now.group in
    let e = c.args.event.now in
    let own = c.args.own in
    let r = get_or rs own no_rec in
    let at = found rs own c.requires.own in
    let is = c.requires.sub r at in
    let room = c.requires.fits.fits_in in
    let xs = c.requires.fits.streams in
    let st = c.requires.fits.stand in
    let numbers = room.recs_are ∙ numbers_are ms xs st in
    let front = c.split_at_mut-front.result.0.now in
    let plan = c.requires.plan xs st in
    let lent : IsLent (reading_length e.call (client_of e.client) (stream_of e.sub xs)) (length c.args.io.now) (length front) = subst (IsLent (reading_length e.call (client_of e.client) (stream_of e.sub xs)) (length c.args.io.now)) (sym c.split_at_mut-front.ensures.front_len) plan.lent in
    let made = c.step-turn.ensures.made xs st (c.is_memory.ensures.no c.if-is_memory.false) in
    let now_numbers = numbers ∙ sym c.step-turn.ensures.numbers ∙ sym (ap (λ (l : List (Member AnyCard ghosts)). numbers_of l) c.members.ensures.members) in
    let there = own_is_member rs xs own r e.sub room.recs_are at is in
    let stands = subst (λ (l : List (Member AnyCard ghosts)). AllStandFor l (step_of e front xs).members) (sym c.members.ensures.members) made.members in
    let taken = c.taken_at.ensures e.sub (step_of e front xs).members (number_at (numbers_of (members_of c.members.result.now)) rs own r e.sub now_numbers at is) stands in
    let tail = tail_made c.marks.ensures.streams e front xs c.args.plan.taken (vec_capacity c.args.plan.bytes) c.taken_at.result.now there plan.taken taken plan.room in
    let d = subst (λ (ks : List SubId). Distinct ks) (numbers_are ms xs st) room.fits.fits.apart in
    let lt = place_in ms rs own numbers c.requires.own in
    let at_own = number_at (numbers_of ms) rs own r e.sub numbers at is in
    let m = one_member ms own lt in
    let made_is : IsMade e front xs (length c.args.io.now) c.of-bytes.result c.step-turn.result = record {
      turn_is = made.turn_is;
      lent = lent;
      bytes = c.of-bytes.ensures ∙ c.push_moved.ensures
          ∙ bytes_made e xs c.args.plan.layout c.args.plan.shape (length c.args.io.now) front c.step-turn.new.io c.since-tail.result.now c.step-turn.result (members_in c.step-turn.new.group) made plan.shape plan.layout lent (task_fits ms xs own e.sub (client_of e.client) d st lt at_own)
          (λ t. c.since-tail.ensures ∙ (tail t).0);
      asleep = asleep_after c.steps.ensures.step e front ms xs own m.0 d st m.1 at_own c.requires.free;
    } in
    record {
      streams = (step_of e front xs).members;
      stand = subst (λ (x : Group AnyCard ghosts). AllStandFor (members_in x) (step_of e front xs).members) (sym c.record-receipt.ensures.group) made.members;
      fits_in = subst (λ (n : ℕ). FitsIn (fresh_streams g.N.FloorName.cards g.N.FloorName.long_max) (length g.N.FloorName.cards) c.record-receipt.new.self.serial n (step_of e front xs).members c.record-receipt.new.self.recs.items c.record-receipt.new.self.book.items) (sym c.record-receipt.ensures.number)
          (c.record-receipt.ensures.fits xs front room made_is made.members);
    }

pub returns-clause-done : goal.returns-clause-done
returns-clause-done g c =
    λ xs room st.
    let rs = c.args.self.now.recs.items in
    let ms = members_in c.args.self.now.group in
    let e = c.args.event.now in
    let own = c.args.own in
    let r = get_or rs own no_rec in
    let at = found rs own c.requires.own in
    let is = c.requires.sub r at in
    let numbers = room.recs_are ∙ numbers_are ms xs st in
    let front = c.split_at_mut-front.result.0.now in
    let plan = c.requires.plan xs st in
    let lent : IsLent (reading_length e.call (client_of e.client) (stream_of e.sub xs)) (length c.args.io.now) (length front) = subst (IsLent (reading_length e.call (client_of e.client) (stream_of e.sub xs)) (length c.args.io.now)) (sym c.split_at_mut-front.ensures.front_len) plan.lent in
    let made = c.step-turn.ensures.made xs st (c.is_memory.ensures.no c.if-is_memory.false) in
    let now_numbers = numbers ∙ sym c.step-turn.ensures.numbers ∙ sym (ap (λ (l : List (Member AnyCard ghosts)). numbers_of l) c.members.ensures.members) in
    let there = own_is_member rs xs own r e.sub room.recs_are at is in
    let stands = subst (λ (l : List (Member AnyCard ghosts)). AllStandFor l (step_of e front xs).members) (sym c.members.ensures.members) made.members in
    let taken = c.taken_at.ensures e.sub (step_of e front xs).members (number_at (numbers_of (members_of c.members.result.now)) rs own r e.sub now_numbers at is) stands in
    let tail = tail_made c.marks.ensures.streams e front xs c.args.plan.taken (vec_capacity c.args.plan.bytes) c.taken_at.result.now there plan.taken taken plan.room in
    let d = subst (λ (ks : List SubId). Distinct ks) (numbers_are ms xs st) room.fits.fits.apart in
    let lt = place_in ms rs own numbers c.requires.own in
    let at_own = number_at (numbers_of ms) rs own r e.sub numbers at is in
    let m = one_member ms own lt in
    let made_is : IsMade e front xs (length c.args.io.now) c.of-bytes.result c.step-turn.result = record {
      turn_is = made.turn_is;
      lent = lent;
      bytes = c.of-bytes.ensures ∙ c.push_moved.ensures
          ∙ bytes_made e xs c.args.plan.layout c.args.plan.shape (length c.args.io.now) front c.step-turn.new.io c.since-tail.result.now c.step-turn.result (members_in c.step-turn.new.group) made plan.shape plan.layout lent (task_fits ms xs own e.sub (client_of e.client) d st lt at_own)
          (λ t. c.since-tail.ensures ∙ (tail t).0);
      asleep = asleep_after c.steps.ensures.step e front ms xs own m.0 d st m.1 at_own c.requires.free;
    } in
    let same = c.split_at_mut-front.ensures.front in
    let out = c.step-turn.new.io in
    let back = c.split_at_mut-front.result.1.now in
    let size = c.step-turn.ensures.size ∙ c.split_at_mut-front.ensures.front_len in
    let stepped = c.record-receipt.ensures.stepped xs front room made_is made.members in
    record {
      members = subst (λ (l : List ℕ). AllStandFor (members_in c.record-receipt.new.self.group) (step_of e l xs).members) same (subst (λ (x : Group AnyCard ghosts). AllStandFor (members_in x) (step_of e front xs).members) (sym c.record-receipt.ensures.group) made.members);
      reply_is = made.turn_is.reply ∙ ap (λ (l : List ℕ). (step_of e l xs).answer.reply) same;
      woken_is = made.turn_is.woken ∙ ap (λ (l : List ℕ). mask_of (step_of e l xs).woken) same;
      stepped = subst (λ (l : List ℕ). IsStepped e l xs own (length c.args.io.now) c.args.self.now.number c.args.self.now.serial rs c.record-receipt.new.self.recs.items c.args.self.now.book.items c.record-receipt.new.self.book.items c.args.pass.now c.record-receipt.new.pass c.record-receipt.result) same stepped;
      left = subst (λ (z : List ℕ × List ℕ). IsLeft e.call (client_of e.client) (stream_of e.sub xs) (step_of e z.0 xs).answer z.0 z.1) (λ i. (same i, sym (take-front c.args.plan.lent out back size) i)) made.left;
      rest = drop-front c.args.plan.lent out back size ∙ c.split_at_mut-front.ensures.back;
    }

pub returns-clause-fit : goal.returns-clause-fit
returns-clause-fit g c =
    λ xs room st.
    let rs = c.args.self.now.recs.items in
    let ms = members_in c.args.self.now.group in
    let e = c.args.event.now in
    let own = c.args.own in
    let r = get_or rs own no_rec in
    let at = found rs own c.requires.own in
    let is = c.requires.sub r at in
    let numbers = room.recs_are ∙ numbers_are ms xs st in
    let front = c.split_at_mut-front.result.0.now in
    let plan = c.requires.plan xs st in
    let lent : IsLent (reading_length e.call (client_of e.client) (stream_of e.sub xs)) (length c.args.io.now) (length front) = subst (IsLent (reading_length e.call (client_of e.client) (stream_of e.sub xs)) (length c.args.io.now)) (sym c.split_at_mut-front.ensures.front_len) plan.lent in
    let made = c.step-turn.ensures.made xs st (c.is_memory.ensures.no c.if-is_memory.false) in
    let now_numbers = numbers ∙ sym c.step-turn.ensures.numbers ∙ sym (ap (λ (l : List (Member AnyCard ghosts)). numbers_of l) c.members.ensures.members) in
    let there = own_is_member rs xs own r e.sub room.recs_are at is in
    let stands = subst (λ (l : List (Member AnyCard ghosts)). AllStandFor l (step_of e front xs).members) (sym c.members.ensures.members) made.members in
    let taken = c.taken_at.ensures e.sub (step_of e front xs).members (number_at (numbers_of (members_of c.members.result.now)) rs own r e.sub now_numbers at is) stands in
    let tail = tail_made c.marks.ensures.streams e front xs c.args.plan.taken (vec_capacity c.args.plan.bytes) c.taken_at.result.now there plan.taken taken plan.room in
    let d = subst (λ (ks : List SubId). Distinct ks) (numbers_are ms xs st) room.fits.fits.apart in
    let lt = place_in ms rs own numbers c.requires.own in
    let at_own = number_at (numbers_of ms) rs own r e.sub numbers at is in
    let m = one_member ms own lt in
    let made_is : IsMade e front xs (length c.args.io.now) c.of-bytes.result c.step-turn.result = record {
      turn_is = made.turn_is;
      lent = lent;
      bytes = c.of-bytes.ensures ∙ c.push_moved.ensures
          ∙ bytes_made e xs c.args.plan.layout c.args.plan.shape (length c.args.io.now) front c.step-turn.new.io c.since-tail.result.now c.step-turn.result (members_in c.step-turn.new.group) made plan.shape plan.layout lent (task_fits ms xs own e.sub (client_of e.client) d st lt at_own)
          (λ t. c.since-tail.ensures ∙ (tail t).0);
      asleep = asleep_after c.steps.ensures.step e front ms xs own m.0 d st m.1 at_own c.requires.free;
    } in
    subst (λ (z : List ℕ × ℕ). FitsIn (fresh_streams g.N.FloorName.cards g.N.FloorName.long_max) (length g.N.FloorName.cards) c.record-receipt.new.self.serial z.1 (step_of e z.0 xs).members c.record-receipt.new.self.recs.items c.record-receipt.new.self.book.items)
    (λ i. (c.split_at_mut-front.ensures.front i, sym c.record-receipt.ensures.number i)) (c.record-receipt.ensures.fits xs front room made_is made.members)

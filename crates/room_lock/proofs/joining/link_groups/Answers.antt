use Rattle.std.proofs.Common.{◌≡◌, nat_le, ℕ, length, inl, inr, ap, ◌∙◌, subst}
use Rattle.card_emul.specs.declared.any_card.AnyCard.{AnyCard}
use Rattle.card_emul.specs.contracts.any_card.AnyCardCard.TheImpl.{ghosts}
use Rattle.pcm_group.specs.Inside.{members_in}
use Rattle.pcm_group.specs.declared.group.Group.{Group}
use Rattle.room_book.specs.Rooms.{fresh_streams}
use Rattle.room_lock.specs.Answers.{log_in}
use Rattle.room_lock.specs.InRoom.{InRoom}
use Rattle.room_lock.specs.Inside.{view_of}
use Rattle.room_lock.specs.Joining.{IsJoining}
use Rattle.room_lock.specs.Linked.{link_of}
use Rattle.pcm_base.specs.model.Group.{stream_of}
use Rattle.room_lock.proofs.KnownLemmas.{Knows, in_known, in_room, joining_known, log_in_known, room_in, room_known}
use Rattle.room_lock.proofs.RoomLemmas.{full_of, memory_of, on_all}
use Rattle.room_lock.proofs.TurnLemmas.{fits_refused, on_done, on_full, short_full}
use Rattle.room_lock.proofs.joining.link_groups.Goals as goal

pub returns-in-Some-clause-first : goal.returns-in-Some-clause-first
returns-in-Some-clause-first g c =
    let cs = g.N.FloorName.cards in
    let long_max = g.N.FloorName.long_max in
    let origin = fresh_streams cs long_max in
    let cards = length cs in
    record {
      streams = c.requires.first.streams;
      stand = c.requires.first.stand;
      fits_in = on_full c.refuse.result _ _ c.refuse.ensures.full c.refuse.ensures.refused
          (λ sub count no. fits_refused origin cards c.args.first.now.serial c.args.first.now.number c.requires.first.streams c.args.first.now.recs.items c.refuse.new.recs.items c.args.first.now.book.items no.logs no.subs no.places c.requires.first.fits_in);
    }

pub returns-in-Some-full-clause-second : goal.returns-in-Some-full-clause-second
returns-in-Some-full-clause-second g c =
    let cs = g.N.FloorName.cards in
    let long_max = g.N.FloorName.long_max in
    let origin = fresh_streams cs long_max in
    let cards = length cs in
    record {
      streams = c.requires.second.streams;
      stand = c.requires.second.stand;
      fits_in = on_full c.refuse-in-Some-full.result _ _ c.refuse-in-Some-full.ensures.full c.refuse-in-Some-full.ensures.refused
          (λ sub count no. fits_refused origin cards c.args.second.now.serial c.args.second.now.number c.requires.second.streams c.args.second.now.recs.items c.refuse-in-Some-full.new.recs.items c.args.second.now.book.items no.logs no.subs no.places c.requires.second.fits_in);
    }

pub tell_and_join-requires-clause-first : goal.tell_and_join-requires-clause-first
tell_and_join-requires-clause-first g c =
    let cs = g.N.FloorName.cards in
    let long_max = g.N.FloorName.long_max in
    let origin = fresh_streams cs long_max in
    let cards = length cs in
    let kfirst : Knows c.args.first.now.serial c.prepare_to_join.new.first.serial (view_of c.args.first.now) (view_of c.prepare_to_join.new.first) = record {
      serial = c.prepare_to_join.ensures.first.4;
      number = c.prepare_to_join.ensures.first.3;
      members = ap (λ (x : Group AnyCard ghosts). members_in x) c.prepare_to_join.ensures.first.2;
      recs = c.prepare_to_join.ensures.first.0;
      book = c.prepare_to_join.ensures.first.1;
    } in
    room_in origin cards c.prepare_to_join.new.first.serial (view_of c.prepare_to_join.new.first) c.requires.first.streams
    (in_known origin cards c.args.first.now.serial c.prepare_to_join.new.first.serial (view_of c.args.first.now) (view_of c.prepare_to_join.new.first) c.requires.first.streams kfirst (in_room origin cards c.args.first.now.serial (view_of c.args.first.now) c.requires.first))

pub returns-in-None-clause-first : goal.returns-in-None-clause-first
returns-in-None-clause-first g c =
    let cs = g.N.FloorName.cards in
    let long_max = g.N.FloorName.long_max in
    let origin = fresh_streams cs long_max in
    let cards = length cs in
    let kfirst : Knows c.args.first.now.serial c.prepare_to_join.new.first.serial (view_of c.args.first.now) (view_of c.prepare_to_join.new.first) = record {
      serial = c.prepare_to_join.ensures.first.4;
      number = c.prepare_to_join.ensures.first.3;
      members = ap (λ (x : Group AnyCard ghosts). members_in x) c.prepare_to_join.ensures.first.2;
      recs = c.prepare_to_join.ensures.first.0;
      book = c.prepare_to_join.ensures.first.1;
    } in
    room_in origin cards c.prepare_to_join.new.first.serial (view_of c.prepare_to_join.new.first) c.requires.first.streams
    (in_known origin cards c.args.first.now.serial c.prepare_to_join.new.first.serial (view_of c.args.first.now) (view_of c.prepare_to_join.new.first) c.requires.first.streams kfirst (in_room origin cards c.args.first.now.serial (view_of c.args.first.now) c.requires.first))

pub tell_and_join-requires-clause-second : goal.tell_and_join-requires-clause-second
tell_and_join-requires-clause-second g c =
    let cs = g.N.FloorName.cards in
    let long_max = g.N.FloorName.long_max in
    let origin = fresh_streams cs long_max in
    let cards = length cs in
    let ksecond : Knows c.args.second.now.serial c.prepare_to_join.new.second.serial (view_of c.args.second.now) (view_of c.prepare_to_join.new.second) = record {
      serial = c.prepare_to_join.ensures.second.4;
      number = c.prepare_to_join.ensures.second.3;
      members = ap (λ (x : Group AnyCard ghosts). members_in x) c.prepare_to_join.ensures.second.2;
      recs = c.prepare_to_join.ensures.second.0;
      book = c.prepare_to_join.ensures.second.1;
    } in
    room_in origin cards c.prepare_to_join.new.second.serial (view_of c.prepare_to_join.new.second) c.requires.second.streams
    (in_known origin cards c.args.second.now.serial c.prepare_to_join.new.second.serial (view_of c.args.second.now) (view_of c.prepare_to_join.new.second) c.requires.second.streams ksecond (in_room origin cards c.args.second.now.serial (view_of c.args.second.now) c.requires.second))

pub returns-in-None-clause-second : goal.returns-in-None-clause-second
returns-in-None-clause-second g c =
    let cs = g.N.FloorName.cards in
    let long_max = g.N.FloorName.long_max in
    let origin = fresh_streams cs long_max in
    let cards = length cs in
    let ksecond : Knows c.args.second.now.serial c.prepare_to_join.new.second.serial (view_of c.args.second.now) (view_of c.prepare_to_join.new.second) = record {
      serial = c.prepare_to_join.ensures.second.4;
      number = c.prepare_to_join.ensures.second.3;
      members = ap (λ (x : Group AnyCard ghosts). members_in x) c.prepare_to_join.ensures.second.2;
      recs = c.prepare_to_join.ensures.second.0;
      book = c.prepare_to_join.ensures.second.1;
    } in
    room_in origin cards c.prepare_to_join.new.second.serial (view_of c.prepare_to_join.new.second) c.requires.second.streams
    (in_known origin cards c.args.second.now.serial c.prepare_to_join.new.second.serial (view_of c.args.second.now) (view_of c.prepare_to_join.new.second) c.requires.second.streams ksecond (in_room origin cards c.args.second.now.serial (view_of c.args.second.now) c.requires.second))

pub tell_and_join-requires-clause-room : goal.tell_and_join-requires-clause-room
tell_and_join-requires-clause-room g c = (
  room_known c.args.first.now.recs.items c.prepare_to_join.new.first.recs.items c.prepare_to_join.ensures.first.0 c.in_default.ensures.none c.in-Some-prepare_to_join.ensures.spare.0,
  room_known c.args.second.now.recs.items c.prepare_to_join.new.second.recs.items c.prepare_to_join.ensures.second.0 c.in_default-full.ensures.none c.in-Some-prepare_to_join.ensures.spare.1,
)

pub returns-in-Some-prepare_to_join-clause-first : goal.returns-in-Some-prepare_to_join-clause-first
returns-in-Some-prepare_to_join-clause-first g c =
    let cs = g.N.FloorName.cards in
    let long_max = g.N.FloorName.long_max in
    let origin = fresh_streams cs long_max in
    let cards = length cs in
    let kfirst : Knows c.args.first.now.serial c.prepare_to_join.new.first.serial (view_of c.args.first.now) (view_of c.prepare_to_join.new.first) = record {
      serial = c.prepare_to_join.ensures.first.4;
      number = c.prepare_to_join.ensures.first.3;
      members = ap (λ (x : Group AnyCard ghosts). members_in x) c.prepare_to_join.ensures.first.2;
      recs = c.prepare_to_join.ensures.first.0;
      book = c.prepare_to_join.ensures.first.1;
    } in
    let ksecond : Knows c.args.second.now.serial c.prepare_to_join.new.second.serial (view_of c.args.second.now) (view_of c.prepare_to_join.new.second) = record {
      serial = c.prepare_to_join.ensures.second.4;
      number = c.prepare_to_join.ensures.second.3;
      members = ap (λ (x : Group AnyCard ghosts). members_in x) c.prepare_to_join.ensures.second.2;
      recs = c.prepare_to_join.ensures.second.0;
      book = c.prepare_to_join.ensures.second.1;
    } in
    let xs = c.requires.first.streams in
    let ys = c.requires.second.streams in
    let in1 = in_known origin cards c.args.first.now.serial c.prepare_to_join.new.first.serial (view_of c.args.first.now) (view_of c.prepare_to_join.new.first) xs kfirst (in_room origin cards c.args.first.now.serial (view_of c.args.first.now) c.requires.first) in
    let in2 = in_known origin cards c.args.second.now.serial c.prepare_to_join.new.second.serial (view_of c.args.second.now) (view_of c.prepare_to_join.new.second) ys ksecond (in_room origin cards c.args.second.now.serial (view_of c.args.second.now) c.requires.second) in
    let P : Type 0 = InRoom origin cards c.tell_and_join.new.first.serial (view_of c.tell_and_join.new.first) in
    on_all c.tell_and_join.result P
    (on_done c.tell_and_join.result _ (λ reply receipt woken. P) (λ reply receipt woken m. room_in origin cards c.tell_and_join.new.first.serial (view_of c.tell_and_join.new.first) _ m.0) (c.tell_and_join.ensures.members xs ys in1 in2))
    (full_of c.tell_and_join.result (λ sub count. ⊥) (λ sub count. P) (λ sub count no. absurd no) c.tell_and_join.ensures.done.0)
    (memory_of c.tell_and_join.result ⊥ P (λ no. absurd no) c.tell_and_join.ensures.done.1)

pub returns-in-Some-prepare_to_join-clause-second : goal.returns-in-Some-prepare_to_join-clause-second
returns-in-Some-prepare_to_join-clause-second g c =
    let cs = g.N.FloorName.cards in
    let long_max = g.N.FloorName.long_max in
    let origin = fresh_streams cs long_max in
    let cards = length cs in
    let kfirst : Knows c.args.first.now.serial c.prepare_to_join.new.first.serial (view_of c.args.first.now) (view_of c.prepare_to_join.new.first) = record {
      serial = c.prepare_to_join.ensures.first.4;
      number = c.prepare_to_join.ensures.first.3;
      members = ap (λ (x : Group AnyCard ghosts). members_in x) c.prepare_to_join.ensures.first.2;
      recs = c.prepare_to_join.ensures.first.0;
      book = c.prepare_to_join.ensures.first.1;
    } in
    let ksecond : Knows c.args.second.now.serial c.prepare_to_join.new.second.serial (view_of c.args.second.now) (view_of c.prepare_to_join.new.second) = record {
      serial = c.prepare_to_join.ensures.second.4;
      number = c.prepare_to_join.ensures.second.3;
      members = ap (λ (x : Group AnyCard ghosts). members_in x) c.prepare_to_join.ensures.second.2;
      recs = c.prepare_to_join.ensures.second.0;
      book = c.prepare_to_join.ensures.second.1;
    } in
    let xs = c.requires.first.streams in
    let ys = c.requires.second.streams in
    let in1 = in_known origin cards c.args.first.now.serial c.prepare_to_join.new.first.serial (view_of c.args.first.now) (view_of c.prepare_to_join.new.first) xs kfirst (in_room origin cards c.args.first.now.serial (view_of c.args.first.now) c.requires.first) in
    let in2 = in_known origin cards c.args.second.now.serial c.prepare_to_join.new.second.serial (view_of c.args.second.now) (view_of c.prepare_to_join.new.second) ys ksecond (in_room origin cards c.args.second.now.serial (view_of c.args.second.now) c.requires.second) in
    let P : Type 0 = InRoom origin cards c.tell_and_join.new.second.serial (view_of c.tell_and_join.new.second) in
    on_all c.tell_and_join.result P
    (on_done c.tell_and_join.result _ (λ reply receipt woken. P) (λ reply receipt woken m. room_in origin cards c.tell_and_join.new.second.serial (view_of c.tell_and_join.new.second) _ m.1) (c.tell_and_join.ensures.members xs ys in1 in2))
    (full_of c.tell_and_join.result (λ sub count. ⊥) (λ sub count. P) (λ sub count no. absurd no) c.tell_and_join.ensures.done.0)
    (memory_of c.tell_and_join.result ⊥ P (λ no. absurd no) c.tell_and_join.ensures.done.1)

pub returns-in-Some-prepare_to_join-clause-members : goal.returns-in-Some-prepare_to_join-clause-members
returns-in-Some-prepare_to_join-clause-members g c = λ xs ys in1 in2.
    let cs = g.N.FloorName.cards in
    let long_max = g.N.FloorName.long_max in
    let origin = fresh_streams cs long_max in
    let cards = length cs in
    let kfirst : Knows c.args.first.now.serial c.prepare_to_join.new.first.serial (view_of c.args.first.now) (view_of c.prepare_to_join.new.first) = record {
      serial = c.prepare_to_join.ensures.first.4;
      number = c.prepare_to_join.ensures.first.3;
      members = ap (λ (x : Group AnyCard ghosts). members_in x) c.prepare_to_join.ensures.first.2;
      recs = c.prepare_to_join.ensures.first.0;
      book = c.prepare_to_join.ensures.first.1;
    } in
    let ksecond : Knows c.args.second.now.serial c.prepare_to_join.new.second.serial (view_of c.args.second.now) (view_of c.prepare_to_join.new.second) = record {
      serial = c.prepare_to_join.ensures.second.4;
      number = c.prepare_to_join.ensures.second.3;
      members = ap (λ (x : Group AnyCard ghosts). members_in x) c.prepare_to_join.ensures.second.2;
      recs = c.prepare_to_join.ensures.second.0;
      book = c.prepare_to_join.ensures.second.1;
    } in
    c.tell_and_join.ensures.members xs ys (in_known origin cards c.args.first.now.serial c.prepare_to_join.new.first.serial (view_of c.args.first.now) (view_of c.prepare_to_join.new.first) xs kfirst in1) (in_known origin cards c.args.second.now.serial c.prepare_to_join.new.second.serial (view_of c.args.second.now) (view_of c.prepare_to_join.new.second) ys ksecond in2)

pub returns-in-Some-prepare_to_join-clause-joined : goal.returns-in-Some-prepare_to_join-clause-joined
returns-in-Some-prepare_to_join-clause-joined g c = λ xs ys in1 in2.
    let cs = g.N.FloorName.cards in
    let long_max = g.N.FloorName.long_max in
    let origin = fresh_streams cs long_max in
    let cards = length cs in
    let kfirst : Knows c.args.first.now.serial c.prepare_to_join.new.first.serial (view_of c.args.first.now) (view_of c.prepare_to_join.new.first) = record {
      serial = c.prepare_to_join.ensures.first.4;
      number = c.prepare_to_join.ensures.first.3;
      members = ap (λ (x : Group AnyCard ghosts). members_in x) c.prepare_to_join.ensures.first.2;
      recs = c.prepare_to_join.ensures.first.0;
      book = c.prepare_to_join.ensures.first.1;
    } in
    let ksecond : Knows c.args.second.now.serial c.prepare_to_join.new.second.serial (view_of c.args.second.now) (view_of c.prepare_to_join.new.second) = record {
      serial = c.prepare_to_join.ensures.second.4;
      number = c.prepare_to_join.ensures.second.3;
      members = ap (λ (x : Group AnyCard ghosts). members_in x) c.prepare_to_join.ensures.second.2;
      recs = c.prepare_to_join.ensures.second.0;
      book = c.prepare_to_join.ensures.second.1;
    } in
    on_done c.tell_and_join.result _ _
    (λ reply receipt woken m. joining_known c.args.first.now.serial c.prepare_to_join.new.first.serial c.args.second.now.serial c.prepare_to_join.new.second.serial _ c.args.pass.now.knows (view_of c.args.first.now) (view_of c.prepare_to_join.new.first) (view_of c.tell_and_join.new.first) (view_of c.args.second.now) (view_of c.prepare_to_join.new.second) (view_of c.tell_and_join.new.second) xs ys reply woken kfirst ksecond
    (subst (λ (n : ℕ). IsJoining (link_of c.args.client c.args.from c.args.to (stream_of c.args.from xs).state (stream_of c.args.to ys).state (nat_le 16 n)) c.args.pass.now.knows (view_of c.prepare_to_join.new.first) (view_of c.tell_and_join.new.first) (view_of c.prepare_to_join.new.second) (view_of c.tell_and_join.new.second) xs ys reply woken) c.prepare_to_join.ensures.second.3 m))
    (c.tell_and_join.ensures.joined xs ys (in_known origin cards c.args.first.now.serial c.prepare_to_join.new.first.serial (view_of c.args.first.now) (view_of c.prepare_to_join.new.first) xs kfirst in1) (in_known origin cards c.args.second.now.serial c.prepare_to_join.new.second.serial (view_of c.args.second.now) (view_of c.prepare_to_join.new.second) ys ksecond in2))

pub returns-in-Some-prepare_to_join-clause-receipt : goal.returns-in-Some-prepare_to_join-clause-receipt
returns-in-Some-prepare_to_join-clause-receipt g c =
    let same : length (log_in c.args.from c.prepare_to_join.new.first.recs.items) ≡ length (log_in c.args.from c.args.first.now.recs.items) = ap length (log_in_known c.args.from c.args.first.now.recs.items c.prepare_to_join.new.first.recs.items c.prepare_to_join.ensures.first.0) in
    on_done c.tell_and_join.result _ _ (λ reply receipt woken r. (r.0, r.1 ∙ same)) c.tell_and_join.ensures.receipt

pub returns-in-Some-prepare_to_join-clause-full : goal.returns-in-Some-prepare_to_join-clause-full
returns-in-Some-prepare_to_join-clause-full g c = λ f.
    absurd (elim f [ inl x ↦ short_full c.args.first.now.recs.items x.0 c.in_default.ensures.none x.1 | inr x ↦ short_full c.args.second.now.recs.items x.0 c.in_default-full.ensures.none x.1 ])

pub returns-in-None-clause-full : goal.returns-in-None-clause-full
returns-in-None-clause-full g c = λ f.
    absurd (elim f [ inl x ↦ short_full c.args.first.now.recs.items x.0 c.in_default.ensures.none x.1 | inr x ↦ short_full c.args.second.now.recs.items x.0 c.in_default-full.ensures.none x.1 ])

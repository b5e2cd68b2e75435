use Rattle.std.proofs.Common.{◌≡◌, ℕ, List, [], length, inl, inr, sym, ap, ◌∙◌}
use Rattle.card_emul.specs.declared.any_card.AnyCard.{AnyCard}
use Rattle.card_emul.specs.contracts.any_card.AnyCardCard.TheImpl.{ghosts}
use Rattle.pcm_base.specs.model.Acts.{subs}
use Rattle.pcm_group.specs.Inside.{members_in}
use Rattle.pcm_group.specs.declared.group.Group.{Group}
use Rattle.pcm_stream.specs.Members.{numbers_of}
use Rattle.pcm_stream.specs.declared.members.Member.{Member}
use Rattle.room_book.specs.Rooms.{fresh_streams}
use Rattle.room_book.specs.declared.book.BookEntry.{BookEntry}
use Rattle.room_parts.specs.Recs.{RecView}
use Rattle.room_lock.specs.Answers.{log_in}
use Rattle.room_lock.specs.InRoom.{InRoom, RoomView}
use Rattle.room_lock.specs.Inside.{view_of}
use Rattle.room_lock.proofs.KnownLemmas.{Knows, in_known, in_room, log_in_known, meeting_known, none_known, room_in, room_known}
use Rattle.room_lock.proofs.MemberLemmas.{numbers_are}
use Rattle.room_lock.proofs.RoomLemmas.{full_of, memory_of, on_all}
use Rattle.room_lock.proofs.TellingLemmas.{no_recs_of, no_streams}
use Rattle.room_lock.proofs.TurnLemmas.{fits_refused, on_done, on_full, short_full}
use Rattle.room_lock.proofs.links.link_alone.Goals as goal

pub returns-in-Some-clause-first : goal.returns-in-Some-clause-first
returns-in-Some-clause-first g c =
    let cs = g.N.FloorName.cards in
    let long_max = g.N.FloorName.long_max in
    let origin = fresh_streams cs long_max in
    let cards = length cs in
    record {
      streams = c.requires.first.streams;
      stand = c.requires.first.stand;
      fits_in = on_full c.refuse.result _ _ c.refuse.ensures.full c.refuse.ensures.refused
          (λ sub count no. fits_refused origin cards c.args.first.now.serial c.args.first.now.number c.requires.first.streams c.args.first.now.recs.items c.refuse.new.recs.items c.args.first.now.book.items no.logs no.subs no.places c.requires.first.fits_in);
    }

pub returns-in-Some-full-clause-second : goal.returns-in-Some-full-clause-second
returns-in-Some-full-clause-second g c =
    let cs = g.N.FloorName.cards in
    let long_max = g.N.FloorName.long_max in
    let origin = fresh_streams cs long_max in
    let cards = length cs in
    record {
      streams = c.requires.second.streams;
      stand = c.requires.second.stand;
      fits_in = on_full c.refuse-in-Some-full.result _ _ c.refuse-in-Some-full.ensures.full c.refuse-in-Some-full.ensures.refused
          (λ sub count no. fits_refused origin cards c.args.second.now.serial c.args.second.now.number c.requires.second.streams c.args.second.now.recs.items c.refuse-in-Some-full.new.recs.items c.args.second.now.book.items no.logs no.subs no.places c.requires.second.fits_in);
    }

pub tell_and_meet-requires-clause-first : goal.tell_and_meet-requires-clause-first
tell_and_meet-requires-clause-first g c =
    let cs = g.N.FloorName.cards in
    let long_max = g.N.FloorName.long_max in
    let origin = fresh_streams cs long_max in
    let cards = length cs in
    let kfirst : Knows c.args.first.now.serial c.prepare_to_meet.new.first.serial (view_of c.args.first.now) (view_of c.prepare_to_meet.new.first) = record {
      serial = c.prepare_to_meet.ensures.first.4;
      number = c.prepare_to_meet.ensures.first.3;
      members = ap (λ (x : Group AnyCard ghosts). members_in x) c.prepare_to_meet.ensures.first.2;
      recs = c.prepare_to_meet.ensures.first.0;
      book = c.prepare_to_meet.ensures.first.1;
    } in
    room_in origin cards c.prepare_to_meet.new.first.serial (view_of c.prepare_to_meet.new.first) c.requires.first.streams
    (in_known origin cards c.args.first.now.serial c.prepare_to_meet.new.first.serial (view_of c.args.first.now) (view_of c.prepare_to_meet.new.first) c.requires.first.streams kfirst (in_room origin cards c.args.first.now.serial (view_of c.args.first.now) c.requires.first))

pub returns-in-None-clause-first : goal.returns-in-None-clause-first
returns-in-None-clause-first g c =
    let cs = g.N.FloorName.cards in
    let long_max = g.N.FloorName.long_max in
    let origin = fresh_streams cs long_max in
    let cards = length cs in
    let kfirst : Knows c.args.first.now.serial c.prepare_to_meet.new.first.serial (view_of c.args.first.now) (view_of c.prepare_to_meet.new.first) = record {
      serial = c.prepare_to_meet.ensures.first.4;
      number = c.prepare_to_meet.ensures.first.3;
      members = ap (λ (x : Group AnyCard ghosts). members_in x) c.prepare_to_meet.ensures.first.2;
      recs = c.prepare_to_meet.ensures.first.0;
      book = c.prepare_to_meet.ensures.first.1;
    } in
    room_in origin cards c.prepare_to_meet.new.first.serial (view_of c.prepare_to_meet.new.first) c.requires.first.streams
    (in_known origin cards c.args.first.now.serial c.prepare_to_meet.new.first.serial (view_of c.args.first.now) (view_of c.prepare_to_meet.new.first) c.requires.first.streams kfirst (in_room origin cards c.args.first.now.serial (view_of c.args.first.now) c.requires.first))

pub tell_and_meet-requires-clause-second : goal.tell_and_meet-requires-clause-second
tell_and_meet-requires-clause-second g c =
    let cs = g.N.FloorName.cards in
    let long_max = g.N.FloorName.long_max in
    let origin = fresh_streams cs long_max in
    let cards = length cs in
    let ksecond : Knows c.args.second.now.serial c.prepare_to_meet.new.second.serial (view_of c.args.second.now) (view_of c.prepare_to_meet.new.second) = record {
      serial = c.prepare_to_meet.ensures.second.4;
      number = c.prepare_to_meet.ensures.second.3;
      members = ap (λ (x : Group AnyCard ghosts). members_in x) c.prepare_to_meet.ensures.second.2;
      recs = c.prepare_to_meet.ensures.second.0;
      book = c.prepare_to_meet.ensures.second.1;
    } in
    room_in origin cards c.prepare_to_meet.new.second.serial (view_of c.prepare_to_meet.new.second) c.requires.second.streams
    (in_known origin cards c.args.second.now.serial c.prepare_to_meet.new.second.serial (view_of c.args.second.now) (view_of c.prepare_to_meet.new.second) c.requires.second.streams ksecond (in_room origin cards c.args.second.now.serial (view_of c.args.second.now) c.requires.second))

pub returns-in-None-clause-second : goal.returns-in-None-clause-second
returns-in-None-clause-second g c =
    let cs = g.N.FloorName.cards in
    let long_max = g.N.FloorName.long_max in
    let origin = fresh_streams cs long_max in
    let cards = length cs in
    let ksecond : Knows c.args.second.now.serial c.prepare_to_meet.new.second.serial (view_of c.args.second.now) (view_of c.prepare_to_meet.new.second) = record {
      serial = c.prepare_to_meet.ensures.second.4;
      number = c.prepare_to_meet.ensures.second.3;
      members = ap (λ (x : Group AnyCard ghosts). members_in x) c.prepare_to_meet.ensures.second.2;
      recs = c.prepare_to_meet.ensures.second.0;
      book = c.prepare_to_meet.ensures.second.1;
    } in
    room_in origin cards c.prepare_to_meet.new.second.serial (view_of c.prepare_to_meet.new.second) c.requires.second.streams
    (in_known origin cards c.args.second.now.serial c.prepare_to_meet.new.second.serial (view_of c.args.second.now) (view_of c.prepare_to_meet.new.second) c.requires.second.streams ksecond (in_room origin cards c.args.second.now.serial (view_of c.args.second.now) c.requires.second))

pub tell_and_meet-requires-clause-room : goal.tell_and_meet-requires-clause-room
tell_and_meet-requires-clause-room g c = (
  room_known c.args.first.now.recs.items c.prepare_to_meet.new.first.recs.items c.prepare_to_meet.ensures.first.0 c.in_default.ensures.none c.in-Some-prepare_to_meet.ensures.spare.0,
  room_known c.args.second.now.recs.items c.prepare_to_meet.new.second.recs.items c.prepare_to_meet.ensures.second.0 c.in_default-full.ensures.none c.in-Some-prepare_to_meet.ensures.spare.1,
)

pub returns-in-Some-prepare_to_meet-clause-first : goal.returns-in-Some-prepare_to_meet-clause-first
returns-in-Some-prepare_to_meet-clause-first g c =
    let cs = g.N.FloorName.cards in
    let long_max = g.N.FloorName.long_max in
    let origin = fresh_streams cs long_max in
    let cards = length cs in
    let kfirst : Knows c.args.first.now.serial c.prepare_to_meet.new.first.serial (view_of c.args.first.now) (view_of c.prepare_to_meet.new.first) = record {
      serial = c.prepare_to_meet.ensures.first.4;
      number = c.prepare_to_meet.ensures.first.3;
      members = ap (λ (x : Group AnyCard ghosts). members_in x) c.prepare_to_meet.ensures.first.2;
      recs = c.prepare_to_meet.ensures.first.0;
      book = c.prepare_to_meet.ensures.first.1;
    } in
    let ksecond : Knows c.args.second.now.serial c.prepare_to_meet.new.second.serial (view_of c.args.second.now) (view_of c.prepare_to_meet.new.second) = record {
      serial = c.prepare_to_meet.ensures.second.4;
      number = c.prepare_to_meet.ensures.second.3;
      members = ap (λ (x : Group AnyCard ghosts). members_in x) c.prepare_to_meet.ensures.second.2;
      recs = c.prepare_to_meet.ensures.second.0;
      book = c.prepare_to_meet.ensures.second.1;
    } in
    let xs = c.requires.first.streams in
    let ys = c.requires.second.streams in
    let in1 = in_known origin cards c.args.first.now.serial c.prepare_to_meet.new.first.serial (view_of c.args.first.now) (view_of c.prepare_to_meet.new.first) xs kfirst (in_room origin cards c.args.first.now.serial (view_of c.args.first.now) c.requires.first) in
    let in2 = in_known origin cards c.args.second.now.serial c.prepare_to_meet.new.second.serial (view_of c.args.second.now) (view_of c.prepare_to_meet.new.second) ys ksecond (in_room origin cards c.args.second.now.serial (view_of c.args.second.now) c.requires.second) in
    let P : Type 0 = InRoom origin cards c.tell_and_meet.new.first.serial (view_of c.tell_and_meet.new.first) in
    on_all c.tell_and_meet.result P
    (on_done c.tell_and_meet.result _ (λ reply receipt woken. P) (λ reply receipt woken m. room_in origin cards c.tell_and_meet.new.first.serial (view_of c.tell_and_meet.new.first) _ m.0) (c.tell_and_meet.ensures.members xs ys in1 in2))
    (full_of c.tell_and_meet.result (λ sub count. ⊥) (λ sub count. P) (λ sub count no. absurd no) c.tell_and_meet.ensures.done.0)
    (memory_of c.tell_and_meet.result ⊥ P (λ no. absurd no) c.tell_and_meet.ensures.done.1)

pub returns-in-Some-prepare_to_meet-clause-second : goal.returns-in-Some-prepare_to_meet-clause-second
returns-in-Some-prepare_to_meet-clause-second g c =
    let cs = g.N.FloorName.cards in
    let long_max = g.N.FloorName.long_max in
    let origin = fresh_streams cs long_max in
    let cards = length cs in
    let kfirst : Knows c.args.first.now.serial c.prepare_to_meet.new.first.serial (view_of c.args.first.now) (view_of c.prepare_to_meet.new.first) = record {
      serial = c.prepare_to_meet.ensures.first.4;
      number = c.prepare_to_meet.ensures.first.3;
      members = ap (λ (x : Group AnyCard ghosts). members_in x) c.prepare_to_meet.ensures.first.2;
      recs = c.prepare_to_meet.ensures.first.0;
      book = c.prepare_to_meet.ensures.first.1;
    } in
    let ksecond : Knows c.args.second.now.serial c.prepare_to_meet.new.second.serial (view_of c.args.second.now) (view_of c.prepare_to_meet.new.second) = record {
      serial = c.prepare_to_meet.ensures.second.4;
      number = c.prepare_to_meet.ensures.second.3;
      members = ap (λ (x : Group AnyCard ghosts). members_in x) c.prepare_to_meet.ensures.second.2;
      recs = c.prepare_to_meet.ensures.second.0;
      book = c.prepare_to_meet.ensures.second.1;
    } in
    let xs = c.requires.first.streams in
    let ys = c.requires.second.streams in
    let in1 = in_known origin cards c.args.first.now.serial c.prepare_to_meet.new.first.serial (view_of c.args.first.now) (view_of c.prepare_to_meet.new.first) xs kfirst (in_room origin cards c.args.first.now.serial (view_of c.args.first.now) c.requires.first) in
    let in2 = in_known origin cards c.args.second.now.serial c.prepare_to_meet.new.second.serial (view_of c.args.second.now) (view_of c.prepare_to_meet.new.second) ys ksecond (in_room origin cards c.args.second.now.serial (view_of c.args.second.now) c.requires.second) in
    let P : Type 0 = InRoom origin cards c.tell_and_meet.new.second.serial (view_of c.tell_and_meet.new.second) in
    on_all c.tell_and_meet.result P
    (on_done c.tell_and_meet.result _ (λ reply receipt woken. P) (λ reply receipt woken m. room_in origin cards c.tell_and_meet.new.second.serial (view_of c.tell_and_meet.new.second) _ m.1) (c.tell_and_meet.ensures.members xs ys in1 in2))
    (full_of c.tell_and_meet.result (λ sub count. ⊥) (λ sub count. P) (λ sub count no. absurd no) c.tell_and_meet.ensures.done.0)
    (memory_of c.tell_and_meet.result ⊥ P (λ no. absurd no) c.tell_and_meet.ensures.done.1)

pub returns-in-Some-prepare_to_meet-clause-group : goal.returns-in-Some-prepare_to_meet-clause-group
returns-in-Some-prepare_to_meet-clause-group g c =
    let cs = g.N.FloorName.cards in
    let long_max = g.N.FloorName.long_max in
    let origin = fresh_streams cs long_max in
    let cards = length cs in
    let kfirst : Knows c.args.first.now.serial c.prepare_to_meet.new.first.serial (view_of c.args.first.now) (view_of c.prepare_to_meet.new.first) = record {
      serial = c.prepare_to_meet.ensures.first.4;
      number = c.prepare_to_meet.ensures.first.3;
      members = ap (λ (x : Group AnyCard ghosts). members_in x) c.prepare_to_meet.ensures.first.2;
      recs = c.prepare_to_meet.ensures.first.0;
      book = c.prepare_to_meet.ensures.first.1;
    } in
    let ksecond : Knows c.args.second.now.serial c.prepare_to_meet.new.second.serial (view_of c.args.second.now) (view_of c.prepare_to_meet.new.second) = record {
      serial = c.prepare_to_meet.ensures.second.4;
      number = c.prepare_to_meet.ensures.second.3;
      members = ap (λ (x : Group AnyCard ghosts). members_in x) c.prepare_to_meet.ensures.second.2;
      recs = c.prepare_to_meet.ensures.second.0;
      book = c.prepare_to_meet.ensures.second.1;
    } in
    let xs = c.requires.first.streams in
    let ys = c.requires.second.streams in
    let in1 = in_known origin cards c.args.first.now.serial c.prepare_to_meet.new.first.serial (view_of c.args.first.now) (view_of c.prepare_to_meet.new.first) xs kfirst (in_room origin cards c.args.first.now.serial (view_of c.args.first.now) c.requires.first) in
    let in2 = in_known origin cards c.args.second.now.serial c.prepare_to_meet.new.second.serial (view_of c.args.second.now) (view_of c.prepare_to_meet.new.second) ys ksecond (in_room origin cards c.args.second.now.serial (view_of c.args.second.now) c.requires.second) in
    let P : Type 0 = InRoom origin cards c.tell_and_meet.new.group.serial (view_of c.tell_and_meet.new.group) in
    on_all c.tell_and_meet.result P
    (on_done c.tell_and_meet.result _ (λ reply receipt woken. P) (λ reply receipt woken m. room_in origin cards c.tell_and_meet.new.group.serial (view_of c.tell_and_meet.new.group) _ m.2) (c.tell_and_meet.ensures.members xs ys in1 in2))
    (full_of c.tell_and_meet.result (λ sub count. ⊥) (λ sub count. P) (λ sub count no. absurd no) c.tell_and_meet.ensures.done.0)
    (memory_of c.tell_and_meet.result ⊥ P (λ no. absurd no) c.tell_and_meet.ensures.done.1)

pub returns-in-Some-prepare_to_meet-clause-members : goal.returns-in-Some-prepare_to_meet-clause-members
returns-in-Some-prepare_to_meet-clause-members g c = λ xs ys in1 in2.
    let cs = g.N.FloorName.cards in
    let long_max = g.N.FloorName.long_max in
    let origin = fresh_streams cs long_max in
    let cards = length cs in
    let kfirst : Knows c.args.first.now.serial c.prepare_to_meet.new.first.serial (view_of c.args.first.now) (view_of c.prepare_to_meet.new.first) = record {
      serial = c.prepare_to_meet.ensures.first.4;
      number = c.prepare_to_meet.ensures.first.3;
      members = ap (λ (x : Group AnyCard ghosts). members_in x) c.prepare_to_meet.ensures.first.2;
      recs = c.prepare_to_meet.ensures.first.0;
      book = c.prepare_to_meet.ensures.first.1;
    } in
    let ksecond : Knows c.args.second.now.serial c.prepare_to_meet.new.second.serial (view_of c.args.second.now) (view_of c.prepare_to_meet.new.second) = record {
      serial = c.prepare_to_meet.ensures.second.4;
      number = c.prepare_to_meet.ensures.second.3;
      members = ap (λ (x : Group AnyCard ghosts). members_in x) c.prepare_to_meet.ensures.second.2;
      recs = c.prepare_to_meet.ensures.second.0;
      book = c.prepare_to_meet.ensures.second.1;
    } in
    c.tell_and_meet.ensures.members xs ys (in_known origin cards c.args.first.now.serial c.prepare_to_meet.new.first.serial (view_of c.args.first.now) (view_of c.prepare_to_meet.new.first) xs kfirst in1) (in_known origin cards c.args.second.now.serial c.prepare_to_meet.new.second.serial (view_of c.args.second.now) (view_of c.prepare_to_meet.new.second) ys ksecond in2)

pub returns-in-Some-prepare_to_meet-clause-met : goal.returns-in-Some-prepare_to_meet-clause-met
returns-in-Some-prepare_to_meet-clause-met g c = λ xs ys in1 in2.
    let cs = g.N.FloorName.cards in
    let long_max = g.N.FloorName.long_max in
    let origin = fresh_streams cs long_max in
    let cards = length cs in
    let kfirst : Knows c.args.first.now.serial c.prepare_to_meet.new.first.serial (view_of c.args.first.now) (view_of c.prepare_to_meet.new.first) = record {
      serial = c.prepare_to_meet.ensures.first.4;
      number = c.prepare_to_meet.ensures.first.3;
      members = ap (λ (x : Group AnyCard ghosts). members_in x) c.prepare_to_meet.ensures.first.2;
      recs = c.prepare_to_meet.ensures.first.0;
      book = c.prepare_to_meet.ensures.first.1;
    } in
    let ksecond : Knows c.args.second.now.serial c.prepare_to_meet.new.second.serial (view_of c.args.second.now) (view_of c.prepare_to_meet.new.second) = record {
      serial = c.prepare_to_meet.ensures.second.4;
      number = c.prepare_to_meet.ensures.second.3;
      members = ap (λ (x : Group AnyCard ghosts). members_in x) c.prepare_to_meet.ensures.second.2;
      recs = c.prepare_to_meet.ensures.second.0;
      book = c.prepare_to_meet.ensures.second.1;
    } in
    let u = view_of c.args.group.now in
    let u2 = view_of c.prepare_to_meet.new.group in
    let nobody : c.requires.group.streams ≡ [] = no_streams c.requires.group.streams (numbers_are u.members c.requires.group.streams c.requires.group.stand ∙ ap (λ (l : List (Member AnyCard ghosts)). numbers_of l) c.requires.empty) in
    let none : u.recs ≡ [] = no_recs_of u.recs (c.requires.group.fits_in.recs_are ∙ ap subs nobody) in
    let none2 : u2.recs ≡ [] = none_known u.recs u2.recs c.prepare_to_meet.ensures.group.0 none in
    let same : u2 ≡ u = ap (λ (z : ℕ × List (Member AnyCard ghosts) × List RecView × List BookEntry). let r : RoomView = record { number = z.0; members = z.1; recs = z.2; book = z.3 } in r)
    (λ i. (c.prepare_to_meet.ensures.group.3 i, members_in (c.prepare_to_meet.ensures.group.2 i), (none2 ∙ sym none) i, c.prepare_to_meet.ensures.group.1 i)) in
    on_done c.tell_and_meet.result _ _
    (λ reply receipt woken m. meeting_known c.args.first.now.serial c.prepare_to_meet.new.first.serial c.args.second.now.serial c.prepare_to_meet.new.second.serial _ c.args.pass.now.knows (view_of c.args.first.now) (view_of c.prepare_to_meet.new.first) (view_of c.tell_and_meet.new.first) (view_of c.args.second.now) (view_of c.prepare_to_meet.new.second) (view_of c.tell_and_meet.new.second) u u2 (view_of c.tell_and_meet.new.group) xs ys reply woken kfirst ksecond same m)
    (c.tell_and_meet.ensures.met xs ys (in_known origin cards c.args.first.now.serial c.prepare_to_meet.new.first.serial (view_of c.args.first.now) (view_of c.prepare_to_meet.new.first) xs kfirst in1) (in_known origin cards c.args.second.now.serial c.prepare_to_meet.new.second.serial (view_of c.args.second.now) (view_of c.prepare_to_meet.new.second) ys ksecond in2))

pub returns-in-Some-prepare_to_meet-clause-receipt : goal.returns-in-Some-prepare_to_meet-clause-receipt
returns-in-Some-prepare_to_meet-clause-receipt g c =
    let same : length (log_in c.args.sub c.prepare_to_meet.new.first.recs.items) ≡ length (log_in c.args.sub c.args.first.now.recs.items) = ap length (log_in_known c.args.sub c.args.first.now.recs.items c.prepare_to_meet.new.first.recs.items c.prepare_to_meet.ensures.first.0) in
    on_done c.tell_and_meet.result _ _ (λ reply receipt woken r. (r.0, r.1 ∙ same)) c.tell_and_meet.ensures.receipt

pub returns-in-Some-prepare_to_meet-clause-full : goal.returns-in-Some-prepare_to_meet-clause-full
returns-in-Some-prepare_to_meet-clause-full g c = λ f.
    absurd (elim f [ inl x ↦ short_full c.args.first.now.recs.items x.0 c.in_default.ensures.none x.1 | inr x ↦ short_full c.args.second.now.recs.items x.0 c.in_default-full.ensures.none x.1 ])

pub returns-in-None-clause-full : goal.returns-in-None-clause-full
returns-in-None-clause-full g c = λ f.
    absurd (elim f [ inl x ↦ short_full c.args.first.now.recs.items x.0 c.in_default.ensures.none x.1 | inr x ↦ short_full c.args.second.now.recs.items x.0 c.in_default-full.ensures.none x.1 ])

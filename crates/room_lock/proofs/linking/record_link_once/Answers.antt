use Rattle.std.proofs.Common.{◌∷◌, ◌++◌, [], length, inl, slice_set, refl, sym, ap, ◌∙◌, subst, arith}
use Rattle.std.proofs.lemmas.Option.{slice_get_read}
use Rattle.pcm_base.specs.declared.call.Event.{Event}
use Rattle.floor_rule.specs.Causes.{Tells}
use Rattle.floor_rule.specs.declared.entry.Entry.{Entry}
use Rattle.floor_rule.specs.declared.entry.EntryMark.TheVariants as mark
use Rattle.floor_rule.specs.declared.rule.Made.{Made}
use Rattle.floor_rule.specs.declared.rule.Marked.{Marked}
use Rattle.room_parts.specs.Passes.{IsAlone, busy_after}
use Rattle.room_parts.specs.Recs.{RecView}
use Rattle.room_lock.specs.Linked.{IsLinkRecordedOnce}
use Rattle.room_lock.proofs.RecLemmas.{some_one}
use Rattle.room_lock.proofs.linking.record_link_once.Goals as goal

pub call_on-requires-clause-spare : goal.call_on-requires-clause-spare
call_on-requires-clause-spare g c =
    let xs = c.args.recs.now.items in
    let room = (c.requires.room c.index_mut.result.now (slice_get_read xs (length xs) c.args.own c.index_mut.result.now refl c.requires.place c.index_mut.ensures.value)).0 in omega (arith, room)

pub call_on-requires-clause-room : goal.call_on-requires-clause-room
call_on-requires-clause-room g c =
    let xs = c.args.recs.now.items in
    let room = (c.requires.room c.index_mut.result.now (slice_get_read xs (length xs) c.args.own c.index_mut.result.now refl c.requires.place c.index_mut.ensures.value)).1 in (omega (arith, room), c.requires.calls)

pub call_on-requires-clause-tells : goal.call_on-requires-clause-tells
call_on-requires-clause-tells g c =
    let xs = c.args.recs.now.items in
    let r = c.index_mut.result.now in
    let card = c.requires.card r (slice_get_read xs (length xs) c.args.own r refl c.requires.place c.index_mut.ensures.value) in
    subst (λ (z : Entry × Event). Tells r.knows.sub z.0 z.1) (λ i. (sym c.entry.ensures i, sym c.event-event.ensures i)) (refl, inl card.1)

pub call_on-requires-clause-sub : goal.call_on-requires-clause-sub
call_on-requires-clause-sub g c =
    let xs = c.args.recs.now.items in
    let r = c.index_mut.result.now in
    ap (λ (e : Event). e.sub.0) c.event-event.ensures ∙ (c.requires.card r (slice_get_read xs (length xs) c.args.own r refl c.requires.place c.index_mut.ensures.value)).1

pub call_on-requires-clause-alone : goal.call_on-requires-clause-alone
call_on-requires-clause-alone g c =
    let xs = c.args.recs.now.items in
    let r = c.index_mut.result.now in
    subst (λ (e : Event). IsAlone (length g.N.FloorName.cards) r.knows.sub e.call) (sym c.event-event.ensures) (c.requires.alone r (slice_get_read xs (length xs) c.args.own r refl c.requires.place c.index_mut.ensures.value))

pub returns : goal.returns
returns g c =
    let xs = c.args.recs.now.items in
    let l = c.args.link.now in
    let p = c.args.pass.now in
    let r0 = c.index_mut.result.now in
    let here = slice_get_read xs (length xs) c.args.own r0 refl c.requires.place c.index_mut.ensures.value in
    let did = c.call_on.ensures in
    let now : IsLinkRecordedOnce c.args.own l c.args.first.now r0 xs (slice_set xs c.args.own c.call_on.new.rec) p c.call_on.new.pass = record {
      first = c.call_on.new.rec;
      recs = refl;
      joined = record {
        log = did.log ∙ ap (λ (e : Entry). r0.knows.log ++ (let m : Marked = record { entry = e; mark = mark.Called l.first_state c.args.first.now.hw p.knows.number (length p.knows.calls) 0 } in m) ∷ []) c.entry.ensures;
        sub = did.same.0;
        place = did.same.1;
        spare = did.spare;
      };
      called_by = record {
        number = did.same.2;
        caller = did.same.4;
        reads = did.same.3;
        calls = did.calls ∙ ap (λ (e : Event). p.knows.calls ++ (let m : Made = record { event = e; count = 0 } in m) ∷ []) c.event-event.ensures;
        receipts = did.receipt;
        busy = did.busy ∙ ap busy_after c.entry.ensures;
        list = did.list;
        onward = did.onward;
        held = did.held.1;
      };
    } in
    λ r at. subst (λ (k : RecView). IsLinkRecordedOnce c.args.own l c.args.first.now k xs (slice_set xs c.args.own c.call_on.new.rec) p c.call_on.new.pass) (some_one r0 r (sym here ∙ at)) now

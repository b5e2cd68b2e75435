use Rattle.std.proofs.Common.{length, slice_set, refl, sym, ◌∙◌, subst, arith}
use Rattle.std.proofs.lemmas.Option.{slice_get_read}
use Rattle.room_parts.specs.Recs.{RecView}
use Rattle.room_lock.specs.Recorded.{IsOwnRecorded}
use Rattle.room_lock.proofs.RecLemmas.{some_one}
use Rattle.room_lock.proofs.recording.record_own.Goals as goal

pub call_on-requires-clause-card : goal.call_on-requires-clause-card
call_on-requires-clause-card g c =
    let xs = c.args.recs.now.items in
    (c.requires.tells c.index_mut.result.now (slice_get_read xs (length xs) c.args.own c.index_mut.result.now refl c.requires.own c.index_mut.ensures.value)).0

pub call_on-requires-clause-spare : goal.call_on-requires-clause-spare
call_on-requires-clause-spare g c =
    let xs = c.args.recs.now.items in
    let room = (c.requires.room c.index_mut.result.now (slice_get_read xs (length xs) c.args.own c.index_mut.result.now refl c.requires.own c.index_mut.ensures.value)).0 in omega (arith, room)

pub call_on-requires-clause-room : goal.call_on-requires-clause-room
call_on-requires-clause-room g c =
    let xs = c.args.recs.now.items in
    let room = (c.requires.room c.index_mut.result.now (slice_get_read xs (length xs) c.args.own c.index_mut.result.now refl c.requires.own c.index_mut.ensures.value)).1 in (omega (arith, room), c.requires.calls)

pub call_on-requires-clause-tells : goal.call_on-requires-clause-tells
call_on-requires-clause-tells g c =
    let xs = c.args.recs.now.items in
    (c.requires.tells c.index_mut.result.now (slice_get_read xs (length xs) c.args.own c.index_mut.result.now refl c.requires.own c.index_mut.ensures.value)).1

pub call_on-requires-clause-sub : goal.call_on-requires-clause-sub
call_on-requires-clause-sub g c =
    let xs = c.args.recs.now.items in
    c.requires.sub c.index_mut.result.now (slice_get_read xs (length xs) c.args.own c.index_mut.result.now refl c.requires.own c.index_mut.ensures.value)

pub returns : goal.returns
returns g c =
    let xs = c.args.recs.now.items in
    let here = slice_get_read xs (length xs) c.args.own c.index_mut.result.now refl c.requires.own c.index_mut.ensures.value in
    let did = c.call_on.ensures in
    let now : IsOwnRecorded c.args.own c.args.event.now c.args.count c.args.entry c.args.state c.args.hw c.index_mut.result.now xs (slice_set xs c.args.own c.call_on.new.rec) c.args.pass.now c.call_on.new.pass = record {
      rec = c.call_on.new.rec;
      recs = refl;
      joined = record { log = did.log; sub = did.same.0; place = did.same.1; spare = did.spare };
      called_by = record {
        number = did.same.2;
        caller = did.same.4;
        reads = did.same.3;
        calls = did.calls;
        receipts = did.receipt;
        busy = did.busy;
        list = did.list;
        onward = did.onward;
        held = did.held.1;
      };
    } in
    record {
      recorded = λ r at. subst (λ (k : RecView). IsOwnRecorded c.args.own c.args.event.now c.args.count c.args.entry c.args.state c.args.hw k xs (slice_set xs c.args.own c.call_on.new.rec) c.args.pass.now c.call_on.new.pass)
          (some_one c.index_mut.result.now r (sym here ∙ at)) now;
    }

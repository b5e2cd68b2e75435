use Rattle.std.proofs.Common.{length, slice_set, refl, sym, ◌∙◌, subst, arith}
use Rattle.std.proofs.lemmas.Option.{slice_get_read}
use Rattle.room_parts.specs.Recs.{RecView}
use Rattle.room_lock.specs.Linked.{IsLinkRecorded}
use Rattle.room_lock.proofs.RecLemmas.{some_one}
use Rattle.room_lock.proofs.linking.record_link.Goals as goal

pub link_on-requires-clause-spare : goal.link_on-requires-clause-spare
link_on-requires-clause-spare g c =
    let xs = c.args.recs.now.items in
    let ys = c.args.others.now.items in
    let one = (c.requires.room.0 c.index_mut.result.now (slice_get_read xs (length xs) c.args.own c.index_mut.result.now refl c.requires.places.0 c.index_mut.ensures.value)).0 in
    let two = (c.requires.room.1 c.index_mut-2.result.now (slice_get_read ys (length ys) c.args.other c.index_mut-2.result.now refl c.requires.places.1 c.index_mut-2.ensures.value)).0 in
    (omega (arith, one), omega (arith, two))

pub link_on-requires-clause-room : goal.link_on-requires-clause-room
link_on-requires-clause-room g c =
    let xs = c.args.recs.now.items in
    let ys = c.args.others.now.items in
    let one = (c.requires.room.0 c.index_mut.result.now (slice_get_read xs (length xs) c.args.own c.index_mut.result.now refl c.requires.places.0 c.index_mut.ensures.value)).1 in
    let two = (c.requires.room.1 c.index_mut-2.result.now (slice_get_read ys (length ys) c.args.other c.index_mut-2.result.now refl c.requires.places.1 c.index_mut-2.ensures.value)).1 in
    (omega (arith, one), omega (arith, two), c.requires.calls)

pub link_on-requires-clause-names : goal.link_on-requires-clause-names
link_on-requires-clause-names g c =
    let xs = c.args.recs.now.items in
    let ys = c.args.others.now.items in (
      (c.requires.card c.index_mut.result.now (slice_get_read xs (length xs) c.args.own c.index_mut.result.now refl c.requires.places.0 c.index_mut.ensures.value)).1,
      c.requires.second c.index_mut-2.result.now (slice_get_read ys (length ys) c.args.other c.index_mut-2.result.now refl c.requires.places.1 c.index_mut-2.ensures.value),
    )

pub returns-clause-recorded : goal.returns-clause-recorded
returns-clause-recorded g c =
    let xs = c.args.recs.now.items in
    let ys = c.args.others.now.items in
    let here = slice_get_read xs (length xs) c.args.own c.index_mut.result.now refl c.requires.places.0 c.index_mut.ensures.value in
    let there = slice_get_read ys (length ys) c.args.other c.index_mut-2.result.now refl c.requires.places.1 c.index_mut-2.ensures.value in
    let did = c.link_on.ensures in
    let now : IsLinkRecorded c.args.own c.args.other c.args.link.now c.args.first.now c.args.second.now c.index_mut.result.now c.index_mut-2.result.now xs (slice_set xs c.args.own c.link_on.new.first) ys (slice_set ys c.args.other c.link_on.new.second) c.args.pass.now c.link_on.new.pass = record {
      first = c.link_on.new.first;
      second = c.link_on.new.second;
      recs = refl;
      others = refl;
      joined = record { log = did.first; sub = did.same.0; place = did.same.2; spare = did.spare.0 };
      joined_other = record { log = did.second; sub = did.same.1; place = did.same.3; spare = did.spare.1 };
      called_by = record {
        number = did.same_pass.0;
        caller = did.same_pass.2;
        reads = did.same_pass.1;
        calls = did.calls;
        receipts = did.receipt;
        busy = did.busy;
        list = did.first_list;
        onward = did.first_onward;
        held = did.pass_held;
      };
    } in
    λ r q at at'.
    subst (λ (z : RecView × RecView). IsLinkRecorded c.args.own c.args.other c.args.link.now c.args.first.now c.args.second.now z.0 z.1 xs (slice_set xs c.args.own c.link_on.new.first) ys (slice_set ys c.args.other c.link_on.new.second) c.args.pass.now c.link_on.new.pass)
    (λ i. (some_one c.index_mut.result.now r (sym here ∙ at) i, some_one c.index_mut-2.result.now q (sym there ∙ at') i)) now

use Rattle.std.proofs.Common.{◌∷◌, [], length, refl, sym, ◌∙◌, subst, arith}
use Rattle.std.proofs.lemmas.Option.{slice_get_read}
use Rattle.floor_rule.specs.declared.entry.Entry.TheVariants.{Shared as SharedEntry}
use Rattle.floor_rule.specs.declared.entry.EntryMark.TheVariants.{Caused}
use Rattle.floor_rule.specs.declared.rule.Marked.{Marked}
use Rattle.room_parts.specs.Recs.{RecView}
use Rattle.room_lock.specs.Joined.{IsJoined}
use Rattle.room_lock.proofs.RecLemmas.{some_one}
use Rattle.room_lock.proofs.recs.join.Goals as goal

pub join-requires-clause-spare : goal.join-requires-clause-spare
join-requires-clause-spare g c =
    let xs = c.args.recs.now.items in
    let here = slice_get_read xs (length xs) c.args.other c.index_mut.result.now refl c.requires.at c.index_mut.ensures.value in
    let room = (c.requires.room c.index_mut.result.now here).0 in omega (arith, room)

pub join-requires-clause-room : goal.join-requires-clause-room
join-requires-clause-room g c =
    let xs = c.args.recs.now.items in
    let here = slice_get_read xs (length xs) c.args.other c.index_mut.result.now refl c.requires.at c.index_mut.ensures.value in
    let room = (c.requires.room c.index_mut.result.now here).1 in omega (arith, room)

pub returns : goal.returns
returns g c =
    let xs = c.args.recs.now.items in
    let here = slice_get_read xs (length xs) c.args.other c.index_mut.result.now refl c.requires.at c.index_mut.ensures.value in
    let e : Marked = record { entry = SharedEntry c.args.joint; mark = Caused c.args.state c.args.hw c.args.sub c.args.place } in
    let did = c.join.ensures in
    let now : IsJoined c.index_mut.result.now c.join.new.self (e ∷ []) = record { log = did.log; sub = did.same.0; place = did.same.1; spare = did.spare } in
    record { gains = λ r at. (c.join.new.self, refl, subst (λ (k : RecView). IsJoined k c.join.new.self (e ∷ [])) (some_one c.index_mut.result.now r (sym here ∙ at)) now) }

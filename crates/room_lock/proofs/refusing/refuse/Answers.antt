use Rattle.std.proofs.Common.{◌≡◌, ◌∷◌, ◌++◌, [], ℕ, length, refl, sym, ap, ◌∙◌}
use Rattle.std.proofs.lemmas.Option.{slice_get_read}
use Rattle.pcm_base.specs.declared.ids.SubId.{SubId}
use Rattle.floor_rule.specs.Pages.{pack_at}
use Rattle.floor_rule.specs.declared.rule.Reading.{Reading}
use Rattle.room_parts.specs.Recs.{RecView}
use Rattle.room_lock.proofs.RecLemmas.{some_one}
use Rattle.room_lock.proofs.SharedLemmas.{map_set, subs_set}
use Rattle.room_lock.proofs.refusing.refuse.Goals as goal

pub returns-clause-refused : goal.returns-clause-refused
returns-clause-refused g c =
    let xs = c.args.recs.now.items in
    let place = c.args.place in
    let lt = c.requires.first.there in
    let r = c.index_mut.result.now in
    let at = slice_get_read xs (length xs) place r refl lt c.index_mut.ensures.value in
    let looked = slice_get_read xs (length xs) place c.index.result.now refl lt c.index.ensures in
    let s = c.full_page-page.new.rec in
    let page = c.full_page-page.ensures in
    let sub_is : c.sub-sub.result.0 ≡ r.knows.sub = c.sub-sub.ensures.sub ∙ ap (λ (q : RecView). q.knows.sub) (some_one c.index.result.now r (sym looked ∙ at)) in
    record {
      first = c.requires.first;
      whose = λ q h. (let same = some_one r q (sym at ∙ h) in (ap (λ (n : ℕ). let k : SubId = record { 0 = n } in k) (ap (λ (x : RecView). x.knows.sub) (sym same) ∙ sym sub_is), page.count ∙ ap (λ (x : RecView). length x.knows.log) same));
      read = λ q h.
          let same = some_one r q (sym at ∙ h) in
          page.read
          ∙ ap (λ (z : ℕ × ℕ). c.args.pass.now.knows.reads ++ (let x : Reading = record { sub = z.0; count = z.1; word = pack_at r.knows.log z.1 } in x) ∷ []) (λ j. (sym sub_is j, sym page.count j))
          ∙ ap (λ (x : RecView). c.args.pass.now.knows.reads ++ (let y : Reading = record { sub = c.sub-sub.result.0; count = c.full_page-page.result.count; word = pack_at x.knows.log c.full_page-page.result.count } in y) ∷ []) same;
      logs = map_set (λ (x : RecView). x.knows.log) xs place r s at page.log.0;
      subs = subs_set xs place r s at page.log.1;
      places = map_set (λ (x : RecView). x.knows.place) xs place r s at page.log.2;
      calls = page.calls;
      held = page.held.1;
    }

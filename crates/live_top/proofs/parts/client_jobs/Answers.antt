use Rattle.std.proofs.Common.{◌≡◌, ◌<◌, ◌+◌, drop, length, slice_get, [], ◌∷◌, ◌++◌, List, Some, None, rules, refl, sym, ◌∙◌, subst, arith}
use Rattle.std.proofs.lemmas.Option.{slice_get_read}
use Rattle.std.specs.Vec.Iter.{into_iter_items}
use Rattle.pcm_line.specs.declared.line.Line.{Line}
use Rattle.live_top.specs.Jobs.{AreJobs, IsJobOf, IsOfClient, IsOfLines}
use Rattle.live_top.specs.declared.parts.Job.{Job}
use Rattle.live_top.proofs.Jobs.{at_drop, client_can, drop_next, jobs_more}
use Rattle.live_top.proofs.parts.client_jobs.Goals as goal

pub loop-number-preserved : goal.loop-number-preserved
loop-number-preserved g c =
    let n = c.loop-number.number in
    let was = c.loop-number.invariant in
    let plan = c.args.plan.now in
    let cards = length g.N.FloorName.cards in
    let pass = c.in-Some-Some.pass in
    let part = c.part_of-part.result in
    let own = c.index.result.now in
    let lt : n < 16 = omega (arith, c.loop-number-test.true) in
    let left : drop n c.args.passes.items ≡ pass ∷ into_iter_items c.next.new.self = sym was.left ∙ c.in-Some-Some.ensures.items in
    let here = at_drop n c.args.passes.items pass (into_iter_items c.next.new.self) left in
    let idle : pass.busy ≡ None = search rules in
    let at : slice_get plan.clients.items n ≡ Some own = slice_get_read plan.clients.items 16 n own (sym c.requires.sound.clients) lt (search rules) in
    let lines : IsOfLines (record { 0 = n }) own.items part = subst (λ (ls : List Line). IsOfLines (record { 0 = n }) ls part) c.as_slice-lines.ensures.value c.part_of-part.ensures in
    let can = client_can cards plan c.requires.sound c.requires.cards n lt own at pass (c.requires.callers n pass here) idle part lines in
    let job : Job g.row.N.Denot = record { pass = pass; part = part } in
    let pushed : c.push.new.self.items ≡ c.loop-number.jobs.items ++ job ∷ [] = c.in_ok-push.ensures.items in
    let is : IsJobOf cards (IsOfClient plan n) pass job = record { is = refl; part = can.0; can = can.1 } in
    record {
      passes = omega (arith, was.passes, c.in-Some-Some.ensures.len);
      parkers = omega (arith, was.parkers, c.in-Some-Some.ensures'.len);
      left = drop_next n c.args.passes.items pass (into_iter_items c.next.new.self) left;
      jobs = subst (λ (js : List (Job g.row.N.Denot)). AreJobs cards (IsOfClient plan) (n + 1) c.args.passes.items js) (sym pushed)
          (jobs_more cards (IsOfClient plan) n c.args.passes.items c.loop-number.jobs.items pass job here was.jobs is);
    }

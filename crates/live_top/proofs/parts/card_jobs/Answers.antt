use Rattle.std.proofs.Common.{◌≡◌, ◌<◌, ◌+◌, drop, length, [], ◌∷◌, ◌++◌, List, refl, sym, ◌∙◌, subst, arith}
use Rattle.std.specs.Vec.Iter.{into_iter_items}
use Rattle.live_top.specs.Jobs.{AreJobs, IsJobOf, IsOfCard}
use Rattle.live_top.specs.declared.parts.Job.{Job}
use Rattle.live_top.proofs.Jobs.{at_drop, card_can, drop_next, jobs_more}
use Rattle.live_top.proofs.parts.card_jobs.Goals as goal

pub loop-number-preserved : goal.loop-number-preserved
loop-number-preserved g c =
    let n = c.loop-number.number in
    let was = c.loop-number.invariant in
    let plan = c.args.plan.now in
    let cards = length g.N.FloorName.cards in
    let pass = c.in-Some.pass in
    let part = c.beats_of-part.result in
    let lt : n < cards = omega (arith, c.in-Some.ensures.len, was.passes) in
    let left : drop n c.args.passes.items ≡ pass ∷ into_iter_items c.next.new.self = sym was.left ∙ c.in-Some.ensures.items in
    let here = at_drop n c.args.passes.items pass (into_iter_items c.next.new.self) left in
    let of : IsOfCard plan n part = c.beats_of-part.ensures in
    let can = card_can cards plan n lt pass (c.requires.callers n pass here) part of in
    let job : Job g.row.N.Denot = record { pass = pass; part = part } in
    let pushed : c.push.new.self.items ≡ c.loop-number.jobs.items ++ job ∷ [] = c.in_ok-push.ensures.items in
    let is : IsJobOf cards (IsOfCard plan n) pass job = record { is = refl; part = of; can = can } in
    record {
      passes = omega (arith, was.passes, c.in-Some.ensures.len);
      left = drop_next n c.args.passes.items pass (into_iter_items c.next.new.self) left;
      jobs = subst (λ (js : List (Job g.row.N.Denot)). AreJobs cards (IsOfCard plan) (n + 1) c.args.passes.items js) (sym pushed)
          (jobs_more cards (IsOfCard plan) n c.args.passes.items c.loop-number.jobs.items pass job here was.jobs is);
    }

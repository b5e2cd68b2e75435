use Rattle.std.proofs.Common.{◌≡◌, ◌+◌, ◌≤◌, ℕ, Bool, cond, length, length-set, sym, ◌∙◌, ap, arith}
use Rattle.pcm_stream.specs.declared.members.Member.{Member}
use Rattle.pcm_stream.specs.Members.{fixed_of, members_of}
use Rattle.pcm_stream.specs.StandsFor.{faults_of}
use Rattle.group_trigger.specs.Phases.{Did, Made, all_in, first_in}
use Rattle.group_trigger.proofs.ListLemmas.{fixed-same, map-set}
use Rattle.group_trigger.proofs.PhaseLemmas.{change, first_in-at, first_in-before, first_in-next, lt-suc, phases_within}
use Rattle.group_trigger.proofs.action.post_all.Goals as goal

pub loop-i-preserved : goal.loop-i-preserved
loop-i-preserved g c =
    let i = c.loop-i.i in
    let cur = members_of c.loop-i.members in
    let m = c.at_mut.result.now in
    let t = c.post_act.new.self in
    let next = record m { stream = t } in
    record {
      size = length-set cur i next ∙ c.loop-i.invariant.size;
      made = λ ms h.
          change c.args.act (first_in Made i Did) (first_in Made (i + 1) Did) Did Made cur i m t ms
          c.at_mut.ensures.value (first_in-at Made i Did) (ap (λ (b : Bool). cond b Made Did) (lt-suc i)) (λ j ne. first_in-next Made i Did j ne)
          (λ s k. c.post_act.ensures.done s k)
          (c.loop-i.invariant.made ms h);
      fixed = map-set fixed_of cur i m next c.at_mut.ensures.value (fixed-same m t c.post_act.ensures.keeps.shape c.post_act.ensures.keeps.faults.tells) ∙ c.loop-i.invariant.fixed;
      faults = map-set (λ (n : Member g.row.C.Denot g.C.Card). faults_of n.stream) cur i m next c.at_mut.ensures.value c.post_act.ensures.keeps.faults.count ∙ c.loop-i.invariant.faults;
    }

pub returns-clause-made : goal.returns-clause-made
returns-clause-made g c = λ ms h.
    let cur = members_of c.loop-i.members in
    let size : length cur ≤ c.loop-i.i = omega (arith, c.loop-i.invariant.size, c.len-i-end.ensures.value, c.loop-i-test.false) in
    phases_within c.args.act (first_in Made c.loop-i.i Did) (all_in Made) cur ms (λ j lt. sym (first_in-before Made c.loop-i.i Did j (omega (arith, lt, size)))) (c.loop-i.invariant.made ms h)

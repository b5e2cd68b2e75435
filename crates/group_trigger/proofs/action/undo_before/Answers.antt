use Rattle.std.proofs.Common.{◌≡◌, ◌+◌, length, length-set, sym, ◌∙◌}
use Rattle.pcm_stream.specs.declared.members.Member.{Member}
use Rattle.pcm_stream.specs.Members.{fixed_of, members_of}
use Rattle.pcm_stream.specs.StandsFor.{faults_of}
use Rattle.group_trigger.specs.Phases.{Did, Undone, undone_to}
use Rattle.group_trigger.proofs.ListLemmas.{fixed-same, map-set}
use Rattle.group_trigger.proofs.PhaseLemmas.{change, undone_to-at, undone_to-next, undone_to-now}
use Rattle.group_trigger.proofs.action.undo_before.Goals as goal

pub loop-i-preserved : goal.loop-i-preserved
loop-i-preserved g c =
    let i = c.loop-i.i in
    let k = c.args.place in
    let cur = members_of c.loop-i.members in
    let m = c.at_mut.result.now in
    let t = c.undo_act.new.self in
    let next = record m { stream = t } in
    record {
      size = length-set cur i next ∙ c.loop-i.invariant.size;
      undone = λ ms h.
          change c.args.act (undone_to i k) (undone_to (i + 1) k) Did Undone cur i m t ms
          c.at_mut.ensures.value (undone_to-at i k c.loop-i-test.true) (undone_to-now i k) (λ j ne. undone_to-next i k j ne)
          (λ s h'. c.undo_act.ensures.undone s h')
          (c.loop-i.invariant.undone ms h);
      fixed = map-set fixed_of cur i m next c.at_mut.ensures.value (fixed-same m t c.undo_act.ensures.keeps.shape c.undo_act.ensures.keeps.faults.tells) ∙ c.loop-i.invariant.fixed;
      faults = map-set (λ (n : Member g.row.C.Denot g.C.Card). faults_of n.stream) cur i m next c.at_mut.ensures.value c.undo_act.ensures.keeps.faults.count ∙ c.loop-i.invariant.faults;
    }

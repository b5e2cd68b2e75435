use Rattle.std.proofs.Common.{◌≡◌, ◌+◌, ◌≤◌, ℕ, Bool, true, false, List, Some, cond, is_err, set, length, length-set, refl, sym, ◌∙◌, ap, subst, arith}
use Rattle.std.specs.List.{slice_get}
use Rattle.pcm_base.specs.Causes.{Rose}
use Rattle.pcm_base.specs.model.Acts.{asked}
use Rattle.pcm_stream.specs.declared.members.Member.{Member}
use Rattle.pcm_stream.specs.Members.{all_faults, fixed_of, members_of}
use Rattle.pcm_stream.specs.StandsFor.{HasDone, StandsFor, faults_of, tells_plan}
use Rattle.group_trigger.specs.Phases.{Before, Did, Makes, RoseAt, Undone, all_in, failed_at, first_in}
use Rattle.group_trigger.proofs.ListLemmas.{AllBefore-next, AllBefore-none, RoseAt-set, fixed-same, map-set, of_err, of_ok, slice_get-set_other}
use Rattle.group_trigger.proofs.PhaseLemmas.{all_before, change, failed_at-at, failed_at-other, first_in-at, first_in-before, first_in-next, lt-suc, lt-zero, phases_within, same_phases}
use Rattle.group_trigger.proofs.action.do_all.Goals as goal

pub loop-i-init : goal.loop-i-init
loop-i-init g c = record {
  size = refl;
  done = λ ms h. same_phases c.args.act (all_in Before) (first_in Did 0 Before) (members_of c.args.members.now) ms (λ j. ap (λ (b : Bool). cond b Did Before) (lt-zero j)) (all_before c.args.act (members_of c.args.members.now) ms h);
  makes = AllBefore-none (Makes {C = g.row.C.Denot} {g = g.C.Card} c.args.act) (members_of c.args.members.now);
  later = λ j le. refl;
  fixed = refl;
  faults = refl;
}

pub returns-then-is_err-clause-failed : goal.returns-then-is_err-clause-failed
returns-then-is_err-clause-failed g c = λ ms h.
    let i = c.loop-i.i in
    let failed : is_err c.do_act.result ≡ true = sym c.is_err.ensures.value ∙ c.if-is_err.true in
    change c.args.act (first_in Did i Before) (failed_at i) Before Undone (members_of c.loop-i.members) i c.at_mut.result.now c.do_act.new.self ms
    c.at_mut.ensures.value (first_in-at Did i Before) (failed_at-at i) (λ j ne. failed_at-other i j ne)
    (λ s k. of_err (StandsFor c.do_act.new.self (asked s c.args.act)) c.do_act.result failed (c.do_act.ensures.failed s k))
    (c.loop-i.invariant.done ms h)

pub returns-then-is_err-clause-fixed : goal.returns-then-is_err-clause-fixed
returns-then-is_err-clause-fixed g c =
    map-set fixed_of (members_of c.loop-i.members) c.loop-i.i c.at_mut.result.now (record c.at_mut.result.now { stream = c.do_act.new.self }) c.at_mut.ensures.value
    (fixed-same c.at_mut.result.now c.do_act.new.self c.do_act.ensures.shape c.do_act.ensures.tells)
    ∙ c.loop-i.invariant.fixed

pub returns-then-is_err-clause-rose : goal.returns-then-is_err-clause-rose
returns-then-is_err-clause-rose g c =
    let failed : is_err c.do_act.result ≡ true = sym c.is_err.ensures.value ∙ c.if-is_err.true in
    let now = all_faults (set (members_of c.loop-i.members) c.loop-i.i (record c.at_mut.result.now { stream = c.do_act.new.self })) in
    subst (λ (bs : List ℕ). RoseAt c.loop-i.i bs now) c.loop-i.invariant.faults
    (RoseAt-set (members_of c.loop-i.members) c.loop-i.i c.at_mut.result.now c.do_act.new.self c.at_mut.ensures.value c.do_act.ensures.cause.later
    (of_err (Rose (faults_of c.at_mut.result.now.stream) (faults_of c.do_act.new.self)) c.do_act.result failed c.do_act.ensures.cause.failed))

pub loop-i-preserved : goal.loop-i-preserved
loop-i-preserved g c =
    let i = c.loop-i.i in
    let cur = members_of c.loop-i.members in
    let first = members_of c.args.members.now in
    let m = c.at_mut.result.now in
    let t = c.do_act.new.self in
    let next = record m { stream = t } in
    let made : is_err c.do_act.result ≡ false = sym c.is_err.ensures.value ∙ c.if-is_err.false in
    let at0 : slice_get first i ≡ Some m = sym (c.loop-i.invariant.later i (omega arith)) ∙ c.at_mut.ensures.value in
    record {
      size = length-set cur i next ∙ c.loop-i.invariant.size;
      done = λ ms h.
          change c.args.act (first_in Did i Before) (first_in Did (i + 1) Before) Before Did cur i m t ms
          c.at_mut.ensures.value (first_in-at Did i Before) (ap (λ (b : Bool). cond b Did Before) (lt-suc i)) (λ j ne. first_in-next Did i Before j ne)
          (λ s k. of_ok (HasDone c.args.act t s) c.do_act.result made (c.do_act.ensures.done s k))
          (c.loop-i.invariant.done ms h);
      makes = AllBefore-next (Makes {C = g.row.C.Denot} {g = g.C.Card} c.args.act) i first c.loop-i.invariant.makes
          (λ n is s h told.
          let same : n ≡ m = (let both : Some n ≡ Some m = sym is ∙ at0 in cc) in
          sym (c.do_act.ensures.trips s (subst (λ (k : Member g.row.C.Denot g.C.Card). StandsFor k.stream s) same h) (subst (λ (k : Member g.row.C.Denot g.C.Card). tells_plan k.stream ≡ true) same told)) ∙ made);
      later = λ j le. slice_get-set_other cur i j next (λ e. omega (arith, e, le)) ∙ c.loop-i.invariant.later j (omega (arith, le));
      fixed = map-set fixed_of cur i m next c.at_mut.ensures.value (fixed-same m t c.do_act.ensures.shape c.do_act.ensures.tells) ∙ c.loop-i.invariant.fixed;
      faults = map-set (λ (n : Member g.row.C.Denot g.C.Card). faults_of n.stream) cur i m next c.at_mut.ensures.value (of_ok (faults_of t ≡ faults_of m.stream) c.do_act.result made c.do_act.ensures.cause.kept) ∙ c.loop-i.invariant.faults;
    }

pub returns-clause-done : goal.returns-clause-done
returns-clause-done g c = λ ms h.
    let cur = members_of c.loop-i.members in
    let size : length cur ≤ c.loop-i.i = omega (arith, c.loop-i.invariant.size, c.len-i-end.ensures.value, c.loop-i-test.false) in
    phases_within c.args.act (first_in Did c.loop-i.i Before) (all_in Did) cur ms (λ j lt. sym (first_in-before Did c.loop-i.i Before j (omega (arith, lt, size)))) (c.loop-i.invariant.done ms h)

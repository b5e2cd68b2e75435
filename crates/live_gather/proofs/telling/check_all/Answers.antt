use Rattle.std.proofs.Common.{ℕ, List, length, ap, ◌∙◌, subst, arith}
use Rattle.floor_rule.specs.declared.rule.Lists.{Lists}
use Rattle.floor_rule.specs.declared.rule.Marked.{Marked}
use Rattle.floor_rule.specs.Steps.{told_by_pass}
use Rattle.live_gather.specs.Told.{Agrees, HoldsAt}
use Rattle.live_gather.proofs.ListLemmas.{all_of, one_more}
use Rattle.live_gather.proofs.telling.check_all.Goals as goal

pub loop-i-preserved : goal.loop-i-preserved
loop-i-preserved g c =
    let inv = c.loop-i.invariant in
    let p = c.args.pass.now in
    let told = ap (λ n. n.lists) c.tell-note.ensures.note ∙ ap (λ v. told_by_pass v.knows) inv.pass in
    record {
      same = c.check_at.ensures.same ∙ inv.same;
      pass = c.tell-note.ensures.same ∙ inv.pass;
      agree = one_more (Agrees (told_by_pass p.knows)) c.args.pieces.now.items c.loop-i.i inv.agree
          (subst (λ (z : Lists × List (ℕ × List Marked)). HoldsAt (Agrees z.0) c.loop-i.i z.1) (λ k. (told k, inv.same k)) c.check_at.ensures.agrees);
    }

pub returns-clause-agree : goal.returns-clause-agree
returns-clause-agree g c =
    let size = ap length c.loop-i.invariant.same in
    all_of (Agrees (told_by_pass c.args.pass.now.knows)) c.args.pieces.now.items c.loop-i.i (omega (arith, size, c.len-i-end.ensures, c.args.pieces.now.ok.0, c.loop-i-test.false)) c.loop-i.invariant.agree

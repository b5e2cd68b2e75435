use Rattle.std.proofs.Common.{ℕ, List, length, ap, ◌∙◌, subst, arith}
use Rattle.floor_rule.specs.declared.rule.Marked.{Marked}
use Rattle.live_gather.specs.Told.{Each, HoldsAt, IsFoundIn}
use Rattle.live_gather.proofs.ListLemmas.{all_of, one_more}
use Rattle.live_gather.proofs.telling.find_causes.Goals as goal

pub loop-i-preserved : goal.loop-i-preserved
loop-i-preserved g c =
    let inv = c.loop-i.invariant in
    let n = length g.N.FloorName.cards in
    record {
      same = c.find_of.ensures.same ∙ inv.same;
      found = one_more (λ k. Each (IsFoundIn n k) c.args.pieces.now.items) c.args.pieces.now.items c.loop-i.i inv.found
          (subst (λ (ls : List (ℕ × List Marked)). HoldsAt (λ k. Each (IsFoundIn n k) ls) c.loop-i.i ls) inv.same c.find_of.ensures.found);
    }

pub returns-clause-found : goal.returns-clause-found
returns-clause-found g c =
    let size = ap length c.loop-i.invariant.same in
    let n = length g.N.FloorName.cards in
    all_of (λ k. Each (IsFoundIn n k) c.args.pieces.now.items) c.args.pieces.now.items c.loop-i.i (omega (arith, size, c.len-i-end.ensures, c.args.pieces.now.ok.0, c.loop-i-test.false)) c.loop-i.invariant.found

use Rattle.std.proofs.Common.{◌≡◌, ℕ, List, length, slice_get, Some, sym, ap, ◌∙◌, subst, arith}
use Rattle.floor_rule.specs.declared.rule.Marked.{Marked}
use Rattle.live_gather.specs.Told.{IsFoundIn}
use Rattle.live_gather.proofs.ListLemmas.{all_of, one_more}
use Rattle.live_gather.proofs.ToldLemmas.{found_in}
use Rattle.live_gather.proofs.telling.find_of.Goals as goal

pub loop-i-preserved : goal.loop-i-preserved
loop-i-preserved g c =
    let inv = c.loop-i.invariant in
    let n = length g.N.FloorName.cards in
    let told = c.tell_at-note.ensures in
    let same = told.same ∙ inv.same in
    record {
      same = c.check_at.ensures.same ∙ same;
      found = λ k at.
          let tells = told.tells k (subst (λ (ls : List (ℕ × List Marked)). slice_get ls c.args.own ≡ Some k) (sym inv.same) at) in
          one_more (IsFoundIn n k) c.args.pieces.now.items c.loop-i.i (inv.found k at)
          (λ l there. found_in c.lists.ensures.in_log n k l c.tell_at-note.result.lists tells (c.check_at.ensures.agrees l (subst (λ (ls : List (ℕ × List Marked)). slice_get ls c.loop-i.i ≡ Some l) (sym same) there)));
    }

pub returns-clause-found : goal.returns-clause-found
returns-clause-found g c =
    let size = ap length c.loop-i.invariant.same in
    λ k at. all_of (IsFoundIn (length g.N.FloorName.cards) k) c.args.pieces.now.items c.loop-i.i (omega (arith, size, c.len-i-end.ensures, c.args.pieces.now.ok.0, c.loop-i-test.false)) (c.loop-i.invariant.found k at)

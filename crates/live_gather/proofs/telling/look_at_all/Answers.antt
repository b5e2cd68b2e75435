use Rattle.std.proofs.Common.{ℕ, List, length, ap, ◌∙◌, subst, arith}
use Rattle.floor_rule.specs.declared.rule.Made.{Made}
use Rattle.floor_rule.specs.declared.rule.Marked.{Marked}
use Rattle.floor_rule.specs.Steps.{KnowsOwn}
use Rattle.live_gather.specs.Told.{HoldsAt, OwnsIn}
use Rattle.live_gather.proofs.ListLemmas.{all_of, one_more}
use Rattle.live_gather.proofs.ToldLemmas.{own_first}
use Rattle.live_gather.proofs.telling.look_at_all.Goals as goal

pub loop-i-preserved : goal.loop-i-preserved
loop-i-preserved g c =
    let inv = c.loop-i.invariant in
    let p = c.loop-i.pass.knows in
    let heard = ap (λ v. v.knows) c.hear.ensures in
    let looked = ap (λ v. v.knows) c.look.ensures.same ∙ heard in
    let own : HoldsAt (OwnsIn p.number p.calls) c.loop-i.i c.loop-i.pieces.items =
    λ l at. own_first (length g.N.FloorName.cards) p l c.tell_at-note.result.lists (c.tell_at-note.ensures.tells l at) (subst KnowsOwn heard c.look.ensures.knows) in
    record {
      same = c.tell_at-note.ensures.same ∙ inv.same;
      number = ap (λ k. k.number) looked ∙ inv.number;
      calls = ap (λ k. k.calls) looked ∙ inv.calls;
      own = one_more (OwnsIn c.args.pass.now.knows.number c.args.pass.now.knows.calls) c.args.pieces.now.items c.loop-i.i inv.own
          (subst (λ (z : ℕ × List Made × List (ℕ × List Marked)). HoldsAt (OwnsIn z.0 z.1) c.loop-i.i z.2) (λ k. (inv.number k, inv.calls k, inv.same k)) own);
    }

pub returns-clause-own : goal.returns-clause-own
returns-clause-own g c =
    let size = ap length c.loop-i.invariant.same in
    all_of (OwnsIn c.args.pass.now.knows.number c.args.pass.now.knows.calls) c.args.pieces.now.items c.loop-i.i (omega (arith, size, c.len-i-end.ensures, c.args.pieces.now.ok.0, c.loop-i-test.false)) c.loop-i.invariant.own

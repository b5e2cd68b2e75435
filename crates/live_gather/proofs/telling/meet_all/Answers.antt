use Rattle.std.proofs.Common.{List, [], ◌∷◌, ◌++◌, length, append_assoc, sym, ap, ◌∙◌, subst, arith, ℕ}
use Rattle.floor_rule.specs.declared.rule.Marked.{Marked}
use Rattle.room_parts.specs.Passes.{PassView}
use Rattle.live_gather.specs.Told.{Each, IsMet}
use Rattle.live_gather.proofs.ListLemmas.{no_more, one_before}
use Rattle.live_gather.proofs.telling.meet_all.Goals as goal

pub loop-pass-preserved : goal.loop-pass-preserved
loop-pass-preserved g c =
    let inv = c.loop-pass.invariant in
    let n = length g.N.FloorName.cards in
    let met = subst (λ (ls : List (ℕ × List Marked)). IsMet n ls c.in-Some.pass) inv.same c.meet.ensures.met in
    record {
      same = c.meet.ensures.same ∙ inv.same;
      done = c.in-Some.pass ∷ inv.done;
      all = sym (append_assoc c.pop.new.self.items (c.in-Some.pass ∷ []) inv.done) ∙ ap (λ (l : List PassView). l ++ inv.done) (sym c.in-Some.ensures.items) ∙ inv.all;
      met = one_before (IsMet n c.args.pieces.now.items) c.in-Some.pass inv.done met inv.met;
    }

pub returns-clause-met : goal.returns-clause-met
returns-clause-met g c =
    let inv = c.loop-pass.invariant in
    subst (Each (IsMet (length g.N.FloorName.cards) c.args.pieces.now.items)) (no_more c.loop-pass.passes.items inv.done c.args.passes.items (omega (arith, c.loop-pass.passes.ok.0, c.in_default.ensures.cases)) inv.all) inv.met

use Rattle.std.proofs.Common.{ℕ, List, ◌++◌, length, refl, sym, ◌∙◌, subst}
use Rattle.floor_rule.specs.declared.rule.Marked.{Marked}
use Rattle.floor_rule.specs.Rule.{Among, Distinct}
use Rattle.floor_rule.specs.Steps.{AllBelow}
use Rattle.live_gather.specs.Ordered.{HasAll, IsOneOf}
use Rattle.live_gather.specs.Pieces.{numbers_of}
use Rattle.live_gather.specs.Told.{Each, IsFoundIn, IsMet}
use Rattle.live_gather.proofs.ListLemmas.{of_both}
use Rattle.live_gather.proofs.LogLemmas.{gathered}
use Rattle.live_gather.proofs.gathering.gather.Goals as goal

pub put_in_order-requires : goal.put_in_order-requires
put_in_order-requires g c = record { whole = subst (λ (n : ℕ). HasAll n c.take_in.new.all.items) (sym c.take_in.ensures.size) c.take_in.ensures.whole }

pub returns : goal.returns
returns g c =
    let ls = c.args.pieces.items in
    let n = length g.N.FloorName.cards in
    let first = c.meet_all.ensures.same in
    let second = c.meet_all-2.ensures.same ∙ first in
    let third = c.find_causes.ensures.same ∙ second in
    let took = c.take_in.ensures in
    let order = c.put_in_order.ensures in
    let met = of_both (IsMet n ls) c.args.clients.items c.args.cards.items c.meet_all.ensures.met (subst (λ (l : List (ℕ × List Marked)). Each (IsMet n l) c.args.cards.items) first c.meet_all-2.ensures.met) in
    gathered c.lists.ensures.in_log c.entries.ensures.own c.entries.ensures.once n ls
    (subst (λ (l : List (ℕ × List Marked)). Distinct (numbers_of l)) third took.apart)
    (λ j lt. subst (λ (l : List (ℕ × List Marked)). Among j (numbers_of l)) third (took.every j lt))
    g.N.FloorName.cards g.N.FloorName.long_max (c.args.clients.items ++ c.args.cards.items) c.take_in.new.all.items c.put_in_order.new.all.items refl (order.size ∙ took.size) met
    (subst (λ (l : List (ℕ × List Marked)). Each (λ k. Each (IsFoundIn n k) l) l) second c.find_causes.ensures.found)
    (subst (λ (l : List (ℕ × List Marked)). Each (IsOneOf g.N.FloorName.cards g.N.FloorName.long_max l) c.take_in.new.all.items) third took.gathered)
    order.among order.order
    (subst (λ (l : List (ℕ × List Marked)). AllBelow n (numbers_of l)) third took.below)

use Rattle.std.proofs.Common.{◌≡◌, List, get_or, sym, ◌∙◌, ap}
use Rattle.std.specs.Option.{option_map}
use Rattle.std.specs.declared.option.Option.TheVariants.{Some}
use Rattle.pcm_base.specs.declared.sleeper.Sleeper.{Sleeper}
use Rattle.sleepers.specs.Clients.{sleeper_of}
use Rattle.sleepers.proofs.ClientLemmas.{taken-at, absent-from}
use Rattle.sleepers.proofs.MarkLemmas.{task-waiting}
use Rattle.sleepers.proofs.list.Sleepers.task.Goals as goal

pub returns-in-Some : goal.returns-in-Some
returns-in-Some c =
    let xs = c.self.inside.items.items in
    let there = taken-at _ _ _ _ _ c.self.invariant c.in-Some.is c.place_of.ensures c.deref.ensures.0 in
    let value : Some c.place.inside.sleeper ≡ sleeper_of c.args.client xs =
    ap (λ v. Some v) (c.place.view_is ∙ c.index-deref-at.is ∙ ap (λ (l : List Sleeper). get_or l c.in-Some.at c.index-deref-at.result) c.deref-in-Some.ensures.0) ∙ sym (there.found c.index-deref-at.result) in
    rw (← c.self.view_is) (ap (option_map (λ x. x.task)) value ∙ task-waiting c.args.client xs)

pub returns-in-None : goal.returns-in-None
returns-in-None c =
    let nowhere = absent-from _ _ _ _ c.in-None.is c.place_of.ensures c.deref.ensures.0 in
    rw (← c.self.view_is) (ap (option_map (λ x. x.task)) (sym nowhere.found) ∙ task-waiting c.args.client c.self.inside.items.items)

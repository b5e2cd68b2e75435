use Rattle.std.proofs.Common.{◌≡◌, ◌∙◌, ℕ, List, length, sym, ap, subst, arith}
use Rattle.std.specs.List.{AllByRecursion}
use Rattle.std.proofs.lemmas.List.{length-map}
use Rattle.std.proofs.lemmas.Option.{get_or_from_slice_get}
use Rattle.pcm_line.specs.declared.line.Line.{Line}
use Rattle.room_parts.specs.Passes.{PassView}
use Rattle.live_floor.specs.Cards.{limits}
use Rattle.live_plan.specs.Sound.{IsClientLine}
use Rattle.live_work.proofs.tests.alone.Goals as goal

pub by_itself-ran-requires-clause-lines : goal.by_itself-ran-requires-clause-lines
by_itself-ran-requires-clause-lines g c =
    let plan = c.args.plan.now in
    let count : length g.N.FloorName.cards ≡ length plan.cards.items = ap length c.requires.cards.0 ∙ length-map plan.cards.items limits in
    let same = c.deref-2.ensures.value ∙ ap (λ v. v.items) c.index.ensures in
    subst (λ (n : ℕ). AllByRecursion (IsClientLine n 0) c.deref-2.result.now) (sym count)
    (subst (λ (l : List Line). AllByRecursion (IsClientLine (length plan.cards.items) 0) l) (sym same) (c.requires.sound.calls 0 c.index.result.now (omega arith)))

pub by_itself-ran-requires-clause-client : goal.by_itself-ran-requires-clause-client
by_itself-ran-requires-clause-client g c =
    let pass = c.index_mut-client.ensures.value ∙ get_or_from_slice_get _ 0 _ c.index_mut-client.result.now (c.in_ok-floor.ensures.clients.1 0 (omega arith)) in
    (ap (λ (p : PassView). p.caller) pass, ap (λ (p : PassView). p.busy) pass)

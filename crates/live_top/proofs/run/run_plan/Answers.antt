use Rattle.std.proofs.Common.{◌≡◌, ◌∙◌, ℕ, true, false, List, length, sym, ap, subst}
use Rattle.std.proofs.lemmas.List.{length-map}
use Rattle.live_floor.specs.Cards.{limits}
use Rattle.live_floor.specs.Passes.{OfCards}
use Rattle.live_top.specs.Passes.{AreWhose}
use Rattle.live_top.proofs.PlayedLemmas.{gathered_by, new_whose}
use Rattle.live_top.proofs.run.run_plan.Goals as goal

pub play-requires-clause-whose : goal.play-requires-clause-whose
play-requires-clause-whose g c κs within =
    let plan = c.args.plan.now in
    let count : length g.N.FloorName.cards ≡ length plan.cards.items = ap length c.requires.cards.0 ∙ length-map plan.cards.items limits in
    let cards = subst (λ (l : List _). OfCards (length l) c.in-Ok.passes.cards.items) c.deref.ensures.value c.in-Ok.ensures.cards in
    subst (λ (n : ℕ). AreWhose n c.in-Ok.passes.clients.items c.in-Ok.passes.cards.items) (sym count)
    (new_whose (length plan.cards.items) c.in-Ok.passes.clients.items c.in-Ok.passes.cards.items c.in-Ok.ensures.clients cards)

pub end_whole-requires-clause-run : goal.end_whole-requires-clause-run
end_whole-requires-clause-run g c =
    let cards = subst (λ (l : List _). OfCards (length l) c.in-Ok.passes.cards.items) c.deref.ensures.value c.in-Ok.ensures.cards in
    let r = c.in-Ok-default-None in
    let files = g.F.Shelf.files c.args.shelf.now in (
      files,
      gathered_by c.args.plan.now files g.N.FloorName.cards g.N.FloorName.long_max c.in-Ok.passes.clients.items r.passes.clients.items c.in-Ok.passes.cards.items r.passes.cards.items
          c.gather.result.items c.deref-in-Ok-default-None.result.now c.requires.cards.0 c.requires.cards.1 c.in-Ok.ensures.clients cards r.ensures.whose c.gather.ensures c.deref-in-Ok-default-None.ensures.value
          true (r.ensures.whole r.field-0-1-is),
    )

pub returns-in-Ok-default-None-clause-ended : goal.returns-in-Ok-default-None-clause-ended
returns-in-Ok-default-None-clause-ended g c =
    let cards = subst (λ (l : List _). OfCards (length l) c.in-Ok.passes.cards.items) c.deref.ensures.value c.in-Ok.ensures.cards in
    let r = c.in-Ok-default-None in
    let files = g.F.Shelf.files c.args.shelf.now in
    c.end_whole.ensures.ended files c.play.ensures.stay
    (gathered_by c.args.plan.now files g.N.FloorName.cards g.N.FloorName.long_max c.in-Ok.passes.clients.items r.passes.clients.items c.in-Ok.passes.cards.items r.passes.cards.items
    c.gather.result.items c.deref-in-Ok-default-None.result.now c.requires.cards.0 c.requires.cards.1 c.in-Ok.ensures.clients cards r.ensures.whose c.gather.ensures c.deref-in-Ok-default-None.ensures.value
    true (r.ensures.whole r.field-0-1-is))

pub returns-in-Ok-default-Some-LogFull-clause-ended : goal.returns-in-Ok-default-Some-LogFull-clause-ended
returns-in-Ok-default-Some-LogFull-clause-ended g c =
    let cards = subst (λ (l : List _). OfCards (length l) c.in-Ok.passes.cards.items) c.deref.ensures.value c.in-Ok.ensures.cards in
    let r = c.in-Ok-default-Some-LogFull in
    let files = g.F.Shelf.files c.args.shelf.now in
    c.end_full.ensures.ended files (g.F.Shelf.files c.play.new.shelf) c.play.ensures.stay
    (gathered_by c.args.plan.now files g.N.FloorName.cards g.N.FloorName.long_max c.in-Ok.passes.clients.items r.passes.clients.items c.in-Ok.passes.cards.items r.passes.cards.items
    c.gather-in-Ok-default-Some-LogFull.result.items c.deref-in-Ok-default-Some-LogFull.result.now c.requires.cards.0 c.requires.cards.1 c.in-Ok.ensures.clients cards r.ensures.whose c.gather-in-Ok-default-Some-LogFull.ensures
    c.deref-in-Ok-default-Some-LogFull.ensures.value false r.ensures.first)

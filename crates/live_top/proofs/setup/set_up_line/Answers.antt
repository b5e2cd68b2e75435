use Rattle.std.proofs.Common.{rules, ◌∷◌, [], ◌<◌, ◌∙◌, length, slice_get, Some, None, refl, sym, subst}
use Rattle.pcm_line.specs.declared.line.Line.{Line}
use Rattle.live_top.specs.Setup.{Before, HaveSetUpTo, directions, known}
use Rattle.live_top.proofs.SetupLines.{fed_at, feed_set_up, on_ok}
use Rattle.live_top.proofs.SetupPasses.{none_have}
use Rattle.live_top.proofs.setup.set_up_line.Goals as goal

pub returns-in-Some-clause-made : goal.returns-in-Some-clause-made
returns-in-Some-clause-made g c =
    let n = g.N.FloorName in
    let told = c.args.known.now.told.items in
    let before : Before = record { dirs = directions c.args.cards.now; files = g.S.Shelf.files c.args.shelf.now; told = told } in
    let sub = c.in-Feed.sub in
    let lt : sub.0 < length c.args.cards.now = search rules in
    let looked = sym c.in-Some.is ∙ fed_at c.args.cards.now (known (slice_get told sub.0)) c.from.result sub.0 _ c.to_feed.result c.from.ensures lt c.to_feed.ensures in
    let was = c.args.passes.now in
    let now = c.feed.new.passes in
    on_ok c.feed.result (λ fed. subst (λ (l : Line). HaveSetUpTo n.cards n.long_max before (l ∷ []) told was.clients.items now.clients.items was.cards.items now.cards.items) (sym c.in-Feed.is)
    (feed_set_up n.cards n.long_max (length n.cards) before sub c.in-Feed.name (Some c.in-Some.config) was.clients.items now.clients.items was.cards.items now.cards.items looked fed)) c.feed.ensures.made

pub returns-in-None-clause-made : goal.returns-in-None-clause-made
returns-in-None-clause-made g c =
    let n = g.N.FloorName in
    let told = c.args.known.now.told.items in
    let before : Before = record { dirs = directions c.args.cards.now; files = g.S.Shelf.files c.args.shelf.now; told = told } in
    let sub = c.in-Feed.sub in
    let lt : sub.0 < length c.args.cards.now = search rules in
    let looked = sym c.in-None.is ∙ fed_at c.args.cards.now (known (slice_get told sub.0)) c.from.result sub.0 _ c.to_feed.result c.from.ensures lt c.to_feed.ensures in
    let was = c.args.passes.now in
    subst (λ (l : Line). HaveSetUpTo n.cards n.long_max before (l ∷ []) told was.clients.items was.clients.items was.cards.items was.cards.items) (sym c.in-Feed.is)
    (feed_set_up n.cards n.long_max (length n.cards) before sub c.in-Feed.name None was.clients.items was.clients.items was.cards.items was.cards.items looked ([], refl, none_have n.cards n.long_max was.clients.items was.cards.items))

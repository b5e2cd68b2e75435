use Rattle.std.proofs.Common.{◌≡◌, ◌<◌, ◌∙◌, List, [], ◌∷◌, length, get_or, subst}
use Rattle.std.proofs.lemmas.Result.{err_from_is_err_and}
use Rattle.pcm_base.specs.declared.config.Model.{Model}
use Rattle.pcm_base.specs.declared.state.Dir.{Dir}
use Rattle.pcm_line.specs.declared.line.Line.{Line}
use Rattle.live_top.specs.Setup.{HaveSetUpTo, at_first, directions}
use Rattle.live_top.proofs.SetupLines.{first_set_up, halt_of, next_set_up, none_set_up, stay_then}
use Rattle.live_top.proofs.setup.set_up.Goals as goal

pub returns-in_err-known-clause-first : goal.returns-in_err-known-clause-first
returns-in_err-known-clause-first g c =
    let n = g.N.FloorName in
    let p = err_from_is_err_and c.from_residual.result c.from_residual.ensures.1 in
    let before = at_first c.args.plan.now.cards.items (g.S.Shelf.files c.args.shelf.now) in
    rw p.1 (0, (before.told, none_set_up n.cards n.long_max (length n.cards) before c.args.passes.now.clients.items c.args.passes.now.cards.items))

pub returns-in_err-set_up_line-clause-first : goal.returns-in_err-set_up_line-clause-first
returns-in_err-set_up_line-clause-first g c =
    let n = g.N.FloorName in
    let was = c.args.passes.now in
    let here = c.lines.passes in
    let now = c.set_up_line.new.passes in
    let p = err_from_is_err_and c.from_residual-in_err-set_up_line.result c.from_residual-in_err-set_up_line.ensures.1 in
    let before = at_first c.args.plan.now.cards.items (g.S.Shelf.files c.args.shelf.now) in
    rw p.1 (first_set_up n.cards n.long_max (length n.cards) before c.lines.known.told.items c.args.plan.now.setup.items c.lines.line-index
    was.clients.items here.clients.items now.clients.items was.cards.items here.cards.items now.cards.items c.requires.whose c.lines.invariant.whose c.lines.invariant.made c.in_err-set_up_line.ensures.none)

pub returns-in_err-set_up_line-clause-halted : goal.returns-in_err-set_up_line-clause-halted
returns-in_err-set_up_line-clause-halted g c =
    let i = c.lines.line-index in
    let line = c.line-item.result in
    let e = c.deref-line-items.ensures.value in
    let lt = subst (λ (ls : List Line). i < length ls) e c.lines-test.true in
    let is = subst (λ (ls : List Line). line ≡ get_or ls i line) e c.line-item.is in
    let p = err_from_is_err_and c.from_residual-in_err-set_up_line.result c.from_residual-in_err-set_up_line.ensures.1 in
    rw (p.1, p.2) (halt_of (g.S.Shelf.files c.args.shelf.now) (g.S.Shelf.files c.lines.shelf) c.args.plan.now.setup.items i line line c.in_err-set_up_line.field-0.0
    lt is c.lines.invariant.stay c.in_err-set_up_line.ensures.halted)

pub lines-preserved : goal.lines-preserved
lines-preserved g c =
    let n = g.N.FloorName in
    let was = c.args.passes.now in
    let here = c.lines.passes in
    let now = c.set_up_line.new.passes in
    let before = c.lines.invariant in
    let files = g.S.Shelf.files in
    let first = at_first c.args.plan.now.cards.items (files c.args.shelf.now) in
    let next = subst (λ (all : List (Model × Dir)). HaveSetUpTo n.cards n.long_max (record { dirs = directions all; files = files c.lines.shelf; told = c.lines.known.told.items }) (c.line-item.result ∷ []) c.set_up_line.new.known.told.items
    here.clients.items now.clients.items here.cards.items now.cards.items) c.as_slice-cards.ensures.value c.in_ok-set_up_line.ensures.made in
    let i = c.lines.line-index in
    let line = c.line-item.result in
    let e = c.deref-line-items.ensures.value in
    let lt = subst (λ (ls : List Line). i < length ls) e c.lines-test.true in
    let is = subst (λ (ls : List Line). line ≡ get_or ls i line) e c.line-item.is in
    record {
      whose = c.set_up_line.ensures.whose;
      known = c.set_up_line.ensures.known;
      made = next_set_up n.cards n.long_max (length n.cards) first (files c.lines.shelf) c.lines.known.told.items c.set_up_line.new.known.told.items c.args.plan.now.setup.items i line line
          was.clients.items here.clients.items now.clients.items was.cards.items here.cards.items now.cards.items lt is before.stay c.requires.whose before.whose before.made next;
      stay = stay_then (files c.args.shelf.now) (files c.lines.shelf) (files c.set_up_line.new.shelf) before.stay c.set_up_line.ensures.stay;
      calm = c.in_ok-set_up_line.ensures.calm (λ e. absurd (cc)) ∙ before.calm;
    }

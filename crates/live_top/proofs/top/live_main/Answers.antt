use Rattle.std.proofs.Common.{refl, sym, subst, ap}
use Rattle.std.specs.Prelude.{Err}
use Rattle.live_plan.specs.Plan.{Answer, ComesTo, IsPlan, Whole}
use Rattle.live_plan.specs.declared.plan.Plan.{Plan}
use Rattle.live_top.specs.Complete.{IsGoodEnd, IsReady}
use Rattle.live_top.specs.RunEnds.{Ends, Untouched}
use Rattle.live_top.proofs.CompleteLemmas.{good_refusal, good_run}
use Rattle.live_top.proofs.EndLemmas.{if_some, refused_ends, run_ends, stay_same}
use Rattle.live_top.proofs.top.live_main.Goals as goal

pub returns-in-Err-clause-ends : goal.returns-in-Err-clause-ends
returns-in-Err-clause-ends g c none =
    let files = g.F.Shelf.files c.args.shelf.now in
    let written = g.K.Sink.written c.args.out.now in
    let untouched : Untouched files files written written = record { written = refl; stored = stay_same files } in
    if_some _ (λ bytes. (answer : Answer) → ComesTo bytes answer → Ends answer files files written written c.status_of.result) (g.S.Source.left c.args.plan.now)
    (λ bytes exact answer comes. subst (Ends answer files files written written) (sym c.status_of.ensures) (refused_ends files files written written answer c.in-Err.fault (exact answer comes) untouched)) c.in-Err.ensures.exact

pub returns-clause-ends : goal.returns-clause-ends
returns-clause-ends g c none =
    let files = g.F.Shelf.files c.args.shelf.now in
    let written = g.K.Sink.written c.args.out.now in
    if_some _ (λ bytes. (answer : Answer) → ComesTo bytes answer → Ends answer files (g.F.Shelf.files c.run_plan.new.shelf) written (g.K.Sink.written c.run_plan.new.out) c.run_plan.result) (g.S.Source.left c.args.plan.now)
    (λ bytes exact answer comes. run_ends files (g.F.Shelf.files c.run_plan.new.shelf) written (g.K.Sink.written c.run_plan.new.out) answer c.in-Ok.plan c.run_plan.result (exact answer comes) c.run_plan.ensures.ended) c.in-Ok.ensures.exact

pub returns-in-Err-clause-complete : goal.returns-in-Err-clause-complete
returns-in-Err-clause-complete g c none reads writes stores =
    let files = g.F.Shelf.files c.args.shelf.now in
    if_some _ (λ bytes. (p : Plan) → IsPlan bytes p → IsReady files p → IsGoodEnd p c.status_of.result) (g.S.Source.left c.args.plan.now)
    (λ bytes exact p is ready. subst (λ s. IsGoodEnd p s) (sym c.status_of.ensures) (good_refusal p is.said c.in-Err.fault (exact (Whole is.said) is.whole) (λ e. reads (c.in-Err.ensures.read (ap Err e))))) c.in-Err.ensures.exact

pub returns-clause-complete : goal.returns-clause-complete
returns-clause-complete g c none reads writes stores =
    let files = g.F.Shelf.files c.args.shelf.now in
    let s = c.run_plan.result in
    if_some _ (λ bytes. (p : Plan) → IsPlan bytes p → IsReady files p → IsGoodEnd p s) (g.S.Source.left c.args.plan.now)
    (λ bytes exact p is ready. good_run p c.in-Ok.plan is.said is.has (exact (Whole is.said) is.whole) files (g.F.Shelf.files c.run_plan.new.shelf) (g.K.Sink.written c.args.out.now) (g.K.Sink.written c.run_plan.new.out) ready
    s c.run_plan.ensures.ended (λ e. writes (c.run_plan.ensures.write e)) (λ e. stores (c.run_plan.ensures.store e))) c.in-Ok.ensures.exact

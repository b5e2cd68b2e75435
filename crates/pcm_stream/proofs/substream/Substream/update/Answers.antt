use Rattle.std.proofs.Common.{◌≡◌, true, sym, ◌∙◌, ap}
use Rattle.pcm_base.specs.declared.act.Updated.{Updated}
use Rattle.pcm_base.specs.declared.act.Updated.TheVariants as updated
use Rattle.pcm_base.specs.model.Stream.{Stream}
use Rattle.pcm_base.specs.model.Update.{update, moved_up, found, settled}
use Rattle.pcm_stream.proofs.CardLemmas.{stands-at}
use Rattle.pcm_stream.proofs.StreamLemmas.{found-update, stream-update}
use Rattle.pcm_stream.proofs.substream.Substream.update.Goals as goal

-- what an update comes to, by what it finds
settled-by : (u : Updated) (s : Stream) → s.card.runs ≡ true → u ≡ found (moved_up s) → (update s).stream ≡ settled u (moved_up s)
settled-by u s runs e = stream-update s runs ∙ ap (λ (x : Updated). settled x (moved_up s)) (sym e)

pub returns-in-DrainDone-clause-model : goal.returns-in-DrainDone-clause-model
returns-in-DrainDone-clause-model g c s h =
    let runs : s.card.runs ≡ true = sym h.runs ∙ sym c.runs.ensures ∙ c.if-not-runs.false in
    let moved = c.report.ensures.model s h runs in
    let what : updated.DrainDone ≡ found (moved_up s) = sym c.in-DrainDone.is ∙ c.found-found.ensures (moved_up s) moved in
    stands-at c.end_drain.new.self (update s).stream (settled updated.DrainDone (moved_up s)) (settled-by updated.DrainDone s runs what)
    (c.end_drain.ensures.model (moved_up s) moved (sym what))

pub returns-in-Nothing-clause-model : goal.returns-in-Nothing-clause-model
returns-in-Nothing-clause-model g c s h =
    let runs : s.card.runs ≡ true = sym h.runs ∙ sym c.runs.ensures ∙ c.if-not-runs.false in
    let moved = c.report.ensures.model s h runs in
    let what : updated.Nothing ≡ found (moved_up s) = sym c.in-Nothing.is ∙ c.found-found.ensures (moved_up s) moved in
    stands-at c.report.new.self (update s).stream (moved_up s) (settled-by updated.Nothing s runs what) moved

pub returns-in-StopXrun-clause-found : goal.returns-in-StopXrun-clause-found
returns-in-StopXrun-clause-found g c s h =
    let runs : s.card.runs ≡ true = sym h.runs ∙ sym c.runs.ensures ∙ c.if-not-runs.false in
    c.found-found.ensures (moved_up s) (c.report.ensures.model s h runs) ∙ sym (found-update s runs)

pub returns-in-StopXrun-clause-model : goal.returns-in-StopXrun-clause-model
returns-in-StopXrun-clause-model g c s h =
    let runs : s.card.runs ≡ true = sym h.runs ∙ sym c.runs.ensures ∙ c.if-not-runs.false in
    let moved = c.report.ensures.model s h runs in
    let what : updated.StopXrun ≡ found (moved_up s) = sym c.in-StopXrun.is ∙ c.found-found.ensures (moved_up s) moved in
    stands-at c.report.new.self (update s).stream (moved_up s) (settled-by updated.StopXrun s runs what) moved

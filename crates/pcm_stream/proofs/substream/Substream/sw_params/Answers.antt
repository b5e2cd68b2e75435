use Rattle.std.proofs.Common.{◌≡◌, refl, sym, ◌∙◌, ap}
use Rattle.std.proofs.lemmas.Result.{on_err_weaker, on_ok_weaker}
use Rattle.std.specs.declared.option.Option.TheVariants.{Some, None}
use Rattle.pcm_base.specs.declared.call.CallKind.TheVariants as kind
use Rattle.pcm_base.specs.model.Acts.{table}
use Rattle.pcm_stream.specs.Runs.{RunsFor}
use Rattle.pcm_stream.proofs.CardLemmas.{stands-as}
use Rattle.pcm_stream.proofs.ParamsLemmas.{StandsFor-set_sw, sw-allowed, sw-refused, table-none}
use Rattle.pcm_stream.proofs.substream.Substream.sw_params.Goals as goal

pub returns-in-Some-clause-ok : goal.returns-in-Some-clause-ok
returns-in-Some-clause-ok g c s h =
    let runs : RunsFor c.in-Some.runtime s = h.shows.runs_for c.in-Some.runtime c.in-Some.is in
    let allowed : table kind.SwParams s ≡ None = table-none kind.SwParams c.args.self.now s h.shows c.in_ok-permit.ensures in
    on_ok_weaker c.set_sw.result
    (λ q. (
      sw-allowed c.args.sw.now s allowed q.0,
      StandsFor-set_sw c.args.self.now _ c.args.sw.now s c.in-Some.runtime c.set_sw.new.self (record { dir = refl; long_max = refl; state = refl; kept = refl; card = refl })
          c.in-Some.is refl c.set_sw.ensures.shape q.0 q.1 h,
    ))
    (c.set_sw.ensures.ok s runs)

pub returns-in-Some-clause-refused : goal.returns-in-Some-clause-refused
returns-in-Some-clause-refused g c s h =
    let runs : RunsFor c.in-Some.runtime s = h.shows.runs_for c.in-Some.runtime c.in-Some.is in
    let allowed : table kind.SwParams s ≡ None = table-none kind.SwParams c.args.self.now s h.shows c.in_ok-permit.ensures in
    sw-refused _ c.args.sw.now s c.set_sw.result allowed (c.set_sw.ensures.refused s runs)
    (on_err_weaker c.set_sw.result (λ q. stands-as c.args.self.now _ s refl refl refl refl refl (ap Some q ∙ sym c.in-Some.is) h) c.set_sw.ensures.same)

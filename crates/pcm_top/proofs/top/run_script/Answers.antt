use Rattle.std.proofs.Common.{ap}
use Rattle.std.specs.Prelude.{Ok}
use Rattle.pcm_top.specs.declared.end.End.{End}
use Rattle.pcm_top.proofs.OutputLemmas.{if-some-map, output-complete}
use Rattle.pcm_top.proofs.top.run_script.Goals as goal

pub returns-in-Ok-clause-complete : goal.returns-in-Ok-clause-complete
returns-in-Ok-clause-complete g c =
    if-some-map _ _ (g.S.Source.left c.args.source.now)
    (λ script out is source sink shelf.
    output-complete c.args.command script _ _ _ _ c.in-Ok.ended _ c.status_of.ensures out is (λ e. shelf (c.in-Ok.ensures.store (ap (λ (x : End). Ok x) e))))
    c.in-Ok.ensures.ran

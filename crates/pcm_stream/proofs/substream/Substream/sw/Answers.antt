use Rattle.std.proofs.Common.{sym, ◌∙◌, ap}
use Rattle.std.specs.Option.{option_map}
use Rattle.std.specs.declared.option.Option.TheVariants.{Some}
use Rattle.pcm_base.specs.declared.config.SwParams.{SwParams}
use Rattle.pcm_stream.proofs.substream.Substream.sw.Goals as goal

pub returns-in-Some : goal.returns-in-Some
returns-in-Some g c s h =
    let runs = h.shows.runs_for c.in-Some.runtime c.in-Some.is in
    sym (ap (option_map (λ _. s.setup.sw)) runs.setup.config ∙ ap (λ (x : SwParams). Some x) runs.setup.sw)

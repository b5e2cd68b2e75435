use Rattle.std.proofs.Common.{Some, sym, ◌∙◌, ap}
use Rattle.std.specs.Option.{option_map}
use Rattle.pcm_base.specs.declared.config.Config.{Config}
use Rattle.pcm_base.specs.model.Allowed.{shape_of}
use Rattle.pcm_stream.specs.declared.runtime.Runtime.{Runtime}
use Rattle.pcm_stream.proofs.substream.Substream.shape.Goals as goal

pub returns-in-Some-clause-model : goal.returns-in-Some-clause-model
returns-in-Some-clause-model g c s h =
    let runs = h.shows.runs_for c.in-Some.runtime c.in-Some.is in
    rw c.in-Some.is (record { frame_bytes = runs.setup.frame_bytes; buffer = runs.setup.buffer; boundary = runs.setup.boundary; sound = c.in-Some.runtime.sound })

pub returns-in-Some-clause-exact : goal.returns-in-Some-clause-exact
returns-in-Some-clause-exact g c s h =
    let runs = h.shows.runs_for c.in-Some.runtime c.in-Some.is in
    ap (option_map (λ (r : Runtime). r.shape)) c.in-Some.is ∙ ap Some runs.setup.shape ∙ sym (ap (option_map (λ (x : Config). shape_of x s.long_max)) runs.setup.config)

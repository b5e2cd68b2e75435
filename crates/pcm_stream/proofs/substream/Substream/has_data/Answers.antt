use Rattle.std.proofs.Common.{◌≡◌, nat_lt, sym, ◌∙◌, ap}
use Rattle.pcm_base.specs.model.Stream.{avail}
use Rattle.pcm_stream.specs.Runs.{RunsFor}
use Rattle.pcm_stream.proofs.ActsLemmas.{runtime-configured}
use Rattle.pcm_stream.proofs.substream.Substream.has_data.Goals as goal

pub returns-in-Some : goal.returns-in-Some
returns-in-Some g c s h sound =
    let r : RunsFor c.in-Some.runtime s = h.runs_for c.in-Some.runtime c.in-Some.is in
    let e : c.avail.result ≡ avail s = c.avail.ensures.model s (sym h.dir) r (runtime-configured c.in-Some.runtime s r sound).placed in
    ap (λ n. nat_lt n c.in-Some.runtime.shape.buffer) e ∙ ap (λ n. nat_lt (avail s) n) (sym r.setup.buffer)

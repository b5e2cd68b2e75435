use Rattle.std.proofs.Common.{◌≡◌, sym, ◌∙◌}
use Rattle.pcm_base.specs.declared.state.Dir.TheVariants.{Playback}
use Rattle.pcm_base.specs.model.Stream.{avail}
use Rattle.pcm_stream.specs.Runs.{RunsFor}
use Rattle.pcm_stream.proofs.ActsLemmas.{lacks-else, lacks-then, runtime-configured}
use Rattle.pcm_stream.proofs.substream.Substream.lacks_data.Goals as goal

pub returns-then-runtime : goal.returns-then-runtime
returns-then-runtime g c s h sound =
    let r : RunsFor c.in-Playback-Some.runtime s = h.runs_for c.in-Playback-Some.runtime c.in-Playback-Some.is-1 in
    let way : s.dir ≡ Playback = sym h.dir ∙ c.in-Playback-Some.is-0 in
    let e : c.avail.result ≡ avail s = c.avail.ensures.model s way r (runtime-configured c.in-Playback-Some.runtime s r sound).placed in
    lacks-then s c.in-Playback-Some.runtime c.avail.result way r e c.if-runtime.true

pub returns-else-runtime : goal.returns-else-runtime
returns-else-runtime g c s h sound =
    lacks-else s c.in-Playback-Some.runtime (h.runs_for c.in-Playback-Some.runtime c.in-Playback-Some.is-1) c.if-runtime.false

use Rattle.std.proofs.Common.{◌≡◌, sym, ◌∙◌, refl}
use Rattle.pcm_base.specs.declared.state.Dir.TheVariants.{Playback}
use Rattle.pcm_stream.specs.Runs.{RunsFor}
use Rattle.pcm_stream.proofs.ActsLemmas.{Shows-filled}
use Rattle.pcm_stream.proofs.substream.Substream.put_silence.Goals as goal

pub returns-in-Some-clause-shows : goal.returns-in-Some-clause-shows
returns-in-Some-clause-shows g c s h placed =
    let r : RunsFor c.in-Some.runtime s = h.runs_for c.in-Some.runtime c.in-Some.is in
    let way : s.dir ≡ Playback = sym h.dir ∙ c.in-Playback.is in
    Shows-filled c.args.self.now _ s c.in-Some.runtime c.fill.new.self (record { dir = refl; long_max = refl; state = refl; kept = refl; card = refl })
    c.in-Some.is refl c.fill.ensures.shape (c.fill.ensures.filled s way r (placed c.in-Some.runtime.config r.setup.config)) h

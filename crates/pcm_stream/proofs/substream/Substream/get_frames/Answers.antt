use Rattle.std.proofs.Common.{refl}
use Rattle.pcm_base.specs.model.PointerCalls.{on_by}
use Rattle.pcm_laws.proofs.KeptByPrograms.{Sound-on_by}
use Rattle.pcm_stream.proofs.PointerLemmas.{StandsFor-runtime}
use Rattle.pcm_stream.proofs.substream.Substream.get_frames.Goals as goal

pub returns-in-Some-clause-moved : goal.returns-in-Some-clause-moved
returns-in-Some-clause-moved g c s h few =
    let r = c.in-Some.runtime in
    StandsFor-runtime c.args.self.now _ s (on_by c.args.count s) r c.get.new.self (record { dir = refl; long_max = refl; state = refl; kept = refl; card = refl }) c.in-Some.is refl c.get.ensures.shape
    (record { dir = refl; model = refl; long_max = refl; state = refl; kept = refl; card = refl; at = refl }) (c.get.ensures.moved s (h.shows.runs_for r c.in-Some.is)) (Sound-on_by c.args.count s few h.sound) h

pub returns-in-Some-clause-frames : goal.returns-in-Some-clause-frames
returns-in-Some-clause-frames g c s h = c.get.ensures.frames s (h.shows.runs_for c.in-Some.runtime c.in-Some.is)

pub returns-in-Some-clause-bytes : goal.returns-in-Some-clause-bytes
returns-in-Some-clause-bytes g c s h = c.get.ensures.bytes s (h.shows.runs_for c.in-Some.runtime c.in-Some.is)

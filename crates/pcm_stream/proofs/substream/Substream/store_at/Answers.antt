use Rattle.std.proofs.Common.{refl}
use Rattle.pcm_base.specs.model.Standing.{put_at}
use Rattle.pcm_base.specs.model.Transfer.{frames_in}
use Rattle.pcm_laws.proofs.KeptByPrograms.{Sound-puts}
use Rattle.pcm_stream.specs.Buffer.{stored_at}
use Rattle.pcm_stream.proofs.PointerLemmas.{StandsFor-runtime}
use Rattle.pcm_stream.proofs.substream.Substream.store_at.Goals as goal

pub returns-in-Some-clause-stored : goal.returns-in-Some-clause-stored
returns-in-Some-clause-stored g c s h =
    let r = c.in-Some.runtime in
    let fs = frames_in s c.args.frames.now in
    StandsFor-runtime c.args.self.now _ s (stored_at c.args.slot fs s) r c.store.new.self (record { dir = refl; long_max = refl; state = refl; kept = refl; card = refl }) c.in-Some.is refl c.store.ensures.shape
    (record { dir = refl; model = refl; long_max = refl; state = refl; kept = refl; card = refl; at = refl }) (c.store.ensures.stored s (h.shows.runs_for r c.in-Some.is)) (Sound-puts (put_at c.args.slot fs s.puts) s h.sound) h

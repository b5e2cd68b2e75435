use Rattle.std.proofs.Common.{refl}
use Rattle.pcm_base.specs.model.Events.{set_mappings}
use Rattle.pcm_stream.proofs.PointerLemmas.{StandsFor-runtime, Sound-mapped}
use Rattle.pcm_stream.proofs.substream.Substream.set_mappings.Goals as goal

pub returns-in-Some-clause-set : goal.returns-in-Some-clause-set
returns-in-Some-clause-set g c s h =
    let r = c.in-Some.runtime in
    let kept = h.shows.runs_for r c.in-Some.is in
    StandsFor-runtime c.args.self.now _ s (set_mappings c.args.n s) r c.set_mappings.new.self (record { dir = refl; long_max = refl; state = refl; kept = refl; card = refl }) c.in-Some.is refl c.set_mappings.ensures.shape
    (record { dir = refl; model = refl; long_max = refl; state = refl; kept = refl; card = refl; at = refl }) (c.set_mappings.ensures.set s kept) (Sound-mapped r.config c.args.n s kept.setup.config h.sound) h

use Rattle.std.proofs.Common.{◌≤◌, min, refl, sym, arith}
use Rattle.pcm_base.specs.model.PointerCalls.{back_by, hw_avail}
use Rattle.pcm_base.specs.model.Sound.{IsPlaced}
use Rattle.pcm_laws.proofs.KeptByPrograms.{Sound-back_by}
use Rattle.pcm_stream.proofs.PointerLemmas.{StandsFor-runtime}
use Rattle.pcm_stream.proofs.StreamLemmas.{configured}
use Rattle.pcm_stream.proofs.substream.Substream.rewind.Goals as goal

pub returns-in-Some-clause-count : goal.returns-in-Some-clause-count
returns-in-Some-clause-count g c s h =
    let r = c.in-Some.runtime in
    let kept = h.shows.runs_for r c.in-Some.is in
    let placed : IsPlaced s = (configured r.config s kept.setup.config h.sound).placed in
    c.rewind.ensures.count s (sym h.shows.dir) kept placed

pub returns-in-Some-clause-moved : goal.returns-in-Some-clause-moved
returns-in-Some-clause-moved g c s h =
    let r = c.in-Some.runtime in
    let kept = h.shows.runs_for r c.in-Some.is in
    let placed : IsPlaced s = (configured r.config s kept.setup.config h.sound).placed in
    let few : min c.args.n (hw_avail s) ≤ hw_avail s = omega arith in
    StandsFor-runtime c.args.self.now _ s (back_by (min c.args.n (hw_avail s)) s) r c.rewind.new.self (record { dir = refl; long_max = refl; state = refl; kept = refl; card = refl }) c.in-Some.is refl c.rewind.ensures.shape
    (record { dir = refl; model = refl; long_max = refl; state = refl; kept = refl; card = refl; at = refl }) (c.rewind.ensures.moved s (sym h.shows.dir) kept placed) (Sound-back_by (min c.args.n (hw_avail s)) s few h.sound) h

use Rattle.std.proofs.Common.{◌≤◌, ◌<◌, refl, sym, arith}
use Rattle.pcm_base.specs.model.PointerCalls.{sync_to}
use Rattle.pcm_base.specs.model.Sound.{IsPlaced}
use Rattle.pcm_laws.proofs.KeptByPrograms.{Sound-sync_to}
use Rattle.pcm_stream.proofs.CardLemmas.{stands-as}
use Rattle.pcm_stream.proofs.PointerLemmas.{StandsFor-runtime}
use Rattle.pcm_stream.proofs.StreamLemmas.{configured}
use Rattle.pcm_stream.proofs.substream.Substream.sync.Goals as goal

pub returns-then-p-runtime-clause-einval : goal.returns-then-p-runtime-clause-einval
returns-then-p-runtime-clause-einval g c s h =
    let r = c.in-Some.runtime in
    let kept = h.shows.runs_for r c.in-Some.is in
    let far : s.setup.boundary ≤ c.args.p = omega (arith, kept.setup.boundary, c.if-p-runtime.true) in
    (refl, far, stands-as c.args.self.now _ s refl refl refl refl refl (sym c.in-Some.is) h)

pub returns-clause-ok : goal.returns-clause-ok
returns-clause-ok g c s h =
    let r = c.in-Some.runtime in
    let kept = h.shows.runs_for r c.in-Some.is in
    let placed : IsPlaced s = (configured r.config s kept.setup.config h.sound).placed in
    let below : c.args.p < s.setup.boundary = omega (arith, kept.setup.boundary, c.if-p-runtime.false) in (
      below,
      StandsFor-runtime c.args.self.now _ s (sync_to c.args.p s) r c.point_at.new.self (record { dir = refl; long_max = refl; state = refl; kept = refl; card = refl }) c.in-Some.is refl c.point_at.ensures.shape
          (record { dir = refl; model = refl; long_max = refl; state = refl; kept = refl; card = refl; at = refl }) (c.point_at.ensures.moved s kept placed) (Sound-sync_to c.args.p s h.sound) h,
    )

use Rattle.std.proofs.Common.{◌≡◌, ◌-◌, true, false, refl, sym, ◌∙◌, ap}
use Rattle.pcm_base.specs.declared.state.Dir.TheVariants as dir
use Rattle.pcm_base.specs.model.Movement.{Movement, move}
use Rattle.pcm_base.specs.model.Sound.{IsPlaced}
use Rattle.pcm_stream.specs.Moving.{CanMove}
use Rattle.pcm_stream.proofs.CardLemmas.{stands-at, stands-as, near-by, far-by}
use Rattle.pcm_stream.proofs.MoveLemmas.{move-idle, move-late}
use Rattle.pcm_stream.proofs.StreamLemmas.{configured}
use Rattle.pcm_stream.proofs.substream.Substream.dma.Goals as goal

pub returns-then-not-runs-clause-moved : goal.returns-then-not-runs-clause-moved
returns-then-not-runs-clause-moved g c s h other =
    let stands : s.card.runs ≡ false = sym h.runs ∙ sym c.runs.ensures ∙ c.if-not-runs.true in
    stands-at _ (move c.args.n s).stream s (ap (λ (m : Movement). m.stream) (move-idle c.args.n s stands))
    (stands-as c.args.self.now _ s refl refl refl refl refl refl h)

pub returns-then-n-room-clause-moved : goal.returns-then-n-room-clause-moved
returns-then-n-room-clause-moved g c s h other =
    let r = c.in-Some.runtime in
    let kept = h.shows.runs_for r c.in-Some.is in
    let runs : s.card.runs ≡ true = sym h.runs ∙ sym c.runs.ensures ∙ c.if-not-runs.false in
    let placed : IsPlaced s = (configured r.config s kept.setup.config h.sound).placed in
    let gone : c.unreported.result ≡ s.at.card - s.at.hw = c.unreported.ensures.model s (c.position.ensures.value ∙ h.shows.position r c.in-Some.is) kept placed in
    let far = far-by c.args.n r.shape.buffer c.unreported.result s gone placed kept.setup.buffer c.if-n-room.true in
    stands-at _ (move c.args.n s).stream s (ap (λ (m : Movement). m.stream) (move-late c.args.n s runs far))
    (stands-as c.args.self.now _ s refl refl refl refl refl refl h)

pub returns-in-Playback-clause-reply : goal.returns-in-Playback-clause-reply
returns-in-Playback-clause-reply g c s h =
    let r = c.in-Some.runtime in
    let kept = h.shows.runs_for r c.in-Some.is in
    let placed : IsPlaced s = (configured r.config s kept.setup.config h.sound).placed in
    let gone : c.unreported.result ≡ s.at.card - s.at.hw = c.unreported.ensures.model s (c.position.ensures.value ∙ h.shows.position r c.in-Some.is) kept placed in
    let can : CanMove dir.Playback c.args.n s = record {
      dir = sym h.shows.dir ∙ c.in-Playback.is;
      runs = sym h.runs ∙ sym c.runs.ensures ∙ c.if-not-runs.false;
      near = near-by c.args.n r.shape.buffer c.unreported.result s gone placed kept.setup.buffer c.unreported.ensures.below c.if-n-room.false;
    } in
    c.play.ensures.reply s (stands-as c.args.self.now _ s refl refl refl refl refl refl h) can

pub returns-in-Playback-clause-moved : goal.returns-in-Playback-clause-moved
returns-in-Playback-clause-moved g c s h other =
    let r = c.in-Some.runtime in
    let kept = h.shows.runs_for r c.in-Some.is in
    let placed : IsPlaced s = (configured r.config s kept.setup.config h.sound).placed in
    let gone : c.unreported.result ≡ s.at.card - s.at.hw = c.unreported.ensures.model s (c.position.ensures.value ∙ h.shows.position r c.in-Some.is) kept placed in
    let can : CanMove dir.Playback c.args.n s = record {
      dir = sym h.shows.dir ∙ c.in-Playback.is;
      runs = sym h.runs ∙ sym c.runs.ensures ∙ c.if-not-runs.false;
      near = near-by c.args.n r.shape.buffer c.unreported.result s gone placed kept.setup.buffer c.unreported.ensures.below c.if-n-room.false;
    } in
    c.play.ensures.moved s (stands-as c.args.self.now _ s refl refl refl refl refl refl h) can other

pub returns-in-Capture-clause-moved : goal.returns-in-Capture-clause-moved
returns-in-Capture-clause-moved g c s h other =
    let r = c.in-Some.runtime in
    let kept = h.shows.runs_for r c.in-Some.is in
    let placed : IsPlaced s = (configured r.config s kept.setup.config h.sound).placed in
    let gone : c.unreported.result ≡ s.at.card - s.at.hw = c.unreported.ensures.model s (c.position.ensures.value ∙ h.shows.position r c.in-Some.is) kept placed in
    let can : CanMove dir.Capture c.args.n s = record {
      dir = sym h.shows.dir ∙ c.in-Capture.is;
      runs = sym h.runs ∙ sym c.runs.ensures ∙ c.if-not-runs.false;
      near = near-by c.args.n r.shape.buffer c.unreported.result s gone placed kept.setup.buffer c.unreported.ensures.below c.if-n-room.false;
    } in
    c.capture.ensures.moved s (stands-as c.args.self.now _ s refl refl refl refl refl refl h) can

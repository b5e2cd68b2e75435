use Rattle.std.proofs.Common.{◌≡◌, ◌%◌, sym, ◌∙◌, ap, subst}
use Rattle.pcm_base.specs.declared.config.Shape.{Shape}
use Rattle.pcm_base.specs.model.Stream.{Stream}
use Rattle.pcm_base.specs.model.Update.{lap, reported, moved_up}
use Rattle.pcm_stream.specs.StandsFor.{IsUnset}
use Rattle.pcm_stream.specs.Runs.{RunsFor}
use Rattle.pcm_stream.specs.declared.runtime.Runtime.{Runtime}
use Rattle.pcm_laws.proofs.KeptByMoves.{IsConfigured-moved_up}
use Rattle.pcm_stream.proofs.StreamLemmas.{configured, sound_configured, for_some, no_none, placed-reported, fill-capture}
use Rattle.pcm_stream.proofs.substream.Substream.report.Goals as goal

pub returns-in-Playback-clause-model : goal.returns-in-Playback-clause-model
returns-in-Playback-clause-model g c s h runs =
    let r = c.in-Some.runtime in
    let kept = h.shows.runs_for r c.in-Some.is in
    let whole = configured r.config s kept.setup.config h.sound in
    let at = c.position.ensures.value ∙ h.shows.position r c.in-Some.is in
    let near : RunsFor c.report.new.self (lap (reported s)) = c.report.ensures.reported s at kept whole.placed in
    let now : RunsFor c.fill.new.self (moved_up s) = c.fill.ensures.filled (lap (reported s)) (sym h.shows.dir ∙ c.in-Playback.is) near (placed-reported r.config s whole) in
    record {
      shows = record {
        dir = h.shows.dir;
        model = h.shows.model;
        long_max = h.shows.long_max;
        state = h.shows.state;
        kept = h.shows.kept;
        taken = h.shows.taken;
        to_give = h.shows.to_give;
        unset = λ e. no_none (IsUnset s.setup.config s.moved) c.fill.new.self e;
        runs_for = for_some (λ (x : Runtime). RunsFor x (moved_up s)) c.fill.new.self now;
        position = for_some (λ (x : Runtime). (g.C.Card.facts c.args.self.now.card).position ≡ s.at.card % x.shape.buffer) c.fill.new.self
            (h.shows.position r c.in-Some.is ∙ ap (λ n. s.at.card % n) (sym (ap (λ (x : Shape). x.buffer) (c.fill.ensures.shape ∙ c.report.ensures.shape))));
      };
      runs = h.runs;
      plan = h.plan;
      sound = sound_configured r.config (moved_up s) kept.setup.config (IsConfigured-moved_up r.config s whole);
    }

pub returns-in-Capture-clause-model : goal.returns-in-Capture-clause-model
returns-in-Capture-clause-model g c s h runs =
    let r = c.in-Some.runtime in
    let kept = h.shows.runs_for r c.in-Some.is in
    let whole = configured r.config s kept.setup.config h.sound in
    let at = c.position.ensures.value ∙ h.shows.position r c.in-Some.is in
    let near : RunsFor c.report.new.self (lap (reported s)) = c.report.ensures.reported s at kept whole.placed in
    let same : moved_up s ≡ lap (reported s) = fill-capture (lap (reported s)) (sym h.shows.dir ∙ c.in-Capture.is) in
    let now : RunsFor c.report.new.self (moved_up s) = subst (λ (t : Stream). RunsFor c.report.new.self t) (sym same) near in
    record {
      shows = record {
        dir = h.shows.dir;
        model = h.shows.model;
        long_max = h.shows.long_max;
        state = h.shows.state;
        kept = h.shows.kept;
        taken = h.shows.taken;
        to_give = h.shows.to_give;
        unset = λ e. no_none (IsUnset s.setup.config s.moved) c.report.new.self e;
        runs_for = for_some (λ (x : Runtime). RunsFor x (moved_up s)) c.report.new.self now;
        position = for_some (λ (x : Runtime). (g.C.Card.facts c.args.self.now.card).position ≡ s.at.card % x.shape.buffer) c.report.new.self
            (h.shows.position r c.in-Some.is ∙ ap (λ n. s.at.card % n) (sym (ap (λ (x : Shape). x.buffer) c.report.ensures.shape)));
      };
      runs = h.runs;
      plan = h.plan;
      sound = sound_configured r.config (moved_up s) kept.setup.config (IsConfigured-moved_up r.config s whole);
    }

use Rattle.std.proofs.Common.{◌≡◌, ◌≤◌, ◌%◌, List, length, take, drop, sym, ◌∙◌, ap, subst, ℕ}
use Rattle.std.specs.Option.{option_map}
use Rattle.pcm_base.specs.declared.config.Shape.{Shape}
use Rattle.pcm_base.specs.model.Frame.{Frame}
use Rattle.pcm_base.specs.model.Stream.{avail}
use Rattle.pcm_base.specs.model.Transfer.{frames_by, put_next}
use Rattle.pcm_laws.proofs.KeptByPrograms.{Sound-put_next}
use Rattle.pcm_stream.specs.StandsFor.{IsUnset}
use Rattle.pcm_stream.specs.Runs.{RunsFor}
use Rattle.pcm_stream.specs.declared.runtime.Runtime.{Runtime}
use Rattle.pcm_stream.proofs.LayoutLemmas.{length-part}
use Rattle.pcm_stream.proofs.StreamLemmas.{for_some, no_none}
use Rattle.pcm_stream.proofs.substream.Substream.put_frames.Goals as goal

pub returns-in-Some-clause-put : goal.returns-in-Some-clause-put
returns-in-Some-clause-put g c s h few =
    let r = c.in-Some.runtime in
    let kept = h.shows.runs_for r c.in-Some.is in
    let fs : List Frame = take c.args.count (drop c.args.first (frames_by c.args.layout s c.args.io.now)) in
    let now : RunsFor c.put.new.self (put_next fs s) = c.put.ensures.put s kept in
    let size : length fs ≡ c.args.count =
    length-part c.args.layout s c.args.io.now c.args.first c.args.count r.shape.frame_bytes kept.setup.frame_bytes
    (c.requires.within r.shape (ap (option_map (λ (x : Runtime). x.shape)) c.in-Some.is)) in
    record {
      shows = record {
        dir = h.shows.dir;
        model = h.shows.model;
        long_max = h.shows.long_max;
        state = h.shows.state;
        kept = h.shows.kept;
        taken = h.shows.taken;
        to_give = h.shows.to_give;
        unset = λ e. no_none (IsUnset s.setup.config s.moved) c.put.new.self e;
        runs_for = for_some (λ (x : Runtime). RunsFor x (put_next fs s)) c.put.new.self now;
        position = for_some (λ (x : Runtime). (g.C.Card.facts c.args.self.now.card).position ≡ s.at.card % x.shape.buffer) c.put.new.self
            (h.shows.position r c.in-Some.is ∙ ap (λ n. s.at.card % n) (sym (ap (λ (x : Shape). x.buffer) c.put.ensures.shape)));
      };
      runs = h.runs;
      plan = h.plan;
      sound = Sound-put_next fs s (subst (λ (n : ℕ). n ≤ avail s) (sym size) few) h.sound;
    }

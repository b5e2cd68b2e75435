use Rattle.std.proofs.Common.{◌≡◌, ◌%◌, ℕ, Some, List, [], length, refl, sym, ◌∙◌, ap, subst, arith}
use Rattle.pcm_base.specs.declared.config.Shape.{Shape}
use Rattle.pcm_base.specs.CardFacts.{CardFacts}
use Rattle.pcm_base.specs.Boundary.{boundary_of}
use Rattle.pcm_base.specs.model.Allowed.{buffer_of}
use Rattle.pcm_stream.specs.Runs.{RunsFor, IsNewRuntime}
use Rattle.pcm_stream.specs.SetUp.{configured_by}
use Rattle.pcm_stream.specs.StandsFor.{IsUnset}
use Rattle.pcm_stream.specs.declared.runtime.Runtime.{Runtime}
use Rattle.pcm_stream.proofs.CardLemmas.{new-runs, new-position, configured-sound}
use Rattle.pcm_stream.proofs.StreamLemmas.{for_some, no_none}
use Rattle.pcm_stream.proofs.substream.Substream.take_up.Goals as goal

pub returns-clause-model : goal.returns-clause-model
returns-clause-model g c s config h accepted shape unmapped new =
    let facts = c.set_up.ensures.after in
    let now : RunsFor c.args.runtime (configured_by config s) = new-runs config s c.args.runtime (subst (λ (x : Shape). IsNewRuntime config x c.args.runtime) shape new) unmapped in
    let buffer : c.args.runtime.shape.buffer ≡ buffer_of config = ap (λ (x : Shape). x.buffer) (c.requires.shape ∙ shape) in
    record {
      shows = record {
        dir = h.shows.dir;
        model = ap (λ (f : CardFacts). f.model) facts ∙ h.shows.model;
        long_max = h.shows.long_max;
        state = refl;
        kept = refl;
        taken = ap (λ (f : CardFacts). f.taken) facts;
        to_give = ap (λ (f : CardFacts). f.to_give) facts;
        unset = λ e. no_none (IsUnset (configured_by config s).setup.config 0) c.args.runtime e;
        runs_for = for_some (λ (x : Runtime). RunsFor x (configured_by config s)) c.args.runtime now;
        position = for_some (λ (x : Runtime). (g.C.Card.facts c.set_up.new.self).position ≡ boundary_of (buffer_of config) s.long_max % x.shape.buffer) c.args.runtime
            (ap (λ (f : CardFacts). f.position) facts ∙ new-position config s c.args.runtime.shape.buffer buffer);
      };
      runs = ap (λ (f : CardFacts). f.runs) facts;
      plan = λ p is. h.plan p (sym (ap (λ (f : CardFacts). f.plan) facts) ∙ is);
      sound = configured-sound config s accepted;
    }

pub invariant_of-self : goal.invariant_of-self
invariant_of-self g c =
    let facts = c.set_up.ensures.after in
    let taken : (g.C.Card.facts c.set_up.new.self).taken ≡ [] = ap (λ (f : CardFacts). f.taken) facts in
    record {
      set_up = for_some (λ (x : Runtime). (g.C.Card.facts c.set_up.new.self).shape ≡ Some x.shape) c.args.runtime (ap (λ (f : CardFacts). f.shape) facts ∙ ap Some (sym c.requires.shape));
      long = c.args.self.now.long;
      held = omega (arith, ap (λ (bytes : List ℕ). length bytes) taken);
      planned = λ plan is. c.args.self.now.planned plan (sym (ap (λ (f : CardFacts). f.plan) facts) ∙ is);
    }

use Rattle.std.proofs.Common.{◌≡◌, refl, sym, ◌∙◌, ap}
use Rattle.pcm_base.specs.declared.act.Trigger.TheVariants as trigger
use Rattle.pcm_base.specs.CardFacts.{CardFacts, triggered}
use Rattle.pcm_stream.proofs.StreamLemmas.{fact_of_ok, plan_after-kept, settle-sound}
use Rattle.pcm_stream.proofs.substream.Substream.end_drain.Goals as goal

pub returns-clause-model : goal.returns-clause-model
returns-clause-model g c s h e =
    let facts : g.C.Card.facts c.trigger.new.self ≡ triggered (g.C.Card.facts c.args.self.now.card) trigger.Stop =
    fact_of_ok (g.C.Card.facts c.trigger.new.self ≡ triggered (g.C.Card.facts c.args.self.now.card) trigger.Stop) c.trigger.result (c.trigger.ensures.never refl) c.trigger.ensures.ok in
    record {
      shows = record {
        dir = h.shows.dir;
        model = ap (λ (f : CardFacts). f.model) facts ∙ h.shows.model;
        long_max = h.shows.long_max;
        state = refl;
        kept = h.shows.kept;
        taken = ap (λ (f : CardFacts). f.taken) facts ∙ h.shows.taken;
        to_give = ap (λ (f : CardFacts). f.to_give) facts ∙ h.shows.to_give;
        unset = h.shows.unset;
        runs_for = h.shows.runs_for;
        position = λ r is. ap (λ (f : CardFacts). f.position) facts ∙ h.shows.position r is;
      };
      runs = ap (λ (f : CardFacts). f.runs) facts;
      plan = λ p is. h.plan p (sym (plan_after-kept trigger.Stop (g.C.Card.facts c.args.self.now.card).plan refl) ∙ sym (ap (λ (f : CardFacts). f.plan) facts) ∙ is);
      sound = settle-sound s h.sound e;
    }

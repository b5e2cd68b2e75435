use Rattle.std.proofs.Common.{refl, sym, ◌∙◌, ap}
use Rattle.pcm_base.specs.CardFacts.{CardFacts}
use Rattle.pcm_base.specs.model.Events.{freed}
use Rattle.pcm_stream.specs.StandsFor.{StandsFor}
use Rattle.pcm_stream.proofs.ParamsLemmas.{cleared-plan}
use Rattle.pcm_stream.proofs.substream.Substream.close_sub.Goals as goal

pub returns-clause-closed : goal.returns-clause-closed
returns-clause-closed g c s h =
    let free : StandsFor {C = g.row.C.Denot} {g = g.C.Card} c.free.new.self (freed s) = c.free.ensures.model s h (c.requires.unmapped s h) in
    let facts = c.clear_plan.ensures.after in
    record {
      shows = record {
        dir = free.shows.dir;
        model = ap (λ (f : CardFacts). f.model) facts ∙ free.shows.model;
        long_max = free.shows.long_max;
        state = refl;
        kept = free.shows.kept;
        taken = ap (λ (f : CardFacts). f.taken) facts ∙ free.shows.taken;
        to_give = ap (λ (f : CardFacts). f.to_give) facts ∙ free.shows.to_give;
        unset = free.shows.unset;
        runs_for = free.shows.runs_for;
        position = λ r is. ap (λ (f : CardFacts). f.position) facts ∙ free.shows.position r is;
      };
      runs = ap (λ (f : CardFacts). f.runs) facts ∙ free.runs;
      plan = λ p is. cleared-plan (g.C.Card.facts c.free.new.self.card).plan p c.free.new.self.planned (sym (ap (λ (f : CardFacts). f.plan) facts) ∙ is);
      sound = record { state = refl; setup = refl; at = refl; moved = refl; stands = refl; unmapped = c.requires.unmapped s h; taken = refl; to_give = refl; kept = refl };
    }

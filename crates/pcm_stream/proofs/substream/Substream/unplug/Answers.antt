use Rattle.std.proofs.Common.{refl}
use Rattle.std.specs.declared.option.Option.TheVariants.{None}
use Rattle.pcm_base.specs.declared.state.State.TheVariants as state
use Rattle.pcm_laws.proofs.KeptByEvents.{Sound-unplugged}
use Rattle.pcm_stream.proofs.ActsLemmas.{Shows-turned}
use Rattle.pcm_stream.proofs.substream.Substream.unplug.Goals as goal

pub returns-clause-unplugged : goal.returns-clause-unplugged
returns-clause-unplugged g c s h stands = record {
  shows = Shows-turned c.args.self.now _ s state.Disconnected None s.card.runs s.card.plan
      (record { dir = refl; long_max = refl; runtime = refl; model = refl; taken = refl; to_give = refl; position = refl }) refl refl h.shows;
  runs = h.runs;
  plan = h.plan;
  sound = Sound-unplugged s stands h.sound;
}

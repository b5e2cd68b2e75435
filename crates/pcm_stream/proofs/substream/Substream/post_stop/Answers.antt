use Rattle.std.proofs.Common.{refl}
use Rattle.pcm_stream.proofs.ActsLemmas.{Shows-stopped}
use Rattle.pcm_stream.proofs.substream.Substream.post_stop.Goals as goal

pub returns-in_default : goal.returns-in_default
returns-in_default g c = record {
  shows = λ s h. Shows-stopped c.args.self.now _ s c.args.state
      (record { dir = refl; long_max = refl; runtime = refl; model = refl; taken = refl; to_give = refl; position = refl }) refl refl c.in_default.not-Closed c.in_default.not-Opened c.in_default.not-Disconnected h;
  keeps = record { sizes = record { faults = record { count = refl; tells = refl }; shape = refl }; card = refl };
}

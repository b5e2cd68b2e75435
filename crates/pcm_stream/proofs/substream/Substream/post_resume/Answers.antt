use Rattle.std.proofs.Common.{refl}
use Rattle.pcm_stream.proofs.ActsLemmas.{Shows-resumed}
use Rattle.pcm_stream.proofs.substream.Substream.post_resume.Goals as goal

pub returns-in-Some-clause-shows : goal.returns-in-Some-clause-shows
returns-in-Some-clause-shows g c s h = Shows-resumed c.args.self.now _ s c.in-Some.state
    (record { dir = refl; long_max = refl; runtime = refl; model = refl; taken = refl; to_give = refl; position = refl }) c.in-Some.is refl refl h

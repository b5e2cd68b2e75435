use Rattle.pcm_stream.proofs.CardLemmas.{taken-whole}
use Rattle.pcm_stream.proofs.substream.Substream.card.Goals as goal

pub returns-clause-whole : goal.returns-clause-whole
returns-clause-whole g c s h config is = taken-whole c.args.self.now s h config is

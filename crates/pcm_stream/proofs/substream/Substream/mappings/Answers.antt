use Rattle.std.proofs.Common.{sym}
use Rattle.pcm_stream.proofs.substream.Substream.mappings.Goals as goal

pub returns-in-Some-clause-model : goal.returns-in-Some-clause-model
returns-in-Some-clause-model g c s h = sym (h.shows.runs_for c.in-Some.runtime c.in-Some.is).setup.mappings

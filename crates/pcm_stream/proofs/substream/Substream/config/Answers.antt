use Rattle.std.proofs.Common.{sym}
use Rattle.pcm_stream.proofs.substream.Substream.config.Goals as goal

pub returns-in-Some : goal.returns-in-Some
returns-in-Some g c s h = sym (h.shows.runs_for c.in-Some.runtime c.in-Some.is).setup.config

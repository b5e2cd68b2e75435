use Rattle.pcm_stream.proofs.substream.Substream.load_at.Goals as goal

pub returns-in-Some : goal.returns-in-Some
returns-in-Some g c s h = c.load.ensures s (h.shows.runs_for c.in-Some.runtime c.in-Some.is)

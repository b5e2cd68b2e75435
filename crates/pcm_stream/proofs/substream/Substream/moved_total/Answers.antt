use Rattle.pcm_stream.proofs.substream.Substream.moved_total.Goals as goal

pub returns-in-Some : goal.returns-in-Some
returns-in-Some g c s h = (h.shows.runs_for c.in-Some.runtime c.in-Some.is).frames.moved

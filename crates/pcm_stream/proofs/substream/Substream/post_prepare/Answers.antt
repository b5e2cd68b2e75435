use Rattle.std.proofs.Common.{refl}
use Rattle.pcm_stream.proofs.ActsLemmas.{Shows-prepared}
use Rattle.pcm_stream.proofs.substream.Substream.post_prepare.Goals as goal

pub returns-in-Some-clause-shows : goal.returns-in-Some-clause-shows
returns-in-Some-clause-shows g c s h =
    Shows-prepared c.args.self.now _ s c.in-Some.runtime c.to_start-in-Some.new.self refl refl c.to_start.ensures.after refl refl c.in-Some.is refl c.to_start-in-Some.ensures.shape
    (c.to_start-in-Some.ensures.start s (h.runs_for c.in-Some.runtime c.in-Some.is)) h

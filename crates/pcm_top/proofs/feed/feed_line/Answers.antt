use Rattle.std.proofs.Common.{sym}
use Rattle.pcm_top.proofs.feed.feed_line.Goals as goal

pub returns-in-None-clause-ended : goal.returns-in-None-clause-ended
returns-in-None-clause-ended g c s e is ended = c.loaded_line.ensures.ended s e (sym (c.in-None.ensures s.world is.keeps.world)) is ended

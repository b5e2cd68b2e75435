use Rattle.pcm_io.proofs.LineLemmas.{feed_found}
use Rattle.pcm_io.proofs.lines.first_feed.Goals as goal

pub returns : goal.returns
returns c = feed_found c.args.bytes.now _ c.memchr.ensures

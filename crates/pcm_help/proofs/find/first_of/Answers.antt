use Rattle.pcm_help.proofs.LineLemmas.{first-found}
use Rattle.pcm_help.proofs.find.first_of.Goals as goal

pub returns : goal.returns
returns c = first-found c.args.byte c.args.bytes.now _ c.memchr.ensures

use Rattle.pcm_help.proofs.RecentLemmas.{first-line-some, first-line-all}
use Rattle.pcm_help.proofs.recent.first_line.Goals as goal

pub returns-in-Some : goal.returns-in-Some
returns-in-Some c = first-line-some c.args.bytes.now c.in-Some.at c.in-Some.ensures

pub returns-in-None : goal.returns-in-None
returns-in-None c = first-line-all c.args.bytes.now c.in-None.ensures

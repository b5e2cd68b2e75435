use Rattle.pcm_help.proofs.LineLemmas.{begins-last}
use Rattle.pcm_help.proofs.recent.begins_behind.Goals as goal

pub returns-in-len1-up : goal.returns-in-len1-up
returns-in-len1-up c = begins-last c.args.begins c.args.gone.now c.in-len1-up.len_at_least

use Rattle.pcm_line.proofs.AllKeywords.{in_all}
use Rattle.pcm_line.proofs.keyword.Keyword.all.Goals as goal

pub returns-clause-every : goal.returns-clause-every
returns-clause-every c = in_all

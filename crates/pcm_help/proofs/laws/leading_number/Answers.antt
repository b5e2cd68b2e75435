use Rattle.pcm_help.proofs.LeadingLemmas.{leading-decimal}
use Rattle.pcm_help.proofs.laws.leading_number.Goals as goal

pub returns : goal.returns
returns c = leading-decimal

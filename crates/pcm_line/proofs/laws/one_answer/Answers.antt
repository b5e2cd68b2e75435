use Rattle.pcm_line.proofs.GrammarLaws.{line-or-fault, line-no-fault, one-fault}
use Rattle.pcm_line.proofs.laws.one_answer.Goals as goal

pub returns : goal.returns
returns c = record { some = line-or-fault; never_both = line-no-fault; one_fault = one-fault }

use Rattle.pcm_top.proofs.ScriptLemmas.{one-end}
use Rattle.pcm_top.proofs.laws.one_output.Goals as goal

pub returns-clause-last : goal.returns-clause-last
returns-clause-last c = λ d over count s lines a b e f known p q x y. (one-end d over count s lines a b e f known p q x y).0

pub returns-clause-ended : goal.returns-clause-ended
returns-clause-ended c = λ d over count s lines a b e f known p q x y. (one-end d over count s lines a b e f known p q x y).1

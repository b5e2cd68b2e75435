use Rattle.pcm_line.proofs.Spellings.{one-spelling, one-meaning}
use Rattle.pcm_line.proofs.laws.one_spelling.Goals as goal

pub returns : goal.returns
returns c = record { spelling = one-spelling; meaning = one-meaning }

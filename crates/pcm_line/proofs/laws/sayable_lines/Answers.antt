use Rattle.pcm_line.specs.Spelling.{spelling}
use Rattle.pcm_line.proofs.SayableLaws.{line-spelled, line-sayable}
use Rattle.pcm_line.proofs.laws.sayable_lines.Goals as goal

pub returns : goal.returns
returns c = record { spelled = λ line ok say. (spelling line, line-spelled line ok say); said = line-sayable }

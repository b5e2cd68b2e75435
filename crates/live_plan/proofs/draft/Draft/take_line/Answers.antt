use Rattle.pcm_line.proofs.SayableLaws.{line-sayable}
use Rattle.live_plan.proofs.draft.Draft.take_line.Goals as goal

pub keep-requires-clause-sayable : goal.keep-requires-clause-sayable
keep-requires-clause-sayable c = line-sayable _ _ c.in_ok-line.ensures.line

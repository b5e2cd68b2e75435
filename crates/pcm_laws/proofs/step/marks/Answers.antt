use Rattle.pcm_laws.proofs.Marks.{put_stream-own, stream_of-group_step}
use Rattle.pcm_laws.proofs.Steps.{subs-group_step}
use Rattle.pcm_laws.proofs.step.marks.Goals as goal

pub returns-clause-own_stream : goal.returns-clause-own_stream
returns-clause-own_stream c = put_stream-own

pub returns-clause-numbers : goal.returns-clause-numbers
returns-clause-numbers c = subs-group_step

pub returns-clause-streams : goal.returns-clause-streams
returns-clause-streams c = λ e i k io ms j. stream_of-group_step e i k io j ms

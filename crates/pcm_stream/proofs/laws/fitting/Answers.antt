use Rattle.pcm_stream.proofs.MemberLemmas.{CallsFit-same, IsMember-same}
use Rattle.pcm_stream.proofs.laws.fitting.Goals as goal

pub returns-clause-calls : goal.returns-clause-calls
returns-clause-calls c = CallsFit-same

pub returns-clause-members : goal.returns-clause-members
returns-clause-members c = IsMember-same

use Rattle.pcm_stream.specs.Members.{members_of}
use Rattle.group_trigger.specs.Phases.{AllBefore, Allows}
use Rattle.group_trigger.proofs.action.refusal.Given as goal

abbrev pub invariant-loop-i : goal.invariant-loop-i
invariant-loop-i g l = AllBefore (Allows l.act) l.i (members_of l.members)

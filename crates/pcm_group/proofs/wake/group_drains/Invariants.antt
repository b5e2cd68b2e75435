use Rattle.std.proofs.Common.{◌≡◌, false, List}
use Rattle.pcm_base.specs.model.Stream.{Member}
use Rattle.pcm_stream.specs.Members.{members_of}
use Rattle.pcm_group.specs.Waiting.{StreamsStandFor}
use Rattle.pcm_group.proofs.WakeLemmas.{drains_first}
use Rattle.pcm_group.proofs.wake.group_drains.Given as goal

abbrev pub invariant-loop-i : goal.invariant-loop-i
invariant-loop-i g l = (xs : List Member) → StreamsStandFor (members_of l.members) xs → drains_first l.i xs ≡ false

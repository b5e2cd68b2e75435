use Rattle.std.proofs.Common.{◌≡◌, true}
use Rattle.pcm_stream.specs.Members.{members_of, numbers_of}
use Rattle.pcm_world.proofs.GroupLemmas.{free_first}
use Rattle.pcm_world.proofs.groups.stream_of_member.Given as goal

abbrev pub invariant-loop-i : goal.invariant-loop-i
invariant-loop-i l = free_first l.i l.sub (numbers_of (members_of l.members)) ≡ true

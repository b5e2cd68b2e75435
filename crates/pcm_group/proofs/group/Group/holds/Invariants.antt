use Rattle.std.proofs.Common.{◌≡◌, drop}
use Rattle.pcm_base.specs.model.Replay.{is_member}
use Rattle.pcm_stream.specs.Members.{members_of, numbers_of}
use Rattle.pcm_group.proofs.group.Group.holds.Given as goal

abbrev pub invariant-loop-i : goal.invariant-loop-i
invariant-loop-i g l = is_member l.sub (drop l.i (numbers_of (members_of l.self.members))) ≡ is_member l.sub (numbers_of (members_of l.self.members))

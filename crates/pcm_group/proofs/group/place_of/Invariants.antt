use Rattle.std.proofs.Common.{◌≡◌, ◌-◌, ◌<◌, true, length, drop}
use Rattle.pcm_base.specs.model.Replay.{is_member}
use Rattle.pcm_stream.specs.Members.{members_of, numbers_of}
use Rattle.pcm_group.proofs.group.place_of.Given as goal

abbrev pub invariant-places : goal.invariant-places
invariant-places g l = record {
  within : l.i < length (members_of l.members);
  behind : is_member l.sub (drop l.i (numbers_of (members_of l.members))) ≡ true;
}

abbrev pub decreases-places : goal.decreases-places
decreases-places g l = length (members_of l.members) - l.i

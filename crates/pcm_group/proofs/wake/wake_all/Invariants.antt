use Rattle.std.proofs.Common.{◌≡◌, ◌<◌, ℕ, Some, true, List, length}
use Rattle.std.specs.List.{slice_get}
use Rattle.pcm_base.specs.model.Sleep.{mask_of}
use Rattle.pcm_base.specs.model.Stream.{Member as ModelMember}
use Rattle.pcm_stream.specs.declared.members.Member.{Member}
use Rattle.pcm_stream.specs.Members.{all_faults, members_of, numbers_of}
use Rattle.pcm_stream.specs.MembersStand.{AllStandFor, MemberStandsFor}
use Rattle.group_trigger.specs.Votes.{all_tell}
use Rattle.pcm_group.specs.Waiting.{StreamsStandFor, calls_wait, checked_first, woken_first}
use Rattle.pcm_group.proofs.wake.wake_all.Given as goal

abbrev pub invariant-loop-i : goal.invariant-loop-i
invariant-loop-i g l = record {
  size : length (members_of l.members) ≡ length (members_of l.fn.members);
  stands : (xs : List ModelMember) → AllStandFor (members_of l.fn.members) xs → AllStandFor (members_of l.members) (checked_first l.i l.group_drains xs);
  mask : (xs : List ModelMember) → AllStandFor (members_of l.fn.members) xs → l.woken ≡ mask_of (woken_first l.i l.group_drains xs);
  waiting : (j : ℕ) (m : Member g.row.C.Denot g.C.Card) → j < l.i → slice_get (members_of l.members) j ≡ Some m → (x : ModelMember) → MemberStandsFor m x → calls_wait l.group_drains x.stream x.asleep x.stream.sleepers ≡ true;
  streams : (xs : List ModelMember) → StreamsStandFor (members_of l.members) xs → StreamsStandFor (members_of l.fn.members) xs;
  numbers : numbers_of (members_of l.members) ≡ numbers_of (members_of l.fn.members);
  tells : all_tell (members_of l.members) ≡ all_tell (members_of l.fn.members);
  faults : all_faults (members_of l.members) ≡ all_faults (members_of l.fn.members);
}

use Rattle.std.proofs.Common.{◌≡◌, ◌≤◌, ℕ, List, length}
use Rattle.std.specs.List.{slice_get}
use Rattle.pcm_base.specs.model.Stream.{Member}
use Rattle.pcm_stream.specs.Members.{all_faults, all_fixed, members_of}
use Rattle.pcm_stream.specs.MembersStand.{AllStandFor}
use Rattle.group_trigger.specs.Phases.{AllBefore, AllStandIn, Before, Did, Makes, first_in}
use Rattle.group_trigger.proofs.action.do_all.Given as goal

abbrev pub invariant-loop-i : goal.invariant-loop-i
invariant-loop-i g l = record {
  size : length (members_of l.members) ≡ length (members_of l.fn.members);
  done : (ms : List Member) → AllStandFor (members_of l.fn.members) ms → AllStandIn l.act (first_in Did l.i Before) (members_of l.members) ms;
  makes : AllBefore (Makes l.act) l.i (members_of l.fn.members);
  later : (j : ℕ) → l.i ≤ j → slice_get (members_of l.members) j ≡ slice_get (members_of l.fn.members) j;
  fixed : all_fixed (members_of l.members) ≡ all_fixed (members_of l.fn.members);
  faults : all_faults (members_of l.members) ≡ all_faults (members_of l.fn.members);
}

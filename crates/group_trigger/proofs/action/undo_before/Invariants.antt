use Rattle.std.proofs.Common.{◌≡◌, List, length}
use Rattle.pcm_base.specs.model.Stream.{Member}
use Rattle.pcm_stream.specs.Members.{all_faults, all_fixed, members_of}
use Rattle.group_trigger.specs.Phases.{AllStandIn, failed_at, undone_to}
use Rattle.group_trigger.proofs.action.undo_before.Given as goal

abbrev pub invariant-loop-i : goal.invariant-loop-i
invariant-loop-i g l = record {
  size : length (members_of l.members) ≡ length (members_of l.fn.members);
  undone : (ms : List Member) → AllStandIn l.act (failed_at l.place) (members_of l.fn.members) ms → AllStandIn l.act (undone_to l.i l.place) (members_of l.members) ms;
  fixed : all_fixed (members_of l.members) ≡ all_fixed (members_of l.fn.members);
  faults : all_faults (members_of l.members) ≡ all_faults (members_of l.fn.members);
}

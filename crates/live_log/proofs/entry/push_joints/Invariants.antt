use Rattle.std.proofs.Common.{◌≡◌, ◌++◌, drop, flat_map}
use Rattle.live_log.specs.Entry.{added_joint}
use Rattle.live_log.proofs.entry.push_joints.Given as goal

-- the joints that are to come complete the text
abbrev pub invariant-joints : goal.invariant-joints
invariant-joints l = l.text.items ++ flat_map added_joint (drop l.joint-index l.joints) ≡ l.initial.text.items ++ flat_map added_joint l.joints

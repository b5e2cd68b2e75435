use Rattle.std.proofs.Common.{◌≤◌}
use Rattle.live_top.proofs.parts.client_count.Given as goal

abbrev pub invariant-loop-lines : goal.invariant-loop-lines
invariant-loop-lines l = l.count ≤ l.lines-index

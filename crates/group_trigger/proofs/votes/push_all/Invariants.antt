use Rattle.std.proofs.Common.{◌≡◌, ◌++◌, replicate}
use Rattle.group_trigger.proofs.votes.push_all.Given as goal

abbrev pub invariant-loop-i : goal.invariant-loop-i
invariant-loop-i l = l.votes ≡ l.fn.votes ++ replicate l._i l.vote

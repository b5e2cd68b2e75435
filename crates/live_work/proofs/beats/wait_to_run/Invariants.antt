use Rattle.std.proofs.Common.{[]}
use Rattle.live_work.specs.Called.{HasCalled}
use Rattle.live_work.proofs.beats.wait_to_run.Given as goal

-- the pass has read pages alone
abbrev pub invariant-loop : goal.invariant-loop
invariant-loop g l = record {
  can : (goal.iterator-loop g).can_next l.iterator';
  ends : (goal.iterator-loop g).is_finite l.iterator';
  none : HasCalled g.N.FloorName.cards g.N.FloorName.long_max [] l.fn.pass l.pass;
}

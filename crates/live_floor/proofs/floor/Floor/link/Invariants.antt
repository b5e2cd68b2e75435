use Rattle.std.proofs.Common.{◌≡◌}
use Rattle.live_floor.proofs.floor.Floor.link.Given as goal

-- the pass is as it was
abbrev pub invariant-loop : goal.invariant-loop
invariant-loop g l =
    (goal.iterator-loop g).can_next l.iterator' × (goal.iterator-loop g).is_finite l.iterator' × (l.pass ≡ l.fn.pass)

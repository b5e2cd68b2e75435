use Rattle.std.proofs.Common.{◌≡◌, length}
use Rattle.std.specs.Option.{ForSome}
use Rattle.live_work.specs.Runs.{HasCarriedOn, io_of}
use Rattle.live_work.proofs.client.carry_on.Given as goal

-- the call was carried on some number of times
abbrev pub invariant-loop : goal.invariant-loop
invariant-loop g l = record {
  can : (goal.iterator-loop g).can_next l.iterator';
  ends : (goal.iterator-loop g).is_finite l.iterator';
  gos : HasCarriedOn g.N.FloorName.cards g.N.FloorName.long_max l.event (io_of l.event.call l.bytes) l.fn.pass l.pass;
  busy : ForSome l.pass.busy (λ k. k ≡ l.event.sub);
  size : length l.io ≡ length l.fn.io;
}

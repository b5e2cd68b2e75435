use Rattle.std.proofs.Common.{◌≡◌}
use Rattle.live_gather.specs.Told.{OwnsIn}
use Rattle.live_gather.proofs.ListLemmas.{Below}
use Rattle.live_gather.proofs.telling.look_at_all.Given as goal

abbrev pub invariant-loop-i : goal.invariant-loop-i
invariant-loop-i g l = record {
  same : l.pieces.items ≡ l.fn.pieces.items;
  number : l.pass.knows.number ≡ l.fn.pass.knows.number;
  calls : l.pass.knows.calls ≡ l.fn.pass.knows.calls;
  own : Below l.i (OwnsIn l.fn.pass.knows.number l.fn.pass.knows.calls) l.fn.pieces.items;
}

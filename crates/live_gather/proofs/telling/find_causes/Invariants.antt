use Rattle.std.proofs.Common.{◌≡◌, length}
use Rattle.live_gather.specs.Told.{Each, IsFoundIn}
use Rattle.live_gather.proofs.ListLemmas.{Below}
use Rattle.live_gather.proofs.telling.find_causes.Given as goal

abbrev pub invariant-loop-i : goal.invariant-loop-i
invariant-loop-i g l = record {
  same : l.pieces.items ≡ l.fn.pieces.items;
  found : Below l.i (λ k. Each (IsFoundIn (length g.N.FloorName.cards) k) l.fn.pieces.items) l.fn.pieces.items;
}

use Rattle.std.proofs.Common.{◌≡◌, length}
use Rattle.live_gather.specs.Told.{HoldsAt, IsFoundIn}
use Rattle.live_gather.proofs.ListLemmas.{Below}
use Rattle.live_gather.proofs.telling.find_of.Given as goal

abbrev pub invariant-loop-i : goal.invariant-loop-i
invariant-loop-i g l = record {
  same : l.pieces.items ≡ l.fn.pieces.items;
  found : HoldsAt (λ k. Below l.i (IsFoundIn (length g.N.FloorName.cards) k) l.fn.pieces.items) l.own l.fn.pieces.items;
}

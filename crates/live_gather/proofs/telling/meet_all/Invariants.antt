use Rattle.std.proofs.Common.{◌≡◌, ◌++◌, List, length}
use Rattle.room_parts.specs.Passes.{PassView}
use Rattle.live_gather.specs.Told.{Each, IsMet}
use Rattle.live_gather.proofs.telling.meet_all.Given as goal

abbrev pub invariant-loop-pass : goal.invariant-loop-pass
invariant-loop-pass g l = record {
  same : l.pieces.items ≡ l.fn.pieces.items;
  done : List PassView;
  all : l.passes.items ++ done ≡ l.fn.passes.items;
  met : Each (IsMet (length g.N.FloorName.cards) l.fn.pieces.items) done;
}

abbrev pub decreases-loop-pass : goal.decreases-loop-pass
decreases-loop-pass g l = goal.left-loop-pass g l

use Rattle.std.proofs.Common.{◌≡◌, ◌+◌, drop}
use Rattle.live_plan.specs.Lines.{piece_at}
use Rattle.live_plan.proofs.place.piece_at.Given as goal

abbrev pub invariant-loop-at : goal.invariant-loop-at
invariant-loop-at l = l.at + piece_at (drop l.at l.bytes) l.left ≡ piece_at l.bytes l.before

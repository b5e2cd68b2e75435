use Rattle.std.proofs.Common.{refl, arith}
use Rattle.pcm_base.proofs.BoundaryLemmas.{Doubling-start, Doubling-more, Doubling-done}
use Rattle.pcm_base.proofs.config.boundary_of.Goals as goal

pub doublings-init : goal.doublings-init
doublings-init c = record {
  room_is = refl;
  some = c.requires.some;
  doubling = Doubling-start c.args.buffer c.args.long_max c.requires.some;
}

pub doublings-preserved : goal.doublings-preserved
doublings-preserved c = record {
  room_is = c.doublings.invariant.room_is;
  some = omega (arith, c.doublings.invariant.some);
  doubling = Doubling-more c.args.buffer c.args.long_max c.doublings.boundary c.doublings.invariant.doubling (omega arith);
}

pub returns-clause-rule : goal.returns-clause-rule
returns-clause-rule c = Doubling-done c.args.buffer c.args.long_max c.doublings.boundary c.doublings.invariant.doubling (omega arith)

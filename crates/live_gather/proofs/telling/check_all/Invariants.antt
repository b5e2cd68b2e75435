use Rattle.std.proofs.Common.{◌≡◌}
use Rattle.floor_rule.specs.Steps.{told_by_pass}
use Rattle.live_gather.specs.Told.{Agrees}
use Rattle.live_gather.proofs.ListLemmas.{Below}
use Rattle.live_gather.proofs.telling.check_all.Given as goal

abbrev pub invariant-loop-i : goal.invariant-loop-i
invariant-loop-i g l = record {
  same : l.pieces.items ≡ l.fn.pieces.items;
  pass : l.pass ≡ l.fn.pass;
  agree : Below l.i (Agrees (told_by_pass l.fn.pass.knows)) l.fn.pieces.items;
}

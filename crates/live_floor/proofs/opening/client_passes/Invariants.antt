use Rattle.std.proofs.Common.{◌≡◌, ◌≤◌}
use Rattle.std.specs.Prelude.{vec_capacity}
use Rattle.live_floor.specs.Passes.{OfClients}
use Rattle.live_floor.proofs.opening.client_passes.Given as goal

abbrev pub invariant-loop-i : goal.invariant-loop-i
invariant-loop-i g l = record {
  passes : OfClients l.i l.passes.items;
  room : 16 ≤ vec_capacity l.passes;
  maker : l.maker ≡ record l.fn.maker { knows = record l.fn.maker.knows { passes = l.i } };
}

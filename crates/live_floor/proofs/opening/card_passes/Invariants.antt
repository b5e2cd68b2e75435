use Rattle.std.proofs.Common.{◌≡◌, ◌≤◌, ◌+◌}
use Rattle.std.specs.Prelude.{vec_capacity}
use Rattle.live_floor.specs.Passes.{OfCards}
use Rattle.live_floor.proofs.opening.card_passes.Given as goal

abbrev pub invariant-loop-j : goal.invariant-loop-j
invariant-loop-j g l = record {
  passes : OfCards l.j l.passes.items;
  room : l.count ≤ vec_capacity l.passes;
  maker : l.maker ≡ record l.fn.maker { knows = record l.fn.maker.knows { passes = 16 + l.j } };
}

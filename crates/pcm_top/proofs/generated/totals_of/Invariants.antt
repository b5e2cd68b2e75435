use Rattle.std.proofs.Common.{◌≤◌, ◌+◌, length}
use Rattle.pcm_base.specs.model.World.{World, empty}
use Rattle.pcm_world.specs.Shown.{IsWorld}
use Rattle.pcm_top.specs.declared.generated.Totals.{Totals}
use Rattle.pcm_top.specs.Gen.{AreGenerated, AreSums, Totalled, no_totals}
use Rattle.pcm_top.specs.Lines.{lines_of}
use Rattle.pcm_top.proofs.generated.totals_of.Given as goal

-- What the lines that are left come to, the whole script comes to.
abbrev pub invariant-lines : goal.invariant-lines
invariant-lines l = record {
  now : World;
  world : IsWorld l.world now;
  totalled : (all : Totals) → Totalled (lines_of l.rest) now l.totals all → Totalled (lines_of l.script) empty no_totals all;
  lines : AreGenerated (lines_of l.rest);
  sums : AreSums l.totals;
  few : l.totals.lines + length l.rest ≤ length l.script;
}

abbrev pub decreases-lines : goal.decreases-lines
decreases-lines l = length l.rest

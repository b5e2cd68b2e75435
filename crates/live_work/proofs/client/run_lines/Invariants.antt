use Rattle.std.proofs.Common.{◌≡◌, take, None}
use Rattle.live_work.specs.Runs.{HasRun}
use Rattle.live_work.proofs.client.run_lines.Given as goal

-- the lines so far were run
abbrev pub invariant-loop-i : goal.invariant-loop-i
invariant-loop-i g l = record {
  ran : HasRun g.N.FloorName.cards g.N.FloorName.long_max (take l.i l.lines) l.fn.pass l.pass;
  idle : l.pass.busy ≡ None;
}

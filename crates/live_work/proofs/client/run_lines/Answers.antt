use Rattle.live_work.proofs.Running.{run_next, run_part}
use Rattle.live_work.proofs.client.run_lines.Goals as goal

pub returns-in_err-run_line-clause-first : goal.returns-in_err-run_line-clause-first
returns-in_err-run_line-clause-first g c =
    run_part g.N.FloorName.cards g.N.FloorName.long_max c.args.lines.now c.loop-i.i c.index-lines-i.result _ c.args.pass.now c.loop-i.pass c.run_line.new.pass c.loop-i-test.true c.index-lines-i.is c.loop-i.invariant.ran c.in_err-run_line.ensures.part

pub loop-i-preserved : goal.loop-i-preserved
loop-i-preserved g c =
    let ran = c.in_ok-run_line.ensures.ran in
    record {
      ran = run_next g.N.FloorName.cards g.N.FloorName.long_max c.args.lines.now c.loop-i.i c.index-lines-i.result _ c.args.pass.now c.loop-i.pass c.run_line.new.pass c.loop-i-test.true c.index-lines-i.is c.loop-i.invariant.ran ran.0;
      idle = ran.1;
    }

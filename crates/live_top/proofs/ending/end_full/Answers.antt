use Rattle.std.proofs.Common.{sym, ◌∙◌}
use Rattle.live_top.specs.Outcome.{entries_by, streams_by}
use Rattle.live_top.proofs.EndLemmas.{stopped_end, stopped_short}
use Rattle.live_top.proofs.ending.end_full.Goals as goal

pub returns-in-Ok-clause-ended : goal.returns-in-Ok-clause-ended
returns-in-Ok-clause-ended g c files files_now stay run =
    stopped_end c.args.plan.now files files_now c.args.all.now (g.K.Sink.written c.args.out.now) (g.K.Sink.written c.report_stopped.new.out) c.in-Some.count (sym c.can_fill_logs.ensures ∙ c.if-not-can_fill_logs.false) stay run
    (c.in-Some.ensures.first (entries_by run.played.logs) (streams_by run.played.ends) run.are)
    (c.in-Ok.ensures.all (entries_by run.played.logs) (streams_by run.played.ends) run.are)

pub returns-in-Err-clause-ended : goal.returns-in-Err-clause-ended
returns-in-Err-clause-ended g c files files_now stay run =
    stopped_short c.args.plan.now files files_now c.args.all.now (g.K.Sink.written c.args.out.now) (g.K.Sink.written c.report_stopped.new.out) c.in-Err.status stay run
    c.in-Err.ensures.ended (c.in-Err.ensures.front (entries_by run.played.logs) (streams_by run.played.ends) run.are)

use Rattle.std.proofs.Common.{sym, subst, ℕ}
use Rattle.std.specs.List.{AllByRecursion}
use Rattle.live_plan.specs.Sound.{IsSaveLine}
use Rattle.live_top.specs.Outcome.{entries_by, streams_by}
use Rattle.live_top.proofs.EndLemmas.{behind_end, whole_end, whole_short}
use Rattle.live_top.proofs.ending.end_whole.Goals as goal

pub returns-in-Err-clause-ended : goal.returns-in-Err-clause-ended
returns-in-Err-clause-ended g c files stay run =
    whole_short c.args.plan.now files (g.F.Shelf.files c.args.shelf.now) c.args.all.now (g.K.Sink.written c.args.out.now) (g.K.Sink.written c.report_whole.new.out) c.in-Err.status stay run
    c.in-Err.ensures.ended (c.in-Err.ensures.front (entries_by run.played.logs) (streams_by run.played.ends) run.are)

pub save_all-requires-clause-lines : goal.save_all-requires-clause-lines
save_all-requires-clause-lines g c =
    subst (λ (n : ℕ). AllByRecursion (IsSaveLine n) c.args.plan.now.saves.items) (sym c.requires.run.1.size) c.requires.sound.saves

pub returns-in-Ok-clause-ended : goal.returns-in-Ok-clause-ended
returns-in-Ok-clause-ended g c files stay run =
    whole_end c.args.plan.now files (g.F.Shelf.files c.save_all.new.shelf) c.args.all.now (g.K.Sink.written c.args.out.now) (g.K.Sink.written c.report_whole.new.out) (g.F.Shelf.files c.args.shelf.now) stay run
    (c.in_default.ensures.all (entries_by run.played.logs) (streams_by run.played.ends) run.are)
    (c.in-Ok.ensures.saved (entries_by run.played.logs) (streams_by run.played.ends) run.are)

pub returns-in-Err-save_all-clause-ended : goal.returns-in-Err-save_all-clause-ended
returns-in-Err-save_all-clause-ended g c files stay run =
    behind_end c.args.plan.now files (g.F.Shelf.files c.save_all.new.shelf) c.args.all.now (g.K.Sink.written c.args.out.now) (g.K.Sink.written c.report_whole.new.out) c.in-Err-save_all.status
    (g.F.Shelf.files c.args.shelf.now) c.in-Err-save_all.ensures.ended stay run
    (c.in_default.ensures.all (entries_by run.played.logs) (streams_by run.played.ends) run.are)
    (c.in-Err-save_all.ensures.some (entries_by run.played.logs) (streams_by run.played.ends) run.are)

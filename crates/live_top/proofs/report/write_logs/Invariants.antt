use Rattle.std.proofs.Common.{◌≡◌, ◌++◌, ℕ, List}
use Rattle.pcm_base.specs.model.Stream.{Stream}
use Rattle.floor_rule.specs.declared.entry.Entry.{Entry}
use Rattle.live_log.specs.Written.{IsCutInto}
use Rattle.live_top.specs.Ends.{AreOf, texts}
use Rattle.live_top.proofs.report.write_logs.Given as goal

-- what is written and what stands in the text are the logs before
abbrev pub invariant-logs : goal.invariant-logs
invariant-logs g l =
    let K = g.K.Sink in
    record {
      cut : (logs : ℕ → List Entry) (streams : ℕ → Stream) → AreOf logs streams l.all
          → IsCutInto (K.written l.fn.out) (K.written l.out) (l.fn.text.items ++ texts l.one-index streams logs) l.text.items;
      kept : K.faults l.out ≡ K.faults l.fn.out;
    }

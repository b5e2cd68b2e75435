use Rattle.std.proofs.Common.{◌≡◌, ◌++◌, drop}
use Rattle.live_log.specs.Log.{logs_text}
use Rattle.live_log.specs.Written.{IsCutInto}
use Rattle.live_log.proofs.log.write_logs.Given as goal

-- what is written, what stands in the text and the logs that are to come are the whole
abbrev pub invariant-logs : goal.invariant-logs
invariant-logs g l =
    let K = g.K.Sink in
    record {
      cut : IsCutInto (K.written l.fn.out) (K.written l.out) (logs_text l.logs) (l.text.items ++ logs_text (drop l.log-index l.logs));
      kept : K.faults l.out ≡ K.faults l.fn.out;
    }

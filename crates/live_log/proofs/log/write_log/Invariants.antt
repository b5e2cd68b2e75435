use Rattle.std.proofs.Common.{◌≡◌, ◌<◌, ◌++◌, drop, length}
use Rattle.live_log.specs.Log.{lines_from, log_text}
use Rattle.live_log.specs.Written.{IsCutInto}
use Rattle.live_log.proofs.log.write_log.Given as goal

-- what is written, what stands in the text and the lines that are to come are the whole
abbrev pub invariant-entries : goal.invariant-entries
invariant-entries g l =
    let K = g.K.Sink in
    let whole = l.fn.text.items ++ log_text l.log in
    let behind = lines_from l.log.dir l.log.sub l.place (drop l.place l.log.entries.now) in
    record {
      cut : IsCutInto (K.written l.fn.out) (K.written l.out) whole (l.text.items ++ behind);
      short : length l.fn.text.items < 4096 → length l.text.items < 4096;
      kept : K.faults l.out ≡ K.faults l.fn.out;
    }

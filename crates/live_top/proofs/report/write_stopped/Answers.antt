use Rattle.std.proofs.Common.{◌++◌, ℕ, List, ap, length, sym}
use Rattle.live_top.specs.Ends.{texts}
use Rattle.live_top.proofs.Reporting.{on_err, rest_front}
use Rattle.live_top.proofs.report.write_stopped.Goals as goal

pub returns-in_err-write_rest-clause-front : goal.returns-in_err-write_rest-clause-front
returns-in_err-write_rest-clause-front g c logs streams are =
    let K = g.K.Sink in
    let whole = texts (length c.args.all.now) streams logs in
    let n = c.in_err-write_rest.ensures.front in
    on_err c.from_residual-in_err-write_rest.result
    (rest_front (K.written c.args.out.now) (K.written c.write_logs.new.out) (K.written c.write_rest.new.sink) whole (c.new-text.result.items ++ whole) c.write_logs.new.text.items n.0
    (c.in_ok-write_logs.ensures.all logs streams are) (ap (λ (l : List ℕ). l ++ whole) (sym c.new-text.ensures.items)) n.2)

use Rattle.std.proofs.Common.{◌++◌, ◌+◌, ◌<◌, ◌≤◌, drop, length, ap, rules}
use Rattle.std.proofs.lemmas.List.{drop_all}
use Rattle.live_log.specs.Log.{log_text, logs_text}
use Rattle.live_log.proofs.LogLemmas.{cut-all, cut-in, front-in, front-more, on-err, put-log}
use Rattle.live_log.proofs.log.write_logs.Goals as goal

pub returns-in_err-write_log-clause-front : goal.returns-in_err-write_log-clause-front
returns-in_err-write_log-clause-front g c =
    let K = g.K.Sink in
    let logs = c.args.logs.now in
    let i = c.logs.log-index in
    let log = c.log-item.result in
    let within : i < length logs = search rules in
    let cut = put-log (K.written c.args.out.now) (K.written c.logs.out) (logs_text logs) logs i log c.logs.text.items within c.log-item.is c.logs.invariant.cut in
    on-err c.from_residual.result
    (front-in (K.written c.args.out.now) (K.written c.logs.out) (K.written c.write_log.new.out) (logs_text logs) (c.logs.text.items ++ log_text log) (logs_text (drop (i + 1) logs))
    cut c.in_err-write_log.ensures.front)

pub logs-preserved : goal.logs-preserved
logs-preserved g c =
    let K = g.K.Sink in
    let logs = c.args.logs.now in
    let i = c.logs.log-index in
    let log = c.log-item.result in
    let within : i < length logs = search rules in
    let cut = put-log (K.written c.args.out.now) (K.written c.logs.out) (logs_text logs) logs i log c.logs.text.items within c.log-item.is c.logs.invariant.cut in
    record {
      cut = cut-in (K.written c.args.out.now) (K.written c.logs.out) (K.written c.write_log.new.out) (logs_text logs) (c.logs.text.items ++ log_text log) (logs_text (drop (i + 1) logs))
          c.write_log.new.text.items cut c.in_ok-write_log.ensures.all;
      kept = search rules;
    }

pub returns-in_err-write_rest-clause-front : goal.returns-in_err-write_rest-clause-front
returns-in_err-write_rest-clause-front g c =
    let K = g.K.Sink in
    let logs = c.args.logs.now in
    let n = c.in_err-write_rest.ensures.front in
    on-err c.from_residual-in_err-write_rest.result
    (front-more (K.written c.args.out.now) (K.written c.logs.out) (K.written c.write_rest.new.sink) (logs_text logs) c.logs.text.items (logs_text (drop c.logs.log-index logs))
    n.0 c.logs.invariant.cut n.2)

pub returns-clause-all : goal.returns-clause-all
returns-clause-all g c =
    let K = g.K.Sink in
    let logs = c.args.logs.now in
    let past : length logs ≤ c.logs.log-index = search rules in
    cut-all (K.written c.args.out.now) (K.written c.logs.out) (K.written c.write_rest.new.sink) (logs_text logs) c.logs.text.items (logs_text (drop c.logs.log-index logs))
    c.logs.invariant.cut (ap (λ ls. logs_text ls) (drop_all c.logs.log-index logs past)) c.in_ok-write_rest.ensures.all

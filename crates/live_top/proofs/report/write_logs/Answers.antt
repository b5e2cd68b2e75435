use Rattle.std.proofs.Common.{◌<◌, ◌∙◌, length, rules}
use Rattle.live_log.specs.Log.{lines_from}
use Rattle.live_top.specs.Ends.{text_at}
use Rattle.live_top.proofs.Reporting.{log_text_of, on_err, one_of, put_front, put_log}
use Rattle.live_top.proofs.report.write_logs.Goals as goal

pub returns-in_err-write_log-clause-front : goal.returns-in_err-write_log-clause-front
returns-in_err-write_log-clause-front g c logs streams are =
    let K = g.K.Sink in
    let i = c.logs.one-index in
    let one = c.one-item.result in
    let within : i < length c.args.all.now = search rules in
    let o = one_of logs streams c.args.all.now i one within c.one-item.is are in
    let line = log_text_of streams logs i c.dir.result one.log.sub c.deref.result.now (c.dir.ensures (streams i) o.stands) o.sub (c.deref.ensures.value ∙ o.entries_are) in
    on_err c.from_residual.result
    (put_front (λ j. text_at streams logs j) i (length c.args.all.now) (K.written c.args.out.now) (K.written c.logs.out) (K.written c.write_log.new.out) c.args.text.now.items c.logs.text.items
    (lines_from c.dir.result one.log.sub 0 c.deref.result.now) within (c.logs.invariant.cut logs streams are) line c.in_err-write_log.ensures.front)

pub logs-preserved : goal.logs-preserved
logs-preserved g c =
    let K = g.K.Sink in
    let i = c.logs.one-index in
    let one = c.one-item.result in
    let within : i < length c.args.all.now = search rules in
    record {
      cut = λ logs streams are.
          let o = one_of logs streams c.args.all.now i one within c.one-item.is are in
          let line = log_text_of streams logs i c.dir.result one.log.sub c.deref.result.now (c.dir.ensures (streams i) o.stands) o.sub (c.deref.ensures.value ∙ o.entries_are) in
          put_log (λ j. text_at streams logs j) i (K.written c.args.out.now) (K.written c.logs.out) (K.written c.write_log.new.out) c.args.text.now.items c.logs.text.items
          (lines_from c.dir.result one.log.sub 0 c.deref.result.now) c.write_log.new.text.items (c.logs.invariant.cut logs streams are) line c.in_ok-write_log.ensures.all;
      kept = search rules;
    }

use Rattle.std.proofs.Common.{◌<◌, length, rules}
use Rattle.live_top.specs.Ends.{end_of, sub_at}
use Rattle.live_top.proofs.Reporting.{end_line_of, one_of, put_end}
use Rattle.live_top.proofs.report.push_ends.Goals as goal

pub ends-preserved : goal.ends-preserved
ends-preserved c logs streams are =
    let i = c.ends.one-index in
    let one = c.one-item.result in
    let s = streams i in
    let within : i < length c.args.all.now = search rules in
    let o = one_of logs streams c.args.all.now i one within c.one-item.is are in
    let line = end_line_of i one.log.sub c.page.result c.moved_total.result s c.in_ok-line.line.items o.sub (c.page.ensures.page s o.stands) (c.moved_total.ensures s o.stands) c.in_ok-line.ensures in
    put_end (λ j. end_of (sub_at j) (streams j)) i c.args.text.now.items c.ends.text.items c.in_ok-line.line.items c.extend_from_slice.new.self.items
    (c.ends.invariant logs streams are) line (search rules)

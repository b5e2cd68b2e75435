use Rattle.std.proofs.Common.{◌++◌, ℕ, List, ap, length, sym}
use Rattle.live_top.specs.Ends.{ends_text, texts}
use Rattle.live_top.proofs.Reporting.{cut_behind, front_of_more, on_err, rest_front}
use Rattle.live_top.proofs.report.write_whole.Goals as goal

pub returns-in_err-write_logs-clause-front : goal.returns-in_err-write_logs-clause-front
returns-in_err-write_logs-clause-front g c logs streams are =
    let K = g.K.Sink in
    let front = texts (length c.args.all.now) streams logs in
    let behind = ends_text (length c.args.all.now) streams in
    let k = c.in_err-write_logs.ensures.front logs streams are in
    on_err c.from_residual.result
    (front_of_more (K.written c.args.out.now) (K.written c.write_logs.new.out) (front ++ behind) (c.new-text.result.items ++ front) k.rest behind k.front
    (ap (λ (l : List ℕ). (l ++ front) ++ behind) (sym c.new-text.ensures.items)))

pub returns-in_err-push_ends-clause-front : goal.returns-in_err-push_ends-clause-front
returns-in_err-push_ends-clause-front g c logs streams are =
    let K = g.K.Sink in
    let front = texts (length c.args.all.now) streams logs in
    let behind = ends_text (length c.args.all.now) streams in
    on_err c.from_residual-in_err-push_ends.result
    (front_of_more (K.written c.args.out.now) (K.written c.write_logs.new.out) (front ++ behind) (c.new-text.result.items ++ front) c.write_logs.new.text.items behind
    (c.in_ok-write_logs.ensures.all logs streams are) (ap (λ (l : List ℕ). (l ++ front) ++ behind) (sym c.new-text.ensures.items)))

pub returns-in_err-write_rest-clause-front : goal.returns-in_err-write_rest-clause-front
returns-in_err-write_rest-clause-front g c logs streams are =
    let K = g.K.Sink in
    let front = texts (length c.args.all.now) streams logs in
    let behind = ends_text (length c.args.all.now) streams in
    let n = c.in_err-write_rest.ensures.front in
    let cut = cut_behind (K.written c.args.out.now) (K.written c.write_logs.new.out) (c.new-text.result.items ++ front) c.write_logs.new.text.items behind c.push_ends.new.text.items
    (c.in_ok-write_logs.ensures.all logs streams are) (c.in_ok-push_ends.ensures logs streams are) in
    on_err c.from_residual-in_err-write_rest.result
    (rest_front (K.written c.args.out.now) (K.written c.write_logs.new.out) (K.written c.write_rest.new.sink) (front ++ behind) ((c.new-text.result.items ++ front) ++ behind) c.push_ends.new.text.items n.0
    cut (ap (λ (l : List ℕ). (l ++ front) ++ behind) (sym c.new-text.ensures.items)) n.2)

use Rattle.std.proofs.Common.{◌++◌, ◌+◌, ◌<◌, drop, length, length-drop, ap, arith, rules}
use Rattle.pcm_io.specs.Pieces.{in_pieces}
use Rattle.live_log.specs.Log.{lines_from, log_text}
use Rattle.live_log.proofs.LogLemmas.{cut-more, front-more, on-err, put-line}
use Rattle.live_log.proofs.log.write_log.Goals as goal

pub returns-in_err-write_pieces-clause-front : goal.returns-in_err-write_pieces-clause-front
returns-in_err-write_pieces-clause-front g c =
    let K = g.K.Sink in
    let log = c.args.log in
    let whole = c.args.text.now.items ++ log_text log in
    let put = c.push_entry.new.text.items in
    let n = c.in_err-write_pieces.ensures.front in
    let within : c.entries.place < length log.entries.now = search rules in
    let cut = put-line (K.written c.args.out.now) (K.written c.entries.out) whole log.dir log.sub log.entries.now c.entries.place c.index-log-place.result c.entries.text.items put
    within c.entries.invariant.cut c.in_ok-push_entry.ensures in
    on-err c.from_residual-in_err-write_pieces.result
    (front-more (K.written c.args.out.now) (K.written c.entries.out) (K.written c.write_pieces.new.sink) whole put
    (lines_from log.dir log.sub (c.entries.place + 1) (drop (c.entries.place + 1) log.entries.now)) n.0 cut n.2)

pub entries-preserved : goal.entries-preserved
entries-preserved g c =
    let K = g.K.Sink in
    let log = c.args.log in
    let whole = c.args.text.now.items ++ log_text log in
    let put = c.push_entry.new.text.items in
    let behind = lines_from log.dir log.sub (c.entries.place + 1) (drop (c.entries.place + 1) log.entries.now) in
    let within : c.entries.place < length log.entries.now = search rules in
    let cut = put-line (K.written c.args.out.now) (K.written c.entries.out) whole log.dir log.sub log.entries.now c.entries.place c.index-log-place.result c.entries.text.items put
    within c.entries.invariant.cut c.in_ok-push_entry.ensures in
    record {
      cut = rw c.in_ok-write_pieces.ensures.rest (cut-more (K.written c.args.out.now) (K.written c.entries.out) (K.written c.write_pieces.new.sink) whole put behind
          (in_pieces (length put)) cut c.in_ok-write_pieces.ensures.pieces);
      short = λ _. omega (arith, length-drop (in_pieces (length put)) put, ap length c.in_ok-write_pieces.ensures.rest);
      kept = search rules;
    }

use Rattle.std.proofs.Common.{◌+◌, ◌++◌, ◌∙◌, ℕ, List, [], length, take, drop, refl, sym, ap, arith}
use Rattle.std.specs.Prelude.{Err}
use Rattle.pcm_io.specs.Pieces.{in_pieces}
use Rattle.pcm_io.specs.declared.reading.ReadEnd.{ReadEnd}
use Rattle.pcm_io.proofs.Taken.{appends_more}
use Rattle.pcm_top.specs.CodeSession.{behind}
use Rattle.pcm_top.specs.declared.end.End.TheVariants.{Whole}
use Rattle.pcm_top.specs.Script.{closing}
use Rattle.pcm_top.specs.Session.{begin}
use Rattle.pcm_top.proofs.OutputLemmas.{if-some-map}
use Rattle.pcm_top.proofs.ScriptLemmas.{kept_files, few-below}
use Rattle.pcm_top.proofs.StreamLemmas.{appends-nothing, amid-begin, begin-open, begin-end, has-some, has-none, amid-has-more, end-has-more, end-next, at-next, fewer-left, ended-at, lacked-at, passed-at, still-open, ended-none, session-kept, amid-kept, front-sent, ran-full, ran-ended, ran-whole, ran-faulted, reached-amid, reached-lacked}
use Rattle.pcm_top.proofs.script.run_lines.Goals as goal

pub lines-init : goal.lines-init
lines-init g c = record {
  now = begin (g.F.Shelf.files c.args.shelf.now);
  session = c.requires (g.F.Shelf.files c.args.shelf.now);
  sent = [];
  written = appends-nothing (g.K.Sink.written c.args.out.now);
  amid = amid-begin c.args.command (g.S.Source.left c.args.source.now) (g.F.Shelf.files c.args.shelf.now) c.new-lines.result c.new-lines.ensures;
  at_end = begin-end c.new-lines.result (g.S.Source.left c.args.source.now) c.new-lines.ensures;
  more = λ none room. begin-open c.new-lines.result c.new-lines.ensures room;
  calm_source = refl;
  calm_sink = refl;
  calm_shelf = refl;
  count = omega arith;
}

pub returns-in-Err-clause-faulted : goal.returns-in-Err-clause-faulted
returns-in-Err-clause-faulted g c = λ is.
    let here = c.lines.invariant in
    if-some-map _ _ (g.S.Source.left c.args.source.now) (λ script amid.
    ran-faulted c.args.command script _ _ c.lines.count c.lines.lines c.has_more.new.self _ _ _ _ here.sent _ here.now amid c.in-Err.ensures.broken (sym here.session.keeps.text)
    here.session.shelf here.written) here.amid

pub returns-then-count-eq-LINE_LIMIT-clause-ran : goal.returns-then-count-eq-LINE_LIMIT-clause-ran
returns-then-count-eq-LINE_LIMIT-clause-ran g c =
    let here = c.lines.invariant in
    let more = c.in-Ok-true.ensures.more in
    let some = has-some _ c.has_more.new.self.ahead.bytes c.in-Ok-true.ensures.some c.in-Ok-true.field-0-test in
    if-some-map _ _ (g.S.Source.left c.args.source.now) (λ script amid.
    ran-full c.args.command script _ _ c.lines.count c.has_more.new.self.ahead _ _ _ here.sent _ here.now
    (amid-has-more c.args.command script _ c.lines.count c.lines.lines c.has_more.new.self (behind here.sent here.now) _ _ amid more) some c.if-count-eq-LINE_LIMIT.true
    (sym here.session.keeps.text) (kept_files c.lines.session (g.F.Shelf.files c.lines.shelf) here.now here.session) here.written) here.amid

pub returns-in-Err-Failed-clause-faulted : goal.returns-in-Err-Failed-clause-faulted
returns-in-Err-Failed-clause-faulted g c = λ is.
    let here = c.lines.invariant in
    let more = c.in-Ok-true.ensures.more in
    let broken = c.in-Err-Failed.ensures.broken (ap (λ (x : ReadEnd). Err x) c.in-Err-Failed.field-0-is) in
    if-some-map _ _ (g.S.Source.left c.args.source.now) (λ script amid.
    ran-faulted c.args.command script _ _ c.lines.count c.has_more.new.self c.next_line.new.self _ _ _ _ here.sent _ here.now
    (amid-has-more c.args.command script _ c.lines.count c.lines.lines c.has_more.new.self (behind here.sent here.now) _ _ amid more) broken (sym here.session.keeps.text)
    here.session.shelf here.written) here.amid

pub returns-in-Err-Memory-clause-cut : goal.returns-in-Err-Memory-clause-cut
returns-in-Err-Memory-clause-cut g c = λ other.
    let here = c.lines.invariant in
    if-some-map _ _ (g.S.Source.left c.args.source.now) (λ script amid.
    reached-amid c.args.command script _ _ c.lines.count c.lines.lines.ahead _ _ _ (behind here.sent here.now) here.sent amid
    here.session.shelf (here.now.text, refl) here.written) here.amid

pub returns-in-Ok-Some-clause-ran : goal.returns-in-Ok-Some-clause-ran
returns-in-Ok-Some-clause-ran g c =
    let here = c.lines.invariant in
    let some = has-some _ c.has_more.new.self.ahead.bytes c.in-Ok-true.ensures.some c.in-Ok-true.field-0-test in
    let ended = rw c.in-Ok-Some.field-0-is at (c.in-Ok-Some.ensures.ended here.now here.session) in
    if-some-map _ _ (g.S.Source.left c.args.source.now) (λ script amid.
    ran-ended c.args.command script _ _ c.lines.count c.next_line.new.self _ _ _ here.sent _ here.now c.in-Ok-Some.ended
    (at-next c.args.command script _ c.lines.count c.lines.lines c.has_more.new.self c.next_line.new.self (behind here.sent here.now) _ _ _ amid c.in-Ok-true.ensures.more some c.in-Ok.ensures.line here.at_end)
    (ended-at c.args.command _ _ c.lines.count _ _ here.now _ _ c.in-Ok-Some.ended c.is_used_up-last.ensures c.line.ensures ended) here.written) here.amid

pub returns-in-Err-answer_bytes-clause-cut : goal.returns-in-Err-answer_bytes-clause-cut
returns-in-Err-answer_bytes-clause-cut g c = λ other.
    let here = c.lines.invariant in
    let some = has-some _ c.has_more.new.self.ahead.bytes c.in-Ok-true.ensures.some c.in-Ok-true.field-0-test in
    if-some-map _ _ (g.S.Source.left c.args.source.now) (λ script amid.
    reached-lacked c.args.command script _ _ c.lines.count c.next_line.new.self _ _ _ here.sent here.now
    (at-next c.args.command script _ c.lines.count c.lines.lines c.has_more.new.self c.next_line.new.self (behind here.sent here.now) _ _ _ amid c.in-Ok-true.ensures.more some c.in-Ok.ensures.line here.at_end)
    (lacked-at c.args.command _ _ c.lines.count _ _ here.now _ c.is_used_up-last.ensures c.line.ensures (c.in-Err-answer_bytes.ensures.lacked here.now here.session)) here.written) here.amid

pub returns-in-Err-write_pieces-clause-cut : goal.returns-in-Err-write_pieces-clause-cut
returns-in-Err-write_pieces-clause-cut g c = λ other.
    let here = c.lines.invariant in
    let some = has-some _ c.has_more.new.self.ahead.bytes c.in-Ok-true.ensures.some c.in-Ok-true.field-0-test in
    let told = rw c.in-Ok-None.field-0-is at (c.in-Ok-None.ensures.passed here.now here.session) in
    let text : List ℕ = c.answer_bytes.new.session.text.items in
    let n = c.in-Err-write_pieces.ensures.front in
    if-some-map _ _ (g.S.Source.left c.args.source.now) (λ script amid.
    reached-amid c.args.command script _ _ (c.lines.count + 1) c.next_line.new.self.ahead _ _ _ (behind here.sent told.next) (here.sent ++ take n.0 text)
    (passed-at c.args.command script _ _ c.lines.count _ _ here.sent c.next_line.new.self here.now _ _
    (at-next c.args.command script _ c.lines.count c.lines.lines c.has_more.new.self c.next_line.new.self (behind here.sent here.now) _ _ _ amid c.in-Ok-true.ensures.more some c.in-Ok.ensures.line here.at_end)
    c.is_used_up-last.ensures c.line.ensures told)
    told.session.shelf
    (front-sent here.sent text (here.sent ++ told.next.text) n.0 (ap (λ (x : List ℕ). here.sent ++ x) (sym told.session.keeps.text)))
    (appends_more _ _ _ here.sent (take n.0 text) here.written n.2)) here.amid

pub lines-smaller : goal.lines-smaller
lines-smaller g c =
    let some = has-some _ c.has_more.new.self.ahead.bytes c.in-Ok-true.ensures.some c.in-Ok-true.field-0-test in
    fewer-left c.lines.lines c.has_more.new.self c.next_line.new.self _ _ _ c.in-Ok-true.ensures.more some c.in-Ok.ensures.line

pub lines-preserved : goal.lines-preserved
lines-preserved g c =
    let here = c.lines.invariant in
    let some = has-some _ c.has_more.new.self.ahead.bytes c.in-Ok-true.ensures.some c.in-Ok-true.field-0-test in
    let told = rw c.in-Ok-None.field-0-is at (c.in-Ok-None.ensures.passed here.now here.session) in
    let text : List ℕ = c.answer_bytes.new.session.text.items in
    let n : ℕ = in_pieces (length text) in
    record {
      now = record told.next { text = drop n text };
      session = session-kept c.answer_bytes.new.session _ told.next c.write_pieces.new.text (drop n text) told.session c.in-Ok-write_pieces.ensures.rest;
      sent = here.sent ++ take n text;
      written = appends_more _ _ _ here.sent (take n text) here.written c.in-Ok-write_pieces.ensures.pieces;
      amid = if-some-map _ _ (g.S.Source.left c.args.source.now) (λ script amid.
          amid-kept c.args.command script _ (c.lines.count + 1) n c.next_line.new.self.ahead here.sent text told.next _ (sym told.session.keeps.text)
          (passed-at c.args.command script _ _ c.lines.count _ _ here.sent c.next_line.new.self here.now _ _
          (at-next c.args.command script _ c.lines.count c.lines.lines c.has_more.new.self c.next_line.new.self (behind here.sent here.now) _ _ _ amid c.in-Ok-true.ensures.more some c.in-Ok.ensures.line here.at_end)
          c.is_used_up-last.ensures c.line.ensures told)) here.amid;
      at_end = end-next c.lines.lines c.has_more.new.self c.next_line.new.self _ _ _ c.in-Ok-true.ensures.more c.in-Ok.ensures.line here.at_end;
      more = still-open _ c.lines.count c.next_line.new.self.ahead c.is_used_up-last.ensures told.few;
      calm_source = c.in-Ok.ensures.kept (λ e. cc) ∙ (c.in-Ok-true.ensures.cause.kept ∙ here.calm_source);
      calm_sink = c.in-Ok-write_pieces.ensures.cause.kept ∙ here.calm_sink;
      calm_shelf = (rw c.in-Ok-None.field-0-is at c.in-Ok-None.ensures.calm) (λ e. cc) ∙ here.calm_shelf;
      count = few-below _ c.lines.count told.few here.count;
    }

pub returns-in-Ok-close-clause-ran : goal.returns-in-Ok-close-clause-ran
returns-in-Ok-close-clause-ran g c =
    let here = c.lines.invariant in
    let more = c.in-Ok-false.ensures.more in
    let none = has-none _ c.has_more.new.self.ahead.bytes c.in-Ok-false.ensures.some c.in-Ok-false.field-0-test in
    let ended = ended-none c.lines.lines c.has_more.new.self _ _ more none here.more in
    if-some-map _ _ (g.S.Source.left c.args.source.now) (λ script amid.
    ran-whole c.args.command script _ _ c.lines.count c.has_more.new.self.ahead _ _ _ here.sent _ here.now
    (amid-has-more c.args.command script _ c.lines.count c.lines.lines c.has_more.new.self (behind here.sent here.now) _ _ amid more) none ended
    (end-has-more c.lines.lines c.has_more.new.self _ _ more here.at_end ended)
    (c.in-Ok-close.ensures here.now here.session.keeps.world ∙ ap (λ (x : List ℕ). x ++ closing c.args.command Whole here.now) here.session.keeps.text)
    (kept_files c.lines.session (g.F.Shelf.files c.lines.shelf) here.now here.session) here.written) here.amid

pub returns-clause-cut : goal.returns-clause-cut
returns-clause-cut g c = λ other.
    let here = c.lines.invariant in
    if-some-map _ _ (g.S.Source.left c.args.source.now) (λ script amid.
    reached-amid c.args.command script _ _ c.lines.count c.lines.lines.ahead _ _ _ (behind here.sent here.now) here.sent amid
    here.session.shelf (here.now.text, refl) here.written) here.amid

pub returns-in-Ok-close-clause-end : goal.returns-in-Ok-close-clause-end
returns-in-Ok-close-clause-end g c = λ e.
    let here = c.lines.invariant in
    let more = c.in-Ok-false.ensures.more in
    let none = has-none _ c.has_more.new.self.ahead.bytes c.in-Ok-false.ensures.some c.in-Ok-false.field-0-test in
    end-has-more c.lines.lines c.has_more.new.self _ _ more here.at_end (ended-none c.lines.lines c.has_more.new.self _ _ more none here.more)

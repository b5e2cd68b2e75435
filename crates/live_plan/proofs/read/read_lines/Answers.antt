use Rattle.std.proofs.Common.{◌<◌, ◌≤◌, ◌++◌, ◌∷◌, ◌∙◌, [], refl, sym, arith}
use Rattle.live_plan.specs.Lines.{line_limit}
use Rattle.live_plan.specs.Said.{Nothing, Then, count_of}
use Rattle.live_plan.proofs.PlanLemmas.{if_some_map, full_lines, full_bytes, refused_at, begins_then, all_said}
use Rattle.live_plan.proofs.StreamLemmas.{amid-begin, amid-has-more, all-given, at-next, begin-end, begin-open, end-has-more, end-next, ended-none, fewer-left, has-none, has-some, line-taken, room-none, still-open}
use Rattle.live_plan.proofs.read.read_lines.Goals as goal

pub lines-init : goal.lines-init
lines-init g c = record {
  said = Nothing;
  stands = c.in-Ok.ensures;
  given = [];
  begins = refl;
  amid = amid-begin (g.S.Source.left c.args.source.now) c.new-lines.result c.new-lines.ensures;
  at_end = begin-end c.new-lines.result (g.S.Source.left c.args.source.now) c.new-lines.ensures;
  more = λ none room. begin-open c.new-lines.result c.new-lines.ensures room;
  calm = refl;
  count = (let none = c.in-Ok.ensures.count in omega (arith, none));
}

pub returns-then-draft-eq-LINE_LIMIT-clause-refused : goal.returns-then-draft-eq-LINE_LIMIT-clause-refused
returns-then-draft-eq-LINE_LIMIT-clause-refused g c =
    let here = c.lines.invariant in
    let more = c.in-Ok-true.ensures.more in
    let some = has-some _ c.has_more.new.self.ahead.bytes c.in-Ok-true.ensures.some c.in-Ok-true.field-0-test in
    if_some_map _ _ (g.S.Source.left c.args.source.now) (λ plan amid.
    full_lines plan here.given here.said c.has_more.new.self.ahead _
    (amid-has-more plan here.given c.lines.lines c.has_more.new.self _ _ amid more) some here.begins (sym here.stands.count ∙ c.if-draft-eq-LINE_LIMIT.true)) here.amid

pub returns-then-is_used_up-clause-refused : goal.returns-then-is_used_up-clause-refused
returns-then-is_used_up-clause-refused g c =
    let here = c.lines.invariant in
    let some = has-some _ c.has_more.new.self.ahead.bytes c.in-Ok-true.ensures.some c.in-Ok-true.field-0-test in
    let few : count_of here.said < line_limit = (let n = here.stands.count in let most = here.count in let less = c.if-draft-eq-LINE_LIMIT.false in omega (arith, n, most, less)) in
    if_some_map _ _ (g.S.Source.left c.args.source.now) (λ plan amid.
    full_bytes plan here.given here.said c.next_line.new.self _ c.is_used_up.result
    (at-next plan here.given c.lines.lines c.has_more.new.self c.next_line.new.self _ _ _ amid c.in-Ok-true.ensures.more some c.in-Ok-next_line.ensures.line here.at_end)
    c.is_used_up.ensures c.if-is_used_up.true here.begins few) here.amid

pub lines-smaller : goal.lines-smaller
lines-smaller g c =
    let some = has-some _ c.has_more.new.self.ahead.bytes c.in-Ok-true.ensures.some c.in-Ok-true.field-0-test in
    fewer-left c.lines.lines c.has_more.new.self c.next_line.new.self _ _ _ c.in-Ok-true.ensures.more some c.in-Ok-next_line.ensures.line

pub lines-preserved : goal.lines-preserved
lines-preserved g c =
    let here = c.lines.invariant in
    let some = has-some _ c.has_more.new.self.ahead.bytes c.in-Ok-true.ensures.some c.in-Ok-true.field-0-test in
    let few : count_of here.said < line_limit = (let n = here.stands.count in let most = here.count in let less = c.if-draft-eq-LINE_LIMIT.false in omega (arith, n, most, less)) in
    let taken = c.in-Ok-take_line.ensures.taken here.said here.stands in
    record {
      said = Then here.said taken.0;
      stands = taken.3;
      given = here.given ++ c.next_line.new.self.line ∷ [];
      begins = begins_then here.given here.said c.next_line.new.self.line c.line.result.now taken.0 here.begins c.line.ensures taken.1 taken.2;
      amid = if_some_map _ _ (g.S.Source.left c.args.source.now) (λ plan amid.
          line-taken plan here.given c.next_line.new.self _
          (at-next plan here.given c.lines.lines c.has_more.new.self c.next_line.new.self _ _ _ amid c.in-Ok-true.ensures.more some c.in-Ok-next_line.ensures.line here.at_end)) here.amid;
      at_end = end-next c.lines.lines c.has_more.new.self c.next_line.new.self _ _ _ c.in-Ok-true.ensures.more c.in-Ok-next_line.ensures.line here.at_end;
      more = still-open c.next_line.new.self.ahead c.is_used_up.result c.is_used_up.ensures c.if-is_used_up.false;
      calm = c.in-Ok-next_line.ensures.kept (λ e. cc) ∙ (c.in-Ok-true.ensures.cause.kept ∙ here.calm);
      count = (let n = taken.3.count in omega (arith, n, few));
    }

pub returns-in-Err-take_line-clause-refused : goal.returns-in-Err-take_line-clause-refused
returns-in-Err-take_line-clause-refused g c =
    let here = c.lines.invariant in
    let some = has-some _ c.has_more.new.self.ahead.bytes c.in-Ok-true.ensures.some c.in-Ok-true.field-0-test in
    let few : count_of here.said < line_limit = (let n = here.stands.count in let most = here.count in let less = c.if-draft-eq-LINE_LIMIT.false in omega (arith, n, most, less)) in
    if_some_map _ _ (g.S.Source.left c.args.source.now) (λ plan amid.
    refused_at plan here.given here.said c.next_line.new.self _ c.is_used_up.result c.lines.draft.count c.line.result.now c.in-Err-take_line.fault c.at_fault.result
    (at-next plan here.given c.lines.lines c.has_more.new.self c.next_line.new.self _ _ _ amid c.in-Ok-true.ensures.more some c.in-Ok-next_line.ensures.line here.at_end)
    c.is_used_up.ensures c.if-is_used_up.false here.begins few here.stands.count c.line.ensures (c.in-Err-take_line.ensures.fault here.said here.stands) c.at_fault.ensures) here.amid

pub returns-clause-drafted : goal.returns-clause-drafted
returns-clause-drafted g c =
    let here = c.lines.invariant in
    let more = c.in-Ok-false.ensures.more in
    let none = has-none _ c.has_more.new.self.ahead.bytes c.in-Ok-false.ensures.some c.in-Ok-false.field-0-test in
    let ended = ended-none c.lines.lines c.has_more.new.self _ _ more none here.more in
    let at_end = end-has-more c.lines.lines c.has_more.new.self _ _ more here.at_end ended in
    let few : count_of here.said ≤ line_limit = (let n = here.stands.count in let most = here.count in omega (arith, n, most)) in
    record {
      said = here.said;
      stands = here.stands;
      lines = here.given;
      begins = here.begins;
      few = here.count;
      told = if_some_map _ _ (g.S.Source.left c.args.source.now) (λ plan amid.
          all_said plan here.given here.said here.begins
          (all-given plan here.given c.has_more.new.self.ahead _ (amid-has-more plan here.given c.lines.lines c.has_more.new.self _ _ amid more) none at_end (room-none c.lines.lines c.has_more.new.self _ _ more none here.more)) few) here.amid;
    }

use Rattle.std.proofs.Common.{ap}
use Rattle.std.specs.Prelude.{Err}
use Rattle.pcm_top.specs.declared.end.Unanswered.{Unanswered}
use Rattle.pcm_line.proofs.SayableLaws.{line-sayable}
use Rattle.pcm_top.proofs.ScriptLemmas.{open-limit, skips, speaks-on, ended-bytes, ended-halted, passed-skipped, passed-answered, lacked-in}
use Rattle.pcm_top.proofs.script.answer_bytes.Goals as goal

pub answer_line-requires-clause-says : goal.answer_line-requires-clause-says
answer_line-requires-clause-says g c = line-sayable c.args.bytes.now c.in-Some.line.now (rw c.in-Some.ensures.read at c.read_line-read.ensures.line)

pub returns-in-Ok-clause-passed : goal.returns-in-Ok-clause-passed
returns-in-Ok-clause-passed g c = λ s session.
    passed-answered c.args.command c.args.last c.args.count c.args.bytes.now s c.in-Some.line.now _ _ (open-limit c.args.last c.args.count c.if-last.false c.requires.few)
    (speaks-on c.is_skipped.result _ s.version c.args.bytes.now session.keeps.version c.is_skipped.ensures c.if-is_skipped.false) (rw c.in-Some.ensures.read at c.read_line-read.ensures.line) (c.in-Ok.ensures.ok s session)

pub returns-then-last-clause-ended : goal.returns-then-last-clause-ended
returns-then-last-clause-ended g c = λ s session. ended-bytes c.args.command c.args.last c.args.count c.args.bytes.now s _ _ c.if-last.true c.requires.few session

pub returns-then-is_skipped-clause-passed : goal.returns-then-is_skipped-clause-passed
returns-then-is_skipped-clause-passed g c = λ s session.
    passed-skipped c.args.command c.args.last c.args.count c.args.bytes.now s _ _ (open-limit c.args.last c.args.count c.if-last.false c.requires.few)
    (skips c.is_skipped.result _ s.version c.args.bytes.now session.keeps.version c.is_skipped.ensures c.if-is_skipped.true) session

pub returns-in-Err-Ended-clause-ended : goal.returns-in-Err-Ended-clause-ended
returns-in-Err-Ended-clause-ended g c = λ s session.
    let says = rw c.in-Some.ensures.read at c.read_line-read.ensures.line in
    ended-halted c.args.command c.args.last c.args.count c.args.bytes.now s c.in-Some.line.now _ _ c.in-Err-Ended.ended (open-limit c.args.last c.args.count c.if-last.false c.requires.few)
    (speaks-on c.is_skipped.result _ s.version c.args.bytes.now session.keeps.version c.is_skipped.ensures c.if-is_skipped.false) says
    (c.in-Err-Ended.ensures.ended s c.in-Err-Ended.ended session (ap (λ (x : Unanswered). Err x) c.in-Err-Ended.field-0-is))

pub returns-clause-lacked : goal.returns-clause-lacked
returns-clause-lacked g c = λ s session.
    let says = rw c.in-Some.ensures.read at c.read_line-read.ensures.line in
    lacked-in c.args.command c.args.last c.args.count c.args.bytes.now s c.in-Some.line.now _ (open-limit c.args.last c.args.count c.if-last.false c.requires.few)
    (speaks-on c.is_skipped.result _ s.version c.args.bytes.now session.keeps.version c.is_skipped.ensures c.if-is_skipped.false) says
    (c.in-Err-Memory.ensures.memory s session (ap (λ (x : Unanswered). Err x) c.in-Err-Memory.field-0-is))

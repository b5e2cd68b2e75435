use Rattle.std.proofs.Common.{ap, ◌∙◌}
use Rattle.pcm_base.specs.declared.reply.Told.{Told}
use Rattle.pcm_line.proofs.SayableLaws.{line-sayable}
use Rattle.pcm_top.specs.declared.generated.Totals.{Totals}
use Rattle.pcm_top.specs.Gen.{counted}
use Rattle.pcm_top.proofs.generated.execute.Goals as goal

pub answer-told-requires-clause-says : goal.answer-told-requires-clause-says
answer-told-requires-clause-says c = line-sayable c.args.bytes.now c.in_ok-line.line c.in_ok-line.ensures.says

pub returns : goal.returns
returns c = record {
  executed = λ w is. record {
    line = c.in_ok-line.line;
    says = c.in_ok-line.ensures.says;
    kind = c.in_ok-line.ensures.kind;
    world = c.answer-told.ensures.world w is c.in_default.not-Memory;
    totals = c.count.ensures.counted ∙ ap (λ (t : Told). counted c.in_ok-line.line t c.args.totals.now) (c.answer-told.ensures.told w is c.in_default.not-Memory);
  };
  sums = c.count.ensures.sums;
  one = ap (λ (t : Totals). t.lines) c.count.ensures.counted;
}

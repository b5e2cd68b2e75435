use Rattle.std.proofs.Common.{◌∷◌, sym, subst, arith}
use Rattle.pcm_top.specs.Gen.{AreGenerated, Totalled, answer_to}
use Rattle.pcm_top.specs.Lines.{lines_of}
use Rattle.pcm_top.proofs.generated.totals_of.Goals as goal

-- the first line is executed, and then come those behind it
pub lines-preserved : goal.lines-preserved
lines-preserved c =
    let kept = c.lines.invariant in
    let done = c.in_ok-execute.ensures.executed kept.now kept.world in
    let cut = c.in-Some.ensures.cut in
    record {
      now = (answer_to done.line kept.now).world;
      world = done.world;
      totalled = λ all rest. kept.totalled all
          (subst (λ lines. Totalled lines kept.now c.lines.totals all) (sym cut)
          (done.line, done.says, done.kind, subst (λ sums. Totalled (lines_of c.in-Some.more.now) (answer_to done.line kept.now).world sums all) done.totals rest));
      lines = (subst (λ lines. AreGenerated lines) cut kept.lines).1;
      sums = c.in_ok-execute.ensures.sums;
      few = omega (arith, kept.few, c.in_ok-execute.ensures.one, c.in-Some.ensures.shorter);
    }

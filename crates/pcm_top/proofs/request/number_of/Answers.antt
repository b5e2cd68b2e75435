use Rattle.std.proofs.Common.{◌≡◌, arith, decimal, Ok, true, ap, sym, ◌∙◌}
use Rattle.std.specs.Str.{bytes_eq}
use Rattle.std.proofs.lemmas.Fmt.{parse-decimal}
use Rattle.std.proofs.lemmas.Slice.Eq.{bytes_eq-Decides}
use Rattle.pcm_top.proofs.request.number_of.Goals as goal
use Rattle.pcm_top.proofs.request.number_of.Goals.{else-number-via-then-number+else-eq, else-number-via-else-number}

pub returns-in-Err-clause-none : goal.returns-in-Err-clause-none
returns-in-Err-clause-none c = λ n is.
    let parsed : c.parse.result ≡ Ok n = parse-decimal 64 n c.args.word.now c.parse.result (omega (arith, is.small)) (omega (arith, is.small)) is.spelled c.parse.ensures.value.0 in
    absurd (cc)

pub returns-else-number-clause-none : goal.returns-else-number-clause-none
returns-else-number-clause-none c = λ n is.
    let parsed : c.parse.result ≡ Ok n = parse-decimal 64 n c.args.word.now c.parse.result (omega (arith, is.small)) (omega (arith, is.small)) is.spelled c.parse.ensures.value.0 in
    let same : c.in-Ok.number ≡ n = cc in
    elim c.else-number.branch [
      | else-number-via-then-number+else-eq w ↦
          let text : w.format.result.now ≡ c.args.word.now = w.format.ensures.text ∙ ap decimal same ∙ sym is.spelled in
          let yes : bytes_eq w.format.result.now c.args.word.now ≡ true = (bytes_eq-Decides w.format.result.now c.args.word.now).1 text in
          absurd (cc)
      | else-number-via-else-number w ↦ absurd (omega (arith, is.small, same))
    ]

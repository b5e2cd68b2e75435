use Rattle.std.proofs.Common.{◌+◌, ◌∷◌, ◌∙◌, ℕ, List, ap, sym, take, Some, None, arith}
use Rattle.std.proofs.lemmas.Bool.{eqb-false}
use Rattle.std.proofs.lemmas.List.{take_rest}
use Rattle.pcm_io.proofs.LineLemmas.{feed_found}
use Rattle.pcm_top.specs.Lines.{lines_of}
use Rattle.pcm_top.proofs.LineLemmas.{lines-cut, lines-last}
use Rattle.pcm_top.proofs.generated.first_line.Goals as goal

pub returns-in-Some-clause-cut : goal.returns-in-Some-clause-cut
returns-in-Some-clause-cut c =
    let text = c.args.text.now in
    let at = c.in-Some.at in
    let found = feed_found text (Some at) c.in-Some.ensures in
    ap lines_of found.1.cut ∙ lines-cut _ _ found.1.plain ∙ ap (λ (rest : List ℕ). take at text ∷ lines_of rest) (sym (take_rest text (at + 1)))

pub returns-in-None-clause-cut : goal.returns-in-None-clause-cut
returns-in-None-clause-cut c =
    let some = eqb-false _ _ (sym c.if-is_empty.ensures) in
    lines-last c.args.text.now (feed_found c.args.text.now None c.in-None.ensures) (omega arith)

use Rattle.std.proofs.Common.{◌++◌, ap, ◌∙◌}
use Rattle.pcm_line.specs.Pieces.{joined}
use Rattle.pcm_line.specs.Spelling.{line_texts, line_word}
use Rattle.pcm_line.proofs.SayableLaws.{line-spelled}
use Rattle.pcm_line.proofs.Spaced.{joined-onto, on-ok}
use Rattle.pcm_line.proofs.print.push_line.Goals as goal

pub returns-clause-text : goal.returns-clause-text
returns-clause-text c =
    let line = c.args.line.now in
    let old = c.args.text.now.items in
    on-ok c.push_values.result (λ put. put ∙ ap (λ t. joined t (line_texts line)) (c.in_ok-extend_from_slice.ensures.items ∙ ap (λ w. old ++ w) c.line_word.ensures) ∙ joined-onto old (line_word line) (line_texts line)) c.push_values.ensures.pieces

pub returns-clause-line : goal.returns-clause-line
returns-clause-line c = on-ok c.push_values.result (λ typed say. line-spelled c.args.line.now typed say) c.push_values.ensures.typed

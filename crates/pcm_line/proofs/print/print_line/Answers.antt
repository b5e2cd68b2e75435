use Rattle.std.proofs.Common.{◌≡◌, ◌++◌, ap, ◌∙◌}
use Rattle.pcm_line.specs.Spelling.{spelling}
use Rattle.pcm_line.proofs.print.print_line.Goals as goal

pub returns : goal.returns
returns c =
    let text = spelling c.args.line.now in
    let same : c.push_line.new.text.items ≡ text = c.in_ok-push_line.ensures.text ∙ ap (λ old. old ++ text) c.in_ok-out.ensures.items in
    λ say. rw same (c.in_ok-push_line.ensures.line say)

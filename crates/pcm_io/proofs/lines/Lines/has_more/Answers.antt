use Rattle.std.proofs.Common.{◌≡◌, ◌++◌, ◌∙◌, ap, [], append-nil}
use Rattle.pcm_io.specs.Lines.{LineState}
use Rattle.pcm_io.proofs.LineLemmas.{more-topped}
use Rattle.pcm_io.proofs.lines.Lines.has_more.Goals as goal

pub returns-clause-more : goal.returns-clause-more
returns-clause-more g c =
    more-topped c.args.self.now c.skip.new.self c.fill_empty.new.self _ _ _ c.in_ok-fill_empty.ensures.read (c.skip.ensures ∙ ap (λ (r : LineState). r.ahead) c.self.view_is) (append-nil c.clear.new.self.items ∙ c.clear.ensures.items)

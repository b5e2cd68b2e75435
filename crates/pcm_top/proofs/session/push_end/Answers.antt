use Rattle.std.proofs.Common.{◌++◌, ◌∙◌, sym, ap, append-nil, ℕ, List}
use Rattle.pcm_base.specs.declared.reply.Page.{Page}
use Rattle.pcm_base.specs.model.Events.{page}
use Rattle.pcm_base.specs.model.World.{stream_in}
use Rattle.pcm_text.specs.End.{end_line}
use Rattle.pcm_top.proofs.SessionLemmas.{end-declared, end-undeclared}
use Rattle.pcm_top.proofs.session.push_end.Goals as goal

pub returns-in_ok-extend_from_slice-clause-line : goal.returns-in_ok-extend_from_slice-clause-line
returns-in_ok-extend_from_slice-clause-line c = λ w is.
    let s = stream_in c.args.sub w in
    let stands = c.in-Some.ensures.some w is in
    let shown = ap (λ (p : Page). end_line c.args.sub p c.moved_total.result) (c.page.ensures.page s stands) in
    let moved = ap (λ (n : ℕ). end_line c.args.sub (page s) n) (c.moved_total.ensures w is) in
    let line = end-declared c.args.sub w c.deref.result.now (sym (c.in-Some.ensures.none w is)) (c.deref.ensures.value ∙ c.in_ok-line.ensures ∙ shown ∙ moved) in
    c.in_ok-extend_from_slice.ensures.items ∙ ap (λ (l : List ℕ). c.args.session.now.text.items ++ l) line

pub returns-in_default-clause-line : goal.returns-in_default-clause-line
returns-in_default-clause-line c = λ w is.
    let none = end-undeclared c.args.sub w (sym (c.in_default.ensures.none w is)) in
    sym (append-nil c.args.session.now.text.items) ∙ ap (λ (l : List ℕ). c.args.session.now.text.items ++ l) (sym none)

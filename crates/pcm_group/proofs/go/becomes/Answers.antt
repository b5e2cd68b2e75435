use Rattle.std.proofs.Common.{◌≡◌, nat_lt, sym, ap, ◌∙◌}
use Rattle.pcm_base.specs.declared.state.Dir.{Dir}
use Rattle.pcm_base.specs.model.Stream.{avail}
use Rattle.pcm_group.specs.Going.{comes_to, fate_in}
use Rattle.pcm_group.proofs.GoingLemmas.{fate_seen, transfer_fate}
use Rattle.pcm_group.proofs.go.becomes.Goals as goal

pub returns : goal.returns
returns g c = λ cl x io s h.
    let p = c.page-page.result in
    let seen : c.fate_by.result ≡ fate_in s.state s.dir (nat_lt (avail s) c.args.wanted) =
    c.fate_by.ensures ∙ ap (λ (d : Dir). fate_in p.state d (nat_lt p.avail c.args.wanted)) (c.dir.ensures s h) ∙ fate_seen s p c.args.wanted h.sound (c.page-page.ensures.page s h) in
    transfer_fate cl x c.args.wanted io s ∙ sym (ap (comes_to cl x io s) seen)

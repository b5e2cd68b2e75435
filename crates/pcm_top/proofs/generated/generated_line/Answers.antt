use Rattle.std.proofs.Common.{List, ℕ, sym, ◌∙◌, subst}
use Rattle.pcm_base.specs.model.World.{empty}
use Rattle.pcm_top.specs.Gen.{AreGenerated, Totalled, no_totals}
use Rattle.pcm_top.specs.Lines.{lines_of}
use Rattle.pcm_top.proofs.GenLemmas.{told-totals}
use Rattle.pcm_top.proofs.GenLines.{script-lines}
use Rattle.pcm_top.proofs.generated.generated_line.Goals as goal

pub totals_of-requires : goal.totals_of-requires
totals_of-requires c = subst (λ (text : List ℕ). AreGenerated (lines_of text)) (sym (c.deref.ensures.value ∙ c.in_ok-script.ensures)) (script-lines c.args.number)

pub returns : goal.returns
returns c =
    let all = c.in_ok-totals.totals in
    told-totals c.totals_line.result c.args.number all
    (record { totalled = subst (λ (text : List ℕ). Totalled (lines_of text) empty no_totals all) (c.deref.ensures.value ∙ c.in_ok-script.ensures) c.in_ok-totals.ensures }) c.totals_line.ensures

use Rattle.std.proofs.Common.{◌≡◌, ◌≤◌, ℕ, sym, ◌∙◌, subst}
use Rattle.std.specs.Prelude.{IfOk}
use Rattle.pcm_line.specs.declared.error.LineError.{LineError}
use Rattle.pcm_text.specs.declared.status.Status.TheVariants.{BadLine}
use Rattle.pcm_help.specs.BadLine.{ShowsLine}
use Rattle.pcm_help.specs.Recent.{first_whole, last_begun}
use Rattle.pcm_help.proofs.help.help_text.Goals as goal

same_number : (n m : ℕ) (e f : LineError) → BadLine n e ≡ BadLine m f → n ≡ m
same_number n m e f is = cc

same_fault : (n m : ℕ) (e f : LineError) → BadLine n e ≡ BadLine m f → e ≡ f
same_fault n m e f is = cc

pub returns-in-BadLine-clause-line : goal.returns-in-BadLine-clause-line
returns-in-BadLine-clause-line c = λ number fault kept all is command copied h low high.
    let both = sym c.in-BadLine.is ∙ is in
    let one : c.in-BadLine.number ≡ number = same_number _ _ _ _ both in
    let two : c.in-BadLine.fault ≡ fault = same_fault _ _ _ _ both in
    let shown = c.line_text.ensures kept all command copied h (subst (λ (n : ℕ). first_whole kept ≤ n) (sym one) low) (subst (λ (n : ℕ). n ≤ last_begun kept) (sym one) high) in
    subst (λ (n : ℕ). IfOk c.line_text.result (λ text. ShowsLine n fault all text.items)) one
    (subst (λ (f : LineError). IfOk c.line_text.result (λ text. ShowsLine c.in-BadLine.number f all text.items)) two shown)

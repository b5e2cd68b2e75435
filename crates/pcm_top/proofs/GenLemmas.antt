-- What the lines of a script come to.
use Rattle.std.proofs.Common.{◌≡◌, ◌⊎◌, ℕ, Vec, Global, Ok, Err, Result, inl, inr, sym, ◌∙◌}
use Rattle.std.specs.Prelude.{IfOk}
use Rattle.std.specs.declared.alloc.AllocError.{AllocError}
use Rattle.pcm_line.specs.declared.error.LineError.{LineError}
use Rattle.pcm_line.specs.declared.error.LineError.TheVariants as line_error
use Rattle.pcm_line.specs.declared.line.Line.{Line}
use Rattle.pcm_top.specs.declared.generated.Totals.{Totals}
use Rattle.pcm_top.specs.Gen.{IsTotalOf, totals_line}

-- the line of a script's totals
pub told-totals : (r : Result (Vec ℕ Global) AllocError) (number : ℕ) (all : Totals) → IsTotalOf number all → IfOk r (λ line. line.items ≡ totals_line all) → IfOk r (λ line. (x : Totals) × IsTotalOf number x × (line.items ≡ totals_line x))
told-totals (Ok line) number all is told = (all, is, told)
told-totals (Err e) number all is told = tt

-- ---- what is read of bytes that are a line

pub no-fault : (r : Result Line LineError) (e : LineError) (line : Line) → r ≡ Err e → (e ≡ line_error.Memory → ⊥) → (r ≡ Err line_error.Memory) ⊎ (r ≡ Ok line) → ⊥
no-fault r e line is other (inl h) = let same : Err e ≡ Err line_error.Memory = sym is ∙ h in other (cc)
no-fault r e line is other (inr h) = let never : Err e ≡ Ok line = sym is ∙ h in absurd cc

pub same-line : (r : Result Line LineError) (read line : Line) → r ≡ Ok read → (r ≡ Err line_error.Memory) ⊎ (r ≡ Ok line) → line ≡ read
same-line r read line is (inl h) = let never : Ok read ≡ Err line_error.Memory = sym is ∙ h in absurd cc
same-line r read line is (inr h) = let same : Ok line ≡ Ok read = sym h ∙ is in cc

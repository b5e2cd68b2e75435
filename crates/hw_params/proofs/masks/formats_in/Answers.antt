use Rattle.std.proofs.Common.{ℕ, bit_and, arith, sym, subst}
use Rattle.hw_params.specs.Masks.{AreFormatsOf}
use Rattle.hw_params.proofs.MaskLaws.{in-formats, width-1, width-2, width-3, width-4, width-most}
use Rattle.hw_params.proofs.masks.formats_in.Goals as goal

pub returns-in-1 : goal.returns-in-1
returns-in-1 c = subst (λ (w : ℕ). AreFormatsOf c.args.mask w (bit_and c.args.mask 3)) (sym c.in-1.is) (in-formats c.args.mask 3 1 (omega arith) width-1)

pub returns-in-2 : goal.returns-in-2
returns-in-2 c = subst (λ (w : ℕ). AreFormatsOf c.args.mask w (bit_and c.args.mask 15)) (sym c.in-2.is) (in-formats c.args.mask 15 2 (omega arith) width-2)

pub returns-in-3 : goal.returns-in-3
returns-in-3 c = subst (λ (w : ℕ). AreFormatsOf c.args.mask w (bit_and c.args.mask 4294967311)) (sym c.in-3.is) (in-formats c.args.mask 4294967311 3 (omega arith) width-3)

pub returns-in_default : goal.returns-in_default
returns-in_default c = λ i.
    let told = in-formats c.args.mask 4294970447 4 (omega arith) width-4 i in
    (λ h. let f = told.0 h in (f.0, f.1, f.2, omega (arith, f.3)), λ h. told.1 (h.0, h.1, h.2, width-most h.0))

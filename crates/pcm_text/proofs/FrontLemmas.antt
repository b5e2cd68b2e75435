-- What stood in front still stands there.
use Rattle.std.proofs.Common.{◌≡◌, ℕ, ◌≤◌, List, ◌++◌, length, take, arith, ◌∙◌, sym, ap, length-append}
use Rattle.std.proofs.Math.Seq.{take-append_seam}
use Rattle.std.proofs.lemmas.List.{take-take}
use Rattle.pcm_text.specs.Front.{KeepsFront}

-- text that was added in between takes nothing away
pub keeps_front : (old more between now : List ℕ) → between ≡ old ++ more → KeepsFront between now → KeepsFront old now
keeps_front old more between now e kept =
    let longer : length old ≤ length between = omega (arith, ap length e ∙ length-append old more) in
    sym (take-take (length old) (length between) now longer) ∙ ap (take (length old)) (kept ∙ e) ∙ take-append_seam old more

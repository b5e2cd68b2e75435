use Rattle.std.proofs.Common.{ℕ, ◌+◌, ◌≤◌, ◌<◌, List, length, take, drop, subst, arith, length-take}
use Rattle.std.proofs.lemmas.List.{take_rest}
use Rattle.pcm_help.specs.Shown.{columns}
use Rattle.pcm_help.proofs.WindowLemmas.{is-window, too_wide}
use Rattle.pcm_help.proofs.window.window_round.Goals as goal

pub returns : goal.returns
returns c =
    let line = c.args.line.now in
    let at = c.args.at in
    let from = c.fitting_from-from.result in
    let n = c.fitting-2.result in
    let rest = take_rest line from in
    let before : columns (drop from (take at line)) ≤ 36 = c.fitting_from-from.ensures.fits in
    let inside : from ≤ at = omega (arith, c.fitting_from-from.ensures.within, length-take at line) in
    let within : n ≤ length (drop from line) = subst (λ (l : List ℕ). n ≤ length l) rest c.fitting-2.ensures.within in
    let fits : columns (take n (drop from line)) ≤ 72 = subst (λ (l : List ℕ). columns (take n l) ≤ 72) rest c.fitting-2.ensures.fits in
    let most : n < length (drop from line) → 72 < columns (take (n + 1) (drop from line)) = subst (λ (l : List ℕ). n < length l → 72 < columns (take (n + 1) l)) rest c.fitting-2.ensures.most in
    is-window line at from n c.requires inside before within fits most (too_wide line c.fitting.result (omega (arith, c.fitting.ensures.within, c.if-fitting-line.false)) c.fitting.ensures.most)

use Rattle.std.proofs.Common.{◌≡◌, ℕ, ◌-◌, List, ◌++◌, length, take, ◌∙◌, sym, ap, subst, arith, append_assoc, length-append}
use Rattle.std.proofs.lemmas.List.{take-append-drop}
use Rattle.pcm_help.specs.Recent.{Holds}
use Rattle.pcm_help.proofs.recent.Recent.push.Goals as goal

pub returns-clause-holds : goal.returns-clause-holds
returns-clause-holds c = λ all few h.
    let bytes = c.args.bytes.now in
    let passed = c.split_at.result.0.now in
    let kept = c.split_at.result.1.now in
    let mid : ℕ = c.over-over.result - c.min-own.result in
    let whole : passed ++ kept ≡ bytes = ap (λ (l : List ℕ). l ++ kept) c.split_at.ensures.front ∙ ap (λ (l : List ℕ). take mid bytes ++ l) c.split_at.ensures.back ∙ take-append-drop mid bytes in
    let size = ap length (sym whole) ∙ length-append passed kept in
    let one = c.forget.ensures.holds all (omega (arith, few)) h in
    let two = c.pass.ensures.holds all (omega (arith, few, size)) one in
    let three = c.keep.ensures.holds (all ++ passed) two in
    subst (Holds c.keep.new.self) (append_assoc all passed kept ∙ ap (λ (l : List ℕ). all ++ l) whole) three

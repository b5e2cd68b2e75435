use Rattle.std.proofs.Common.{◌≡◌, ℕ, ◌+◌, List, [], ◌∷◌, ◌++◌, take, get_or, ap, sym, ◌∙◌, subst, append_assoc}
use Rattle.std.proofs.lemmas.List.{take_more}
use Rattle.pcm_help.specs.Answered.{after, Tells}
use Rattle.pcm_help.proofs.AnsweredLemmas.{tells-next}
use Rattle.pcm_help.proofs.answered.Answered.push.Goals as goal

pub bytes-preserved : goal.bytes-preserved
bytes-preserved c = λ all h.
    let i = c.bytes.byte-index in
    let bytes = c.args.bytes.now in
    let before = all ++ take i bytes in
    let b : ℕ = get_or bytes i 0 in
    let here : Tells (after c.bytes.self b) (before ++ b ∷ []) = tells-next c.bytes.self before b (c.bytes.invariant all h) in
    let more : before ++ b ∷ [] ≡ all ++ take (i + 1) bytes = append_assoc all (take i bytes) (b ∷ []) ∙ ap (λ (l : List ℕ). all ++ l) (sym (take_more bytes i 0 c.bytes-test.true)) in
    subst (Tells c.after.result) more (subst (λ a. Tells a (before ++ b ∷ [])) (sym c.after.ensures) here)

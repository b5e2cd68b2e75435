use Rattle.std.proofs.Common.{◌≡◌, ℕ, List, ◌&&◌, not, eqb, ap, sym, ◌∙◌, rules}
use Rattle.std.specs.Prelude.{nat_eq}
use Rattle.std.specs.List.{starts_with}
use Rattle.std.proofs.lemmas.List.{take_rest}
use Rattle.wav_file.specs.Grammar.{pcm_subtype}
use Rattle.wav_file.specs.Faults.{tag_at, has_pcm_subtype}
use Rattle.wav_file.proofs.layout.has_other_subtype.Goals as goal

pub returns-then-tag_of-eq-EXTENSIBLE : goal.returns-then-tag_of-eq-EXTENSIBLE
returns-then-tag_of-eq-EXTENSIBLE c =
    let bytes = c.args.bytes.now in
    let tag : tag_at bytes ≡ 65534 = search rules in
    let same : c.starts_with.result ≡ has_pcm_subtype bytes = c.starts_with.ensures.value ∙ ap (λ (x : List ℕ). starts_with nat_eq x pcm_subtype) (take_rest bytes 32) in
    ap not same ∙ sym (ap (λ (t : ℕ). eqb t 65534 && not (has_pcm_subtype bytes)) tag)

use Rattle.std.proofs.Common.{◌≡◌, ◌∷◌, [], ℕ, List, map, string_bytes, length, arith, ap, sym, ◌∙◌, subst}
use Rattle.std.specs.Prelude.{codes, IfNone}
use Rattle.std.proofs.lemmas.List.{length-map}
use borrow.Author.Tests.{ltb-true, ltb-false}
use Rattle.pcm_top.specs.declared.request.Request.{Request}
use Rattle.pcm_top.specs.Request.{Asks}
use Rattle.pcm_top.proofs.RequestLemmas.{asks-length, five_are}
use Rattle.pcm_top.proofs.request.request_of.Goals as goal
use Rattle.pcm_top.proofs.request.request_of.Goals.{in_default-via-then-words-lt1, in_default-via-else-words-lt1+else-words-lt2+else-words-lt3+then-words-lt4, in_default-via-else-words-lt1+else-words-lt2+else-words-lt3+else-words-lt4+else-words-lt5+else-words-lt6}

pub returns-in-play-clause-none : goal.returns-in-play-clause-none
returns-in-play-clause-none c =
    let words = c.args.words.now in
    let are =
    five_are words c.word-item-then-words-lt6.result c.from-item-then-words-lt6.result c.to-item-then-words-lt6.result c.period-item.result c.periods-item.result
    c.in-len5.len_at_least c.in-len5.len_below c.word-item-then-words-lt6.is c.from-item-then-words-lt6.is c.to-item-then-words-lt6.is c.period-item.is c.periods-item.is in
    let forms : map string_bytes words ≡ codes "play" ∷ c.deref-in-play.result.now ∷ c.deref-in-play-2.result.now ∷ c.deref-in-play-3.result.now ∷ c.deref-in-play-4.result.now ∷ [] = ap (map string_bytes) are ∙ (cc) in
    let P : List (List ℕ) → Type 0 = λ xs. IfNone c.play_request.result ((r : Request) → ¬ Asks xs r) in
    subst P (sym forms) c.play_request.ensures.none

pub returns-in_default-clause-none : goal.returns-in_default-clause-none
returns-in_default-clause-none c = λ r asks.
    let words = c.args.words.now in
    let n = asks-length (map string_bytes words) r asks in
    let len : length (map string_bytes words) ≡ length words = length-map words string_bytes in
    elim c.in_default.branch [
      | in_default-via-then-words-lt1 w ↦ absurd (omega (arith, ltb-true, ltb-false))
      | in_default-via-else-words-lt1+else-words-lt2+else-words-lt3+then-words-lt4 w ↦ absurd (n.not_three (omega (arith, ltb-true, ltb-false)))
      | in_default-via-else-words-lt1+else-words-lt2+else-words-lt3+else-words-lt4+else-words-lt5+else-words-lt6 w ↦ absurd (omega (arith, ltb-true, ltb-false))
    ]

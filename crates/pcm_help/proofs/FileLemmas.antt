-- Line by line to the first that is not skipped.
use Rattle.std.proofs.Common.{◌≡◌, ℕ, ◌+◌, ◌<◌, List, [], ◌∷◌, ◌++◌, length, drop, true, refl, sym, ◌∙◌, ap, subst, arith, inl, inr, append_assoc, length-append}
use Rattle.std.proofs.lemmas.Bool.{cases_lt}
use Rattle.std.proofs.Math.Seq.{drop-append-add}
use Rattle.pcm_line.specs.Skipped.{IsSkipped}
use Rattle.pcm_help.specs.Lines.{begins_after, feeds_in, IsLineEnd}
use Rattle.pcm_help.specs.Recent.{IsFirstLine, IsFrom}
use Rattle.pcm_help.specs.BadLine.{IsLineOf}
use Rattle.pcm_help.specs.FileLine.{SkipsLine}
use Rattle.pcm_help.proofs.LineLemmas.{begins-feed, feeds-append}

-- what stands behind a line that is not the last
behind_feed : (line behind : List ℕ) → IsLineEnd behind → length line < length (line ++ behind) → (more : List ℕ) × (behind ≡ 10 ∷ more) × (drop (length line + 1) (line ++ behind) ≡ more)
behind_feed line [] end less = absurd (omega (arith, length-append line []))
behind_feed line (b ∷ more) end less = (more, ap (λ (x : ℕ). x ∷ more) end, drop-append-add line (b ∷ more) 1)

one_feed : feeds_in (10 ∷ []) ≡ 1
one_feed = refl

from-next : (number : ℕ) (all rest line behind more : List ℕ) → IsFrom number all rest → rest ≡ line ++ behind → feeds_in line ≡ 0 → behind ≡ 10 ∷ more → IsFrom (number + 1) all more
from-next number all rest line behind more f cut plain e =
    let whole : rest ≡ (line ++ 10 ∷ []) ++ more = cut ∙ ap (λ (l : List ℕ). line ++ l) e ∙ sym (append_assoc line (10 ∷ []) more) in
    record {
      front = f.front ++ (line ++ 10 ∷ []);
      cut = f.cut ∙ ap (λ (l : List ℕ). f.front ++ l) whole ∙ sym (append_assoc f.front (line ++ 10 ∷ []) more);
      place = omega (arith, f.place, feeds-append f.front (line ++ 10 ∷ []), feeds-append line (10 ∷ []), plain, one_feed);
      begins = ap (begins_after true) (sym (append_assoc f.front line (10 ∷ []))) ∙ begins-feed true (f.front ++ line);
    }

-- the line behind the first one begins behind its line feed
pub next-from : (number : ℕ) (all rest line : List ℕ) → IsFrom number all rest → IsFirstLine rest line → length line < length rest → IsFrom (number + 1) all (drop (length line + 1) rest)
next-from number all rest line f first less =
    let there = behind_feed line first.behind first.end (subst (λ (l : List ℕ). length line < length l) first.cut less) in
    subst (IsFrom (number + 1) all) (sym (ap (drop (length line + 1)) first.cut ∙ there.2)) (from-next number all rest line first.behind there.0 f first.cut first.plain there.1)

pub line-of : (number : ℕ) (all rest line : List ℕ) → IsFrom number all rest → IsFirstLine rest line → IsLineOf number all line
line-of number all rest line f first = record { rest = rest; begins = f; ends = first }

-- one line more is skipped
pub skips-more : (number : ℕ) (all rest line : List ℕ) (answered : ℕ) → IsFrom number all rest → IsFirstLine rest line → IsSkipped 2 line
    → ((k : ℕ) → answered < k → k < number → SkipsLine all k) → (k : ℕ) → answered < k → k < number + 1 → SkipsLine all k
skips-more number all rest line answered f first skipped between k above below = elim (cases_lt k number) [
  | inl less ↦ between k above less
  | inr more ↦
      let same : number ≡ k = omega arith in
      subst (SkipsLine all) same (line, line-of number all rest line f first, skipped)
]

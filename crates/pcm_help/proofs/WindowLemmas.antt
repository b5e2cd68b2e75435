-- Which bytes of a line are shown.
use Rattle.std.proofs.Common.{◌≡◌, ℕ, ◌+◌, ◌-◌, ◌≤◌, ◌<◌, List, length, take, drop, get_or, refl, sym, ◌∙◌, ap, subst, arith, inl, inr, length-drop, take-add, ◌==◌}
use Rattle.std.proofs.lemmas.Bool.{cases_lt, cases_Bool}
use Rattle.std.proofs.lemmas.List.{take_all, drop-take}
use Rattle.std.proofs.lemmas.List.Sums.{sum_by-append, sum_by_more, sum_by-take-le}
use Rattle.pcm_help.specs.Shown.{columns, escaped, is_plain, width}
use Rattle.pcm_help.specs.Window.{IsWindow}

-- more bytes take no fewer columns
pub columns-add : (bytes : List ℕ) (n m : ℕ) → columns (take n bytes) ≤ columns (take (n + m) bytes)
columns-add bytes n m =
    let parts : columns (take (n + m) bytes) ≡ columns (take n bytes) + columns (take m (drop n bytes)) = ap columns (take-add n m bytes) ∙ sum_by-append width (take n bytes) (take m (drop n bytes)) in
    omega (arith, parts)

pub columns-le : (bytes : List ℕ) (n m : ℕ) → n ≤ m → columns (take n bytes) ≤ columns (take m bytes)
columns-le bytes n m le =
    let same : n + (m - n) ≡ m = omega arith in
    subst (λ (k : ℕ). columns (take n bytes) ≤ columns (take k bytes)) same (columns-add bytes n (m - n))

-- the bytes of a front from one place on
front_from : (line : List ℕ) (from at : ℕ) → from ≤ at → drop from (take at line) ≡ take (at - from) (drop from line)
front_from line from at le =
    let same : from + (at - from) ≡ at = omega arith in
    ap (λ (k : ℕ). drop from (take k line)) (sym same) ∙ drop-take from (at - from) line

-- what fits in 72 columns goes beyond the 36 columns before the piece
pub reaches : (line : List ℕ) (from at n : ℕ) → from ≤ at → columns (take (at - from) (drop from line)) ≤ 36 → at < length line
    → (n < length (drop from line) → 72 < columns (take (n + 1) (drop from line))) → ((b : ℕ) → width b ≤ 4) → n ≤ length (drop from line) → at < from + n
reaches line from at n le before inside most narrow within = elim (cases_lt at (from + n)) [
  | inl e ↦ e
  | inr e ↦
      let rest = drop from line in
      let long : length rest ≡ length line - from = length-drop from line in
      let wide = most (omega (arith, long)) in
      let place : at - from < length rest = omega (arith, long) in
      let next : columns (take (at - from + 1) rest) ≡ columns (take (at - from) rest) + width (get_or rest (at - from) 0) = sum_by_more width rest (at - from) 0 place in
      let few = columns-le rest (n + 1) (at - from + 1) (omega arith) in
      let four = narrow (get_or rest (at - from) 0) in
      absurd (omega (arith, wide, next, few, four, before))
]

-- behind the last piece they go to the end
pub reaches_end : (line : List ℕ) (from at n : ℕ) → from ≤ at → columns (take (at - from) (drop from line)) ≤ 36 → at ≡ length line
    → (n < length (drop from line) → 72 < columns (take (n + 1) (drop from line))) → n ≤ length (drop from line) → from + n ≡ at
reaches_end line from at n le before end most within = elim (cases_lt n (length (drop from line))) [
  | inl less ↦
      let rest = drop from line in
      let long : length rest ≡ length line - from = length-drop from line in
      let few = columns-le rest (n + 1) (at - from) (omega (arith, long)) in
      absurd (omega (arith, most less, few, before))
  | inr all ↦ omega (arith, length-drop from line)
]

escaped-few : (b : ℕ) → length (escaped b) ≤ 4
escaped-few b = elim (cases_Bool (b == 9)) [
  | inl e ↦ rw e (omega arith)
  | inr e ↦ rw e (elim (cases_Bool (b == 13)) [
    | inl f ↦ rw f (omega arith)
    | inr f ↦ rw f (elim (cases_Bool (b == 92)) [ inl g ↦ rw g (omega arith) | inr g ↦ rw g (omega arith) ])
  ])
]

pub width-few : (b : ℕ) → width b ≤ 4
width-few b = elim (cases_Bool (is_plain b)) [
  | inl e ↦ rw e (omega arith)
  | inr e ↦ rw e (escaped-few b)
]

-- the front of a line up to a place, from another on
pub front-few : (line : List ℕ) (from at : ℕ) → from ≤ at → columns (drop from (take at line)) ≤ 36 → columns (take (at - from) (drop from line)) ≤ 36
front-few line from at le few = subst (λ (l : List ℕ). columns l ≤ 36) (front_from line from at le) few

-- the bytes that fit round a place, in a line that does not fit whole
pub is-window : (line : List ℕ) (at from n : ℕ) → at ≤ length line → from ≤ at → columns (drop from (take at line)) ≤ 36 → n ≤ length (drop from line) → columns (take n (drop from line)) ≤ 72
    → (n < length (drop from line) → 72 < columns (take (n + 1) (drop from line))) → 72 < columns line → IsWindow line at (record { from = from; to = from + n })
is-window line at from n inside le before within fits most wide =
    let few = front-few line from at le before in
    let long : length (drop from line) ≡ length line - from = length-drop from line in
    let size : from + n - from ≡ n = omega arith in
    let piece : at < length line → at < from + n = λ less. reaches line from at n le few less most width-few within in
    record {
      before = le;
      behind = elim (cases_lt at (length line)) [
        | inl less ↦ omega (arith, piece less)
        | inr end ↦ omega (arith, reaches_end line from at n le few (omega arith) most within)
      ];
      within = omega (arith, long);
      piece = piece;
      few = subst (λ (k : ℕ). columns (take k (drop from line)) ≤ 72) (sym size) fits;
      whole = λ all. absurd (omega arith);
    }

pub whole-window : (line : List ℕ) (at : ℕ) → at ≤ length line → columns line ≤ 72 → IsWindow line at (record { from = 0; to = length line })
whole-window line at inside few = record {
  before = omega arith;
  behind = inside;
  within = omega arith;
  piece = λ less. less;
  few = subst (λ (l : List ℕ). columns l ≤ 72) (sym (take_all (length line - 0) line (omega arith))) few;
  whole = λ _. (refl, refl);
}

-- it does not fit whole
pub too_wide : (line : List ℕ) (n : ℕ) → n < length line → (n < length line → 72 < columns (take (n + 1) line)) → 72 < columns line
too_wide line n less most = omega (arith, most less, sum_by-take-le width line (n + 1))

-- One more pair of digits.
use Rattle.std.proofs.lemmas.List.{drop_more, take_more_set}
use Rattle.std.proofs.Common.{◌≡◌, ℕ, ◌+◌, ◌*◌, ◌%◌, ◌<◌, List, [], ◌∷◌, ◌++◌, length, get_or, take, drop, set, refl, sym, ◌∙◌, ap, append_assoc, arith}
use Rattle.std.specs.Prelude.{Option, Some, None}
use Rattle.pcm_line.specs.Reading.{hex_value}
use Rattle.pcm_line.specs.Hex.{or_sixteen, digit_or_sixteen, pair_then, pairs_in_front}

values : (x y : Option ℕ) (here : List ℕ) (more : List ℕ × List ℕ) → or_sixteen x < 16 → or_sixteen y < 16
    → pair_then x y here more ≡ ((16 * or_sixteen x + or_sixteen y) ∷ more.0, more.1)
values None y here more hx hy = absurd (omega (arith, hx))
values (Some high) None here more hx hy = absurd (omega (arith, hy))
values (Some high) (Some low) here more hx hy = refl

pair : (a b : ℕ) (rest : List ℕ) → digit_or_sixteen a < 16 → digit_or_sixteen b < 16
    → pairs_in_front (a ∷ b ∷ rest) ≡ ((16 * digit_or_sixteen a + digit_or_sixteen b) ∷ (pairs_in_front rest).0, (pairs_in_front rest).1)
pair a b rest ha hb = values (hex_value a) (hex_value b) (a ∷ b ∷ rest) (pairs_in_front rest) ha hb

-- what was read, before what is left
abbrev pub onto : List ℕ → List ℕ × List ℕ → List ℕ × List ℕ
onto front left = (front ++ left.0, left.1)

cut : (text : List ℕ) (i : ℕ) → 2 * i + 1 < length text → drop (2 * i) text ≡ get_or text (2 * i) 0 ∷ get_or text (2 * i + 1) 0 ∷ drop (2 * (i + 1)) text
cut text i lt =
    let one : drop (2 * i) text ≡ get_or text (2 * i) 0 ∷ drop (2 * i + 1) text = drop_more text (2 * i) 0 (omega (arith, lt)) in
    let two : drop (2 * i + 1) text ≡ get_or text (2 * i + 1) 0 ∷ drop (2 * i + 1 + 1) text = drop_more text (2 * i + 1) 0 lt in
    let same : 2 * i + 1 + 1 ≡ 2 * (i + 1) = omega arith in
    one ∙ ap (λ t. get_or text (2 * i) 0 ∷ t) two ∙ ap (λ n. get_or text (2 * i) 0 ∷ get_or text (2 * i + 1) 0 ∷ drop n text) same

pub one_more : (text area : List ℕ) (i high low : ℕ) → 2 * i + 1 < length text → i < length area
    → high ≡ digit_or_sixteen (get_or text (2 * i) 0) → low ≡ digit_or_sixteen (get_or text (2 * i + 1) 0) → high < 16 → low < 16
    → onto (take i area) (pairs_in_front (drop (2 * i) text)) ≡ pairs_in_front text
    → onto (take (i + 1) (set area i ((high * 16 % 256 + low) % 256))) (pairs_in_front (drop (2 * (i + 1)) text)) ≡ pairs_in_front text
one_more text area i high low lt room h l hh hl before =
    let byte : (high * 16 % 256 + low) % 256 ≡ 16 * high + low = omega (arith, hh, hl) in
    let left = pairs_in_front (drop (2 * (i + 1)) text) in
    let ha : digit_or_sixteen (get_or text (2 * i) 0) < 16 = rw (← h) hh in
    let hb : digit_or_sixteen (get_or text (2 * i + 1) 0) < 16 = rw (← l) hl in
    let front : pairs_in_front (drop (2 * i) text) ≡ ((16 * high + low) ∷ left.0, left.1)
    = ap (λ t. pairs_in_front t) (cut text i lt) ∙ pair (get_or text (2 * i) 0) (get_or text (2 * i + 1) 0) (drop (2 * (i + 1)) text) ha hb ∙ rw (h, l) refl in
    let store : take (i + 1) (set area i ((high * 16 % 256 + low) % 256)) ≡ take i area ++ (16 * high + low) ∷ []
    = take_more_set area i ((high * 16 % 256 + low) % 256) room ∙ ap (λ x. take i area ++ x ∷ []) byte in
    let joined : (take i area ++ (16 * high + low) ∷ []) ++ left.0 ≡ take i area ++ (16 * high + low) ∷ left.0 = append_assoc (take i area) ((16 * high + low) ∷ []) left.0 in
    ap (λ t. onto t left) store ∙ ap (λ t. (t, left.1)) joined ∙ ap (λ p. onto (take i area) p) (sym front) ∙ before

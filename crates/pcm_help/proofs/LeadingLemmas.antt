-- The number that a line begins with is the one that was printed there.
use Rattle.std.proofs.Common.{◌≡◌, ◌&&◌, ℕ, ◌+◌, ◌*◌, ◌-◌, ◌^◌, ◌≤◌, ◌<◌, min, List, [], ◌∷◌, ◌++◌, Bool, true, refl, sym, ◌∙◌, ap, arith, cond, rules}
use Rattle.std.specs.Char.{is_ascii_digit}
use Rattle.std.specs.Fmt.{decimal}
use Rattle.std.specs.Str.{all_ascii_digits}
use Rattle.std.proofs.lemmas.Bool.{and_parts}
use Rattle.std.proofs.lemmas.Fmt.{digits_decimal, digits_value-decimal}
use Rattle.std.proofs.lemmas.Str.Parse.{IsNumeralModel, numerals_by_fold}
use Rattle.pcm_help.specs.Answered.{leading, leading_on, with_digit}

-- the value of digits behind a value
abbrev value_on : ℕ → List ℕ → ℕ
value_on v [] = v
value_on v (b ∷ bytes) = value_on (10 * v + (b - 48)) bytes

own : IsNumeralModel (λ ds. all_ascii_digits ds ≡ true) (value_on 0)
own = numerals_by_fold _ (search rules) value_on (search rules)

grows : (v : ℕ) (ds : List ℕ) → v ≤ value_on v ds
grows v [] = omega arith
grows v (b ∷ ds) = omega (arith, grows (10 * v + (b - 48)) ds)

one_more : (v b : ℕ) → 10 * v + (b - 48) < 2 ^ 64 → with_digit v b ≡ 10 * v + (b - 48)
one_more v b less = omega arith

along : (v : ℕ) (ds rest : List ℕ) → all_ascii_digits ds ≡ true → value_on v ds < 2 ^ 64 → leading_on v (ds ++ 32 ∷ rest) ≡ value_on v ds
along v [] rest all less = refl
along v (b ∷ ds) rest all less =
    let both = and_parts (is_ascii_digit b) (all_ascii_digits ds) all in
    let next = one_more v b (omega (arith, grows (10 * v + (b - 48)) ds, less)) in
    ap (λ (t : Bool). cond t (leading_on (with_digit v b) (ds ++ 32 ∷ rest)) v) both.0
    ∙ ap (λ (n : ℕ). leading_on n (ds ++ 32 ∷ rest)) next ∙ along (10 * v + (b - 48)) ds rest both.1 less

pub leading-decimal : (n : ℕ) (rest : List ℕ) → n < 2 ^ 64 → leading (decimal n ++ 32 ∷ rest) ≡ n
leading-decimal n rest less =
    let same = digits_value-decimal own n less in
    along 0 (decimal n) rest (digits_decimal own n less) (omega (arith, same, less)) ∙ same

-- Numbers: the one spelling is read, and what is read has it.
use Rattle.std.specs.Prelude.{◌==◌, ◌&&◌, ◌||◌, not, nat_le, nat_lt, Option, Some, None}
use Rattle.std.specs.Fmt.{decimal}
use Rattle.std.specs.Str.{all_ascii_digits}
use Rattle.std.proofs.lemmas.Bool.{and_parts, eqb-true, eq-eqb, ltb-true, lt-ltb, leb-true, le-leb, cases_lt}
use Rattle.std.proofs.lemmas.Fmt.{decimal_nonempty, length-decimal-le, digits_decimal, digits_value-decimal, first_decimal, decimal-digits_value, decimal_digit}
use Rattle.std.proofs.lemmas.Str.Parse.{IsNumeralModel, numerals_by_fold}
use Rattle.std.proofs.Common.{◌≡◌, Bool, true, false, cond, ℕ, ◌^◌, ◌<◌, List, [], ◌∷◌, length, get_or, refl, sym, ap, arith, rules, inl, inr}
use Rattle.pcm_base.specs.Name.{option_if}
use Rattle.pcm_line.specs.Reading.{digits_value_on, is_numeral, number_of, below_sixteen, numbered}

pub own : IsNumeralModel (λ ds. all_ascii_digits ds ≡ true) (digits_value_on 0)
own = numerals_by_fold _ (search rules) digits_value_on (search rules)

pub some_if : {A : Type 0} (b : Bool) (x v : A) → option_if b x ≡ Some v → (b ≡ true) × (x ≡ v)
some_if true x v e = (refl, cc)
some_if false x v e = absurd cc

lead : (x y : Bool) → (not x || y) ≡ true → x ≡ true → y ≡ true
lead true y e f = e
lead false y e f = absurd cc

or_left : (x y : Bool) → x ≡ false → (not x || y) ≡ true
or_left x y e = rw e refl

or_right : (x y : Bool) → y ≡ true → (not x || y) ≡ true
or_right true y e = e
or_right false y e = refl

no_eq : (a b : ℕ) (t : Bool) → (a == b) ≡ t → (a ≡ b → ⊥) → t ≡ false
no_eq a b true e never = absurd (never (eqb-true a b e))
no_eq a b false e never = refl

nonempty : (p : List ℕ) → nat_le 1 (length p) ≡ true → 0 < length p
nonempty p e = omega (arith, leb-true 1 (length p) e)

pub number-is : (p : List ℕ) (v : ℕ) → number_of p ≡ Some v → (v < 2 ^ 63) × (p ≡ decimal v)
number-is p v e =
    let s = some_if (is_numeral p && nat_lt (digits_value_on 0 p) 9223372036854775808) (digits_value_on 0 p) v e in
    let both = and_parts (is_numeral p) (nat_lt (digits_value_on 0 p) 9223372036854775808) s.0 in
    let a = and_parts (nat_le 1 (length p)) (nat_le (length p) 19 && (all_ascii_digits p && (not (get_or p 0 0 == 48) || length p == 1))) both.0 in
    let b = and_parts (nat_le (length p) 19) (all_ascii_digits p && (not (get_or p 0 0 == 48) || length p == 1)) a.1 in
    let d = and_parts (all_ascii_digits p) (not (get_or p 0 0 == 48) || length p == 1) b.1 in
    let below : digits_value_on 0 p < 2 ^ 63 = ltb-true _ _ both.1 in
    let some : 0 < length p = nonempty p a.0 in
    let one : get_or p 0 0 ≡ 48 → length p ≡ 1 = λ h. eqb-true _ _ (lead (get_or p 0 0 == 48) (length p == 1) d.1 (eq-eqb _ _ h)) in
    let same : decimal (digits_value_on 0 p) ≡ p = decimal-digits_value own p d.0 some one (omega arith) in
    (rw (← s.1) below, rw (← s.1) (sym same))

first-digit : (n : ℕ) → n < 2 ^ 64 → get_or (decimal n) 0 0 ≡ 48 → n ≡ 0
first-digit n lt e = elim (cases_lt 0 n) [
  | inl p ↦ absurd (omega (arith, first_decimal n p lt))
  | inr q ↦ omega arith
]

zero-digit : (n : ℕ) → n ≡ 0 → length (decimal n) ≡ 1
zero-digit n e = rw (e, decimal_digit 0 (omega arith)) refl

first-ok : (n : ℕ) (t : Bool) → n < 2 ^ 64 → (get_or (decimal n) 0 0 == 48) ≡ t → (not (get_or (decimal n) 0 0 == 48) || length (decimal n) == 1) ≡ true
first-ok n true lt e = or_right (get_or (decimal n) 0 0 == 48) (length (decimal n) == 1) (eq-eqb _ _ (zero-digit n (first-digit n lt (eqb-true _ _ e))))
first-ok n false lt e = or_left (get_or (decimal n) 0 0 == 48) (length (decimal n) == 1) e

pub digits-of : (n : ℕ) → n < 2 ^ 63 → all_ascii_digits (decimal n) ≡ true
digits-of n lt = digits_decimal own n (omega arith)

pub number-again : (n : ℕ) → n < 2 ^ 63 → number_of (decimal n) ≡ Some n
number-again n lt =
    let wide : n < 2 ^ 64 = omega arith in
    let some : nat_le 1 (length (decimal n)) ≡ true = le-leb 1 (length (decimal n)) (omega (arith, decimal_nonempty n wide)) in
    let short : nat_le (length (decimal n)) 19 ≡ true = le-leb (length (decimal n)) 19 (length-decimal-le 19 n (omega arith) (omega arith) wide) in
    let first = first-ok n (get_or (decimal n) 0 0 == 48) wide refl in
    let value : digits_value_on 0 (decimal n) ≡ n = digits_value-decimal own n wide in
    let below : nat_lt n 9223372036854775808 ≡ true = lt-ltb _ _ lt in
    let numeral : is_numeral (decimal n) ≡ true = rw (some, short, digits-of n lt, first) refl in
    rw (numeral, value, below) refl

pub numbered-again : (letter n : ℕ) → n < 16 → numbered letter (letter ∷ decimal n) ≡ Some n
numbered-again letter n lt =
    let same : (letter == letter) ≡ true = eq-eqb letter letter refl in
    let below : nat_lt n 16 ≡ true = lt-ltb _ _ lt in
    rw (same, number-again n (omega arith), below) refl

below-is : (o : Option ℕ) (v : ℕ) → below_sixteen o ≡ Some v → (v < 16) × (o ≡ Some v)
below-is None v e = absurd cc
below-is (Some n) v e =
    let s = some_if (nat_lt n 16) n v e in
    let lt : n < 16 = ltb-true _ _ s.0 in
    (rw (← s.1) lt, ap (λ (x : ℕ). Some x) s.1)

numbered-head : (letter b v : ℕ) (digits : List ℕ) (t : Bool) → (b == letter) ≡ t → cond t (below_sixteen (number_of digits)) None ≡ Some v → (v < 16) × (b ∷ digits ≡ letter ∷ decimal v)
numbered-head letter b v digits true e f =
    let s = below-is (number_of digits) v f in
    let d = number-is digits v s.1 in
    (s.0, rw (eqb-true b letter e, d.1) refl)
numbered-head letter b v digits false e f = absurd cc

pub numbered-is : (letter v : ℕ) (p : List ℕ) → numbered letter p ≡ Some v → (v < 16) × (p ≡ letter ∷ decimal v)
numbered-is letter v [] e = absurd cc
numbered-is letter v (b ∷ digits) e = numbered-head letter b v digits (b == letter) refl e

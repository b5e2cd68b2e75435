-- Hex: the one spelling is read, and what is read has it.
use Rattle.std.specs.Prelude.{◌==◌, ◌&&◌, nat_le, nat_lt, Option, Some, None}
use Rattle.std.specs.List.{AllByRecursion}
use Rattle.std.proofs.lemmas.Bool.{and_parts, eqb-true, ltb-true, ltb-false, lt-ltb, le-ltb, leb-true, le-leb, lt-leb}
use Rattle.std.proofs.Common.{◌≡◌, Bool, true, false, cond, ℕ, ◌+◌, ◌-◌, ◌*◌, ◌/◌, ◌%◌, ◌<◌, ◌≤◌, List, [], ◌∷◌, length, refl, arith}
use Rattle.pcm_line.specs.Kinds.{hex_digit, hex_pairs, hex_text}
use Rattle.pcm_line.specs.Reading.{hex_value, hex_pair, hex_of, hex_bytes}
use Rattle.pcm_line.proofs.Cutting.{no_space}

no-eq-if : (a b : ℕ) (t : Bool) → (a == b) ≡ t → (a ≡ b → ⊥) → t ≡ false
no-eq-if a b true e never = absurd (never (eqb-true a b e))
no-eq-if a b false e never = refl

no-eq : (a b : ℕ) → (a ≡ b → ⊥) → (a == b) ≡ false
no-eq a b never = no-eq-if a b (a == b) refl never

no-cons : (b : ℕ) (p : List ℕ) → b ∷ p ≡ [] → ⊥
no-cons b p e = cc

empty : (p : List ℕ) → length p ≡ 0 → p ≡ []
empty [] e = refl
empty (b ∷ p) e = absurd (omega arith)

digit-again-if : (n : ℕ) (t : Bool) → nat_lt n 10 ≡ t → n < 16 → (hex_value (hex_digit n) ≡ Some n) × ((hex_digit n == 32) ≡ false) × ((hex_digit n == 45) ≡ false)
digit-again-if n true e lt =
    let small : n < 10 = ltb-true n 10 e in
    let a : nat_le 48 (48 + n) ≡ true = le-leb _ _ (omega arith) in
    let b : nat_le (48 + n) 57 ≡ true = le-leb _ _ (omega arith) in
    let c : 48 + n - 48 ≡ n = omega arith in
    let d : (48 + n == 32) ≡ false = no-eq (48 + n) 32 (omega arith) in
    let f : (48 + n == 45) ≡ false = no-eq (48 + n) 45 (omega arith) in
    rw (e, a, b, c, d, f) (refl, refl, refl)
digit-again-if n false e lt =
    let big : 10 ≤ n = ltb-false n 10 e in
    let a : nat_le (87 + n) 57 ≡ false = lt-leb _ _ (omega arith) in
    let b : nat_le 97 (87 + n) ≡ true = le-leb _ _ (omega arith) in
    let b2 : nat_le (87 + n) 102 ≡ true = le-leb _ _ (omega arith) in
    let b3 : nat_le 48 (87 + n) ≡ true = le-leb _ _ (omega arith) in
    let c : 87 + n - 87 ≡ n = omega arith in
    let d : (87 + n == 32) ≡ false = no-eq (87 + n) 32 (omega arith) in
    let f : (87 + n == 45) ≡ false = no-eq (87 + n) 45 (omega arith) in
    rw (e, b3, a, b, b2, c, d, f) (refl, refl, refl)

digit-again : (n : ℕ) → n < 16 → (hex_value (hex_digit n) ≡ Some n) × ((hex_digit n == 32) ≡ false) × ((hex_digit n == 45) ≡ false)
digit-again n lt = digit-again-if n (nat_lt n 10) refl lt

pairs-again : (bytes : List ℕ) → AllByRecursion (λ b. b < 256) bytes → (hex_of (hex_pairs bytes) ≡ Some bytes) × (no_space (hex_pairs bytes) ≡ true)
pairs-again [] fit = (refl, refl)
pairs-again (b ∷ bytes) fit =
    let high = digit-again (b / 16) (omega (arith, fit.0)) in
    let low = digit-again (b % 16) (omega arith) in
    let rest = pairs-again bytes fit.1 in
    let whole : 16 * (b / 16) + b % 16 ≡ b = omega arith in
    (rw (high.0, low.0, rest.0, whole) refl, rw (high.1, low.1, rest.1) refl)

pub hex-again : (bytes : List ℕ) → AllByRecursion (λ b. b < 256) bytes → (hex_bytes (hex_text bytes) ≡ Some bytes) × (no_space (hex_text bytes) ≡ true)
hex-again [] fit = (refl, refl)
hex-again (b ∷ bytes) fit =
    let p = pairs-again (b ∷ bytes) fit in
    let high = digit-again (b / 16) (omega (arith, fit.0)) in
    (rw high.2 p.0, p.1)

value-is-if : (a h : ℕ) (s t : Bool) → (nat_le 48 a && nat_le a 57) ≡ s → (nat_le 97 a && nat_le a 102) ≡ t → cond s (Some (a - 48)) (cond t (Some (a - 87)) None) ≡ Some h → (h < 16) × (a ≡ hex_digit h)
value-is-if a h true t e f g =
    let p = and_parts (nat_le 48 a) (nat_le a 57) e in
    let low : 48 ≤ a = leb-true 48 a p.0 in
    let high : a ≤ 57 = leb-true a 57 p.1 in
    let is : a - 48 ≡ h = cc in
    let small : nat_lt h 10 ≡ true = lt-ltb h 10 (omega arith) in
    (omega arith, rw small (omega arith))
value-is-if a h false true e f g =
    let p = and_parts (nat_le 97 a) (nat_le a 102) f in
    let low : 97 ≤ a = leb-true 97 a p.0 in
    let high : a ≤ 102 = leb-true a 102 p.1 in
    let is : a - 87 ≡ h = cc in
    let big : nat_lt h 10 ≡ false = le-ltb h 10 (omega arith) in
    (omega arith, rw big (omega arith))
value-is-if a h false false e f g = absurd cc

value-is : (a h : ℕ) → hex_value a ≡ Some h → (h < 16) × (a ≡ hex_digit h)
value-is a h e = value-is-if a h (nat_le 48 a && nat_le a 57) (nat_le 97 a && nat_le a 102) refl refl e

pub record IsPairs (p bytes : List ℕ) : Type 0 where
  pub fit : AllByRecursion (λ b. b < 256) bytes
  pub is : p ≡ hex_pairs bytes

pair-is : (a b : ℕ) (rest : List ℕ) (x y : Option ℕ) (r : Option (List ℕ)) (bytes : List ℕ) → hex_value a ≡ x → hex_value b ≡ y
    → ((bs : List ℕ) → r ≡ Some bs → IsPairs rest bs) → hex_pair x y r ≡ Some bytes → IsPairs (a ∷ b ∷ rest) bytes
pair-is a b rest (Some h) (Some l) (Some bs) bytes ha hb ih e =
    let i = ih bs refl in
    let va = value-is a h ha in
    let vb = value-is b l hb in
    let is : ((16 * h + l) ∷ bs) ≡ bytes = cc in
    let d : (16 * h + l) / 16 ≡ h = omega (arith, vb.0) in
    let m : (16 * h + l) % 16 ≡ l = omega (arith, vb.0) in
    rw (← is) (record { fit = (omega (arith, va.0, vb.0), i.fit); is = rw (d, m, ← va.1, ← vb.1, ← i.is) refl })
pair-is a b rest None y r bytes ha hb ih e = absurd cc
pair-is a b rest (Some h) None r bytes ha hb ih e = absurd cc
pair-is a b rest (Some h) (Some l) None bytes ha hb ih e = absurd cc

pairs-is : (p bytes : List ℕ) → hex_of p ≡ Some bytes → IsPairs p bytes
pairs-is [] bytes e =
    let is : [] ≡ bytes = cc in
    rw (← is) (record { fit = tt; is = refl })
pairs-is (a ∷ []) bytes e = absurd cc
pairs-is (a ∷ b ∷ rest) bytes e = pair-is a b rest (hex_value a) (hex_value b) (hex_of rest) bytes refl refl (λ bs f. pairs-is rest bs f) e

word-of-pairs : (b : ℕ) (p bytes : List ℕ) → IsPairs (b ∷ p) bytes → AllByRecursion (λ b. b < 256) bytes × (b ∷ p ≡ hex_text bytes)
word-of-pairs b p [] i = absurd (no-cons b p i.is)
word-of-pairs b p (c ∷ bytes) i = (i.fit, i.is)

hex-is-if : (b : ℕ) (p bytes : List ℕ) (s t : Bool) → (b == 45) ≡ s → (length p == 0) ≡ t → cond (s && t) (Some []) (hex_of (b ∷ p)) ≡ Some bytes → AllByRecursion (λ b. b < 256) bytes × (b ∷ p ≡ hex_text bytes)
hex-is-if b p bytes true true e f g =
    let is : [] ≡ bytes = cc in
    let none : p ≡ [] = empty p (eqb-true _ _ f) in
    rw (← is, none, eqb-true b 45 e) (tt, refl)
hex-is-if b p bytes true false e f g = word-of-pairs b p bytes (pairs-is (b ∷ p) bytes g)
hex-is-if b p bytes false t e f g = word-of-pairs b p bytes (pairs-is (b ∷ p) bytes g)

pub hex-is : (p bytes : List ℕ) → hex_bytes p ≡ Some bytes → AllByRecursion (λ b. b < 256) bytes × (p ≡ hex_text bytes)
hex-is [] bytes e = absurd cc
hex-is (b ∷ p) bytes e = hex-is-if b p bytes (b == 45) (length p == 0) refl refl e

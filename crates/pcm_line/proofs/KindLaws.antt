-- For each kind: the one spelling is read, has no space, and what is read has it.
use Rattle.std.specs.Prelude.{◌==◌, ◌&&◌, not, nat_le, Option, Some, None}
use Rattle.std.specs.List.{list_all}
use Rattle.std.specs.Fmt.{decimal}
use Rattle.std.specs.Str.{all_ascii_digits}
use Rattle.std.specs.Char.{is_ascii_digit}
use Rattle.std.specs.Option.{option_map}
use Rattle.std.proofs.lemmas.Bool.{and_parts, eqb-true}
use Rattle.std.proofs.Common.{◌≡◌, Bool, true, false, ℕ, List, [], ◌∷◌, length, get_or, refl, arith}
use Rattle.pcm_base.specs.Name.{is_name, is_name_byte_of}
use Rattle.pcm_line.specs.Kinds.{Kind, OfNumber, OfClient, OfSub, OfMode, OfDir, OfModel, OfAccess, OfFormat, OfHex, OfName, Value, spelled, Fits, mode_text, dir_text, model_text, access_text, format_text}
use Rattle.pcm_line.specs.Tables.{modes, dirs, models, accesses, formats}
use Rattle.pcm_line.specs.Reading.{numbered, value_of}
use Rattle.pcm_line.proofs.Cutting.{no_space}
use Rattle.pcm_line.proofs.Numbers.{some_if, number-is, number-again, numbered-is, numbered-again, digits-of}
use Rattle.pcm_line.proofs.WordTables.{entry_for-is, mode-again, dir-again, model-again, access-again, format-again}
use Rattle.pcm_line.proofs.HexValues.{hex-again, hex-is}

digit-no_space : (c : ℕ) (t : Bool) → (c == 32) ≡ t → is_ascii_digit c ≡ true → t ≡ false
digit-no_space c true e d =
    let is : c ≡ 32 = eqb-true c 32 e in
    let fails : is_ascii_digit c ≡ false = rw is refl in
    absurd cc
digit-no_space c false e d = refl

digits-no_space : (p : List ℕ) → all_ascii_digits p ≡ true → no_space p ≡ true
digits-no_space [] e = refl
digits-no_space (c ∷ cs) e =
    let a = and_parts (is_ascii_digit c) (all_ascii_digits cs) e in
    rw (digit-no_space c (c == 32) refl a.0, digits-no_space cs a.1) refl

name-byte : (c : ℕ) (t : Bool) → (c == 32) ≡ t → is_name_byte_of c ≡ true → t ≡ false
name-byte c true e d =
    let is : c ≡ 32 = eqb-true c 32 e in
    let fails : is_name_byte_of c ≡ false = rw is refl in
    absurd cc
name-byte c false e d = refl

name-bytes : (p : List ℕ) → list_all is_name_byte_of p ≡ true → no_space p ≡ true
name-bytes [] e = refl
name-bytes (c ∷ cs) e =
    let a = and_parts (is_name_byte_of c) (list_all is_name_byte_of cs) e in
    rw (name-byte c (c == 32) refl a.0, name-bytes cs a.1) refl

name-no_space : (p : List ℕ) → is_name p ≡ true → no_space p ≡ true
name-no_space p e =
    let a = and_parts (nat_le 1 (length p)) (nat_le (length p) 64 && (not (get_or p 0 0 == 46) && list_all is_name_byte_of p)) e in
    let b = and_parts (nat_le (length p) 64) (not (get_or p 0 0 == 46) && list_all is_name_byte_of p) a.1 in
    let c = and_parts (not (get_or p 0 0 == 46)) (list_all is_name_byte_of p) b.1 in
    name-bytes p c.1

pub again : (k : Kind) (v : Value k) → Fits k v → (value_of k (spelled k v) ≡ Some v) × (no_space (spelled k v) ≡ true)
again OfNumber n fit = (number-again n fit, digits-no_space (decimal n) (digits-of n fit))
again OfClient c fit = (rw (numbered-again 99 c.0 fit) refl, rw (digits-no_space (decimal c.0) (digits-of c.0 (omega (arith, fit)))) refl)
again OfSub s fit = (rw (numbered-again 115 s.0 fit) refl, rw (digits-no_space (decimal s.0) (digits-of s.0 (omega (arith, fit)))) refl)
again OfMode m fit = mode-again m
again OfDir d fit = dir-again d
again OfModel m fit = model-again m
again OfAccess a fit = access-again a
again OfFormat f fit = format-again f
again OfHex bytes fit = hex-again bytes fit
again OfName p fit = (rw fit refl, name-no_space p fit)

mapped : {A : Type 0} (f : ℕ → A) (o : Option ℕ) (v : A) → option_map f o ≡ Some v → (n : ℕ) × (o ≡ Some n) × (f n ≡ v)
mapped f None v e = absurd cc
mapped f (Some n) v e = (n, refl, cc)

pub is-spelled : (k : Kind) (p : List ℕ) (v : Value k) → value_of k p ≡ Some v → Fits k v × (p ≡ spelled k v)
is-spelled OfNumber p v e = number-is p v e
is-spelled OfClient p v e =
    let m = mapped (λ n. record { 0 = n }) (numbered 99 p) v e in
    let s = numbered-is 99 m.0 p m.1 in
    rw (← m.2) s
is-spelled OfSub p v e =
    let m = mapped (λ n. record { 0 = n }) (numbered 115 p) v e in
    let s = numbered-is 115 m.0 p m.1 in
    rw (← m.2) s
is-spelled OfMode p v e = (tt, entry_for-is mode_text p v modes (refl, (refl, tt)) e)
is-spelled OfDir p v e = (tt, entry_for-is dir_text p v dirs (refl, (refl, tt)) e)
is-spelled OfModel p v e = (tt, entry_for-is model_text p v models (refl, (refl, (refl, (refl, (refl, (refl, tt)))))) e)
is-spelled OfAccess p v e = (tt, entry_for-is access_text p v accesses (refl, (refl, (refl, (refl, tt)))) e)
is-spelled OfFormat p v e = (tt, entry_for-is format_text p v formats (refl, (refl, (refl, (refl, (refl, (refl, (refl, (refl, tt)))))))) e)
is-spelled OfHex p v e = hex-is p v e
is-spelled OfName p v e =
    let s = some_if (is_name p) p v e in
    rw (← s.1) (s.0, refl)

-- ---- first words

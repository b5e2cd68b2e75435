-- Line feeds among bytes, and where lines begin.
use Rattle.std.proofs.Common.{◌≡◌, ◌==◌, ℕ, zero, suc, ◌+◌, ◌-◌, ◌≤◌, ◌<◌, List, [], ◌∷◌, ◌++◌, length, take, drop, get_or, Bool, true, refl, sym, ◌∙◌, ap, subst, arith, inl, inr, add-one, zero-add, cond, nat_eq, Some, None}
use Rattle.std.specs.declared.option.Option.{Option}
use Rattle.std.specs.Prelude.{MatchOption}
use Rattle.std.proofs.Math.Seq.{drop-cons}
use Rattle.std.proofs.lemmas.Bool.{eqb-true, cases_Bool}
use Rattle.std.proofs.lemmas.List.{take_all}
use Rattle.std.proofs.lemmas.List.Sums.{sum_by-append, sum_by-cons, count_by-le-length}
use Rattle.memchr.specs.Find.{IsFirstByte, is_byte}
use Rattle.pcm_help.specs.Lines.{begins_after, count_of, feeds_in, IsFirstAt}

pub begins_after-append : (b : Bool) (xs ys : List ℕ) → begins_after b (xs ++ ys) ≡ begins_after (begins_after b xs) ys
begins_after-append b [] ys = refl
begins_after-append b (x ∷ xs) ys = begins_after-append (x == 10) xs ys

pub feeds-append : (xs ys : List ℕ) → feeds_in (xs ++ ys) ≡ feeds_in xs + feeds_in ys
feeds-append xs ys = sum_by-append _ xs ys

pub feeds-le : (xs : List ℕ) → feeds_in xs ≤ length xs
feeds-le xs = count_by-le-length (λ b. b == 10) xs

-- a line begins behind a line feed
pub begins-feed : (b : Bool) (xs : List ℕ) → begins_after b (xs ++ 10 ∷ []) ≡ true
begins-feed b xs = begins_after-append b xs (10 ∷ [])

-- none of these bytes before a place where none stands
plain_front : (c : ℕ) (bytes : List ℕ) (n : ℕ) → n ≤ length bytes → ((k : ℕ) → k < n → is_byte c (get_or bytes k 0) ≡ true → ⊥) → count_of c (take n bytes) ≡ 0
plain_front c bytes zero le none = refl
plain_front c [] (suc n) le none = absurd (omega arith)
plain_front c (b ∷ bytes) (suc n) le none = elim (cases_Bool (b == c)) [
  | inl e ↦ absurd (none 0 (omega arith) e)
  | inr e ↦ sum_by-cons (λ x. cond (x == c) 1 0) b (take n bytes) ∙ ap (λ (t : Bool). cond t 1 0 + count_of c (take n bytes)) e ∙ zero-add (count_of c (take n bytes)) ∙ plain_front c bytes n (omega arith) (λ k less. none (suc k) (omega arith))
]

-- what stands before the first of these bytes, and from it on
pub first-found : (c : ℕ) (bytes : List ℕ) (r : Option ℕ) → IsFirstByte (is_byte c) bytes r → MatchOption r (count_of c bytes ≡ 0) (λ at. IsFirstAt c bytes at)
first-found c bytes None h =
    subst (λ (l : List ℕ). count_of c l ≡ 0) (take_all (length bytes) bytes (omega arith))
    (plain_front c bytes (length bytes) (omega arith) (λ k less e. h k (omega arith) less e))
first-found c bytes (Some at) h =
    let first = h.0 in
    let here : get_or bytes at 0 ≡ c = eqb-true (get_or bytes at 0) c h.1 in
    record {
      inside = first.high;
      plain = plain_front c bytes at (omega (arith, first.high)) (λ k less e. first.before k (omega arith) less e);
      here = drop-cons bytes at 0 first.high ∙ ap (λ (b : ℕ). b ∷ drop (suc at) bytes) here ∙ ap (λ (n : ℕ). c ∷ drop n bytes) (sym (add-one at));
    }

-- a line begins behind bytes whose last one is a line feed
pub begins-last : (b : Bool) (xs : List ℕ) → 1 ≤ length xs → nat_eq (get_or xs (length xs - 1) 0) 10 ≡ begins_after b xs
begins-last b [] le = absurd (omega arith)
begins-last b (x ∷ []) le = refl
begins-last b (x ∷ y ∷ ys) le =
    let e : length (x ∷ y ∷ ys) - 1 ≡ suc (length (y ∷ ys) - 1) = omega arith in
    rw e (begins-last (x == 10) (y ∷ ys) (omega arith))

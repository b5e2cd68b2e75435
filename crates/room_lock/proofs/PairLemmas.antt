-- Two recs of one room, which is cut at the place of the later one.
use Rattle.std.proofs.Common.{◌≡◌, ◌<◌, ℕ, zero, suc, List, [], ◌∷◌, ◌++◌, length, length-append, length-set, slice_get, slice_set, get_or, Some, refl, sym, ap, ◌∙◌, subst, arith}
use Rattle.std.proofs.lemmas.Option.{slice_get-get_or}
use Rattle.floor_rule.specs.Lists.{longest}
use Rattle.floor_rule.specs.declared.rule.Marked.{Marked}
use Rattle.room_parts.specs.Recs.{RecView}
use Rattle.room_lock.specs.Joined.{HoldsAt}
use Rattle.room_lock.proofs.RecLemmas.{get_set, some_one}

module _ {A : Type 0} where
  get_front : (xs ys : List A) (i : ℕ) → i < length xs → slice_get (xs ++ ys) i ≡ slice_get xs i
  get_front [] ys i lt = absurd (omega (arith, lt))
  get_front (x ∷ xs) ys zero lt = refl
  get_front (x ∷ xs) ys (suc i) lt = get_front xs ys i (omega (arith, lt))

  get_seam : (xs ys : List A) → slice_get (xs ++ ys) (length xs) ≡ slice_get ys 0
  get_seam [] ys = refl
  get_seam (x ∷ xs) ys = get_seam xs ys

  set_front : (xs ys : List A) (i : ℕ) (a : A) → i < length xs → slice_set (xs ++ ys) i a ≡ slice_set xs i a ++ ys
  set_front [] ys i a lt = absurd (omega (arith, lt))
  set_front (x ∷ xs) ys zero a lt = refl
  set_front (x ∷ xs) ys (suc i) a lt = ap (λ (l : List A). x ∷ l) (set_front xs ys i a (omega (arith, lt)))

  set_seam : (xs ys : List A) (a : A) → slice_set (xs ++ ys) (length xs) a ≡ xs ++ slice_set ys 0 a
  set_seam [] ys a = refl
  set_seam (x ∷ xs) ys a = ap (λ (l : List A). x ∷ l) (set_seam xs ys a)

  -- the one at a place of the front, and the one where the cut is
  pub front_at : (all xs ys : List A) (n i : ℕ) (d : A) → all ≡ xs ++ ys → length xs ≡ n → i < n → slice_get all i ≡ Some (get_or xs i d)
  front_at all xs ys n i d is size lt =
      let short : i < length xs = omega (arith, size, lt) in
      ap (λ (l : List A). slice_get l i) is ∙ get_front xs ys i short ∙ slice_get-get_or xs i d short

  pub seam_at : (all xs ys : List A) (n : ℕ) (d : A) → all ≡ xs ++ ys → length xs ≡ n → n < length all → slice_get all n ≡ Some (get_or ys 0 d)
  seam_at all xs ys n d is size lt =
      let sum = ap length is ∙ length-append xs ys in
      let some : 0 < length ys = omega (arith, size, lt, sum) in
      ap (λ (z : List A × ℕ). slice_get z.0 z.1) (λ k. (is k, sym size k)) ∙ get_seam xs ys ∙ slice_get-get_or ys 0 d some

  -- both are others
  pub front_then_seam : (all xs ys : List A) (n i : ℕ) (a b : A) → all ≡ xs ++ ys → length xs ≡ n → i < n → slice_set xs i a ++ slice_set ys 0 b ≡ slice_set (slice_set all i a) n b
  front_then_seam all xs ys n i a b is size lt =
      let short : i < length xs = omega (arith, size, lt) in
      let same : length (slice_set xs i a) ≡ n = length-set xs i a ∙ size in
      sym (set_seam (slice_set xs i a) ys b) ∙ ap (λ (z : List A × ℕ). slice_set z.0 z.1 b) (λ k. ((sym (set_front xs ys i a short) ∙ ap (λ (l : List A). slice_set l i a) (sym is)) k, same k))

  pub seam_then_front : (all xs ys : List A) (n i : ℕ) (a b : A) → all ≡ xs ++ ys → length xs ≡ n → i < n → slice_set xs i b ++ slice_set ys 0 a ≡ slice_set (slice_set all n a) i b
  seam_then_front all xs ys n i a b is size lt =
      let short : i < length xs = omega (arith, size, lt) in
      sym (set_front xs (slice_set ys 0 a) i b short) ∙ ap (λ (l : List A). slice_set l i b) (sym (set_seam xs ys a) ∙ ap (λ (z : List A × ℕ). slice_set z.0 z.1 a) (λ k. (sym is k, size k)))

-- the pass's list of a log is this log, where it was before
pub listed : (rs now : List RecView) (i : ℕ) (q t : RecView) (logs : List (ℕ × List Marked)) → now ≡ slice_set rs i t → i < length rs → t.knows.sub ≡ q.knows.sub → longest q.knows.sub logs ≡ t.knows.log → HoldsAt (λ x. longest x.knows.sub logs ≡ x.knows.log) i now
listed rs now i q t logs is lt sub list = λ x at.
    let same : t ≡ x = some_one t x (sym (ap (λ (l : List RecView). slice_get l i) is ∙ get_set rs i t lt) ∙ at) in
    subst (λ (y : RecView). longest y.knows.sub logs ≡ y.knows.log) same (ap (λ (n : ℕ). longest n logs) sub ∙ list)

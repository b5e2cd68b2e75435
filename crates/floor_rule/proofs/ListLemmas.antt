-- Beginnings of lists, the longest of several, and functions that change at one number.
use Rattle.std.proofs.Common.{◌≡◌, ◌≢◌, inl, inr, ℕ, zero, suc, ◌<◌, ◌≤◌, Bool, true, false, cond, eqb, leb, eq-eqb, ne_eqb, List, [], ◌∷◌, ◌++◌, length, Some, refl, sym, ap, ◌∙◌, subst, arith, length-append, append-nil, append_assoc}
use Rattle.std.specs.Prelude.{slice_get, nat_eq, if◌then◌else◌}
use Rattle.std.proofs.lemmas.Bool.Decides.{nat_tests}
use mathlib.Core.Logic.{dite}
use mathlib.Core.List.{IsPrefix}
use native.Mathlib.Decide.{ℕ_discrete}
use Rattle.floor_rule.specs.Lists.{AllBegin, AllOf, Agree, Stands, longer, longest}

module _ {A : Type 0} where
  -- f, but a at j
  abbrev pub upd : (ℕ → A) → ℕ → A → ℕ → A
  upd f j a i = cond (eqb i j) a (f i)

  pub upd_same : (f : ℕ → A) (j : ℕ) (a : A) (i : ℕ) → i ≡ j → upd f j a i ≡ a
  upd_same f j a i e = ap (λ b. cond b a (f i)) (eq-eqb i j e)

  pub upd_other : (f : ℕ → A) (j : ℕ) (a : A) (i : ℕ) → i ≢ j → upd f j a i ≡ f i
  upd_other f j a i ne = ap (λ b. cond b a (f i)) (ne_eqb i j ne)

module _ {A : Type 0} where
  pub prefix_refl : (xs : List A) → IsPrefix xs xs
  prefix_refl xs = ([], append-nil xs)

  pub prefix_trans : (xs ys zs : List A) → IsPrefix xs ys → IsPrefix ys zs → IsPrefix xs zs
  prefix_trans xs ys zs a b = (a.0 ++ b.0, sym (append_assoc xs a.0 b.0) ∙ ap (λ l. l ++ b.0) a.1 ∙ b.1)

  pub prefix_length : (xs ys : List A) → IsPrefix xs ys → length xs ≤ length ys
  prefix_length xs ys p = omega (arith, ap length p.1, length-append xs p.0)

  get_front : (xs r : List A) (k : ℕ) (a : A) → slice_get xs k ≡ Some a → slice_get (xs ++ r) k ≡ Some a
  get_front [] r k a h = absurd (cc)
  get_front (x ∷ xs) r zero a h = h
  get_front (x ∷ xs) r (suc k) a h = get_front xs r k a h

  pub prefix_get : (xs ys : List A) (k : ℕ) (a : A) → IsPrefix xs ys → slice_get xs k ≡ Some a → slice_get ys k ≡ Some a
  prefix_get xs ys k a p h = subst (λ l. slice_get l k ≡ Some a) p.1 (get_front xs p.0 k a h)

  pub get_below : (xs : List A) (k : ℕ) (a : A) → slice_get xs k ≡ Some a → k < length xs
  get_below [] k a h = absurd (cc)
  get_below (x ∷ xs) zero a h = omega arith
  get_below (x ∷ xs) (suc k) a h = omega (arith, get_below xs k a h)

  shorter : (xs r ys s : List A) → xs ++ r ≡ ys ++ s → length xs ≤ length ys → IsPrefix xs ys
  shorter [] r ys s e le = (ys, refl)
  shorter (x ∷ xs) r [] s e le = absurd (omega arith)
  shorter (x ∷ xs) r (y ∷ ys) s e le =
      let h : x ≡ y = cc in
      let t : xs ++ r ≡ ys ++ s = cc in
      let p = shorter xs r ys s t (omega arith) in
      (p.0, λ i. h i ∷ p.1 i)

  -- of two beginnings of one list the shorter begins the longer
  pub of_one : (xs ys h : List A) → IsPrefix xs h → IsPrefix ys h → length xs ≤ length ys → IsPrefix xs ys
  of_one xs ys h a b le = shorter xs a.0 ys b.0 (a.1 ∙ sym b.1) le

  -- functions whose lists grow
  abbrev pub Grows : (ℕ → List A) → (ℕ → List A) → Type 0
  Grows f g = (i : ℕ) → IsPrefix (f i) (g i)

  pub grows_same : (f : ℕ → List A) → Grows f f
  grows_same f i = prefix_refl (f i)

  pub grows_at : (f : ℕ → List A) (j : ℕ) (a : A) → Grows f (upd f j (f j ++ a ∷ []))
  grows_at f j a i =
      dite (ℕ_discrete i j)
      (λ e. (a ∷ [], ap (λ k. f k ++ a ∷ []) e ∙ sym (upd_same f j (f j ++ a ∷ []) i e)))
      (λ ne. ([], append-nil (f i) ∙ sym (upd_other f j (f j ++ a ∷ []) i ne)))

  pub begins_on : (f g : ℕ → List A) → Grows f g → (ps : List (ℕ × List A)) → AllBegin f ps → AllBegin g ps
  begins_on f g grow [] h = tt
  begins_on f g grow (p ∷ ps) h = (prefix_trans p.1 (f p.0) (g p.0) h.0 (grow p.0), begins_on f g grow ps h.1)

  pub begins_both : (f : ℕ → List A) (ps qs : List (ℕ × List A)) → AllBegin f ps → AllBegin f qs → AllBegin f (ps ++ qs)
  begins_both f [] qs a b = b
  begins_both f (p ∷ ps) qs a b = (a.0, begins_both f ps qs a.1 b)

  pub begins_of : (f : ℕ → List A) (j : ℕ) (ps : List (ℕ × List A)) → AllBegin f ps → AllOf j (λ l. IsPrefix l (f j)) ps
  begins_of f j [] h = tt
  begins_of f j (p ∷ ps) h = ((λ e. subst (λ k. IsPrefix p.1 (f k)) e h.0), begins_of f j ps h.1)

  -- what stands in a list that begins another stands there
  pub stands_in : (f : ℕ → List A) (ps : List (ℕ × List A)) (j i : ℕ) (a : A) → AllBegin f ps → Stands ps j i a → slice_get (f j) i ≡ Some a
  stands_in f [] j i a h s = absurd s
  stands_in f (p ∷ ps) j i a h (inl t) = subst (λ k. slice_get (f k) i ≡ Some a) t.0 (prefix_get p.1 (f p.0) i a h.0 t.1)
  stands_in f (p ∷ ps) j i a h (inr t) = stands_in f ps j i a h.1 t

  -- the longer of two

  pub longer_reaches : (xs ys : List A) → (length xs ≤ length (longer xs ys)) × (length ys ≤ length (longer xs ys))
  longer_reaches xs ys = by_test (leb (length xs) (length ys)) refl
    where
      by_test : (t : Bool) → leb (length xs) (length ys) ≡ t → (length xs ≤ length (if t then ys else xs)) × (length ys ≤ length (if t then ys else xs))
      by_test true e = (grind (arith, nat_tests), omega arith)
      by_test false e = (omega arith, grind (arith, nat_tests))

  longer_begins : (xs ys h : List A) → IsPrefix xs h → IsPrefix ys h → IsPrefix (longer xs ys) h
  longer_begins xs ys h a b = by_test (leb (length xs) (length ys))
    where
      by_test : (t : Bool) → IsPrefix (if t then ys else xs) h
      by_test true = b
      by_test false = a

  pub longest_begins : (f : ℕ → List A) (j : ℕ) (ps : List (ℕ × List A)) → AllBegin f ps → IsPrefix (longest j ps) (f j)
  longest_begins f j [] h = (f j, refl)
  longest_begins f j (p ∷ ps) h =
      dite (ℕ_discrete p.0 j)
      (λ e. subst (λ b. IsPrefix (if b then longer p.1 (longest j ps) else longest j ps) (f j)) (sym (eq-eqb p.0 j e))
      (longer_begins p.1 (longest j ps) (f j) (subst (λ k. IsPrefix p.1 (f k)) e h.0) (longest_begins f j ps h.1)))
      (λ ne. subst (λ b. IsPrefix (if b then longer p.1 (longest j ps) else longest j ps) (f j)) (sym (ne_eqb p.0 j ne)) (longest_begins f j ps h.1))

  longest_first : (p : ℕ × List A) (ps : List (ℕ × List A)) → length p.1 ≤ length (longest p.0 (p ∷ ps))
  longest_first p ps =
      subst (λ b. length p.1 ≤ length (if b then longer p.1 (longest p.0 ps) else longest p.0 ps)) (sym (eq-eqb p.0 p.0 refl)) (longer_reaches p.1 (longest p.0 ps)).0

  longest_more : (j : ℕ) (p : ℕ × List A) (ps : List (ℕ × List A)) → length (longest j ps) ≤ length (longest j (p ∷ ps))
  longest_more j p ps = by_test (nat_eq p.0 j)
    where
      by_test : (b : Bool) → length (longest j ps) ≤ length (if b then longer p.1 (longest j ps) else longest j ps)
      by_test true = (longer_reaches p.1 (longest j ps)).1
      by_test false = omega arith

  agrees_with : (f : ℕ → List A) (all ps : List (ℕ × List A)) → AllBegin f all → AllBegin f ps → ((j : ℕ) → length (longest j ps) ≤ length (longest j all)) → AllBegin (λ j. longest j all) ps
  agrees_with f all [] a b le = tt
  agrees_with f all (p ∷ ps) a b le = (
    of_one p.1 (longest p.0 all) (f p.0) b.0 (longest_begins f p.0 all a) (omega (arith, longest_first p ps, le p.0)),
    agrees_with f all ps a b.1 (λ j. omega (arith, longest_more j p ps, le j)),
  )

  -- beginnings of one list agree
  pub agrees : (f : ℕ → List A) (ps : List (ℕ × List A)) → AllBegin f ps → Agree ps
  agrees f ps h = agrees_with f ps ps h h (λ j. omega arith)

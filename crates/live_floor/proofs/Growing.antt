-- Lists that grow by one, and the card at a place.
use Rattle.std.proofs.Common.{◌≡◌, ◌<◌, ◌+◌, ◌==◌, ℕ, zero, suc, Bool, true, false, List, [], ◌∷◌, ◌++◌, length, map, slice_get, Some, refl, ap, sym, ◌∙◌, arith, length-append}
use Rattle.std.proofs.lemmas.Bool.Decides.{nat_tests}
use Rattle.std.proofs.lemmas.Option.{slice_get-map}
use Rattle.std.specs.Option.{option_map}
use Rattle.pcm_base.specs.declared.config.Model.{Model}
use Rattle.pcm_base.specs.declared.state.Dir.{Dir}
use Rattle.live_floor.specs.Cards.{limits}

get_front : {A : Type 0} (xs ys : List A) (i : ℕ) → i < length xs → slice_get (xs ++ ys) i ≡ slice_get xs i
get_front [] ys i lt = absurd (omega arith)
get_front (x ∷ xs) ys zero lt = refl
get_front (x ∷ xs) ys (suc i) lt = get_front xs ys i (omega arith)

get_end : {A : Type 0} (xs : List A) (y : A) → slice_get (xs ++ y ∷ []) (length xs) ≡ Some y
get_end [] y = refl
get_end (x ∷ xs) y = get_end xs y

-- the list has f i at each place i below n, and no more
abbrev pub Lists : {A : Type 0} → (ℕ → A) → ℕ → List A → Type 0
Lists f n xs = (length xs ≡ n) × ((i : ℕ) → i < n → slice_get xs i ≡ Some (f i))

pub grows : {A : Type 0} (f : ℕ → A) (n : ℕ) (xs : List A) → Lists f n xs → Lists f (n + 1) (xs ++ f n ∷ [])
grows {A} f n xs h = (omega (arith, h.0, length-append xs (f n ∷ [])), λ i lt. by i lt (i == n) refl)
  where
    by : (i : ℕ) → i < n + 1 → (b : Bool) → (i == n) ≡ b → slice_get (xs ++ f n ∷ []) i ≡ Some (f i)
    by i lt true is =
        let same : i ≡ n = grind (arith, nat_tests) in
        ap (λ (k : ℕ). slice_get (xs ++ f n ∷ []) k) (same ∙ sym h.0) ∙ get_end xs (f n) ∙ ap (λ (k : ℕ). Some (f k)) (sym same)
    by i lt false is =
        let less : i < n = grind (arith, nat_tests) in
        let within : i < length xs = omega (arith, h.0) in
        get_front xs (f n ∷ []) i within ∙ h.1 i less

-- the limits of the card at a place
pub card_at : (cs : List (Model × Dir)) (i : ℕ) (c : Model × Dir) → slice_get cs i ≡ Some c → slice_get (map limits cs) i ≡ Some (limits c)
card_at cs i c h = slice_get-map limits cs i ∙ ap (option_map limits) h

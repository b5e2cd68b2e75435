-- The texts of the clients below a number.
use Rattle.std.proofs.Common.{◌≡◌, ℕ, ◌+◌, List, [], ◌∷◌, ◌++◌, ap, ◌∙◌, arith, suc, zero, add-one, append_assoc}
use Rattle.std.proofs.lemmas.List.{append-nil}
use Rattle.std.proofs.lemmas.Grind.{flat_map-append}
use Rattle.std.specs.List.{flat_map, range_with_len}
use Rattle.pcm_text.specs.Woken.{text_where_marked}

abbrev pub texts_below : ℕ → ℕ → List ℕ
texts_below mask n = flat_map (text_where_marked mask) (range_with_len 0 n)

range-last : (a n : ℕ) → range_with_len a (suc n) ≡ range_with_len a n ++ (a + n) ∷ []
range-last a zero = ap (λ (k : ℕ). k ∷ []) (omega arith)
range-last a (suc n) =
    let shifted : a + 1 + n ≡ a + suc n = omega arith in
    ap (λ (l : List ℕ). a ∷ l) (range-last (a + 1) n ∙ ap (λ (k : ℕ). range_with_len (a + 1) n ++ k ∷ []) shifted)

numbers-last : (n : ℕ) → range_with_len 0 (n + 1) ≡ range_with_len 0 n ++ n ∷ []
numbers-last n = rw add-one (range-last 0 n ∙ ap (λ (k : ℕ). range_with_len 0 n ++ k ∷ []) (omega arith))

pub texts-last : (mask n : ℕ) → texts_below mask (n + 1) ≡ texts_below mask n ++ text_where_marked mask n
texts-last mask n =
    ap (flat_map (text_where_marked mask)) (numbers-last n)
    ∙ flat_map-append (text_where_marked mask) (range_with_len 0 n) (n ∷ [])
    ∙ ap (λ (l : List ℕ). texts_below mask n ++ l) (append-nil (text_where_marked mask n))

-- one client more
pub texts_more : (mask n : ℕ) (before text now : List ℕ) → text ≡ before ++ texts_below mask n
    → now ≡ text ++ text_where_marked mask n → now ≡ before ++ texts_below mask (n + 1)
texts_more mask n before text now so_far here =
    rw (here, so_far, texts-last) (append_assoc before (texts_below mask n) (text_where_marked mask n))

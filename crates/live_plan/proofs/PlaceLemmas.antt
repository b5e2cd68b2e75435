-- Where a piece begins, one byte later.
use Rattle.std.proofs.Common.{◌≡◌, ◌≢◌, ◌==◌, ℕ, zero, suc, ◌+◌, ◌-◌, ◌<◌, Bool, false, List, [], ◌∷◌, length, drop, get_or, refl, sym, ◌∙◌, ap, arith, add-one, drop-cons, cond}
use Rattle.std.proofs.lemmas.Bool.Decides.{nat_tests}
use Rattle.live_plan.specs.Lines.{piece_at}

pub piece_none : (n : ℕ) → piece_at [] n ≡ 0
piece_none zero = refl
piece_none (suc n) = refl

not_eq : (a b : ℕ) → a ≢ b → (a == b) ≡ false
not_eq a b other = grind (arith, nat_tests)

pub piece_space : (bytes : List ℕ) (i n : ℕ) → i < length bytes → get_or bytes i 0 ≡ 32 → n ≢ 0 → piece_at (drop i bytes) n ≡ 1 + piece_at (drop (i + 1) bytes) (n - 1)
piece_space bytes i zero below space some = absurd (some refl)
piece_space bytes i (suc m) below space some =
    let one : m ≡ suc m - 1 = omega arith in
    ap (λ (l : List ℕ). piece_at l (suc m)) (drop-cons bytes i 0 below)
    ∙ ap (λ (b : ℕ). piece_at (b ∷ drop (suc i) bytes) (suc m)) space
    ∙ ap (λ (k : ℕ). 1 + piece_at (drop k bytes) m) (sym (add-one i))
    ∙ ap (λ (k : ℕ). 1 + piece_at (drop (i + 1) bytes) k) one

pub piece_other : (bytes : List ℕ) (i n : ℕ) → i < length bytes → get_or bytes i 0 ≢ 32 → n ≢ 0 → piece_at (drop i bytes) n ≡ 1 + piece_at (drop (i + 1) bytes) n
piece_other bytes i zero below other some = absurd (some refl)
piece_other bytes i (suc m) below other some =
    ap (λ (l : List ℕ). piece_at l (suc m)) (drop-cons bytes i 0 below)
    ∙ ap (λ (t : Bool). 1 + cond t (piece_at (drop (suc i) bytes) m) (piece_at (drop (suc i) bytes) (suc m))) (not_eq (get_or bytes i 0) 32 other)
    ∙ ap (λ (k : ℕ). 1 + piece_at (drop k bytes) (suc m)) (sym (add-one i))

-- A sample of four bytes is written, and what is left is moved as before.
use Rattle.std.proofs.Common.{◌≡◌, ℕ, ◌+◌, ◌-◌, ◌*◌, ◌<◌, ◌≤◌, List, [], ◌∷◌, ◌++◌, length, get_or, set, take, drop, refl, sym, ap, ◌∙◌, append_assoc, arith}
use Rattle.std.proofs.lemmas.List.{take-append-drop, drop-drop, drop-take, drop_more, take-take, drop-set-add, take-set-le, length-drop, drop_all, append-nil}
use borrow.Rule.Slice.PartMut.{put_mid}
use Rattle.wav_file.specs.Recordings.{low_samples, high_samples}

-- the four bytes at a place, and what follows them
pub four_here : (s : List ℕ) (at : ℕ) → at + 4 ≤ length s
    → drop at s ≡ get_or s at 0 ∷ get_or s (at + 1) 0 ∷ get_or s (at + 2) 0 ∷ get_or s (at + 3) 0 ∷ drop (at + 4) s
four_here s at fits =
    let second : drop (at + 1) s ≡ get_or s (at + 1) 0 ∷ drop (at + 2) s = drop_more s (at + 1) 0 (omega arith) ∙ ap (λ (n : ℕ). get_or s (at + 1) 0 ∷ drop n s) (omega arith) in
    let third : drop (at + 2) s ≡ get_or s (at + 2) 0 ∷ drop (at + 3) s = drop_more s (at + 2) 0 (omega arith) ∙ ap (λ (n : ℕ). get_or s (at + 2) 0 ∷ drop n s) (omega arith) in
    let fourth : drop (at + 3) s ≡ get_or s (at + 3) 0 ∷ drop (at + 4) s = drop_more s (at + 3) 0 (omega arith) ∙ ap (λ (n : ℕ). get_or s (at + 3) 0 ∷ drop n s) (omega arith) in
    drop_more s at 0 (omega arith)
    ∙ ap (λ (x : List ℕ). get_or s at 0 ∷ x) second
    ∙ ap (λ (x : List ℕ). get_or s at 0 ∷ get_or s (at + 1) 0 ∷ x) third
    ∙ ap (λ (x : List ℕ). get_or s at 0 ∷ get_or s (at + 1) 0 ∷ get_or s (at + 2) 0 ∷ x) fourth

abbrev pub with_four : List ℕ → ℕ → ℕ → ℕ → ℕ → ℕ → List ℕ
with_four s at p q r t = set (set (set (set s at p) (at + 1) q) (at + 2) r) (at + 3) t

front_stays : (s : List ℕ) (at p q r t : ℕ) → take at (with_four s at p q r t) ≡ take at s
front_stays s at p q r t =
    take-set-le at (set (set (set s at p) (at + 1) q) (at + 2) r) (at + 3) t (omega arith)
    ∙ take-set-le at (set (set s at p) (at + 1) q) (at + 2) r (omega arith)
    ∙ take-set-le at (set s at p) (at + 1) q (omega arith)
    ∙ take-set-le at s at p (omega arith)

four_stand : (s : List ℕ) (at p q r t : ℕ) → at + 4 ≤ length s → drop at (with_four s at p q r t) ≡ p ∷ q ∷ r ∷ t ∷ drop (at + 4) s
four_stand s at p q r t fits =
    let first : drop at (set s at p) ≡ set (drop at s) 0 p = ap (λ (n : ℕ). drop at (set s n p)) (let e : at ≡ at + 0 = omega arith in e) ∙ drop-set-add at s 0 p in
    drop-set-add at (set (set (set s at p) (at + 1) q) (at + 2) r) 3 t
    ∙ ap (λ (x : List ℕ). set x 3 t) (drop-set-add at (set (set s at p) (at + 1) q) 2 r)
    ∙ ap (λ (x : List ℕ). set (set x 2 r) 3 t) (drop-set-add at (set s at p) 1 q)
    ∙ ap (λ (x : List ℕ). set (set (set x 1 q) 2 r) 3 t) first
    ∙ ap (λ (x : List ℕ). set (set (set (set x 0 p) 1 q) 2 r) 3 t) (four_here s at fits)

-- a step of a loop that turns each sample as F does
pub one_moved : (F : List ℕ → List ℕ) (s whole : List ℕ) (k p q r t : ℕ) → 4 * k + 4 ≤ length s
    → F (drop (4 * k) s) ≡ p ∷ q ∷ r ∷ t ∷ F (drop (4 * k + 4) s) → take (4 * k) s ++ F (drop (4 * k) s) ≡ whole
    → take (4 * (k + 1)) (with_four s (4 * k) p q r t) ++ F (drop (4 * (k + 1)) (with_four s (4 * k) p q r t)) ≡ whole
one_moved F s whole k p q r t fits moves so_far =
    let at = 4 * k in
    let now = with_four s at p q r t in
    let next : 4 * (k + 1) ≡ at + 4 = omega arith in
    let here : drop at now ≡ p ∷ q ∷ r ∷ t ∷ drop (at + 4) s = four_stand s at p q r t fits in
    let left : drop (at + 4) now ≡ drop (at + 4) s = sym (drop-drop 4 at now) ∙ ap (drop 4) here in
    let made : take (at + 4) now ≡ take at s ++ (p ∷ q ∷ r ∷ t ∷ []) =
    sym (take-append-drop at (take (at + 4) now))
    ∙ ap (λ (x : List ℕ). x ++ drop at (take (at + 4) now)) (take-take at (at + 4) now (omega arith) ∙ front_stays s at p q r t)
    ∙ ap (λ (x : List ℕ). take at s ++ x) (drop-take at 4 now ∙ ap (take 4) here) in
    ap (λ (n : ℕ). take n now ++ F (drop n now)) next
    ∙ ap (λ (x : List ℕ). x ++ F (drop (at + 4) now)) made
    ∙ ap (λ (x : List ℕ). (take at s ++ (p ∷ q ∷ r ∷ t ∷ [])) ++ F x) left
    ∙ append_assoc (take at s) (p ∷ q ∷ r ∷ t ∷ []) (F (drop (at + 4) s))
    ∙ ap (λ (x : List ℕ). take at s ++ x) (sym moves)
    ∙ so_far

-- at the end fewer than four bytes are left, which stay
pub all_moved : (F : List ℕ → List ℕ) → ((rest : List ℕ) → length rest < 4 → F rest ≡ rest) → (s whole : List ℕ) (k : ℕ) → length s < 4 * k + 4
    → take (4 * k) s ++ F (drop (4 * k) s) ≡ whole → s ≡ whole
all_moved F stay s whole k end so_far =
    sym (take-append-drop (4 * k) s) ∙ ap (λ (x : List ℕ). take (4 * k) s ++ x) (sym (stay (drop (4 * k) s) (omega (arith, length-drop (4 * k) s)))) ∙ so_far

pub low-rest : (rest : List ℕ) → length rest < 4 → low_samples rest ≡ rest
low-rest [] lt = refl
low-rest (a ∷ []) lt = refl
low-rest (a ∷ b ∷ []) lt = refl
low-rest (a ∷ b ∷ c ∷ []) lt = refl
low-rest (a ∷ b ∷ c ∷ d ∷ rest) lt = absurd (omega arith)

pub high-rest : (rest : List ℕ) → length rest < 4 → high_samples rest ≡ rest
high-rest [] lt = refl
high-rest (a ∷ []) lt = refl
high-rest (a ∷ b ∷ []) lt = refl
high-rest (a ∷ b ∷ c ∷ []) lt = refl
high-rest (a ∷ b ∷ c ∷ d ∷ rest) lt = absurd (omega arith)

-- what a write to all bytes from a place on leaves
pub rest_written : (old new : List ℕ) (start : ℕ) → start ≤ length old → put_mid start (length old - start) old new ≡ take start old ++ new
rest_written old new start fits =
    let past : drop (length old - start) (drop start old) ≡ [] = drop_all (length old - start) (drop start old) (omega (arith, length-drop start old)) in
    ap (λ (x : List ℕ). take start old ++ (new ++ x)) past ∙ ap (λ (x : List ℕ). take start old ++ x) (append-nil new)

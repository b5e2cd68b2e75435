-- Writes in a round.
use Rattle.std.proofs.Common.{ℕ, ◌≡◌, ◌+◌, ◌-◌, ◌≤◌, ◌<◌, List, ◌++◌, length, take, drop, replicate, min, length-append, length-take, length-drop, ap, sym, ◌∙◌, arith, ◌⊎◌, inl, inr}
use Rattle.std.proofs.lemmas.Bool.{cases_lt}
use Rattle.std.proofs.lemmas.List.{take-replicate, drop-replicate, take_all, length-replicate, drop-drop}
use Rattle.ring_memory.specs.Round.{over, written_round}

front_of_replicate : (n room v : ℕ) → (room < n) ⊎ (n ≤ room) → take room (replicate n v) ≡ replicate (min n room) v
front_of_replicate n room v (inl h) = let e : room ≡ min n room = omega arith in take-replicate room n v (omega arith) ∙ ap (λ k. replicate k v) e
front_of_replicate n room v (inr h) = let e : n ≡ min n room = omega arith in take_all room (replicate n v) (omega (arith, length-replicate n v)) ∙ ap (λ k. replicate k v) e

-- two fills, of the memory's end and of its front, are one fill in a round
pub filled_round : (at n near v : ℕ) (ring x y : List ℕ) → near ≡ min n (length ring - at) → x ≡ replicate near v → y ≡ replicate (n - near) v
    → y ++ drop (n - near) (take at ring ++ (x ++ drop (at + near - at) (drop at ring))) ≡ written_round at (replicate n v) ring
filled_round at n near v ring x y en ex ey =
    let room : ℕ = length ring - at in
    let first : take room (replicate n v) ≡ x = front_of_replicate n room v (cases_lt room n) ∙ (ap (λ k. replicate k v) (sym en) ∙ sym ex) in
    let less : n - room ≡ n - near = omega arith in
    let rest : drop room (replicate n v) ≡ y = drop-replicate room n v ∙ (ap (λ k. replicate k v) less ∙ sym ey) in
    let long : n - near ≡ 0 + length y = omega (arith, ap length ey, length-replicate (n - near) v) in
    let wide : at + (at + near - at) ≡ at + length x = omega (arith, ap length ex, length-replicate near v) in
    let behind : drop (at + near - at) (drop at ring) ≡ drop (at + length x) ring = drop-drop (at + near - at) at ring ∙ ap (λ k. drop k ring) wide in
    ap (λ k. y ++ drop k (take at ring ++ (x ++ drop (at + near - at) (drop at ring)))) long
    ∙ (ap (λ ys. y ++ drop (0 + length y) (take at ring ++ (x ++ ys))) behind
    ∙ (ap (λ xs. y ++ drop (0 + length y) (take at ring ++ (xs ++ drop (at + length xs) ring))) (sym first)
    ∙ ap (λ ys. ys ++ drop (0 + length ys) (take at ring ++ (take room (replicate n v) ++ drop (at + length (take room (replicate n v))) ring))) (sym rest)))

-- what is written over a list keeps its length
pub length-over : {A : Type 0} (at : ℕ) (xs ys : List A) → at + length xs ≤ length ys → length (over at xs ys) ≡ length ys
length-over at xs ys h =
    let e : length (drop (at + length xs) ys) ≡ length ys - (at + length xs) = length-drop (at + length xs) ys in
    length-append (take at ys) (xs ++ drop (at + length xs) ys) ∙ omega (arith, length-take at ys, length-append xs (drop (at + length xs) ys), e)

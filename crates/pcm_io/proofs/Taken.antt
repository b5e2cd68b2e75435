-- Bytes that one read after another takes.
use Rattle.std.proofs.Common.{◌≡◌, inl, inr, ℕ, ◌+◌, ◌≤◌, List, ◌++◌, length, take, drop, min, None, Some, sym, ◌∙◌, ap, subst, arith, append_assoc, refl, length-drop, ◌-◌}
use Rattle.std.specs.declared.option.Option.{Option}
use Rattle.std.specs.Io.KnownBytes.{Consumes, Appends}
use Rattle.std.proofs.Math.Seq.{take-add, take-length}
use Rattle.std.proofs.lemmas.List.{take-append-drop, take_at, take_all, take-take, drop-drop, length-take-le}
use Rattle.std.proofs.lemmas.Bool.{cases_lt}

-- two runs of takes in a row
pub consumes_more : (a b c : Option (List ℕ)) (xs ys : List ℕ) → Consumes a b xs → Consumes b c ys → Consumes a c (xs ++ ys)
consumes_more None b c xs ys h k = tt
consumes_more (Some os) None c xs ys h k = absurd h
consumes_more (Some os) (Some bs) None xs ys h k = absurd k
consumes_more (Some os) (Some bs) (Some cs) xs ys h k = h ∙ ap (λ (l : List ℕ). xs ++ l) k ∙ sym (append_assoc xs ys cs)

-- the front of what is left, in a buffer, and the rest
pub front_taken : (n at : ℕ) (bytes put behind : List ℕ) → put ≡ take n (drop at bytes) → n ≤ length (drop at bytes) → drop at bytes ≡ take n (put ++ behind) ++ drop (at + n) bytes
front_taken n at bytes put behind is le =
    let size : length put ≡ n = ap length is ∙ length-take-le n (drop at bytes) le in
    let front : take n (put ++ behind) ≡ take n (drop at bytes) = take_at put behind n size ∙ is in
    sym (take-append-drop n (drop at bytes)) ∙ ap (λ (l : List ℕ). l ++ drop n (drop at bytes)) (sym front)
    ∙ ap (λ (l : List ℕ). take n (put ++ behind) ++ l) (drop-drop n at bytes)

-- two appends in a row
pub appends_more : (a b c : Option (List ℕ)) (xs ys : List ℕ) → Appends a b xs → Appends b c ys → Appends a c (xs ++ ys)
appends_more None b c xs ys h k = tt
appends_more (Some os) None c xs ys h k = absurd h
appends_more (Some os) (Some bs) None xs ys h k = absurd k
appends_more (Some os) (Some bs) (Some cs) xs ys h k = k ∙ ap (λ (l : List ℕ). l ++ ys) h ∙ append_assoc os xs ys

-- one part more of some bytes
pub appends_next : (a b c : Option (List ℕ)) (bytes part : List ℕ) (done n : ℕ) → Appends a b (take done bytes) → Appends b c (take n part) → part ≡ drop done bytes → Appends a c (take (done + n) bytes)
appends_next a b c bytes part done n h k is =
    subst (Appends a c) (sym (take-add done n bytes ∙ ap (λ (l : List ℕ). take done bytes ++ take n l) (sym is))) (appends_more a b c _ _ h k)

-- a front of as many bytes as there are at most
pub take_min : (n : ℕ) (xs : List ℕ) → take (min (length xs) n) xs ≡ take n xs
take_min n xs = elim (cases_lt n (length xs)) [
  | inl longer ↦ let m : min (length xs) n ≡ n = omega arith in ap (λ (k : ℕ). take k xs) m
  | inr shorter ↦ let m : min (length xs) n ≡ length xs = omega arith in ap (λ (k : ℕ). take k xs) m ∙ take-length xs ∙ sym (take_all n xs shorter)
]

-- the front of a part of some bytes
pub appends_within : (a b c : Option (List ℕ)) (bytes part : List ℕ) (done n size : ℕ) → Appends a b (take done bytes) → Appends b c (take n part) → part ≡ take size (drop done bytes) → n ≤ length part → done + size ≤ length bytes
    → (k : ℕ) × (k ≤ length bytes) × Appends a c (take k bytes)
appends_within a b c bytes part done n size h k is le within =
    let long : length part ≡ size = ap length is ∙ length-take-le size (drop done bytes) (omega (arith, length-drop done bytes)) in
    let front : take n part ≡ take n (drop done bytes) = ap (λ (l : List ℕ). take n l) is ∙ take-take n size (drop done bytes) (omega (arith, le, long)) in
    (done + n, omega (arith, le, long, within), appends_next a b c bytes (drop done bytes) done n h (subst (Appends b c) front k) refl)

-- a front of the text, and a front of what is left of it
pub appends_rest : (a b c : Option (List ℕ)) (bytes rest : List ℕ) (done n : ℕ) → Appends a b (take done bytes) → Appends b c (take n rest) → rest ≡ drop done bytes → done ≤ length bytes → n ≤ length rest
    → (k : ℕ) × (k ≤ length bytes) × Appends a c (take k bytes)
appends_rest a b c bytes rest done n h k is le few =
    let long : length rest ≡ length bytes - done = ap length is ∙ length-drop done bytes in
    (done + n, omega (arith, le, few, long), appends_next a b c bytes rest done n h k is)

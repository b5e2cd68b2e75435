-- What stands in the slots of a ring after puts.
use Rattle.std.proofs.Common.{ℕ, zero, suc, ◌≡◌, ◌≢◌, ◌+◌, ◌*◌, ◌%◌, ◌≤◌, ◌<◌, ◌⊎◌, inl, inr, true, false, cond, nat_eq, List, [], ◌∷◌, ◌++◌, length, take, drop, get_or, refl, sym, ap, ◌∙◌, arith, append_assoc, append-nil, get_or-set_same, get_or-set_other}
use Rattle.std.proofs.Math.ListN.{set, length-set}
use Rattle.std.proofs.Math.Nat.{mod-eq_of_lt, mod-add-mod}
use Rattle.std.proofs.lemmas.Bool.{cases_eq}
use Rattle.std.proofs.lemmas.Bool.Decides.{nat_tests}
use Rattle.std.proofs.lemmas.List.{same_lists}
use Rattle.std.proofs.lemmas.List.Edits.{sets, sets-eq}
use Rattle.std.proofs.lemmas.Nat.{mod-mul-add}
use Rattle.pcm_base.specs.model.Frame.{Frame}
use Rattle.pcm_base.specs.model.Standing.{Put, same_slot, standing, put_at, standing_at}
use Rattle.indirect_card.proofs.Frames.{over}

-- puts behind others

pub standing-append : (qs rs : List Put) (b p : ℕ) (z : Frame) → standing (qs ++ rs) b p z ≡ standing rs b p (standing qs b p z)
standing-append [] rs b p z = refl
standing-append (q ∷ qs) rs b p z = standing-append qs rs b p (cond (same_slot b q.at p) q.frame z)

pub put_at-append : (p : ℕ) (fs gs : List Frame) (qs : List Put) → put_at p (fs ++ gs) qs ≡ put_at (p + length fs) gs (put_at p fs qs)
put_at-append p [] gs qs = let e : p ≡ p + 0 = omega arith in ap (λ i. put_at i gs qs) e
put_at-append p (f ∷ fs) gs qs =
    let next : List Put = qs ++ record { at = p; frame = f } ∷ [] in
    let e : p + 1 + length fs ≡ p + suc (length fs) = omega arith in
    put_at-append (p + 1) fs gs next ∙ ap (λ i. put_at i gs (put_at (p + 1) fs next)) e

put_at-behind : (p : ℕ) (fs : List Frame) (qs rs : List Put) → put_at p fs (qs ++ rs) ≡ qs ++ put_at p fs rs
put_at-behind p [] qs rs = refl
put_at-behind p (f ∷ fs) qs rs =
    let one : List Put = record { at = p; frame = f } ∷ [] in
    ap (put_at (p + 1) fs) (append_assoc qs rs one) ∙ put_at-behind (p + 1) fs qs (rs ++ one)

pub put_at-onto : (p : ℕ) (fs : List Frame) (qs : List Put) → put_at p fs qs ≡ qs ++ put_at p fs []
put_at-onto p fs qs = ap (put_at p fs) (sym (append-nil qs)) ∙ put_at-behind p fs qs []

-- it depends on the slots alone that frames are put in
pub standing-put_at_same : (fs : List Frame) (p q b x : ℕ) (z : Frame) → p % b ≡ q % b → standing (put_at p fs []) b x z ≡ standing (put_at q fs []) b x z
standing-put_at_same [] p q b x z same = refl
standing-put_at_same (f ∷ fs) p q b x z same =
    let next : (p + 1) % b ≡ (q + 1) % b = sym (mod-add-mod p b 1) ∙ (ap (λ r. (r + 1) % b) same ∙ mod-add-mod q b 1) in
    first p
    ∙ (standing-put_at_same fs (p + 1) (q + 1) b x (cond (same_slot b p x) f z) next
    ∙ (ap (λ r. standing (put_at (q + 1) fs []) b x (cond (nat_eq r (x % b)) f z)) same
    ∙ sym (first q)))
  where
    first : (n : ℕ) → standing (put_at (n + 1) fs (record { at = n; frame = f } ∷ [])) b x z ≡ standing (put_at (n + 1) fs []) b x (cond (same_slot b n x) f z)
    first n =
        ap (λ qs. standing qs b x z) (put_at-onto (n + 1) fs (record { at = n; frame = f } ∷ []))
        ∙ standing-append (record { at = n; frame = f } ∷ []) (put_at (n + 1) fs []) b x z

-- runs of frames

pub length-standing_at : (qs : List Put) (b p n : ℕ) (z : Frame) → length (standing_at qs b p n z) ≡ n
length-standing_at qs b p zero z = refl
length-standing_at qs b p (suc n) z = ap suc (length-standing_at qs b (p + 1) n z)

get_or-run : (qs : List Put) (b p n i : ℕ) (z d : Frame) → i < n → get_or (standing_at qs b p n z) i d ≡ standing qs b (p + i) z
get_or-run qs b p zero i z d inside = absurd (omega arith)
get_or-run qs b p (suc n) zero z d inside = let here : p ≡ p + 0 = omega arith in ap (λ x. standing qs b x z) here
get_or-run qs b p (suc n) (suc i) z d inside =
    let next : p + 1 + i ≡ p + suc i = omega arith in
    get_or-run qs b (p + 1) n i z d (omega arith) ∙ ap (λ x. standing qs b x z) next

pub get_or-standing_at : (qs : List Put) (b n i : ℕ) (z d : Frame) → i < n → get_or (standing_at qs b 0 n z) i d ≡ standing qs b i z
get_or-standing_at qs b n i z d inside =
    let here : 0 + i ≡ i = omega arith in
    get_or-run qs b 0 n i z d inside ∙ ap (λ x. standing qs b x z) here

-- one more put

pub slot_hit : (b p x : ℕ) → p % b ≡ x % b → same_slot b p x ≡ true
slot_hit b p x same = grind (arith, nat_tests, same)

pub slot_missed : (b p x : ℕ) → p % b ≢ x % b → same_slot b p x ≡ false
slot_missed b p x other = grind (arith, nat_tests, other)

put_in_slot : (b k s : ℕ) (f : Frame) (qs : List Put) (z : Frame) → s < b → standing_at (qs ++ record { at = k * b + s; frame = f } ∷ []) b 0 b z ≡ set (standing_at qs b 0 b z) s f
put_in_slot b k s f qs z within =
    let count : length (standing_at qs b 0 b z) ≡ b = length-standing_at qs b 0 b z in
    let new : length (standing_at (qs ++ record { at = k * b + s; frame = f } ∷ []) b 0 b z) ≡ b = length-standing_at (qs ++ record { at = k * b + s; frame = f } ∷ []) b 0 b z in
    same_lists _ _ (new ∙ sym (length-set (standing_at qs b 0 b z) s f ∙ count)) (λ i d l. let inside : i < b = omega (arith, l, new) in at_slot i d inside (cases_eq i s))
  where
    one : Put
    one = record { at = k * b + s; frame = f }

    at_slot : (i : ℕ) (d : Frame) → i < b → (i ≡ s) ⊎ (i ≡ s → ⊥) → get_or (standing_at (qs ++ record { at = k * b + s; frame = f } ∷ []) b 0 b z) i d ≡ get_or (set (standing_at qs b 0 b z) s f) i d
    at_slot i d l (inl e) =
        let slot : (k * b + s) % b ≡ i % b = mod-mul-add k b s within ∙ sym (mod-eq_of_lt l ∙ e) in
        let there : s < length (standing_at qs b 0 b z) = omega (arith, length-standing_at qs b 0 b z) in
        get_or-standing_at (qs ++ record { at = k * b + s; frame = f } ∷ []) b b i z d l
        ∙ (standing-append qs (record { at = k * b + s; frame = f } ∷ []) b i z
        ∙ (ap (λ t. cond t f (standing qs b i z)) (slot_hit b (k * b + s) i slot)
        ∙ (sym (get_or-set_same (standing_at qs b 0 b z) s f d there)
        ∙ ap (λ n. get_or (set (standing_at qs b 0 b z) s f) n d) (sym e))))
    at_slot i d l (inr n) =
        let slot : (k * b + s) % b ≢ i % b = λ e. n (sym (mod-eq_of_lt l) ∙ (sym e ∙ mod-mul-add k b s within)) in
        get_or-standing_at (qs ++ record { at = k * b + s; frame = f } ∷ []) b b i z d l
        ∙ (standing-append qs (record { at = k * b + s; frame = f } ∷ []) b i z
        ∙ (ap (λ t. cond t f (standing qs b i z)) (slot_missed b (k * b + s) i slot)
        ∙ (sym (get_or-standing_at qs b b i z d l)
        ∙ sym (get_or-set_other (standing_at qs b 0 b z) s i f d n))))

put_in_slots : (fs : List Frame) (b k s : ℕ) (qs : List Put) (z : Frame) → s + length fs ≤ b → standing_at (put_at (k * b + s) fs qs) b 0 b z ≡ sets (standing_at qs b 0 b z) s fs
put_in_slots [] b k s qs z h = refl
put_in_slots (f ∷ fs) b k s qs z h =
    let next : k * b + s + 1 ≡ k * b + suc s = omega arith in
    let more : List Put = qs ++ record { at = k * b + s; frame = f } ∷ [] in
    ap (λ n. standing_at (put_at n fs more) b 0 b z) next
    ∙ (put_in_slots fs b k (suc s) more z (omega arith)
    ∙ ap (λ ys. sets ys (suc s) fs) (put_in_slot b k s f qs z (omega arith)))

-- frames that are put one after another up to the ring's end at most lie over those that stood there
pub put_over : (fs : List Frame) (b k s p : ℕ) (qs : List Put) (z : Frame) → p ≡ k * b + s → s + length fs ≤ b → standing_at (put_at p fs qs) b 0 b z ≡ over s fs (standing_at qs b 0 b z)
put_over fs b k s p qs z e h =
    let within : s + length fs ≤ length (standing_at qs b 0 b z) = omega (arith, length-standing_at qs b 0 b z) in
    ap (λ n. standing_at (put_at n fs qs) b 0 b z) e
    ∙ (put_in_slots fs b k s qs z h
    ∙ (sets-eq fs (standing_at qs b 0 b z) s within ∙ append_assoc (take s (standing_at qs b 0 b z)) fs (drop (s + length fs) (standing_at qs b 0 b z))))

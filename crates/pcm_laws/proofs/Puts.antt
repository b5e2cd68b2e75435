-- What stands in a ring: lists of puts, frames that are put one after another, and runs of frames.
use Rattle.std.proofs.Common.{Bool, ℕ, zero, suc, ◌≡◌, ◌≢◌, ◌+◌, ◌%◌, ◌≤◌, ◌<◌, true, false, cond, nat_eq, nat_lt, List, [], ◌∷◌, ◌++◌, length, get_or, refl, sym, ap, ◌∙◌, arith, append_assoc}
use Rattle.std.proofs.lemmas.Bool.Decides.{nat_tests}
use Rattle.pcm_base.specs.model.Frame.{Frame}
use Rattle.pcm_base.specs.model.Standing.{Put, same_slot, standing, put_at, standing_at}
use Rattle.pcm_laws.proofs.Tests.{is_lt, not_lt}
use Rattle.pcm_laws.specs.Rings.{slot_distance}
use Rattle.pcm_laws.proofs.Remainders.{slot_distance-only, slot_distance-reaches, add-mod_other, mod-add_same}

-- appended lists

pub standing-append : (qs rs : List Put) (b p : ℕ) (z : Frame) → standing (qs ++ rs) b p z ≡ standing rs b p (standing qs b p z)
standing-append [] rs b p z = refl
standing-append (q ∷ qs) rs b p z = standing-append qs rs b p (cond (same_slot b q.at p) q.frame z)

pub put_at-append : (p : ℕ) (fs gs : List Frame) (qs : List Put) → put_at p (fs ++ gs) qs ≡ put_at (p + length fs) gs (put_at p fs qs)
put_at-append p [] gs qs = let e : p ≡ p + 0 = omega arith in ap (λ i. put_at i gs qs) e
put_at-append p (f ∷ fs) gs qs =
    let next : List Put = qs ++ record { at = p; frame = f } ∷ [] in
    let e : p + 1 + length fs ≡ p + suc (length fs) = omega arith in
    put_at-append (p + 1) fs gs next ∙ ap (λ i. put_at i gs (put_at (p + 1) fs next)) e

-- the puts before are left as they are
pub put_at-behind : (p : ℕ) (fs : List Frame) (qs rs : List Put) → put_at p fs (qs ++ rs) ≡ qs ++ put_at p fs rs
put_at-behind p [] qs rs = refl
put_at-behind p (f ∷ fs) qs rs =
    let one : List Put = record { at = p; frame = f } ∷ [] in
    ap (put_at (p + 1) fs) (append_assoc qs rs one) ∙ put_at-behind (p + 1) fs qs (rs ++ one)

append_none : (qs : List Put) → qs ++ [] ≡ qs
append_none [] = refl
append_none (q ∷ qs) = ap (λ l. q ∷ l) (append_none qs)

pub put_at-onto : (p : ℕ) (fs : List Frame) (qs : List Put) → put_at p fs qs ≡ qs ++ put_at p fs []
put_at-onto p fs qs = ap (put_at p fs) (sym (append_none qs)) ∙ put_at-behind p fs qs []

-- slots

slot_as : (b a p q : ℕ) → p % b ≡ q % b → same_slot b a p ≡ same_slot b a q
slot_as b a p q same = ap (λ r. nat_eq (a % b) r) same

slot_of : (b p q a : ℕ) → p % b ≡ q % b → same_slot b p a ≡ same_slot b q a
slot_of b p q a same = ap (λ r. nat_eq r (a % b)) same

slot_hit : (b p x : ℕ) → p % b ≡ x % b → same_slot b p x ≡ true
slot_hit b p x same = grind (arith, nat_tests, same)

slot_missed : (b p x : ℕ) → p % b ≢ x % b → same_slot b p x ≡ false
slot_missed b p x other = grind (arith, nat_tests, other)

-- one put
standing-put : (qs : List Put) (b a p : ℕ) (f z : Frame) → standing (qs ++ record { at = a; frame = f } ∷ []) b p z ≡ cond (same_slot b a p) f (standing qs b p z)
standing-put qs b a p f z = standing-append qs (record { at = a; frame = f } ∷ []) b p z

-- it depends on the position modulo the buffer alone
pub standing-same_slot : (qs : List Put) (b p q : ℕ) (z : Frame) → p % b ≡ q % b → standing qs b p z ≡ standing qs b q z
standing-same_slot [] b p q z same = refl
standing-same_slot (r ∷ rs) b p q z same =
    ap (λ t. standing rs b p (cond t r.frame z)) (slot_as b r.at p q same) ∙ standing-same_slot rs b p q (cond (same_slot b r.at q) r.frame z) same

-- frames that are put at p leave the slots that they do not hit
pub standing-put_at_missed : (fs : List Frame) (p : ℕ) (qs : List Put) (b x : ℕ) (z : Frame) → ((i : ℕ) → i < length fs → (p + i) % b ≢ x % b) → standing (put_at p fs qs) b x z ≡ standing qs b x z
standing-put_at_missed [] p qs b x z missed = refl
standing-put_at_missed (f ∷ fs) p qs b x z missed =
    let here : p + 0 ≡ p = omega arith in
    standing-put_at_missed fs (p + 1) (qs ++ record { at = p; frame = f } ∷ []) b x z (λ i l e. let next : p + suc i ≡ p + 1 + i = omega arith in missed (suc i) (omega arith) (ap (λ n. n % b) next ∙ e))
    ∙ (standing-put qs b p x f z
    ∙ ap (λ t. cond t f (standing qs b x z)) (slot_missed b p x (λ e. missed 0 (omega arith) (ap (λ n. n % b) here ∙ e))))

-- frame i of at most a buffer of them stands in the slot that it hits
pub standing-put_at_hit : (fs : List Frame) (p : ℕ) (qs : List Put) (b x i : ℕ) (z d : Frame) → length fs ≤ b → i < length fs → (p + i) % b ≡ x % b → standing (put_at p fs qs) b x z ≡ get_or fs i d
standing-put_at_hit [] p qs b x i z d fit inside hit = absurd (omega arith)
standing-put_at_hit (f ∷ fs) p qs b x zero z d fit inside hit =
    let here : p ≡ p + 0 = omega arith in
    let slot : p % b ≡ x % b = ap (λ n. n % b) here ∙ hit in
    standing-put_at_missed fs (p + 1) (qs ++ record { at = p; frame = f } ∷ []) b x z
    (λ j l e. let next : p + suc j ≡ p + 1 + j = omega arith in add-mod_other b p (suc j) (omega arith) (omega arith) (ap (λ n. n % b) next ∙ (e ∙ sym slot)))
    ∙ (standing-put qs b p x f z ∙ ap (λ t. cond t f (standing qs b x z)) (slot_hit b p x slot))
standing-put_at_hit (f ∷ fs) p qs b x (suc i) z d fit inside hit =
    let next : p + 1 + i ≡ p + suc i = omega arith in
    standing-put_at_hit fs (p + 1) (qs ++ record { at = p; frame = f } ∷ []) b x i z d (omega arith) (omega arith) (ap (λ n. n % b) next ∙ hit)

-- so any slot, by its distance from that of p
pub standing-put_at : (fs : List Frame) (p : ℕ) (qs : List Put) (b x : ℕ) (z d : Frame) → 0 < b → length fs ≤ b
    → standing (put_at p fs qs) b x z ≡ cond (nat_lt (slot_distance b p x) (length fs)) (get_or fs (slot_distance b p x) d) (standing qs b x z)
standing-put_at fs p qs b x z d some fit = by (nat_lt (slot_distance b p x) (length fs)) refl
  where
    by : (t : Bool) → nat_lt (slot_distance b p x) (length fs) ≡ t → standing (put_at p fs qs) b x z ≡ cond t (get_or fs (slot_distance b p x) d) (standing qs b x z)
    by true e = standing-put_at_hit fs p qs b x (slot_distance b p x) z d fit (is_lt (slot_distance b p x) (length fs) e) (slot_distance-reaches b p x some)
    by false e =
        let far : length fs ≤ slot_distance b p x = not_lt (slot_distance b p x) (length fs) e in
        standing-put_at_missed fs p qs b x z (λ i l same. let only : i ≡ slot_distance b p x = slot_distance-only b p x i some (omega (arith, l, fit)) same in omega (arith, only, far, l))

-- puts at positions in the same slots are as good
same_puts : (fs : List Frame) (p q : ℕ) (qs rs : List Put) (b x : ℕ) (z : Frame) → p % b ≡ q % b → standing qs b x z ≡ standing rs b x z → standing (put_at p fs qs) b x z ≡ standing (put_at q fs rs) b x z
same_puts [] p q qs rs b x z same before = before
same_puts (f ∷ fs) p q qs rs b x z same before =
    same_puts fs (p + 1) (q + 1) (qs ++ record { at = p; frame = f } ∷ []) (rs ++ record { at = q; frame = f } ∷ []) b x z (mod-add_same b p q 1 same)
    (standing-put qs b p x f z
    ∙ (ap (λ t. cond t f (standing qs b x z)) (slot_of b p q x same)
    ∙ (ap (λ w. cond (same_slot b q x) f w) before
    ∙ sym (standing-put rs b q x f z))))

pub standing-put_at_same_slot : (fs : List Frame) (p q : ℕ) (qs : List Put) (b x : ℕ) (z : Frame) → p % b ≡ q % b → standing (put_at p fs qs) b x z ≡ standing (put_at q fs qs) b x z
standing-put_at_same_slot fs p q qs b x z same = same_puts fs p q qs qs b x z same refl

-- runs of frames

pub length-standing_at : (qs : List Put) (b p n : ℕ) (z : Frame) → length (standing_at qs b p n z) ≡ n
length-standing_at qs b p zero z = refl
length-standing_at qs b p (suc n) z = ap suc (length-standing_at qs b (p + 1) n z)

pub get_or-standing_at : (qs : List Put) (b p n i : ℕ) (z d : Frame) → i < n → get_or (standing_at qs b p n z) i d ≡ standing qs b (p + i) z
get_or-standing_at qs b p zero i z d inside = absurd (omega arith)
get_or-standing_at qs b p (suc n) zero z d inside = let here : p ≡ p + 0 = omega arith in ap (λ x. standing qs b x z) here
get_or-standing_at qs b p (suc n) (suc i) z d inside =
    let next : p + 1 + i ≡ p + suc i = omega arith in
    get_or-standing_at qs b (p + 1) n i z d (omega arith) ∙ ap (λ x. standing qs b x z) next

pub standing_at-add : (qs : List Put) (b p m n : ℕ) (z : Frame) → standing_at qs b p (m + n) z ≡ standing_at qs b p m z ++ standing_at qs b (p + m) n z
standing_at-add qs b p zero n z =
    let e : 0 + n ≡ n = omega arith in
    let f : p ≡ p + 0 = omega arith in
    ap (λ i. standing_at qs b p i z) e ∙ ap (λ i. standing_at qs b i n z) f
standing_at-add qs b p (suc m) n z =
    let e : suc m + n ≡ suc (m + n) = omega arith in
    let f : p + 1 + m ≡ p + suc m = omega arith in
    ap (λ i. standing_at qs b p i z) e
    ∙ ap (λ l. standing qs b p z ∷ l) (standing_at-add qs b (p + 1) m n z ∙ ap (λ i. standing_at qs b (p + 1) m z ++ standing_at qs b i n z) f)

pub standing_at-same_slot : (qs : List Put) (b p q n : ℕ) (z : Frame) → p % b ≡ q % b → standing_at qs b p n z ≡ standing_at qs b q n z
standing_at-same_slot qs b p q zero z same = refl
standing_at-same_slot qs b p q (suc n) z same =
    ap (λ f. f ∷ standing_at qs b (p + 1) n z) (standing-same_slot qs b p q z same)
    ∙ ap (λ l. standing qs b q z ∷ l) (standing_at-same_slot qs b (p + 1) (q + 1) n z (mod-add_same b p q 1 same))

-- at most a buffer of frames that were put stand where they were put
pub standing_at-put_at : (fs : List Frame) (p : ℕ) (qs : List Put) (b : ℕ) (z : Frame) → length fs ≤ b → standing_at (put_at p fs qs) b p (length fs) z ≡ fs
standing_at-put_at [] p qs b z fit = refl
standing_at-put_at (f ∷ fs) p qs b z fit =
    ap (λ g. g ∷ standing_at (put_at p (f ∷ fs) qs) b (p + 1) (length fs) z) (standing-put_at_hit (f ∷ fs) p qs b p 0 z f fit (omega arith) (let here : p + 0 ≡ p = omega arith in ap (λ n. n % b) here))
    ∙ ap (λ l. f ∷ l) (standing_at-put_at fs (p + 1) (qs ++ record { at = p; frame = f } ∷ []) b z (omega arith))

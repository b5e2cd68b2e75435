-- Frames that pass through a hardware buffer.
use Rattle.std.proofs.Common.{ℕ, zero, suc, ◌≡◌, ◌≢◌, ◌+◌, ◌-◌, ◌*◌, ◌/◌, ◌%◌, ◌^◌, ◌≤◌, ◌<◌, ◌⊎◌, inl, inr, cond, List, [], ◌∷◌, ◌++◌, length, get_or, refl, sym, ap, ◌∙◌, arith, length-append}
use Rattle.std.proofs.Math.Nat.{mod-eq_of_lt, mod-lt, mod-add-mod, add-mod_right, add-mul-mod_self_right}
use Rattle.std.proofs.lemmas.Bool.{cases_lt}
use Rattle.std.proofs.lemmas.List.{same_lists}
use Rattle.std.proofs.lemmas.Nat.{div-add-mod', mod-mul-add}
use Rattle.pcm_base.specs.model.Frame.{Frame}
use Rattle.pcm_base.specs.model.Standing.{Put, same_slot, standing, put_at, standing_at}
use Rattle.indirect_card.specs.Hardware.{Hardware, formerly, passing, after_passing}
use Rattle.indirect_card.proofs.Frames.{over}
use Rattle.indirect_card.proofs.Stands.{standing-append, put_at-append, put_at-onto, standing-put_at_same, length-standing_at, get_or-standing_at, slot_hit, slot_missed, put_over}

-- the frame formerly in a slot was put in that slot
slot_is : (r q : ℕ) → q < 16 → (r + (q + (16 - r % 16)) % 16) % 16 ≡ q
slot_is r q l = by_order (cases_lt q (r % 16))
  where
    least : r % 16 < 16
    least = mod-lt r (omega arith)

    by_order : (q < r % 16) ⊎ (r % 16 ≤ q) → (r + (q + (16 - r % 16)) % 16) % 16 ≡ q
    by_order (inl h) =
        let far : (q + (16 - r % 16)) % 16 ≡ q + (16 - r % 16) = mod-eq_of_lt (omega (arith, least)) in
        let sum : r + (q + (16 - r % 16)) ≡ (r / 16 + 1) * 16 + q = omega (arith, least, div-add-mod' r 16) in
        ap (λ n. (r + n) % 16) far ∙ (ap (λ n. n % 16) sum ∙ mod-mul-add (r / 16 + 1) 16 q l)
    by_order (inr h) =
        let shift : q + (16 - r % 16) ≡ q - r % 16 + 16 = omega (arith, least) in
        let near : (q + (16 - r % 16)) % 16 ≡ q - r % 16 = ap (λ n. n % 16) shift ∙ (add-mod_right (q - r % 16) 16 ∙ mod-eq_of_lt (omega arith)) in
        let sum : r + (q - r % 16) ≡ r / 16 * 16 + q = omega (arith, least, div-add-mod' r 16) in
        ap (λ n. (r + n) % 16) near ∙ (ap (λ n. n % 16) sum ∙ mod-mul-add (r / 16) 16 q l)

-- so the former frames stand in their slots

former_missed : (r q i : ℕ) (fs : List Frame) (z : Frame) → q + length fs ≤ 16 → i < q → standing (formerly r q fs) 16 i z ≡ z
former_missed r q i [] z fit before = refl
former_missed r q i (f ∷ fs) z fit before =
    let slot : (r + (q + (16 - r % 16)) % 16) % 16 ≢ i % 16 = λ e. (let same : q ≡ i = sym (slot_is r q (omega arith)) ∙ (e ∙ mod-eq_of_lt (omega arith)) in omega (arith, same)) in
    ap (λ t. standing (formerly r (q + 1) fs) 16 i (cond t f z)) (slot_missed 16 (r + (q + (16 - r % 16)) % 16) i slot)
    ∙ former_missed r (q + 1) i fs z (omega arith) (omega arith)

former_hit : (r q i : ℕ) (fs : List Frame) (z d : Frame) → q + length fs ≤ 16 → i < length fs → standing (formerly r q fs) 16 (q + i) z ≡ get_or fs i d
former_hit r q i [] z d fit inside = absurd (omega arith)
former_hit r q zero (f ∷ fs) z d fit inside =
    let here : q + 0 ≡ q = omega arith in
    let slot : (r + (q + (16 - r % 16)) % 16) % 16 ≡ q % 16 = slot_is r q (omega arith) ∙ sym (mod-eq_of_lt (omega arith)) in
    ap (λ n. standing (formerly r q (f ∷ fs)) 16 n z) here
    ∙ (ap (λ t. standing (formerly r (q + 1) fs) 16 q (cond t f z)) (slot_hit 16 (r + (q + (16 - r % 16)) % 16) q slot)
    ∙ former_missed r (q + 1) q fs f (omega arith) (omega arith))
former_hit r q (suc i) (f ∷ fs) z d fit inside =
    let next : q + suc i ≡ q + 1 + i = omega arith in
    ap (λ n. standing (formerly r q (f ∷ fs)) 16 n z) next
    ∙ former_hit r (q + 1) i fs (cond (same_slot 16 (r + (q + (16 - r % 16)) % 16) (q + 1 + i)) f z) d (omega arith) (omega arith)

former_stands : (r i : ℕ) (fs : List Frame) (z d : Frame) → length fs ≡ 16 → i < 16 → standing (formerly r 0 fs) 16 i z ≡ get_or fs i d
former_stands r i fs z d size inside =
    let here : i ≡ 0 + i = omega arith in
    ap (λ n. standing (formerly r 0 fs) 16 n z) here ∙ former_hit r 0 i fs z d (omega arith) (omega arith)

former_slots : (r : ℕ) (fs : List Frame) (z : Frame) → length fs ≡ 16 → standing_at (formerly r 0 fs) 16 0 16 z ≡ fs
former_slots r fs z size =
    let count : length (standing_at (formerly r 0 fs) 16 0 16 z) ≡ 16 = length-standing_at (formerly r 0 fs) 16 0 16 z in
    same_lists _ _ (count ∙ sym size) (λ i d l. let inside : i < 16 = omega (arith, l, count) in get_or-standing_at (formerly r 0 fs) 16 16 i z d inside ∙ former_stands r i fs z d size inside)

-- a piece that ends at the buffer's end lies over the slots from the next one on
pub passes_over : (h : Hardware) (fs : List Frame) → length h.slots ≡ 16 → h.passed % 16 + length fs ≤ 16 → (after_passing h fs).slots ≡ over (h.passed % 16) fs h.slots
passes_over h fs size fit =
    let place : h.passed + 16 ≡ (h.passed / 16 + 1) * 16 + h.passed % 16 = omega (arith, div-add-mod' h.passed 16) in
    put_over fs 16 (h.passed / 16 + 1) (h.passed % 16) (h.passed + 16) (formerly h.passed 0 h.slots) [] place fit
    ∙ ap (over (h.passed % 16) fs) (former_slots h.passed h.slots [] size)

pub slots_stay : (h : Hardware) (fs : List Frame) → length (after_passing h fs).slots ≡ 16
slots_stay h fs = length-standing_at (passing h fs) 16 0 16 []

-- the count goes round at 2 ^ 64, which is a multiple of 16
slot_of_count : (n : ℕ) → (n % 2 ^ 64 + 16) % 16 ≡ (n + 16) % 16
slot_of_count n =
    let parts : n + 16 ≡ n % 2 ^ 64 + 16 + n / 2 ^ 64 * 2 ^ 60 * 16 = omega (arith, div-add-mod' n (2 ^ 64)) in
    sym (ap (λ k. k % 16) parts ∙ add-mul-mod_self_right (n % 2 ^ 64 + 16) (n / 2 ^ 64 * 2 ^ 60) 16)

-- frames that pass in two pieces pass as one list
passed_twice : (r m n : ℕ) → ((r + m) % 2 ^ 64 + n) % 2 ^ 64 ≡ (r + (m + n)) % 2 ^ 64
passed_twice r m n =
    let sum : r + m + n ≡ r + (m + n) = omega arith in
    mod-add-mod (r + m) (2 ^ 64) n ∙ ap (λ k. k % 2 ^ 64) sum

stands_twice : (r i : ℕ) (slots fs gs : List Frame) → i < 16
    → standing (put_at ((r + length fs) % 2 ^ 64 + 16) gs (formerly ((r + length fs) % 2 ^ 64) 0 (standing_at (put_at (r + 16) fs (formerly r 0 slots)) 16 0 16 []))) 16 i [] ≡ standing (put_at (r + 16) (fs ++ gs) (formerly r 0 slots)) 16 i []
stands_twice r i slots fs gs inside =
    let before : List Put = put_at (r + 16) fs (formerly r 0 slots) in
    let count : ℕ = (r + length fs) % 2 ^ 64 in
    let shown : List Frame = standing_at (put_at (r + 16) fs (formerly r 0 slots)) 16 0 16 [] in
    let size : length shown ≡ 16 = length-standing_at before 16 0 16 [] in
    let former : standing (formerly count 0 shown) 16 i [] ≡ standing before 16 i [] = former_stands count i shown [] [] size inside ∙ get_or-standing_at before 16 16 i [] [] inside in
    let sum : r + length fs + 16 ≡ r + 16 + length fs = omega arith in
    let slot : (count + 16) % 16 ≡ (r + 16 + length fs) % 16 = slot_of_count (r + length fs) ∙ ap (λ k. k % 16) sum in
    ap (λ qs. standing qs 16 i []) (put_at-onto (count + 16) gs (formerly count 0 shown))
    ∙ (standing-append (formerly count 0 shown) (put_at (count + 16) gs []) 16 i []
    ∙ (ap (λ z. standing (put_at (count + 16) gs []) 16 i z) former
    ∙ (standing-put_at_same gs (count + 16) (r + 16 + length fs) 16 i (standing before 16 i []) slot
    ∙ (sym (standing-append before (put_at (r + 16 + length fs) gs []) 16 i [])
    ∙ (ap (λ qs. standing qs 16 i []) (sym (put_at-onto (r + 16 + length fs) gs before))
    ∙ ap (λ qs. standing qs 16 i []) (sym (put_at-append (r + 16) fs gs (formerly r 0 slots))))))))

pub passes_twice : (h : Hardware) (fs gs : List Frame) → after_passing (after_passing h fs) gs ≡ after_passing h (fs ++ gs)
passes_twice h fs gs =
    let count : ((h.passed + length fs) % 2 ^ 64 + length gs) % 2 ^ 64 ≡ (h.passed + length (fs ++ gs)) % 2 ^ 64 =
    passed_twice h.passed (length fs) (length gs) ∙ ap (λ n. (h.passed + n) % 2 ^ 64) (sym (length-append fs gs)) in
    let twice : List Put = passing (after_passing h fs) gs in
    let once : List Put = passing h (fs ++ gs) in
    let size : length (standing_at twice 16 0 16 []) ≡ 16 = length-standing_at twice 16 0 16 [] in
    let sizes : length (standing_at once 16 0 16 []) ≡ 16 = length-standing_at once 16 0 16 [] in
    let slots : standing_at twice 16 0 16 [] ≡ standing_at once 16 0 16 [] =
    same_lists _ _ (size ∙ sym sizes) (λ i d l. let inside : i < 16 = omega (arith, l, size) in
    get_or-standing_at twice 16 16 i [] d inside ∙ (stands_twice h.passed i h.slots fs gs inside ∙ sym (get_or-standing_at once 16 16 i [] d inside))) in
    ap (λ n. record h { passed = n; slots = standing_at twice 16 0 16 [] }) count
    ∙ ap (λ shown. record h { passed = (h.passed + length (fs ++ gs)) % 2 ^ 64; slots = shown }) slots

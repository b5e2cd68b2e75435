-- What stands in the slots of a ring, after frames are put in a round.
use Rattle.std.proofs.Common.{ℕ, zero, suc, ◌≡◌, ◌+◌, ◌-◌, ◌*◌, ◌/◌, ◌%◌, ◌≤◌, ◌<◌, ◌⊎◌, inl, inr, true, false, cond, nat_eq, List, [], ◌∷◌, ◌++◌, length, take, drop, get_or, refl, sym, ap, ◌∙◌, subst, arith, append_assoc, append-nil, take-append-drop, length-take, length-drop, get_or-set_same, get_or-set_other}
use Rattle.std.proofs.Math.ListN.{set, length-set}
use Rattle.std.proofs.lemmas.Bool.{cases_lt, cases_eq}
use Rattle.std.proofs.lemmas.Bool.Decides.{nat_tests}
use Rattle.std.proofs.lemmas.List.{take_all, drop_all, drop_more}
use Rattle.std.proofs.lemmas.List.Edits.{sets, sets-eq}
use Rattle.std.proofs.lemmas.Nat.{mod-mul-add, div-add-mod'}
use Rattle.std.proofs.Math.Nat.{mod-eq_of_lt}
use Rattle.pcm_base.specs.model.Frame.{Frame}
use Rattle.pcm_base.specs.model.Standing.{Put, same_slot, standing, put_at, standing_at}
use Rattle.ring_memory.specs.Round.{over, written_round, read_round}

-- these slots show the last of these puts
pub record Stands (b : ℕ) (slots : List Frame) (puts : List Put) (z : Frame) : Type 0 where
  pub count : length slots ≡ b
  pub stands : (i : ℕ) → i < b → get_or slots i [] ≡ standing puts b i z

-- one more put
standing-push : (qs : List Put) (q : Put) (b p : ℕ) (z : Frame) → standing (qs ++ q ∷ []) b p z ≡ cond (same_slot b q.at p) q.frame (standing qs b p z)
standing-push [] q b p z = refl
standing-push (r ∷ qs) q b p z = standing-push qs q b p (cond (same_slot b r.at p) r.frame z)

put_at-append : (fs gs : List Frame) (p : ℕ) (qs : List Put) → put_at p (fs ++ gs) qs ≡ put_at (p + length fs) gs (put_at p fs qs)
put_at-append [] gs p qs = ap (λ n. put_at n gs qs) (omega arith)
put_at-append (f ∷ fs) gs p qs =
    put_at-append fs gs (p + 1) (qs ++ record { at = p; frame = f } ∷ [])
    ∙ ap (λ n. put_at n gs (put_at (p + 1) fs (qs ++ record { at = p; frame = f } ∷ []))) (omega arith)

-- one frame put in its slot
stands_set : (b k s : ℕ) (f : Frame) (slots : List Frame) (qs : List Put) (z : Frame) → s < b → Stands b slots qs z → Stands b (set slots s f) (qs ++ record { at = k * b + s; frame = f } ∷ []) z
stands_set b k s f slots qs z h st = record { count = length-set slots s f ∙ st.count; stands = λ i l. at_slot i l (cases_eq i s) }
  where
    at_slot : (i : ℕ) → i < b → (i ≡ s) ⊎ (i ≡ s → ⊥) → get_or (set slots s f) i [] ≡ standing (qs ++ record { at = k * b + s; frame = f } ∷ []) b i z
    at_slot i l (inl e) =
        let same : same_slot b (k * b + s) i ≡ true = grind (arith, nat_tests, mod-mul-add k b s h, mod-eq_of_lt l, e) in
        let within : s < length slots = omega (arith, st.count) in
        ap (λ n. get_or (set slots s f) n []) e ∙ (get_or-set_same slots s f [] within
        ∙ sym (standing-push qs (record { at = k * b + s; frame = f }) b i z ∙ ap (λ t. cond t f (standing qs b i z)) same))
    at_slot i l (inr n) =
        let other : same_slot b (k * b + s) i ≡ false = grind (arith, nat_tests, mod-mul-add k b s h, mod-eq_of_lt l, n) in
        get_or-set_other slots s i f [] n ∙ (st.stands i l
        ∙ sym (standing-push qs (record { at = k * b + s; frame = f }) b i z ∙ ap (λ t. cond t f (standing qs b i z)) other))

-- frames put one after another, up to the ring's end at most
stands_sets : (fs : List Frame) (b k s : ℕ) (slots : List Frame) (qs : List Put) (z : Frame) → s + length fs ≤ b → Stands b slots qs z → Stands b (sets slots s fs) (put_at (k * b + s) fs qs) z
stands_sets [] b k s slots qs z h st = st
stands_sets (f ∷ fs) b k s slots qs z h st =
    let one : Stands b (set slots s f) (qs ++ record { at = k * b + s; frame = f } ∷ []) z = stands_set b k s f slots qs z (omega arith) st in
    let all : Stands b (sets (set slots s f) (suc s) fs) (put_at (k * b + suc s) fs (qs ++ record { at = k * b + s; frame = f } ∷ [])) z = stands_sets fs b k (suc s) (set slots s f) _ z (omega arith) one in
    subst (λ n. Stands b (sets (set slots s f) (suc s) fs) (put_at n fs (qs ++ record { at = k * b + s; frame = f } ∷ [])) z) (omega arith) all

over_is : (xs ys : List Frame) (s : ℕ) → s + length xs ≤ length ys → sets ys s xs ≡ over s xs ys
over_is xs ys s h = sets-eq xs ys s h ∙ append_assoc (take s ys) xs (drop (s + length xs) ys)

stands_over : (fs : List Frame) (b k s p : ℕ) (slots : List Frame) (qs : List Put) (z : Frame) → p ≡ k * b + s → s + length fs ≤ b → Stands b slots qs z → Stands b (over s fs slots) (put_at p fs qs) z
stands_over fs b k s p slots qs z e h st =
    let within : s + length fs ≤ length slots = omega (arith, st.count) in
    subst (λ ys. Stands b ys (put_at p fs qs) z) (over_is fs slots s within) (subst (λ n. Stands b (sets slots s fs) (put_at n fs qs) z) (sym e) (stands_sets fs b k s slots qs z h st))

-- frames put in a round
pub stands_round : (fs : List Frame) (b s p : ℕ) (slots : List Frame) (qs : List Put) (z : Frame) → 0 < b → p % b ≡ s → length fs ≤ b → Stands b slots qs z → Stands b (written_round s fs slots) (put_at p fs qs) z
stands_round fs b s p slots qs z pos e h st = by_place (cases_lt (b - s) (length fs))
  where
    place : p ≡ p / b * b + s
    place = omega (arith, div-add-mod' p b, e)

    low : s < b
    low = omega (arith, e)

    two : (room : ℕ) → room ≡ b - s → Stands b (over s (take room fs) slots) (put_at p (take room fs) qs) z
    two room er = stands_over (take room fs) b (p / b) s p slots qs z place (omega (arith, length-take room fs, low)) st

    by_place : (b - s < length fs) ⊎ (length fs ≤ b - s) → Stands b (written_round s fs slots) (put_at p fs qs) z
    by_place (inl k) =
        let room : ℕ = length slots - s in
        let wide : room ≡ b - s = omega (arith, st.count) in
        let near : length (take room fs) ≡ b - s = omega (arith, length-take room fs) in
        let there : p + length (take room fs) ≡ (p / b + 1) * b + 0 = omega (arith, place, low) in
        let rest : 0 + length (drop room fs) ≤ b = omega (arith, length-drop room fs) in
        let all : put_at (p + length (take room fs)) (drop room fs) (put_at p (take room fs) qs) ≡ put_at p fs qs = sym (put_at-append (take room fs) (drop room fs) p qs) ∙ ap (λ xs. put_at p xs qs) (take-append-drop room fs) in
        subst (λ ps. Stands b (written_round s fs slots) ps z) all (stands_over (drop room fs) b (p / b + 1) 0 (p + length (take room fs)) (over s (take room fs) slots) (put_at p (take room fs) qs) z there rest (two room wide))
    by_place (inr k) =
        let room : ℕ = length slots - s in
        let first : take room fs ≡ fs = take_all room fs (omega (arith, st.count)) in
        let none : drop room fs ≡ [] = drop_all room fs (omega (arith, st.count)) in
        let one : Stands b (over s fs slots) (put_at p fs qs) z = stands_over fs b (p / b) s p slots qs z place (omega (arith, low)) st in
        subst (λ xs. Stands b (over 0 xs (over s (take room fs) slots)) (put_at p fs qs) z) (sym none) (subst (λ xs. Stands b (over s xs slots) (put_at p fs qs) z) (sym first) one)

-- frames that stand one after another, up to the ring's end at most
standing_before_end : (n b k s p : ℕ) (slots : List Frame) (qs : List Put) (z : Frame) → p ≡ k * b + s → s + n ≤ b → Stands b slots qs z → standing_at qs b p n z ≡ take n (drop s slots)
standing_before_end zero b k s p slots qs z e h st = refl
standing_before_end (suc n) b k s p slots qs z e h st =
    let within : s < length slots = omega (arith, st.count) in
    let inside : s < b = omega arith in
    let next : p + 1 ≡ k * b + (s + 1) = omega arith in
    let here : standing qs b p z ≡ get_or slots s [] = same_standing qs b p s z (ap (λ m. m % b) e ∙ (mod-mul-add k b s inside ∙ sym (mod-eq_of_lt inside))) ∙ sym (st.stands s inside) in
    ap (λ f. f ∷ standing_at qs b (p + 1) n z) here
    ∙ (ap (λ fs. get_or slots s [] ∷ fs) (standing_before_end n b k (s + 1) (p + 1) slots qs z next (omega arith) st)
    ∙ ap (take (suc n)) (sym (drop_more slots s [] within)))
  where
    same_standing : (qs : List Put) (b p q : ℕ) (z : Frame) → p % b ≡ q % b → standing qs b p z ≡ standing qs b q z
    same_standing [] b p q z e = refl
    same_standing (r ∷ qs) b p q z e =
        ap (λ n. standing qs b p (cond (nat_eq (r.at % b) n) r.frame z)) e ∙ same_standing qs b p q (cond (nat_eq (r.at % b) (q % b)) r.frame z) e

standing_at-add : (m n b p : ℕ) (qs : List Put) (z : Frame) → standing_at qs b p (m + n) z ≡ standing_at qs b p m z ++ standing_at qs b (p + m) n z
standing_at-add zero n b p qs z =
    let e : 0 + n ≡ n = omega arith in
    let f : p ≡ p + 0 = omega arith in
    ap (λ k. standing_at qs b p k z) e ∙ ap (λ k. standing_at qs b k n z) f
standing_at-add (suc m) n b p qs z =
    let e : suc m + n ≡ suc (m + n) = omega arith in
    let f : p + 1 + m ≡ p + suc m = omega arith in
    ap (λ k. standing_at qs b p k z) e
    ∙ (ap (λ fs. standing qs b p z ∷ fs) (standing_at-add m n b (p + 1) qs z)
    ∙ ap (λ k. standing qs b p z ∷ (standing_at qs b (p + 1) m z ++ standing_at qs b k n z)) f)

-- frames read in a round
pub standing_round : (n b s p : ℕ) (slots : List Frame) (qs : List Put) (z : Frame) → 0 < b → p % b ≡ s → n ≤ b → Stands b slots qs z → standing_at qs b p n z ≡ read_round s n slots
standing_round n b s p slots qs z pos e h st = by_place (cases_lt (b - s) n)
  where
    place : p ≡ p / b * b + s
    place = omega (arith, div-add-mod' p b, e)

    low : s < b
    low = omega (arith, e)

    by_place : (b - s < n) ⊎ (n ≤ b - s) → standing_at qs b p n z ≡ read_round s n slots
    by_place (inl k) =
        let split : n ≡ (b - s) + (n - (b - s)) = omega arith in
        let there : p + (b - s) ≡ (p / b + 1) * b + 0 = omega (arith, place, low) in
        let over : take (b - s) (drop s slots) ≡ take n (drop s slots) = take_all (b - s) (drop s slots) (omega (arith, length-drop s slots, st.count)) ∙ sym (take_all n (drop s slots) (omega (arith, length-drop s slots, st.count))) in
        let room : b - s ≡ length slots - s = omega (arith, st.count) in
        ap (λ m. standing_at qs b p m z) split
        ∙ (standing_at-add (b - s) (n - (b - s)) b p qs z
        ∙ (ap (λ fs. fs ++ standing_at qs b (p + (b - s)) (n - (b - s)) z) (standing_before_end (b - s) b (p / b) s p slots qs z place (omega (arith, low)) st ∙ over)
        ∙ (ap (λ fs. take n (drop s slots) ++ fs) (standing_before_end (n - (b - s)) b (p / b + 1) 0 (p + (b - s)) slots qs z there (omega arith) st)
        ∙ ap (λ m. take n (drop s slots) ++ take (n - m) slots) room)))
    by_place (inr k) =
        let none : n - (length slots - s) ≡ 0 = omega (arith, st.count) in
        standing_before_end n b (p / b) s p slots qs z place (omega (arith, low)) st
        ∙ (sym (append-nil (take n (drop s slots))) ∙ ap (λ m. take n (drop s slots) ++ take m slots) (sym none))

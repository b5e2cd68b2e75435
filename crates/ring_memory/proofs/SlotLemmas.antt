-- Pieces of equal width, one behind the other, of which one is written.
use Rattle.std.proofs.Common.{ℕ, zero, suc, ◌≡◌, ◌+◌, ◌-◌, ◌*◌, ◌≤◌, ◌<◌, ◌⊎◌, inl, inr, List, [], ◌∷◌, ◌++◌, length, take, drop, get_or, map, refl, sym, ap, ◌∙◌, subst, arith, append_assoc, length-append, length-take, length-drop}
use Rattle.std.proofs.lemmas.Bool.{cases_lt, cases_eq}
use Rattle.std.proofs.lemmas.Grind.{common_steps}
use Rattle.std.proofs.lemmas.List.{drop-append-le, take-append-le, drop-take, take-take, drop-drop}
use Rattle.std.proofs.lemmas.Nat.{row_fits}
use Rattle.std.proofs.lemmas.Slice.{drop-append-drop}
use borrow.Rule.Slice.PartMut.{put_mid}
use Rattle.pcm_base.specs.model.Frame.{frames_of}
use Rattle.ring_memory.specs.Round.{over}
use Rattle.ring_memory.proofs.RoundLemmas.{length-over}

-- piece i of bytes, w bytes each
abbrev pub piece : ℕ → ℕ → List ℕ → List ℕ
piece w i xs = take w (drop (i * w) xs)

-- a part of a memory that was written is the memory with that part over it
pub put_mid-over : (at k : ℕ) (xs ys : List ℕ) → length ys ≡ k → put_mid at (at + k - at) xs ys ≡ over at ys xs
put_mid-over at k xs ys e =
    let there : at + (at + k - at) ≡ at + length ys = omega arith in
    ap (λ zs. take at xs ++ (ys ++ zs)) (drop-drop (at + k - at) at xs ∙ ap (λ m. drop m xs) there)

-- pieces do not overlap
pub piece_fits : (w i n : ℕ) → i < n → i * w + w ≤ n * w
piece_fits w i n h = row_fits i w n w h (omega arith)

pub piece_written : (w s : ℕ) (f xs : List ℕ) → length f ≡ w → s * w + w ≤ length xs → piece w s (over (s * w) f xs) ≡ f
piece_written w s f xs e h = grind (arith, common_steps)

piece_before : (w p q : ℕ) (xs ys : List ℕ) → p + w ≤ q → q ≤ length xs → take w (drop p (take q xs ++ ys)) ≡ take w (drop p xs)
piece_before w p q xs ys h k =
    let a : p ≤ length (take q xs) = omega (arith, length-take q xs) in
    let b : w ≤ length (drop p (take q xs)) = omega (arith, length-drop p (take q xs), length-take q xs) in
    let split : q ≡ p + (q - p) = omega arith in
    ap (take w) (drop-append-le p (take q xs) ys a)
    ∙ (take-append-le w (drop p (take q xs)) ys b
    ∙ (ap (λ n. take w (drop p (take n xs))) split
    ∙ (ap (take w) (drop-take p (q - p) xs) ∙ take-take w (q - p) (drop p xs) (omega arith))))

piece_after : (p q : ℕ) (xs f : List ℕ) → q + length f ≤ p → q + length f ≤ length xs → drop p (take q xs ++ (f ++ drop (q + length f) xs)) ≡ drop p xs
piece_after p q xs f h k =
    ap (drop p) (sym (append_assoc (take q xs) f (drop (q + length f) xs)))
    ∙ drop-append-drop (q + length f) xs (take q xs ++ f) p h (omega (arith, length-append (take q xs) f, length-take q xs))

pub piece_kept : (w s i : ℕ) (f xs : List ℕ) → length f ≡ w → s * w + w ≤ length xs → (s ≡ i → ⊥) → piece w i (over (s * w) f xs) ≡ piece w i xs
piece_kept w s i f xs e h n = by_place (cases_lt s i)
  where
    by_place : (s < i) ⊎ (i ≤ s) → piece w i (over (s * w) f xs) ≡ piece w i xs
    by_place (inl l) = ap (take w) (piece_after (i * w) (s * w) xs f (omega (arith, piece_fits w s i l)) (omega arith))
    by_place (inr l) = piece_before w (i * w) (s * w) xs (f ++ drop (s * w + length f) xs) (piece_fits w i s (omega arith)) (omega arith)

pub frames_of-get : (n w k : ℕ) (xs : List ℕ) → k < n → get_or (frames_of n w xs) k [] ≡ piece w k xs
frames_of-get zero w k xs h = absurd (omega arith)
frames_of-get (suc n) w zero xs h =
    let none : 0 ≡ 0 * w = omega arith in
    ap (λ m. take w (drop m xs)) none
frames_of-get (suc n) w (suc k) xs h =
    let more : w + k * w ≡ suc k * w = omega arith in
    frames_of-get n w k (drop w xs) (omega arith) ∙ (ap (take w) (drop-drop (k * w) w xs) ∙ ap (λ m. take w (drop m xs)) more)

-- the first c pieces are written, and the others are as they were
pub record IsWrittenTo (write : ℕ → List ℕ → List ℕ) (c w : ℕ) (old now : List ℕ) : Type 0 where
  pub size : length now ≡ length old
  pub written : (k : ℕ) → k < c → piece w k now ≡ write k (piece w k old)
  pub kept : (k : ℕ) → c ≤ k → piece w k now ≡ piece w k old

pub IsWrittenTo-next : (write : ℕ → List ℕ → List ℕ) (c w : ℕ) (old now new : List ℕ) → c * w + w ≤ length old → length new ≡ w → new ≡ write c (piece w c now)
    → IsWrittenTo write c w old now → IsWrittenTo write (c + 1) w old (over (c * w) new now)
IsWrittenTo-next write c w old now new h e is st = record {
  size = length-over (c * w) new now (omega (arith, st.size)) ∙ st.size;
  written = λ k l. at_piece k l (cases_eq c k);
  kept = λ k l. piece_kept w c k new now e (omega (arith, st.size)) (λ s. absurd (omega arith)) ∙ st.kept k (omega arith);
}
  where
    at_piece : (k : ℕ) → k < c + 1 → (c ≡ k) ⊎ (c ≡ k → ⊥) → piece w k (over (c * w) new now) ≡ write k (piece w k old)
    at_piece k l (inl s) =
        let here : piece w c (over (c * w) new now) ≡ write c (piece w c old) =
        piece_written w c new now e (omega (arith, st.size)) ∙ (is ∙ ap (write c) (st.kept c (omega arith))) in
        subst (λ m. piece w m (over (c * w) new now) ≡ write m (piece w m old)) s here
    at_piece k l (inr n) = piece_kept w c k new now e (omega (arith, st.size)) n ∙ st.written k (omega arith)

-- the same, as a part of a memory is written
pub IsWrittenTo-write : (write : ℕ → List ℕ → List ℕ) (c w : ℕ) (old now new : List ℕ) → c * w + w ≤ length old → length new ≡ w → new ≡ write c (piece w c now)
    → IsWrittenTo write c w old now → IsWrittenTo write (c + 1) w old (put_mid (c * w) (c * w + w - c * w) now new)
IsWrittenTo-write write c w old now new h e is st = subst (IsWrittenTo write (c + 1) w old) (sym (put_mid-over (c * w) w now new e)) (IsWrittenTo-next write c w old now new h e is st)

-- two maps that agree at each place
pub maps_agree : {A B C : Type 0} (f : A → C) (g : B → C) (xs : List A) (ys : List B) (d : A) (e : B) → length xs ≡ length ys
    → ((k : ℕ) → k < length xs → f (get_or xs k d) ≡ g (get_or ys k e)) → map f xs ≡ map g ys
maps_agree f g [] [] d e len same = refl
maps_agree f g [] (y ∷ ys) d e len same = absurd (omega arith)
maps_agree f g (x ∷ xs) [] d e len same = absurd (omega arith)
maps_agree f g (x ∷ xs) (y ∷ ys) d e len same =
    ap (λ z. z ∷ map f xs) (same 0 (omega arith)) ∙ ap (λ zs. g y ∷ zs) (maps_agree f g xs ys d e (omega arith) (λ k h. same (suc k) (omega arith)))

-- the size of a piece, as it is cut from the bytes
pub cut_size : (w i n : ℕ) (xs : List ℕ) → i < n → length xs ≡ n * w → length (take (i * w + w - i * w) (drop (i * w) xs)) ≡ w
cut_size w i n xs h e =
    length-take (i * w + w - i * w) (drop (i * w) xs) ∙ omega (arith, length-drop (i * w) xs, piece_fits w i n h)

pub piece_size : (w i n : ℕ) (xs : List ℕ) → i < n → length xs ≡ n * w → length (piece w i xs) ≡ w
piece_size w i n xs h e = length-take w (drop (i * w) xs) ∙ omega (arith, length-drop (i * w) xs, piece_fits w i n h)

-- a part, and a piece, cut by their ends
pub cut_is : (a b : ℕ) (xs : List ℕ) → take (a + b - a) (drop a xs) ≡ take b (drop a xs)
cut_is a b xs = ap (λ k. take k (drop a xs)) (omega arith)

pub cut_piece : (w i : ℕ) (xs : List ℕ) → take (i * w + w - i * w) (drop (i * w) xs) ≡ piece w i xs
cut_piece w i xs = cut_is (i * w) w xs

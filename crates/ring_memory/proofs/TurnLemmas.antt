-- Writes and reads in a round, item by item.
use Rattle.std.proofs.Common.{ℕ, suc, ◌≡◌, ◌+◌, ◌-◌, ◌*◌, ◌%◌, ◌≤◌, ◌<◌, ◌⊎◌, inl, inr, List, [], ◌∷◌, ◌++◌, length, take, drop, get_or, refl, sym, ap, ◌∙◌, subst, arith, append_assoc, append-nil, take-append-drop, length-append, length-take, length-drop}
use Rattle.std.proofs.Math.ListN.{set, length-set}
use Rattle.std.proofs.Math.Nat.{mod-eq_of_lt, add-mod_right}
use Rattle.std.proofs.lemmas.Bool.{cases_lt, cases_eq}
use Rattle.std.proofs.lemmas.List.{get_or_append_left, get_or-append_right, get_or-take, get_or-drop, get_or-set_same, get_or-set_other, get_or_default, same_lists, take_all, take_more, drop_more, set_at, set_split, get_or_push, drop_all}
use borrow.Rule.Slice.PartMut.{put_mid}
use Rattle.pcm_base.specs.model.Frame.{Frame, frames_of, bytes_of}
use Rattle.ring_memory.proofs.FrameLemmas.{length-frames_of, frames_of-over, bytes_of-append}
use Rattle.ring_memory.proofs.SlotLemmas.{put_mid-over}
use Rattle.ring_memory.specs.Round.{over, written_round, read_round, part}
use Rattle.ring_memory.proofs.RoundLemmas.{length-over}

-- items of a list with others written over it
pub over_before : (a i : ℕ) (xs ys : List Frame) → i < a → a ≤ length ys → get_or (over a xs ys) i [] ≡ get_or ys i []
over_before a i xs ys h l = get_or_append_left (take a ys) (xs ++ drop (a + length xs) ys) [] i (omega (arith, length-take a ys)) ∙ get_or-take a ys i [] h

pub over_in : (a i : ℕ) (xs ys : List Frame) → a ≤ i → i - a < length xs → a ≤ length ys → get_or (over a xs ys) i [] ≡ get_or xs (i - a) []
over_in a i xs ys h k l =
    get_or-append_right (take a ys) (xs ++ drop (a + length xs) ys) a i [] (omega (arith, length-take a ys)) h
    ∙ get_or_append_left xs (drop (a + length xs) ys) [] (i - a) k

pub over_after : (a i : ℕ) (xs ys : List Frame) → a + length xs ≤ i → a ≤ length ys → get_or (over a xs ys) i [] ≡ get_or ys i []
over_after a i xs ys h l =
    let there : a + length xs + (i - a - length xs) ≡ i = omega arith in
    get_or-append_right (take a ys) (xs ++ drop (a + length xs) ys) a i [] (omega (arith, length-take a ys)) (omega arith)
    ∙ (get_or-append_right xs (drop (a + length xs) ys) (length xs) (i - a) [] refl (omega arith)
    ∙ (get_or-drop (a + length xs) ys (i - a - length xs) [] ∙ ap (λ n. get_or ys n []) there))

-- how far place i lies ahead of s in a round of b
pub record IsAhead (b s i a : ℕ) : Type 0 where
  pub here : s ≤ i → a ≡ i - s
  pub round : i < s → a ≡ b - s + i

pub ahead : (b s i : ℕ) → s < b → i < b → (a : ℕ) × (a < b) × IsAhead b s i a
ahead b s i h l = by_place (cases_lt i s)
  where
    by_place : (i < s) ⊎ (s ≤ i) → (a : ℕ) × (a < b) × IsAhead b s i a
    by_place (inl k) = (b - s + i, omega arith, record { here = λ m. omega arith; round = λ m. refl })
    by_place (inr k) = (i - s, omega arith, record { here = λ m. refl; round = λ m. omega arith })

-- an item of a list that was written in a round
pub written_item : (s i a : ℕ) (fs ys : List Frame) → s ≤ length ys → length fs ≤ length ys → i < length ys → IsAhead (length ys) s i a → a < length fs → get_or (written_round s fs ys) i [] ≡ get_or fs a []
written_item s i a fs ys h k l far less = by_place (cases_lt i s)
  where
    room : ℕ
    room = length ys - s

    once : List Frame
    once = over s (take (length ys - s) fs) ys

    by_place : (i < s) ⊎ (s ≤ i) → get_or (written_round s fs ys) i [] ≡ get_or fs a []
    by_place (inl m) =
        let there : length ys - s + i ≡ a = sym (far.round m) in
        let start : i - 0 ≡ i = omega arith in
        over_in 0 i (drop (length ys - s) fs) (over s (take (length ys - s) fs) ys) (omega arith) (omega (arith, length-drop (length ys - s) fs)) (omega arith)
        ∙ (ap (λ n. get_or (drop (length ys - s) fs) n []) start ∙ (get_or-drop (length ys - s) fs i [] ∙ ap (λ n. get_or fs n []) there))
    by_place (inr m) =
        let there : i - s ≡ a = sym (far.here m) in
        over_after 0 i (drop (length ys - s) fs) (over s (take (length ys - s) fs) ys) (omega (arith, length-drop (length ys - s) fs)) (omega arith)
        ∙ (over_in s i (take (length ys - s) fs) ys m (omega (arith, length-take (length ys - s) fs)) h
        ∙ (get_or-take (length ys - s) fs (i - s) [] (omega arith) ∙ ap (λ n. get_or fs n []) there))

-- an item that was left
pub kept_item : (s i a : ℕ) (fs ys : List Frame) → s ≤ length ys → length fs ≤ length ys → i < length ys → IsAhead (length ys) s i a → length fs ≤ a → get_or (written_round s fs ys) i [] ≡ get_or ys i []
kept_item s i a fs ys h k l far more = by_place (cases_lt i s)
  where
    by_place : (i < s) ⊎ (s ≤ i) → get_or (written_round s fs ys) i [] ≡ get_or ys i []
    by_place (inl m) =
        over_after 0 i (drop (length ys - s) fs) (over s (take (length ys - s) fs) ys) (omega (arith, length-drop (length ys - s) fs, far.round m)) (omega arith)
        ∙ over_before s i (take (length ys - s) fs) ys m h
    by_place (inr m) =
        over_after 0 i (drop (length ys - s) fs) (over s (take (length ys - s) fs) ys) (omega (arith, length-drop (length ys - s) fs)) (omega arith)
        ∙ over_after s i (take (length ys - s) fs) ys (omega (arith, length-take (length ys - s) fs, far.here m)) h

pub length-written_round : (s : ℕ) (fs ys : List Frame) → s ≤ length ys → length fs ≤ length ys → length (written_round s fs ys) ≡ length ys
length-written_round s fs ys h k =
    let once : length (over s (take (length ys - s) fs) ys) ≡ length ys = length-over s (take (length ys - s) fs) ys (omega (arith, length-take (length ys - s) fs)) in
    length-over 0 (drop (length ys - s) fs) (over s (take (length ys - s) fs) ys) (omega (arith, length-drop (length ys - s) fs)) ∙ once

-- the place k slots after s
pub place_ahead : (b s k i : ℕ) → s < b → k < b → i ≡ (s + k) % b → (i < b) × IsAhead b s i k
place_ahead b s k i h l e = by_place (cases_lt (s + k) b)
  where
    by_place : (s + k < b) ⊎ (b ≤ s + k) → (i < b) × IsAhead b s i k
    by_place (inl m) =
        let at : i ≡ s + k = e ∙ mod-eq_of_lt m in
        (omega arith, record { here = λ q. omega arith; round = λ q. omega arith })
    by_place (inr m) =
        let split : s + k ≡ (s + k - b) + b = omega arith in
        let low : s + k - b < b = omega arith in
        let at : i ≡ s + k - b = e ∙ (ap (λ n. n % b) split ∙ (add-mod_right (s + k - b) b ∙ mod-eq_of_lt low)) in
        (omega arith, record { here = λ q. omega arith; round = λ q. omega arith })

same_ahead : (b s i j a : ℕ) → s < b → i < b → j < b → IsAhead b s i a → IsAhead b s j a → i ≡ j
same_ahead b s i j a h k l m n = by_place (cases_lt i s) (cases_lt j s)
  where
    by_place : (i < s) ⊎ (s ≤ i) → (j < s) ⊎ (s ≤ j) → i ≡ j
    by_place (inl p) (inl q) = omega (arith, m.round p, n.round q)
    by_place (inl p) (inr q) = omega (arith, m.round p, n.here q)
    by_place (inr p) (inl q) = omega (arith, m.here p, n.round q)
    by_place (inr p) (inr q) = omega (arith, m.here p, n.here q)

-- one more item written
pub written_next : (b s i : ℕ) (fs ys : List Frame) (f : Frame) → length ys ≡ b → s < b → length fs < b → i ≡ (s + length fs) % b → set (written_round s fs ys) i f ≡ written_round s (fs ++ f ∷ []) ys
written_next b s i fs ys f e h k at =
    same_lists _ _ (length-set (written_round s fs ys) i f ∙ (before ∙ sym after)) (λ j d l.
    let inside : j < length ys = omega (arith, length-set (written_round s fs ys) i f, before) in
    get_or_default (set (written_round s fs ys) i f) j d [] l
    ∙ (at_item j inside (cases_eq j i) ∙ get_or_default (written_round s (fs ++ f ∷ []) ys) j [] d (omega (arith, after))))
  where
    more : length (fs ++ f ∷ []) ≡ length fs + 1
    more = length-append fs (f ∷ [])

    before : length (written_round s fs ys) ≡ length ys
    before = length-written_round s fs ys (omega arith) (omega arith)

    after : length (written_round s (fs ++ f ∷ []) ys) ≡ length ys
    after = length-written_round s (fs ++ f ∷ []) ys (omega arith) (omega (arith, length-append fs (f ∷ [])))

    place : (i < length ys) × IsAhead (length ys) s i (length fs)
    place = place_ahead (length ys) s (length fs) i (omega arith) (omega arith) (at ∙ ap (λ n. (s + length fs) % n) (sym e))

    by_ahead : (j : ℕ) → j < length ys → (j ≡ i → ⊥) → (a : ℕ) → IsAhead (length ys) s j a → (a < length fs) ⊎ (length fs ≤ a) → get_or (written_round s fs ys) j [] ≡ get_or (written_round s (fs ++ f ∷ []) ys) j []
    by_ahead j l apart a far (inl m) =
        written_item s j a fs ys (omega arith) (omega arith) l far m
        ∙ (sym (get_or_append_left fs (f ∷ []) [] a m)
        ∙ sym (written_item s j a (fs ++ f ∷ []) ys (omega arith) (omega (arith, length-append fs (f ∷ []))) l far (omega (arith, length-append fs (f ∷ [])))))
    by_ahead j l apart a far (inr m) =
        let other : a ≡ length fs → ⊥ = λ q. apart (same_ahead (length ys) s j i (length fs) (omega arith) l place.0 (subst (IsAhead (length ys) s j) q far) place.1) in
        kept_item s j a fs ys (omega arith) (omega arith) l far m
        ∙ sym (kept_item s j a (fs ++ f ∷ []) ys (omega arith) (omega (arith, length-append fs (f ∷ []))) l far (omega (arith, length-append fs (f ∷ []), other)))

    at_item : (j : ℕ) → j < length ys → (j ≡ i) ⊎ (j ≡ i → ⊥) → get_or (set (written_round s fs ys) i f) j [] ≡ get_or (written_round s (fs ++ f ∷ []) ys) j []
    at_item j l (inl q) =
        ap (λ n. get_or (set (written_round s fs ys) i f) n []) q
        ∙ (get_or-set_same (written_round s fs ys) i f [] (omega (arith, before, place.0))
        ∙ (sym (get_or_push fs f [] (length fs) refl)
        ∙ (sym (written_item s i (length fs) (fs ++ f ∷ []) ys (omega arith) (omega (arith, length-append fs (f ∷ []))) place.0 place.1 (omega (arith, length-append fs (f ∷ []))))
        ∙ ap (λ n. get_or (written_round s (fs ++ f ∷ []) ys) n []) (sym q))))
    at_item j l (inr apart) =
        let a = ahead (length ys) s j (omega arith) l in
        get_or-set_other (written_round s fs ys) i j f [] apart ∙ by_ahead j l apart a.0 a.2 (cases_lt a.0 (length fs))

-- the frames from the first on, with one more
pub part_next : (first k : ℕ) (fs : List Frame) → first + k < length fs → part first (k + 1) fs ≡ part first k fs ++ get_or fs (first + k) [] ∷ []
part_next first k fs h = take_more (drop first fs) k [] (omega (arith, length-drop first fs)) ∙ ap (λ f. part first k fs ++ f ∷ []) (get_or-drop first fs k [])

-- one more item read in a round
pub read_next : (b s k i : ℕ) (ys : List Frame) → length ys ≡ b → s < b → k < b → i ≡ (s + k) % b → read_round s (k + 1) ys ≡ read_round s k ys ++ get_or ys i [] ∷ []
read_next b s k i ys e h l at = by_place (cases_lt (s + k) b)
  where
    near : s + k < b → i ≡ s + k
    near m = at ∙ mod-eq_of_lt m

    far : b ≤ s + k → i ≡ s + k - b
    far m =
        let split : s + k ≡ (s + k - b) + b = omega arith in
        let low : s + k - b < b = omega arith in
        at ∙ (ap (λ n. n % b) split ∙ (add-mod_right (s + k - b) b ∙ mod-eq_of_lt low))

    by_place : (s + k < b) ⊎ (b ≤ s + k) → read_round s (k + 1) ys ≡ read_round s k ys ++ get_or ys i [] ∷ []
    by_place (inl m) =
        let none : k + 1 - (length ys - s) ≡ 0 = omega arith in
        let nothing : k - (length ys - s) ≡ 0 = omega arith in
        let here : get_or (drop s ys) k [] ≡ get_or ys i [] = get_or-drop s ys k [] ∙ ap (λ n. get_or ys n []) (sym (near m)) in
        ap (λ n. take (k + 1) (drop s ys) ++ take n ys) none
        ∙ (append-nil (take (k + 1) (drop s ys))
        ∙ (take_more (drop s ys) k [] (omega (arith, length-drop s ys))
        ∙ (ap (λ f. take k (drop s ys) ++ f ∷ []) here
        ∙ (ap (λ xs. xs ++ get_or ys i [] ∷ []) (sym (append-nil (take k (drop s ys))))
        ∙ ap (λ n. (take k (drop s ys) ++ take n ys) ++ get_or ys i [] ∷ []) (sym nothing)))))
    by_place (inr m) =
        let whole : take (k + 1) (drop s ys) ≡ take k (drop s ys) = take_all (k + 1) (drop s ys) (omega (arith, length-drop s ys)) ∙ sym (take_all k (drop s ys) (omega (arith, length-drop s ys))) in
        let more : k + 1 - (length ys - s) ≡ (k - (length ys - s)) + 1 = omega arith in
        let place : k - (length ys - s) ≡ i = omega (arith, far m) in
        ap (λ xs. xs ++ take (k + 1 - (length ys - s)) ys) whole
        ∙ (ap (λ n. take k (drop s ys) ++ take n ys) more
        ∙ (ap (λ xs. take k (drop s ys) ++ xs) (take_more ys (k - (length ys - s)) [] (omega arith))
        ∙ (ap (λ n. take k (drop s ys) ++ (take (k - (length ys - s)) ys ++ get_or ys n [] ∷ [])) place
        ∙ sym (append_assoc (take k (drop s ys)) (take (k - (length ys - s)) ys) (get_or ys i [] ∷ [])))))

pub length-read_round : (b s k : ℕ) (ys : List Frame) → length ys ≡ b → s < b → k ≤ b → length (read_round s k ys) ≡ k
length-read_round b s k ys e h l = length-append (take k (drop s ys)) (take (k - (length ys - s)) ys) ∙ omega (arith, length-take k (drop s ys), length-drop s ys, length-take (k - (length ys - s)) ys)

-- one more item written over others
pub over_next : (a i : ℕ) (xs ys : List Frame) (f : Frame) → i ≡ a + length xs → a + length xs < length ys → set (over a xs ys) i f ≡ over a (xs ++ f ∷ []) ys
over_next a i xs ys f at h =
    let front : length (take a ys ++ xs) ≡ i = length-append (take a ys) xs ∙ omega (arith, length-take a ys) in
    let more : a + length xs + 1 ≡ a + length (xs ++ f ∷ []) = omega (arith, length-append xs (f ∷ [])) in
    let rest : drop (a + length xs) ys ≡ get_or ys (a + length xs) [] ∷ drop (a + length xs + 1) ys = drop_more ys (a + length xs) [] h in
    ap (λ zs. set zs i f) (sym (append_assoc (take a ys) xs (drop (a + length xs) ys)))
    ∙ (ap (λ zs. set ((take a ys ++ xs) ++ zs) i f) rest
    ∙ (set_at (take a ys ++ xs) (get_or ys (a + length xs) []) (drop (a + length xs + 1) ys) f i front
    ∙ (append_assoc (take a ys) xs (f ∷ drop (a + length xs + 1) ys)
    ∙ (ap (λ zs. take a ys ++ zs) (sym (append_assoc xs (f ∷ []) (drop (a + length xs + 1) ys)))
    ∙ ap (λ n. take a ys ++ ((xs ++ f ∷ []) ++ drop n ys)) more))))

-- over nothing
pub over_none : (a : ℕ) (ys : List Frame) → over a [] ys ≡ ys
over_none a ys =
    let same : a + 0 ≡ a = omega arith in
    ap (λ n. take a ys ++ drop n ys) same ∙ take-append-drop a ys

pub written_none : (s : ℕ) (ys : List Frame) → written_round s [] ys ≡ ys
written_none s ys =
    let none : drop (length ys - s) [] ≡ [] = drop_all {X = Frame} (length ys - s) [] (omega arith) in
    let nothing : take (length ys - s) [] ≡ [] = take_all {A = Frame} (length ys - s) [] (omega arith) in
    ap (λ zs. over 0 zs (over s (take (length ys - s) []) ys)) none ∙ (ap (λ zs. over s zs ys) nothing ∙ over_none s ys)

-- the frame of a slot, written in the bytes
pub slot_written : (b w j : ℕ) (ring new : List ℕ) → length ring ≡ b * w → length new ≡ w → j < b → frames_of b w (put_mid (j * w) (j * w + w - j * w) ring new) ≡ set (frames_of b w ring) j new
slot_written b w j ring new er en h =
    let one : length new ≡ 1 * w = omega arith in
    let next : j + 1 ≡ suc j = omega arith in
    let within : j < length (frames_of b w ring) = omega (arith, length-frames_of b w ring) in
    ap (frames_of b w) (put_mid-over (j * w) w ring new en)
    ∙ (frames_of-over j 1 b w new ring one er (omega arith)
    ∙ (ap (λ f. over j (f ∷ []) (frames_of b w ring)) (take_all w new (omega arith))
    ∙ (ap (λ n. take j (frames_of b w ring) ++ new ∷ drop n (frames_of b w ring)) next
    ∙ sym (set_split (frames_of b w ring) j new within))))

pub length-part : (first k : ℕ) (fs : List Frame) → first + k ≤ length fs → length (part first k fs) ≡ k
length-part first k fs h = length-take k (drop first fs) ∙ omega (arith, length-drop first fs)

-- one more frame in its slot, in the bytes and in the round
pub put_next : (b w s at k : ℕ) (ring new : List ℕ) (f : Frame) (fs gs slots : List Frame) → length ring ≡ b * w → length new ≡ w → length slots ≡ b → s < b → k < b → at ≡ (s + k) % b → new ≡ f
    → length fs ≡ k → gs ≡ fs ++ f ∷ [] → frames_of b w ring ≡ written_round s fs slots
    → frames_of b w (put_mid (at * w) (at * w + w - at * w) ring new) ≡ written_round s gs slots
put_next b w s at k ring new f fs gs slots er en es h l place is count more st =
    slot_written b w at ring new er en (omega arith)
    ∙ (ap (λ ys. set ys at new) st
    ∙ (ap (λ g. set (written_round s fs slots) at g) is
    ∙ (written_next b s at fs slots f es h (omega arith) (place ∙ ap (λ n. (s + n) % b) (sym count))
    ∙ ap (λ xs. written_round s xs slots) (sym more))))

pub read_none : (s : ℕ) (ys : List Frame) → read_round s 0 ys ≡ []
read_none s ys =
    let none : 0 - (length ys - s) ≡ 0 = omega arith in
    ap (λ n. take n ys) none

-- one more frame got from its slot
pub get_next : (b s at k first i : ℕ) (new : List Frame) (f : Frame) (slots old before : List Frame) → length slots ≡ b → s < b → k < b → at ≡ (s + k) % b → first + k < length old → f ≡ get_or slots at []
    → i ≡ first + k → new ≡ set before i f → before ≡ over first (read_round s k slots) old → new ≡ over first (read_round s (k + 1) slots) old
get_next b s at k first i new f slots old before es h l place within is there written st =
    let count : length (read_round s k slots) ≡ k = length-read_round b s k slots es h (omega arith) in
    written
    ∙ (ap (λ ys. set ys i f) st
    ∙ (over_next first i (read_round s k slots) old f (omega arith) (omega arith)
    ∙ (ap (λ g. over first (read_round s k slots ++ g ∷ []) old) is
    ∙ ap (λ xs. over first xs old) (sym (read_next b s k at slots es h l place)))))

-- one more frame put in its slot, where the slots are known
pub set_next : (b s at k : ℕ) (f g : Frame) (fs gs slots before after : List Frame) → length slots ≡ b → s < b → k < b → at ≡ (s + k) % b → f ≡ g → length fs ≡ k → gs ≡ fs ++ g ∷ []
    → after ≡ set before at f → before ≡ written_round s fs slots → after ≡ written_round s gs slots
set_next b s at k f g fs gs slots before after es h l place is count more written st =
    written
    ∙ (ap (λ ys. set ys at f) st
    ∙ (ap (λ x. set (written_round s fs slots) at x) is
    ∙ (written_next b s at fs slots g es h (omega arith) (place ∙ ap (λ n. (s + n) % b) (sym count))
    ∙ ap (λ xs. written_round s xs slots) (sym more))))

-- one more frame read, as bytes
pub bytes_next : (b s k at w : ℕ) (slots : List Frame) (out after new : List ℕ) → length slots ≡ b → s < b → k < b → at ≡ (s + k) % b → new ≡ get_or slots at []
    → take (k * w + w) after ≡ take (k * w) out ++ new → take (k * w) out ≡ bytes_of (read_round s k slots) → take ((k + 1) * w) after ≡ bytes_of (read_round s (k + 1) slots)
bytes_next b s k at w slots out after new es h l place is written st =
    let there : (k + 1) * w ≡ k * w + w = omega arith in
    ap (λ n. take n after) there
    ∙ (written
    ∙ (ap (λ xs. xs ++ new) st
    ∙ (ap (λ xs. bytes_of (read_round s k slots) ++ xs) (is ∙ sym (append-nil (get_or slots at [])))
    ∙ (sym (bytes_of-append (read_round s k slots) (get_or slots at [] ∷ []))
    ∙ ap bytes_of (sym (read_next b s k at slots es h l place))))))

-- an item read in a round stands in a slot
pub read_item : (b s n a : ℕ) → s < b → n ≤ b → a < n → (j : ℕ) × (j < b) × ((ys : List Frame) → length ys ≡ b → get_or (read_round s n ys) a [] ≡ get_or ys j [])
read_item b s n a h k l = by_place (cases_lt (s + a) b)
  where
    by_place : (s + a < b) ⊎ (b ≤ s + a) → (j : ℕ) × (j < b) × ((ys : List Frame) → length ys ≡ b → get_or (read_round s n ys) a [] ≡ get_or ys j [])
    by_place (inl m) = (
      s + a,
      m,
      λ ys e.
          get_or_append_left (take n (drop s ys)) (take (n - (length ys - s)) ys) [] a (omega (arith, length-take n (drop s ys), length-drop s ys))
          ∙ (get_or-take n (drop s ys) a [] l ∙ get_or-drop s ys a []),
    )
    by_place (inr m) = (
      s + a - b,
      omega arith,
      λ ys e.
          let there : a - (b - s) ≡ s + a - b = omega arith in
          get_or-append_right (take n (drop s ys)) (take (n - (length ys - s)) ys) (b - s) a [] (omega (arith, length-take n (drop s ys), length-drop s ys)) (omega arith)
          ∙ (get_or-take (n - (length ys - s)) ys (a - (b - s)) [] (omega arith) ∙ ap (λ i. get_or ys i []) there),
    )

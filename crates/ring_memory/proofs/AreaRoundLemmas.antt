-- Areas that are written and read in a round are frames that are.
use Rattle.std.proofs.Common.{ℕ, zero, suc, ◌≡◌, ◌+◌, ◌-◌, ◌*◌, ◌≤◌, ◌<◌, ◌⊎◌, inl, inr, List, [], ◌∷◌, ◌++◌, length, take, drop, get_or, map, replicate, refl, sym, ap, ◌∙◌, subst, arith, take-append-drop, length-append, length-take, length-drop}
use Rattle.std.proofs.Math.Nat.{mul-le-mul_right}
use Rattle.std.proofs.lemmas.Bool.{cases_lt}
use Rattle.std.proofs.lemmas.List.{same_lists, get_or_default, take_all, drop_all, drop-drop, map-id, length-map, get_or-map, take_at, drop_at, take-replicate, drop-replicate}
use Rattle.pcm_base.specs.model.Frame.{Frame, frames_of, bytes_of, bytes_across, planar_frames}
use Rattle.ring_memory.specs.Round.{over, written_round, read_round}
use Rattle.ring_memory.proofs.RoundLemmas.{length-over}
use Rattle.ring_memory.proofs.AreaLemmas.{frames_across-get, length-frames_across, planar_frames_agree}
use Rattle.ring_memory.proofs.FrameLemmas.{length-frames_of, frames_of-written_round, frames_of-over, bytes_of-read_round, bytes_of-frames_of}
use Rattle.ring_memory.proofs.SlotLemmas.{piece, piece_fits, piece_size, frames_of-get, IsWrittenTo, maps_agree}
use Rattle.ring_memory.proofs.TurnLemmas.{IsAhead, ahead, written_item, kept_item, length-written_round, over_before, over_in, over_after, read_item, length-read_round}

-- slot i of an area that was written in a round
area_item : (b w s n i a : ℕ) (new area : List ℕ) → length new ≡ n * w → length area ≡ b * w → s < b → n ≤ b → i < b → IsAhead b s i a → a < n → piece w i (written_round (s * w) new area) ≡ piece w a new
area_item b w s n i a new area en ea h k l far m =
    let slots : length (frames_of b w area) ≡ b = length-frames_of b w area in
    let frames : length (frames_of n w new) ≡ n = length-frames_of n w new in
    let place : IsAhead (length (frames_of b w area)) s i a = subst (λ x. IsAhead x s i a) (sym slots) far in
    sym (frames_of-get b w i (written_round (s * w) new area) l)
    ∙ (ap (λ fs. get_or fs i []) (frames_of-written_round s n b w new area en ea (omega arith) k)
    ∙ (written_item s i a (frames_of n w new) (frames_of b w area) (omega arith) (omega arith) (omega arith) place (omega arith)
    ∙ frames_of-get n w a new m))

area_kept : (b w s n i a : ℕ) (new area : List ℕ) → length new ≡ n * w → length area ≡ b * w → s < b → n ≤ b → i < b → IsAhead b s i a → n ≤ a → piece w i (written_round (s * w) new area) ≡ piece w i area
area_kept b w s n i a new area en ea h k l far m =
    let slots : length (frames_of b w area) ≡ b = length-frames_of b w area in
    let frames : length (frames_of n w new) ≡ n = length-frames_of n w new in
    let place : IsAhead (length (frames_of b w area)) s i a = subst (λ x. IsAhead x s i a) (sym slots) far in
    sym (frames_of-get b w i (written_round (s * w) new area) l)
    ∙ (ap (λ fs. get_or fs i []) (frames_of-written_round s n b w new area en ea (omega arith) k)
    ∙ (kept_item s i a (frames_of n w new) (frames_of b w area) (omega arith) (omega arith) (omega arith) place (omega arith)
    ∙ frames_of-get b w i area l))

-- areas of which each was written in a round
pub areas_written : (b ch w s n : ℕ) (parts : ℕ → List ℕ) (fs : List Frame) (old now : List ℕ) → length old ≡ ch * (b * w) → s < b → n ≤ b → length fs ≡ n → ((k : ℕ) → k < ch → length (parts k) ≡ n * w)
    → ((i a : ℕ) → i < b → a < n → ((k : ℕ) → k < ch → piece w i (piece (b * w) k now) ≡ piece w a (parts k)) → get_or (planar_frames b ch w now) i [] ≡ get_or fs a [])
    → IsWrittenTo (λ k area. written_round (s * w) (parts k) area) ch (b * w) old now → planar_frames b ch w now ≡ written_round s fs (planar_frames b ch w old)
areas_written b ch w s n parts fs old now size h k count sizes same st =
    same_lists _ _ (news ∙ sym (length-written_round s fs (planar_frames b ch w old) (omega (arith, olds)) (omega (arith, olds)) ∙ olds)) (λ i d l.
    let inside : i < b = omega (arith, news) in
    let a = ahead b s i h inside in
    get_or_default (planar_frames b ch w now) i d [] l
    ∙ (by_ahead i inside a.0 a.2 (cases_lt a.0 n)
    ∙ get_or_default (written_round s fs (planar_frames b ch w old)) i [] d (omega (arith, olds, length-written_round s fs (planar_frames b ch w old) (omega (arith, olds)) (omega (arith, olds))))))
  where
    news : length (planar_frames b ch w now) ≡ b
    news = length-frames_across b w (frames_of ch (b * w) now)

    olds : length (planar_frames b ch w old) ≡ b
    olds = length-frames_across b w (frames_of ch (b * w) old)

    area : (c : ℕ) → c < ch → length (piece (b * w) c old) ≡ b * w
    area c q = piece_size (b * w) c ch old q size

    by_ahead : (i : ℕ) → i < b → (a : ℕ) → IsAhead b s i a → (a < n) ⊎ (n ≤ a) → get_or (planar_frames b ch w now) i [] ≡ get_or (written_round s fs (planar_frames b ch w old)) i []
    by_ahead i l a far (inl m) =
        let place : IsAhead (length (planar_frames b ch w old)) s i a = subst (λ x. IsAhead x s i a) (sym olds) far in
        same i a l m (λ c q. ap (piece w i) (st.written c q) ∙ area_item b w s n i a (parts c) (piece (b * w) c old) (sizes c q) (area c q) h k l far m)
        ∙ sym (written_item s i a fs (planar_frames b ch w old) (omega (arith, olds)) (omega (arith, olds)) (omega (arith, olds)) place (omega arith))
    by_ahead i l a far (inr m) =
        let place : IsAhead (length (planar_frames b ch w old)) s i a = subst (λ x. IsAhead x s i a) (sym olds) far in
        planar_frames_agree b b ch w i i now old l l (λ c q. ap (piece w i) (st.written c q) ∙ area_kept b w s n i a (parts c) (piece (b * w) c old) (sizes c q) (area c q) h k l far m)
        ∙ sym (kept_item s i a fs (planar_frames b ch w old) (omega (arith, olds)) (omega (arith, olds)) (omega (arith, olds)) place (omega arith))

-- frames of one width, and their bytes
frames_of-bytes_of : (n w : ℕ) (fs : List Frame) → length fs ≡ n → ((i : ℕ) → i < n → length (get_or fs i []) ≡ w) → frames_of n w (bytes_of fs) ≡ fs
frames_of-bytes_of zero w [] e wide = refl
frames_of-bytes_of zero w (f ∷ fs) e wide = absurd (omega arith)
frames_of-bytes_of (suc n) w [] e wide = absurd (omega arith)
frames_of-bytes_of (suc n) w (f ∷ fs) e wide =
    ap (λ x. x ∷ frames_of n w (drop w (f ++ bytes_of fs))) (take_at f (bytes_of fs) w (wide 0 (omega arith)))
    ∙ (ap (λ xs. f ∷ frames_of n w xs) (drop_at f (bytes_of fs) w (wide 0 (omega arith)))
    ∙ ap (λ xs. f ∷ xs) (frames_of-bytes_of n w fs (omega arith) (λ i l. wide (suc i) (omega arith))))

-- item a of an area that was read in a round
area_read : (b w s n a j : ℕ) (area : List ℕ) → length area ≡ b * w → s < b → n ≤ b → a < n → j < b → ((ys : List Frame) → length ys ≡ b → get_or (read_round s n ys) a [] ≡ get_or ys j [])
    → piece w a (read_round (s * w) (n * w) area) ≡ piece w j area
area_read b w s n a j area e h k l m item =
    let slots : length (frames_of b w area) ≡ b = length-frames_of b w area in
    let count : length (read_round s n (frames_of b w area)) ≡ n = length-read_round b s n (frames_of b w area) slots h k in
    let wide : (i : ℕ) → i < n → length (get_or (read_round s n (frames_of b w area)) i []) ≡ w = λ i q.
    let r = read_item b s n i h k q in
    ap length (r.2 (frames_of b w area) slots ∙ frames_of-get b w r.0 area r.1) ∙ piece_size w r.0 b area r.1 e in
    sym (frames_of-get n w a (read_round (s * w) (n * w) area) l)
    ∙ (ap (λ xs. get_or (frames_of n w xs) a []) (sym (bytes_of-read_round s n b w area e (omega arith)))
    ∙ (ap (λ fs. get_or fs a []) (frames_of-bytes_of n w (read_round s n (frames_of b w area)) count wide)
    ∙ (item (frames_of b w area) slots ∙ frames_of-get b w j area m)))

pub length-taken : (b w s n : ℕ) (area : List ℕ) → length area ≡ b * w → s ≤ b → n ≤ b → length (read_round (s * w) (n * w) area) ≡ n * w
length-taken b w s n area e h k =
    let front : s * w ≤ b * w = mul-le-mul_right w h in
    let all : n * w ≤ b * w = mul-le-mul_right w k in
    length-append (take (n * w) (drop (s * w) area)) (take (n * w - (length area - s * w)) area)
    ∙ omega (arith, length-take (n * w) (drop (s * w) area), length-drop (s * w) area, length-take (n * w - (length area - s * w)) area)

-- areas into each of which a round was read
pub areas_read : (m b ch w first s n : ℕ) (ring old now : List ℕ) → length ring ≡ ch * (b * w) → length old ≡ ch * (m * w) → s < b → n ≤ b → first + n ≤ m
    → IsWrittenTo (λ k area. over (first * w) (read_round (s * w) (n * w) (piece (b * w) k ring)) area) ch (m * w) old now
    → planar_frames m ch w now ≡ over first (read_round s n (planar_frames b ch w ring)) (planar_frames m ch w old)
areas_read m b ch w first s n ring old now ring_size size h k fits st =
    same_lists _ _ (news ∙ sym (length-over first (read_round s n (planar_frames b ch w ring)) (planar_frames m ch w old) (omega (arith, olds, count)) ∙ olds)) (λ i d l.
    get_or_default (planar_frames m ch w now) i d [] l
    ∙ (by_place i (omega (arith, news)) (cases_lt i first) (cases_lt i (first + n))
    ∙ get_or_default (over first (read_round s n (planar_frames b ch w ring)) (planar_frames m ch w old)) i [] d (omega (arith, news, length-over first (read_round s n (planar_frames b ch w ring)) (planar_frames m ch w old) (omega (arith, olds, count)), olds))))
  where
    news : length (planar_frames m ch w now) ≡ m
    news = length-frames_across m w (frames_of ch (m * w) now)

    olds : length (planar_frames m ch w old) ≡ m
    olds = length-frames_across m w (frames_of ch (m * w) old)

    slots : length (planar_frames b ch w ring) ≡ b
    slots = length-frames_across b w (frames_of ch (b * w) ring)

    count : length (read_round s n (planar_frames b ch w ring)) ≡ n
    count = length-read_round b s n (planar_frames b ch w ring) slots h k

    taken : ℕ → List ℕ
    taken c = read_round (s * w) (n * w) (piece (b * w) c ring)

    area : (c : ℕ) → c < ch → length (piece (m * w) c old) ≡ m * w
    area c q = piece_size (m * w) c ch old q size

    own : (c : ℕ) → c < ch → length (piece (b * w) c ring) ≡ b * w
    own c q = piece_size (b * w) c ch ring q ring_size

    wide : (c : ℕ) → c < ch → length (taken c) ≡ n * w
    wide c q = length-taken b w s n (piece (b * w) c ring) (own c q) (omega arith) k

    -- sample i of a channel's area
    item : (i c : ℕ) → i < m → (q : c < ch) → piece w i (piece (m * w) c now) ≡ get_or (over first (frames_of n w (taken c)) (frames_of m w (piece (m * w) c old))) i []
    item i c l q =
        ap (piece w i) (st.written c q)
        ∙ (sym (frames_of-get m w i (over (first * w) (taken c) (piece (m * w) c old)) l)
        ∙ ap (λ fs. get_or fs i []) (frames_of-over first n m w (taken c) (piece (m * w) c old) (wide c q) (area c q) fits))

    by_place : (i : ℕ) → i < m → (i < first) ⊎ (first ≤ i) → (i < first + n) ⊎ (first + n ≤ i) → get_or (planar_frames m ch w now) i [] ≡ get_or (over first (read_round s n (planar_frames b ch w ring)) (planar_frames m ch w old)) i []
    by_place i l (inl p) q =
        planar_frames_agree m m ch w i i now old l l (λ c r. item i c l r ∙ (over_before first i (frames_of n w (taken c)) (frames_of m w (piece (m * w) c old)) p (omega (arith, length-frames_of m w (piece (m * w) c old))) ∙ frames_of-get m w i (piece (m * w) c old) l))
        ∙ sym (over_before first i (read_round s n (planar_frames b ch w ring)) (planar_frames m ch w old) p (omega (arith, olds)))
    by_place i l (inr p) (inl q) =
        let r = read_item b s n (i - first) h k (omega arith) in
        planar_frames_agree m b ch w i r.0 now ring l r.1 (λ c t.
        item i c l t
        ∙ (over_in first i (frames_of n w (taken c)) (frames_of m w (piece (m * w) c old)) p (omega (arith, length-frames_of n w (taken c))) (omega (arith, length-frames_of m w (piece (m * w) c old)))
        ∙ (frames_of-get n w (i - first) (taken c) (omega arith) ∙ area_read b w s n (i - first) r.0 (piece (b * w) c ring) (own c t) h k (omega arith) r.1 r.2)))
        ∙ (sym (r.2 (planar_frames b ch w ring) slots)
        ∙ sym (over_in first i (read_round s n (planar_frames b ch w ring)) (planar_frames m ch w old) p (omega (arith, count)) (omega (arith, olds))))
    by_place i l (inr p) (inr q) =
        planar_frames_agree m m ch w i i now old l l (λ c r. item i c l r ∙ (over_after first i (frames_of n w (taken c)) (frames_of m w (piece (m * w) c old)) (omega (arith, length-frames_of n w (taken c))) (omega (arith, length-frames_of m w (piece (m * w) c old))) ∙ frames_of-get m w i (piece (m * w) c old) l))
        ∙ sym (over_after first i (read_round s n (planar_frames b ch w ring)) (planar_frames m ch w old) (omega (arith, count)) (omega (arith, olds)))

-- a sample of silence
pub piece-replicate : (w i n v size : ℕ) → size ≡ n * w → i < n → piece w i (replicate size v) ≡ replicate w v
piece-replicate w i n v size e h =
    ap (take w) (drop-replicate (i * w) size v) ∙ take-replicate w (size - i * w) v (omega (arith, piece_fits w i n h))

-- the samples of one channel, frame after frame, are its area
pub area_is : (n ch w k : ℕ) (bytes : List ℕ) → length bytes ≡ ch * (n * w) → k < ch → bytes_of (map (piece w k) (planar_frames n ch w bytes)) ≡ piece (n * w) k bytes
area_is n ch w k bytes e h =
    let own : length (piece (n * w) k bytes) ≡ n * w = piece_size (n * w) k ch bytes h e in
    let samples : map (piece w k) (planar_frames n ch w bytes) ≡ map (λ x. x) (frames_of n w (piece (n * w) k bytes)) =
    maps_agree (piece w k) (λ x. x) (planar_frames n ch w bytes) (frames_of n w (piece (n * w) k bytes)) [] [] (length-frames_across n w (frames_of ch (n * w) bytes) ∙ sym (length-frames_of n w (piece (n * w) k bytes))) (λ i l.
    let inside : i < n = omega (arith, length-frames_across n w (frames_of ch (n * w) bytes)) in
    at_frame i inside ∙ sym (frames_of-get n w i (piece (n * w) k bytes) inside)) in
    ap bytes_of samples
    ∙ (ap bytes_of (map-id (frames_of n w (piece (n * w) k bytes)))
    ∙ (bytes_of-frames_of n w (piece (n * w) k bytes) ∙ take_all (n * w) (piece (n * w) k bytes) (omega arith)))
  where
    areas : List Frame
    areas = frames_of ch (n * w) bytes

    pieces : (i : ℕ) → List Frame
    pieces i = map (piece w i) (frames_of ch (n * w) bytes)

    count : (i : ℕ) → length (pieces i) ≡ ch
    count i = length-map (frames_of ch (n * w) bytes) (piece w i) ∙ length-frames_of ch (n * w) bytes

    one : (i j : ℕ) → j < ch → get_or (pieces i) j [] ≡ piece w i (piece (n * w) j bytes)
    one i j q =
        get_or-map (piece w i) (frames_of ch (n * w) bytes) j [] [] (omega (arith, length-frames_of ch (n * w) bytes))
        ∙ ap (piece w i) (frames_of-get ch (n * w) j bytes q)

    wide : (i : ℕ) → i < n → (j : ℕ) → j < ch → length (get_or (pieces i) j []) ≡ w
    wide i l j q = ap length (one i j q) ∙ piece_size w i n (piece (n * w) j bytes) l (piece_size (n * w) j ch bytes q e)

    at_frame : (i : ℕ) → i < n → piece w k (get_or (planar_frames n ch w bytes) i []) ≡ piece w i (piece (n * w) k bytes)
    at_frame i l =
        ap (piece w k) (frames_across-get n w i (frames_of ch (n * w) bytes) l)
        ∙ (sym (frames_of-get ch w k (bytes_of (pieces i)) h)
        ∙ (ap (λ fs. get_or fs k []) (frames_of-bytes_of ch w (pieces i) (count i) (wide i l)) ∙ one i k h))

map-drop : (w k : ℕ) (fs : List Frame) → map (drop w) (map (drop (k * w)) fs) ≡ map (drop (suc k * w)) fs
map-drop w k [] = refl
map-drop w k (f ∷ fs) =
    let more : k * w + w ≡ suc k * w = omega arith in
    ap (λ x. x ∷ map (drop w) (map (drop (k * w)) fs)) (drop-drop w (k * w) f ∙ ap (λ n. drop n f) more) ∙ ap (λ xs. drop (suc k * w) f ∷ xs) (map-drop w k fs)

map-take : (w k : ℕ) (fs : List Frame) → map (take w) (map (drop (k * w)) fs) ≡ map (piece w k) fs
map-take w k [] = refl
map-take w k (f ∷ fs) = ap (λ xs. piece w k f ∷ xs) (map-take w k fs)

map-drop_none : (w : ℕ) (fs : List Frame) → fs ≡ map (drop (0 * w)) fs
map-drop_none w [] = refl
map-drop_none w (f ∷ fs) =
    let none : 0 ≡ 0 * w = omega arith in
    ap (λ n. drop n f ∷ fs) none ∙ ap (λ xs. drop (0 * w) f ∷ xs) (map-drop_none w fs)

-- the bytes of the last channels
bytes_behind : (m k n ch w : ℕ) (bytes : List ℕ) → m + k ≡ ch → length bytes ≡ ch * (n * w) → bytes_across m w (map (drop (k * w)) (planar_frames n ch w bytes)) ≡ drop (k * (n * w)) bytes
bytes_behind zero k n ch w bytes e size =
    let all : k ≡ ch = omega arith in
    let end : k * (n * w) ≡ ch * (n * w) = ap (λ c. c * (n * w)) all in
    sym (drop_all (k * (n * w)) bytes (omega arith))
bytes_behind (suc m) k n ch w bytes e size =
    let more : k * (n * w) + n * w ≡ suc k * (n * w) = omega arith in
    let fs : List Frame = planar_frames n ch w bytes in
    ap (λ xs. bytes_of xs ++ bytes_across m w (map (drop w) (map (drop (k * w)) (planar_frames n ch w bytes)))) (map-take w k (planar_frames n ch w bytes))
    ∙ (ap (λ xs. xs ++ bytes_across m w (map (drop w) (map (drop (k * w)) (planar_frames n ch w bytes)))) (area_is n ch w k bytes size (omega arith))
    ∙ (ap (λ xs. piece (n * w) k bytes ++ bytes_across m w xs) (map-drop w k (planar_frames n ch w bytes))
    ∙ (ap (λ xs. piece (n * w) k bytes ++ xs) (bytes_behind m (suc k) n ch w bytes (omega arith) size)
    ∙ (ap (λ i. piece (n * w) k bytes ++ drop i bytes) (sym more)
    ∙ (ap (λ xs. piece (n * w) k bytes ++ xs) (sym (drop-drop (n * w) (k * (n * w)) bytes))
    ∙ take-append-drop (n * w) (drop (k * (n * w)) bytes))))))

-- planar bytes are those of their frames
pub bytes_across-planar_frames : (n ch w : ℕ) (bytes : List ℕ) → length bytes ≡ ch * (n * w) → bytes_across ch w (planar_frames n ch w bytes) ≡ bytes
bytes_across-planar_frames n ch w bytes size =
    let all : ch + 0 ≡ ch = omega arith in
    let none : 0 * (n * w) ≡ 0 = omega arith in
    ap (bytes_across ch w) (map-drop_none w (planar_frames n ch w bytes)) ∙ (bytes_behind ch 0 n ch w bytes all size ∙ ap (λ i. drop i bytes) none)

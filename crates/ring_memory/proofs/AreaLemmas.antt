-- Areas of samples, one for each channel.
use Rattle.std.proofs.Common.{ℕ, zero, suc, ◌≡◌, ◌+◌, ◌-◌, ◌*◌, ◌≤◌, ◌<◌, ◌⊎◌, inl, inr, List, [], ◌∷◌, ◌++◌, length, take, drop, get_or, map, refl, sym, ap, ◌∙◌, subst, arith, append-nil, length-take, length-drop}
use Rattle.std.proofs.Math.ListN.{set, length-set}
use Rattle.std.proofs.lemmas.Bool.{cases_eq}
use Rattle.std.proofs.lemmas.List.{take_all, drop-drop, take-take, drop-take, map-append, map-id, same_lists, get_or_default, get_or-set_same, get_or-set_other}
use Rattle.std.proofs.lemmas.Nat.{row_fits}
use Rattle.std.proofs.Math.Nat.{mul-le-mul_right}
use Rattle.pcm_base.specs.model.Frame.{Frame, frames_of, bytes_of, frames_across, planar_frames}
use Rattle.ring_memory.specs.declared.sizes.Sizes.{Sizes}
use Rattle.ring_memory.specs.Sizes.{AreSizes}
use Rattle.ring_memory.specs.Round.{over}
use Rattle.ring_memory.proofs.FrameLemmas.{length-frames_of, bytes_of-append, bytes_of-frames_of}
use Rattle.ring_memory.proofs.SlotLemmas.{piece, piece_fits, piece_written, piece_kept, frames_of-get, IsWrittenTo, maps_agree}

-- the bytes of frames are those of their channels' areas
pub area_size : (s : Sizes) (n size : ℕ) → AreSizes s → size ≡ n * s.frame_bytes → size ≡ s.channels * (n * s.sample_bytes)
area_size s n size a e = e ∙ (ap (λ m. n * m) a.frame ∙ grind arith)

-- an area lies within them
pub area_fits : (ch area size c : ℕ) → size ≡ ch * area → c < ch → c * area + area ≤ size
area_fits ch area size c e h = omega (arith, row_fits c area ch area h (omega arith))

-- frame i of areas has their samples i
pub frames_across-get : (n w i : ℕ) (areas : List (List ℕ)) → i < n → get_or (frames_across n w areas) i [] ≡ bytes_of (map (piece w i) areas)
frames_across-get zero w i areas h = absurd (omega arith)
frames_across-get (suc n) w zero areas h = ap bytes_of (map_same areas)
  where
    map_same : (xs : List (List ℕ)) → map (take w) xs ≡ map (piece w zero) xs
    map_same [] = refl
    map_same (x ∷ xs) =
        let none : 0 ≡ 0 * w = omega arith in
        ap (λ k. take w (drop k x) ∷ map (take w) xs) none ∙ ap (λ ys. piece w zero x ∷ ys) (map_same xs)
frames_across-get (suc n) w (suc i) areas h = frames_across-get n w i (map (drop w) areas) (omega arith) ∙ ap bytes_of (map_same areas)
  where
    map_same : (xs : List (List ℕ)) → map (piece w i) (map (drop w) xs) ≡ map (piece w (suc i)) xs
    map_same [] = refl
    map_same (x ∷ xs) =
        let more : w + i * w ≡ suc i * w = omega arith in
        ap (λ y. y ∷ map (piece w i) (map (drop w) xs)) (ap (take w) (drop-drop (i * w) w x) ∙ ap (λ k. take w (drop k x)) more)
        ∙ ap (λ ys. piece w (suc i) x ∷ ys) (map_same xs)

pub length-frames_across : (n w : ℕ) (areas : List (List ℕ)) → length (frames_across n w areas) ≡ n
length-frames_across zero w areas = refl
length-frames_across (suc n) w areas = ap suc (length-frames_across n w (map (drop w) areas))

-- one more frame of bytes
pub frames_of-next : (c a : ℕ) (bytes : List ℕ) → frames_of (c + 1) a bytes ≡ frames_of c a bytes ++ take a (drop (c * a) bytes) ∷ []
frames_of-next zero a bytes =
    let none : 0 ≡ 0 * a = omega arith in
    ap (λ k. take a (drop k bytes) ∷ []) none
frames_of-next (suc c) a bytes =
    let next : suc c + 1 ≡ suc (c + 1) = omega arith in
    let more : a + c * a ≡ suc c * a = omega arith in
    ap (λ n. frames_of n a bytes) next
    ∙ (ap (λ fs. take a bytes ∷ fs) (frames_of-next c a (drop a bytes))
    ∙ (ap (λ x. take a bytes ∷ (frames_of c a (drop a bytes) ++ take a x ∷ [])) (drop-drop (c * a) a bytes)
    ∙ ap (λ k. take a bytes ∷ (frames_of c a (drop a bytes) ++ take a (drop k bytes) ∷ [])) more))

-- a frame with one more sample copied to it
pub copied_next : (n w i c : ℕ) (bytes frame after : List ℕ)
    → take (c * w) frame ≡ bytes_of (map (piece w i) (frames_of c (n * w) bytes))
    → take (c * w + w) after ≡ take (c * w) frame ++ piece w i (take (n * w) (drop (c * (n * w)) bytes))
    → take ((c + 1) * w) after ≡ bytes_of (map (piece w i) (frames_of (c + 1) (n * w) bytes))
copied_next n w i c bytes frame after so_far written =
    let there : (c + 1) * w ≡ c * w + w = omega arith in
    let area : List ℕ = take (n * w) (drop (c * (n * w)) bytes) in
    let last : piece w i (take (n * w) (drop (c * (n * w)) bytes)) ≡ bytes_of (piece w i (take (n * w) (drop (c * (n * w)) bytes)) ∷ []) = sym (append-nil _) in
    ap (λ k. take k after) there
    ∙ (written
    ∙ (ap (λ xs. xs ++ piece w i (take (n * w) (drop (c * (n * w)) bytes))) so_far
    ∙ (ap (λ xs. bytes_of (map (piece w i) (frames_of c (n * w) bytes)) ++ xs) last
    ∙ (sym (bytes_of-append (map (piece w i) (frames_of c (n * w) bytes)) (piece w i (take (n * w) (drop (c * (n * w)) bytes)) ∷ []))
    ∙ (ap bytes_of (sym (map-append (piece w i) (frames_of c (n * w) bytes) (take (n * w) (drop (c * (n * w)) bytes) ∷ [])))
    ∙ ap (λ fs. bytes_of (map (piece w i) fs)) (sym (frames_of-next c (n * w) bytes)))))))

pub copied_all : (n ch w i : ℕ) (bytes frame : List ℕ) → i < n → length frame ≡ ch * w
    → take (ch * w) frame ≡ bytes_of (map (piece w i) (frames_of ch (n * w) bytes)) → frame ≡ get_or (planar_frames n ch w bytes) i []
copied_all n ch w i bytes frame h e all = sym (take_all (ch * w) frame (omega arith)) ∙ (all ∙ sym (frames_across-get n w i (frames_of ch (n * w) bytes) h))

-- frame i of areas, from each area's sample
pub planar_frame_is : (n ch w i : ℕ) (bytes frame : List ℕ) → i < n → length frame ≡ ch * w → ((k : ℕ) → k < ch → piece w i (piece (n * w) k bytes) ≡ piece w k frame) → get_or (planar_frames n ch w bytes) i [] ≡ frame
planar_frame_is n ch w i bytes frame h e same =
    let areas = frames_of ch (n * w) bytes in
    let pieces : map (piece w i) (frames_of ch (n * w) bytes) ≡ map (λ x. x) (frames_of ch w frame) =
    maps_agree (piece w i) (λ x. x) (frames_of ch (n * w) bytes) (frames_of ch w frame) [] [] (length-frames_of ch (n * w) bytes ∙ sym (length-frames_of ch w frame)) (λ k l.
    let inside : k < ch = omega (arith, length-frames_of ch (n * w) bytes) in
    ap (piece w i) (frames_of-get ch (n * w) k bytes inside) ∙ (same k inside ∙ sym (frames_of-get ch w k frame inside))) in
    frames_across-get n w i (frames_of ch (n * w) bytes) h
    ∙ (ap bytes_of pieces ∙ (ap bytes_of (map-id (frames_of ch w frame)) ∙ (bytes_of-frames_of ch w frame ∙ take_all (ch * w) frame (omega arith))))

-- two frames of areas, from their samples
pub planar_frames_agree : (n m ch w i j : ℕ) (xs ys : List ℕ) → i < n → j < m → ((k : ℕ) → k < ch → piece w i (piece (n * w) k xs) ≡ piece w j (piece (m * w) k ys))
    → get_or (planar_frames n ch w xs) i [] ≡ get_or (planar_frames m ch w ys) j []
planar_frames_agree n m ch w i j xs ys h l same =
    let pieces : map (piece w i) (frames_of ch (n * w) xs) ≡ map (piece w j) (frames_of ch (m * w) ys) =
    maps_agree (piece w i) (piece w j) (frames_of ch (n * w) xs) (frames_of ch (m * w) ys) [] [] (length-frames_of ch (n * w) xs ∙ sym (length-frames_of ch (m * w) ys)) (λ k q.
    let inside : k < ch = omega (arith, length-frames_of ch (n * w) xs) in
    ap (piece w i) (frames_of-get ch (n * w) k xs inside) ∙ (same k inside ∙ ap (piece w j) (sym (frames_of-get ch (m * w) k ys inside)))) in
    frames_across-get n w i (frames_of ch (n * w) xs) h ∙ (ap bytes_of pieces ∙ sym (frames_across-get m w j (frames_of ch (m * w) ys) l))

-- one frame written to areas, sample by sample
pub frame_written : (n ch w i : ℕ) (frame old now : List ℕ) → i < n → length frame ≡ ch * w → length old ≡ ch * (n * w)
    → IsWrittenTo (λ k area. over (i * w) (piece w k frame) area) ch (n * w) old now → planar_frames n ch w now ≡ set (planar_frames n ch w old) i frame
frame_written n ch w i frame old now h e size st =
    same_lists _ _ (length-frames_across n w _ ∙ sym (length-set (planar_frames n ch w old) i frame ∙ length-frames_across n w _)) (λ j d l. at_frame j d (omega (arith, length-frames_across n w (frames_of ch (n * w) now))) (cases_eq i j))
  where
    area : (k : ℕ) → k < ch → length (piece (n * w) k old) ≡ n * w
    area k q = length-take (n * w) (drop (k * (n * w)) old) ∙ omega (arith, length-drop (k * (n * w)) old, piece_fits (n * w) k ch q)

    wide : (k : ℕ) → k < ch → length (piece w k frame) ≡ w
    wide k q = length-take w (drop (k * w) frame) ∙ omega (arith, length-drop (k * w) frame, piece_fits w k ch q)

    at_frame : (j : ℕ) (d : Frame) → j < n → (i ≡ j) ⊎ (i ≡ j → ⊥) → get_or (planar_frames n ch w now) j d ≡ get_or (set (planar_frames n ch w old) i frame) j d
    at_frame j d l (inl s) =
        let here : get_or (planar_frames n ch w now) i d ≡ frame =
        get_or_default (planar_frames n ch w now) i d [] (omega (arith, length-frames_across n w (frames_of ch (n * w) now)))
        ∙ planar_frame_is n ch w i now frame h e (λ k q. ap (piece w i) (st.written k q) ∙ piece_written w i (piece w k frame) (piece (n * w) k old) (wide k q) (omega (arith, area k q, piece_fits w i n h))) in
        let there : get_or (set (planar_frames n ch w old) i frame) i d ≡ frame = get_or-set_same (planar_frames n ch w old) i frame d (omega (arith, length-frames_across n w (frames_of ch (n * w) old))) in
        subst (λ m. get_or (planar_frames n ch w now) m d ≡ get_or (set (planar_frames n ch w old) i frame) m d) s (here ∙ sym there)
    at_frame j d l (inr apart) =
        get_or_default (planar_frames n ch w now) j d [] (omega (arith, length-frames_across n w (frames_of ch (n * w) now)))
        ∙ (planar_frames_agree n n ch w j j now old l l (λ k q. ap (piece w j) (st.written k q) ∙ piece_kept w i j (piece w k frame) (piece (n * w) k old) (wide k q) (omega (arith, area k q, piece_fits w i n h)) apart)
        ∙ (get_or_default (planar_frames n ch w old) j [] d (omega (arith, length-frames_across n w (frames_of ch (n * w) old)))
        ∙ sym (get_or-set_other (planar_frames n ch w old) i j frame d (λ back. apart (sym back)))))

-- frames from the first on lie within an area
pub part_fits : (first n m w size : ℕ) → size ≡ m * w → first + n ≤ m → first * w + n * w ≤ size
part_fits first n m w size e h =
    let bound : (first + n) * w ≤ m * w = mul-le-mul_right w h in
    omega arith

-- a sample of the frames from the first on
pub piece_of_part : (first n w a : ℕ) (area : List ℕ) → a < n → piece w a (take (n * w) (drop (first * w) area)) ≡ piece w (first + a) area
piece_of_part first n w a area h =
    let fits : a * w + w ≤ n * w = piece_fits w a n h in
    let split : n * w ≡ a * w + (n * w - a * w) = omega arith in
    let there : first * w + a * w ≡ (first + a) * w = omega arith in
    ap (λ k. take w (drop (a * w) (take k (drop (first * w) area)))) split
    ∙ (ap (take w) (drop-take (a * w) (n * w - a * w) (drop (first * w) area))
    ∙ (take-take w (n * w - a * w) (drop (a * w) (drop (first * w) area)) (omega arith)
    ∙ (ap (take w) (drop-drop (a * w) (first * w) area) ∙ ap (λ k. take w (drop k area)) there)))

-- The fronts of areas, one area after another.
use Rattle.std.proofs.Common.{◌≡◌, ℕ, zero, suc, ◌+◌, ◌-◌, ◌*◌, ◌/◌, ◌%◌, ◌<◌, ◌≤◌, List, [], ◌∷◌, ◌++◌, length, take, drop, map, refl, sym, ap, ◌∙◌, arith, length-drop}
use Rattle.std.proofs.lemmas.List.{append-nil, drop-drop, take-take}
use Rattle.std.proofs.lemmas.Nat.{div-add-mod'}
use Rattle.std.proofs.Math.Nat.{mul_assoc, mul-mod_right}
use Rattle.std.proofs.lemmas.List.Edits.{drop-paste, take-paste}
use Rattle.std.specs.List.{copy_within}
use Rattle.pcm_base.specs.model.Frame.{Frame, bytes_of, frames_of}
use Rattle.pcm_stream.proofs.MoveLemmas.{bytes_of-append}
use Rattle.pcm_world.specs.Bytes.{fronts}

map-append : (f : List ℕ → List ℕ) (xs ys : List Frame) → map f (xs ++ ys) ≡ map f xs ++ map f ys
map-append f [] ys = refl
map-append f (x ∷ xs) ys = ap (λ (zs : List Frame). f x ∷ zs) (map-append f xs ys)

-- one more area
frames_of-next : (c a : ℕ) (bytes : List ℕ) → frames_of (c + 1) a bytes ≡ frames_of c a bytes ++ take a (drop (c * a) bytes) ∷ []
frames_of-next zero a bytes =
    let none : 0 ≡ 0 * a = omega arith in
    ap (λ (k : ℕ). take a (drop k bytes) ∷ []) none
frames_of-next (suc c) a bytes =
    let next : suc c + 1 ≡ suc (c + 1) = omega arith in
    let more : a + c * a ≡ suc c * a = omega arith in
    ap (λ (n : ℕ). frames_of n a bytes) next
    ∙ (ap (λ (fs : List Frame). take a bytes ∷ fs) (frames_of-next c a (drop a bytes))
    ∙ (ap (λ (x : List ℕ). take a bytes ∷ (frames_of c a (drop a bytes) ++ take a x ∷ [])) (drop-drop (c * a) a bytes)
    ∙ ap (λ (k : ℕ). take a bytes ∷ (frames_of c a (drop a bytes) ++ take a (drop k bytes) ∷ [])) more))

pub fronts-next : (c area front : ℕ) (bytes : List ℕ) → front ≤ area → fronts (c + 1) area front bytes ≡ fronts c area front bytes ++ take front (drop (c * area) bytes)
fronts-next c area front bytes h =
    let piece : List ℕ = take area (drop (c * area) bytes) in
    ap (λ (fs : List Frame). bytes_of (map (take front) fs)) (frames_of-next c area bytes)
    ∙ ap bytes_of (map-append (take front) (frames_of c area bytes) (piece ∷ []))
    ∙ bytes_of-append (map (take front) (frames_of c area bytes)) (take front piece ∷ [])
    ∙ ap (λ (xs : List ℕ). fronts c area front bytes ++ xs) (append-nil (take front piece) ∙ take-take front area (drop (c * area) bytes) h)

-- how far the loop has come
pub record IsClosedUp (c area front : ℕ) (old now : List ℕ) : Type 0 where
  pub size : length now ≡ length old
  pub done : take (c * front) now ≡ fronts c area front old
  pub rest : drop (c * area) now ≡ drop (c * area) old

pub closed-next : (c channels area front : ℕ) (old now new : List ℕ) → c < channels → front ≤ area → length old ≡ channels * area → IsClosedUp c area front old now
    → length new ≡ length now → new ≡ copy_within now (c * area) (c * area + front) (c * front) → IsClosedUp (c + 1) area front old new
closed-next c channels area front old now new below le size h same is =
    let n : ℕ = c * area + front - c * area in
    let count : n ≡ front = omega arith in
    let whole : c * area + area ≤ channels * area = grind (arith, below) in
    let ahead : c * front ≤ c * area = grind (arith, le) in
    let at_in : c * front ≤ length now = omega (arith, ahead, whole, h.size, size) in
    let src_in : n ≤ length (drop (c * area) now) = omega (arith, count, le, whole, h.size, size, length-drop (c * area) now) in
    let more : (c + 1) * front ≡ c * front + n = grind (arith, count) in
    let next : (c + 1) * area ≡ c * area + area = grind arith in
    let gap : (c + 1) * area ≡ c * front + n + ((c + 1) * area - (c * front + n)) = omega (arith, next, count, ahead, le) in
    record {
      size = same ∙ h.size;
      done =
          ap (λ (xs : List ℕ). take ((c + 1) * front) xs) is ∙ ap (λ (k : ℕ). take k (copy_within now (c * area) (c * area + front) (c * front))) more
          ∙ take-paste now (c * front) (drop (c * area) now) n at_in src_in
          ∙ ap (λ (xs : List ℕ). xs ++ take n (drop (c * area) now)) h.done
          ∙ ap (λ (xs : List ℕ). fronts c area front old ++ take n xs) h.rest
          ∙ ap (λ (k : ℕ). fronts c area front old ++ take k (drop (c * area) old)) count
          ∙ sym (fronts-next c area front old le);
      rest =
          ap (λ (k : ℕ). drop k new) gap ∙ sym (drop-drop ((c + 1) * area - (c * front + n)) (c * front + n) new)
          ∙ ap (λ (xs : List ℕ). drop ((c + 1) * area - (c * front + n)) xs) (ap (λ (xs : List ℕ). drop (c * front + n) xs) is ∙ drop-paste now (c * front) (drop (c * area) now) n at_in src_in)
          ∙ drop-drop ((c + 1) * area - (c * front + n)) (c * front + n) now
          ∙ ap (λ (k : ℕ). drop k now) (sym gap) ∙ ap (λ (k : ℕ). drop k now) next
          ∙ sym (drop-drop area (c * area) now) ∙ ap (λ (xs : List ℕ). drop area xs) h.rest ∙ drop-drop area (c * area) old
          ∙ ap (λ (k : ℕ). drop k old) (sym next);
    }

-- bytes of whole frames are whole areas
pub whole-areas : (size frame channels : ℕ) → size % frame ≡ 0 → frame % channels ≡ 0 → size ≡ channels * (size / channels)
whole-areas size frame channels whole samples =
    let frames : size ≡ frame * (size / frame) = omega (arith, div-add-mod' size frame, whole) in
    let sample : frame ≡ channels * (frame / channels) = omega (arith, div-add-mod' frame channels, samples) in
    let all : size ≡ channels * (frame / channels * (size / frame)) = frames ∙ ap (λ (x : ℕ). x * (size / frame)) sample ∙ mul_assoc channels (frame / channels) (size / frame) in
    let none : size % channels ≡ 0 = ap (λ (k : ℕ). k % channels) all ∙ mul-mod_right channels (frame / channels * (size / frame)) in
    omega (arith, div-add-mod' size channels, none)

-- A piece in the memory of a hardware buffer.
use Rattle.std.proofs.Common.{ℕ, ◌≡◌, ◌+◌, ◌-◌, ◌*◌, ◌/◌, ◌%◌, ◌^◌, ◌≤◌, ◌<◌, ◌⊎◌, inl, inr, List, length, sym, ap, ◌∙◌, subst, arith}
use Rattle.std.proofs.Math.Nat.{mul-le-mul_right, mod-lt}
use Rattle.std.proofs.lemmas.Bool.{cases_lt}
use borrow.Rule.Slice.PartMut.{put_mid}
use Rattle.pcm_base.specs.model.Frame.{frames_of}
use Rattle.indirect_card.specs.Hardware.{Hardware, frames_in, after_passing, bytes_before_end}
use Rattle.indirect_card.proofs.Frames.{over, put_mid-over, length-frames_of, frames_of-over, whole_frames}
use Rattle.indirect_card.proofs.Passes.{passes_over}

-- what the memory holds
abbrev pub held_in : ℕ → ℕ → List ℕ → Hardware
held_in w p bytes = record { frame_bytes = w; passed = p; slots = frames_of 16 w bytes }

fits_by : (k n w : ℕ) → 1 ≤ w → n * w ≤ k * w → n ≤ k
fits_by k n w some h = by_order (cases_lt k n)
  where
    by_order : (k < n) ⊎ (n ≤ k) → n ≤ k
    by_order (inl l) =
        let more : (k + 1) * w ≤ n * w = mul-le-mul_right w (omega arith) in
        let sum : (k + 1) * w ≡ k * w + w = omega arith in
        absurd (omega (arith, more, sum, h, some))
    by_order (inr l) = l

piece_held : (w p : ℕ) (bytes piece : List ℕ) → 1 ≤ w → length bytes ≡ 512 → w ≤ 32 → length piece % w ≡ 0 → length piece ≤ bytes_before_end (held_in w p bytes)
    → held_in w ((p + length piece / w) % 2 ^ 64) (over (p % 16 * w) piece bytes) ≡ after_passing (held_in w p bytes) (frames_in (held_in w p bytes) piece)
piece_held w p bytes piece some size narrow whole fits =
    let n : ℕ = length piece / w in
    let bytes_are : length piece ≡ length piece / w * w = whole_frames (length piece) w whole in
    let room : ℕ = 16 - p % 16 in
    let few : length piece / w ≤ 16 - p % 16 = fits_by (16 - p % 16) (length piece / w) w some (omega (arith, fits, bytes_are)) in
    let slots : p % 16 + length piece / w ≤ 16 = omega (arith, few, mod_small p) in
    let sixteen : 16 * w ≤ length bytes = omega (arith, size, narrow) in
    let count : length (frames_of (length piece / w) w piece) ≡ length piece / w = length-frames_of (length piece / w) w piece in
    let over_is : frames_of 16 w (over (p % 16 * w) piece bytes) ≡ over (p % 16) (frames_of (length piece / w) w piece) (frames_of 16 w bytes) = frames_of-over (p % 16) (length piece / w) 16 w piece bytes bytes_are sixteen slots in
    let passes : over (p % 16) (frames_of (length piece / w) w piece) (frames_of 16 w bytes) ≡ (after_passing (held_in w p bytes) (frames_of (length piece / w) w piece)).slots =
    sym (passes_over (held_in w p bytes) (frames_of (length piece / w) w piece) (length-frames_of 16 w bytes) (omega (arith, slots, count))) in
    ap (λ k. record { frame_bytes = w; passed = (p + k) % 2 ^ 64; slots = frames_of 16 w (over (p % 16 * w) piece bytes) }) (sym count)
    ∙ ap (λ fs. record { frame_bytes = w; passed = (p + length (frames_of (length piece / w) w piece)) % 2 ^ 64; slots = fs }) (over_is ∙ passes)
  where
    mod_small : (p : ℕ) → p % 16 < 16
    mod_small p = mod-lt p (omega arith)

-- a piece that was put into the memory has passed
pub piece_passes : (now : Hardware) (w p k : ℕ) (bytes held piece : List ℕ) → held_in w p bytes ≡ now → held ≡ piece → k ≡ length piece → 1 ≤ now.frame_bytes → length bytes ≡ 512 → w ≤ 32
    → length piece % now.frame_bytes ≡ 0 → length piece ≤ bytes_before_end now
    → held_in w ((p + length piece / w) % 2 ^ 64) (put_mid (p % 16 * w) (p % 16 * w + k - p % 16 * w) bytes held) ≡ after_passing now (frames_in now piece)
piece_passes now w p k bytes held piece view same size some memory narrow =
    subst (λ h. 1 ≤ h.frame_bytes → length piece % h.frame_bytes ≡ 0 → length piece ≤ bytes_before_end h
    → held_in w ((p + length piece / w) % 2 ^ 64) (put_mid (p % 16 * w) (p % 16 * w + k - p % 16 * w) bytes held) ≡ after_passing h (frames_in h piece)) view
    (λ some whole fits.
    ap (λ xs. held_in w ((p + length piece / w) % 2 ^ 64) xs) (put_mid-over (p % 16 * w) k bytes held (ap length same ∙ sym size) ∙ ap (λ xs. over (p % 16 * w) xs bytes) same)
    ∙ piece_held w p bytes piece some memory narrow whole fits) some

-- Which accesses and formats stand in a mask.
use Rattle.std.proofs.Common.{◌≡◌, ℕ, ◌<◌, ◌≤◌, ◌^◌, ◌↔◌, zero, suc, Bool, true, false, ◌&&◌, bit_and, arith, refl, sym, subst, inl, inr}
use Rattle.std.specs.Prelude.{nat_eq, nat_le, if◌then◌else◌}
use Rattle.std.specs.Int.{bit_at}
use Rattle.std.proofs.lemmas.Nat.Bits.{bit_at_and, bit_at-lt, bit_at_above}
use Rattle.std.proofs.lemmas.Bool.{cases_eq, cases_lt, eqb-true, eq-eqb, leb-true}
use Rattle.std.proofs.lemmas.Bool.Decides.{nat_tests}
use Rattle.pcm_base.specs.declared.format.Access.{Access}
use Rattle.pcm_base.specs.declared.format.Access.TheVariants as access
use Rattle.pcm_base.specs.declared.format.Format.{Format}
use Rattle.pcm_base.specs.declared.format.Format.TheVariants as format
use Rattle.pcm_base.specs.Numbers.{access_number, format_number, sample_bytes}
use Rattle.hw_params.specs.Hull.{HasBit}

pub and-left : (a b i : ℕ) → HasBit (bit_and a b) i → HasBit a i
and-left a b i h = omega (arith, bit_at_and a b i, bit_at-lt a i, bit_at-lt b i)

pub and-right : (a b i : ℕ) → HasBit (bit_and a b) i → HasBit b i
and-right a b i h = omega (arith, bit_at_and a b i, bit_at-lt a i, bit_at-lt b i)

pub and-both : (a b i : ℕ) → HasBit a i → HasBit b i → HasBit (bit_and a b) i
and-both a b i h k = omega (arith, bit_at_and a b i)

-- each bit of the mask of all accesses is an access
access-at : (i : ℕ) → HasBit 27 i → (a : Access) × (access_number a ≡ i)
access-at zero h = (access.MmapInterleaved, refl)
access-at (suc zero) h = (access.MmapNoninterleaved, refl)
access-at (suc (suc zero)) h = absurd (omega arith)
access-at (suc (suc (suc zero))) h = (access.RwInterleaved, refl)
access-at (suc (suc (suc (suc zero)))) h = (access.RwNoninterleaved, refl)
access-at (suc (suc (suc (suc (suc i))))) h =
    absurd (omega (arith, bit_at_above 27 5 (suc (suc (suc (suc (suc i))))) (omega arith) (omega arith)))

access-bit : (a : Access) → HasBit 27 (access_number a)
access-bit access.MmapInterleaved = refl
access-bit access.MmapNoninterleaved = refl
access-bit access.RwInterleaved = refl
access-bit access.RwNoninterleaved = refl

pub in-accesses : (mask i : ℕ) → HasBit (bit_and mask 27) i ↔ ((a : Access) × HasBit mask i × (access_number a ≡ i))
in-accesses mask i = (
  (λ h. let a = access-at i (and-right mask 27 i h) in (a.0, and-left mask 27 i h, a.1)),
  (λ h. and-both mask 27 i h.1 (subst (λ (n : ℕ). HasBit 27 n) h.2 (access-bit h.0))),
)

-- the format of a number, where it has one
abbrev pub format_at : ℕ → Format
format_at i =
    if nat_eq i 0 then format.S8 else if nat_eq i 1 then format.U8 else if nat_eq i 2 then format.S16Le else if nat_eq i 3 then format.S16Be
    else if nat_eq i 6 then format.S24Le else if nat_eq i 10 then format.S32Le else if nat_eq i 11 then format.S32Be else format.S24Le3

abbrev pub all_below : (ℕ → Bool) → ℕ → Bool
all_below p zero = true
all_below p (suc n) = p n && all_below p n

both-left : (a b : Bool) → (a && b) ≡ true → a ≡ true
both-left true b h = refl
both-left false b h = h

both-right : (a b : Bool) → (a && b) ≡ true → b ≡ true
both-right true b h = h
both-right false b h = absurd (cc)

all_below-at : (p : ℕ → Bool) (n i : ℕ) → all_below p n ≡ true → i < n → p i ≡ true
all_below-at p zero i h l = absurd (omega arith)
all_below-at p (suc n) i h l = elim (cases_eq i n) [
  | inl e ↦ subst (λ (k : ℕ). p k ≡ true) (sym e) (both-left (p n) (all_below p n) h)
  | inr ne ↦ all_below-at p n i (both-right (p n) (all_below p n) h) (omega arith)
]

-- a format of the number i, of at most the width
abbrev pub is_format_at : ℕ → ℕ → Bool
is_format_at width i = nat_eq (format_number (format_at i)) i && nat_le (sample_bytes (format_at i)) width

-- where bit i is set, there is such a format
abbrev pub is_format_bit : ℕ → ℕ → ℕ → Bool
is_format_bit mask width i = if nat_eq (bit_at mask i) 1 then is_format_at width i else true

-- where the format has at most the width, its bit is set
abbrev pub has_format : ℕ → ℕ → Format → Bool
has_format mask width f = if nat_le (sample_bytes f) width then nat_eq (bit_at mask (format_number f)) 1 else true

-- the mask holds the formats of at most the width and no other bits below 33, by computation
pub record IsMaskOfWidth (mask width : ℕ) : Type 0 where
  pub bits : all_below (is_format_bit mask width) 33 ≡ true
  pub s8 : has_format mask width format.S8 ≡ true
  pub u8 : has_format mask width format.U8 ≡ true
  pub s16_le : has_format mask width format.S16Le ≡ true
  pub s16_be : has_format mask width format.S16Be ≡ true
  pub s24_le : has_format mask width format.S24Le ≡ true
  pub s32_le : has_format mask width format.S32Le ≡ true
  pub s32_be : has_format mask width format.S32Be ≡ true
  pub s24_le3 : has_format mask width format.S24Le3 ≡ true

format-at : (mask width i : ℕ) → is_format_bit mask width i ≡ true → HasBit mask i → (f : Format) × (format_number f ≡ i) × (sample_bytes f ≤ width)
format-at mask width i t h =
    let set : nat_eq (bit_at mask i) 1 ≡ true = eq-eqb (bit_at mask i) 1 h in
    let both : is_format_at width i ≡ true = subst (λ (b : Bool). (if b then is_format_at width i else true) ≡ true) set t in
    let number = eqb-true (format_number (format_at i)) i (both-left _ _ both) in
    let narrow = leb-true (sample_bytes (format_at i)) width (both-right _ _ both) in
    (format_at i, number, narrow)

format-bit : (mask width : ℕ) (f : Format) → has_format mask width f ≡ true → sample_bytes f ≤ width → HasBit mask (format_number f)
format-bit mask width f t h =
    let narrow : nat_le (sample_bytes f) width ≡ true = grind (arith, nat_tests) in
    let set = subst (λ (b : Bool). (if b then nat_eq (bit_at mask (format_number f)) 1 else true) ≡ true) narrow t in
    eqb-true (bit_at mask (format_number f)) 1 set

each-format : (mask width : ℕ) (f : Format) → IsMaskOfWidth mask width → has_format mask width f ≡ true
each-format mask width format.S8 t = t.s8
each-format mask width format.U8 t = t.u8
each-format mask width format.S16Le t = t.s16_le
each-format mask width format.S16Be t = t.s16_be
each-format mask width format.S24Le t = t.s24_le
each-format mask width format.S32Le t = t.s32_le
each-format mask width format.S32Be t = t.s32_be
each-format mask width format.S24Le3 t = t.s24_le3

pub in-formats : (mask all width : ℕ) → all < 2 ^ 33 → IsMaskOfWidth all width → (i : ℕ)
    → HasBit (bit_and mask all) i ↔ ((f : Format) × HasBit mask i × (format_number f ≡ i) × (sample_bytes f ≤ width))
in-formats mask all width small t i = (
  (λ h.
      let here : HasBit all i = and-right mask all i h in
      let f : (f : Format) × (format_number f ≡ i) × (sample_bytes f ≤ width) = elim (cases_lt i 33) [
        | inl l ↦ format-at all width i (all_below-at (is_format_bit all width) 33 i t.bits l) here
        | inr ge ↦ absurd (omega (arith, bit_at_above all 33 i small ge))
      ] in
      (f.0, and-left mask all i h, f.1, f.2)),
  (λ h.
      let set = format-bit all width h.0 (each-format all width h.0 t) h.3 in
      and-both mask all i h.1 (subst (λ (n : ℕ). HasBit all n) h.2 set)),
)

pub width-1 : IsMaskOfWidth 3 1
width-1 = record { bits = refl; s8 = refl; u8 = refl; s16_le = refl; s16_be = refl; s24_le = refl; s32_le = refl; s32_be = refl; s24_le3 = refl }

pub width-2 : IsMaskOfWidth 15 2
width-2 = record { bits = refl; s8 = refl; u8 = refl; s16_le = refl; s16_be = refl; s24_le = refl; s32_le = refl; s32_be = refl; s24_le3 = refl }

pub width-3 : IsMaskOfWidth 4294967311 3
width-3 = record { bits = refl; s8 = refl; u8 = refl; s16_le = refl; s16_be = refl; s24_le = refl; s32_le = refl; s32_be = refl; s24_le3 = refl }

pub width-4 : IsMaskOfWidth 4294970447 4
width-4 = record { bits = refl; s8 = refl; u8 = refl; s16_le = refl; s16_be = refl; s24_le = refl; s32_le = refl; s32_be = refl; s24_le3 = refl }

pub width-most : (f : Format) → sample_bytes f ≤ 4
width-most format.S8 = omega arith
width-most format.U8 = omega arith
width-most format.S16Le = omega arith
width-most format.S16Be = omega arith
width-most format.S24Le = omega arith
width-most format.S32Le = omega arith
width-most format.S32Be = omega arith
width-most format.S24Le3 = omega arith

pub width-least : (f : Format) → 1 ≤ sample_bytes f
width-least format.S8 = omega arith
width-least format.U8 = omega arith
width-least format.S16Le = omega arith
width-least format.S16Be = omega arith
width-least format.S24Le = omega arith
width-least format.S32Le = omega arith
width-least format.S32Be = omega arith
width-least format.S24Le3 = omega arith

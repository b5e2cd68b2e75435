-- Ranges of pairs: of two sets of pairs together, of one count alone, and of one count more.
use Rattle.std.proofs.Common.{◌≡◌, ℕ, ◌+◌, ◌*◌, ◌/◌, ◌<◌, ◌≤◌, ◌⊎◌, min, max, inl, inr, arith, refl, ap}
use Rattle.std.proofs.lemmas.Bool.{cases_lt}
use Rattle.std.specs.Int.{div_ceil}
use Rattle.std.proofs.lemmas.Grind.{div_ceil_times}
use Rattle.std.proofs.Math.Nat.{le-div_iff_mul-le, mul-le-mul_right}
use Rattle.std.specs.declared.option.Option.{Option}
use Rattle.std.specs.declared.option.Option.TheVariants.{Some, None}
use Rattle.pcm_base.specs.declared.config.Span.{Span}
use Rattle.hw_params.specs.declared.sizes.Sizes.{Sizes}
use Rattle.hw_params.specs.Sizes.{Fits, FitsAt, FitsBelow, IsRange, AreRanges, IsBoxOf, both, either}
use Rattle.hw_params.specs.Spans.{Within, joined}

-- Z holds of just the pairs of which X or Y holds
record Joins (X Y Z : ℕ → ℕ → Type 0) : Type 0 where
  left : (p q : ℕ) → X p q → Z p q
  right : (p q : ℕ) → Y p q → Z p q
  parts : (p q : ℕ) → Z p q → X p q ⊎ Y p q

IsRange-joined : (X Y Z : ℕ → ℕ → Type 0) (number : ℕ → ℕ → ℕ) (a b : Span) → Joins X Y Z
    → IsRange X number a → IsRange Y number b → IsRange Z number (joined a b)
IsRange-joined X Y Z number a b j x y = record {
  least = elim (cases_lt a.least b.least) [
    | inl l ↦ (x.least.0, x.least.1, j.left _ _ x.least.2, omega (arith, x.least.3))
    | inr g ↦ (y.least.0, y.least.1, j.right _ _ y.least.2, omega (arith, y.least.3))
  ];
  most = elim (cases_lt a.most b.most) [
    | inl l ↦ (y.most.0, y.most.1, j.right _ _ y.most.2, omega (arith, y.most.3))
    | inr g ↦ (x.most.0, x.most.1, j.left _ _ x.most.2, omega (arith, x.most.3))
  ];
  within = λ p q z. elim (j.parts p q z) [
    | inl h ↦ let w = x.within p q h in record { least = omega (arith, w.least); most = omega (arith, w.most) }
    | inr h ↦ let w = y.within p q h in record { least = omega (arith, w.least); most = omega (arith, w.most) }
  ];
}

AreRanges-both : (X Y Z : ℕ → ℕ → Type 0) (a b : Sizes) → Joins X Y Z → AreRanges X a → AreRanges Y b → AreRanges Z (both a b)
AreRanges-both X Y Z a b j x y = record {
  period = IsRange-joined X Y Z (λ p q. p) _ _ j x.period y.period;
  periods = IsRange-joined X Y Z (λ p q. q) _ _ j x.periods y.periods;
  buffer = IsRange-joined X Y Z (λ p q. p * q) _ _ j x.buffer y.buffer;
}

-- the range of the same pairs
AreRanges-same : (X Z : ℕ → ℕ → Type 0) (a : Sizes) → ((p q : ℕ) → X p q → Z p q) → ((p q : ℕ) → Z p q → X p q) → AreRanges X a → AreRanges Z a
AreRanges-same X Z a to from x = record {
  period = same (λ p q. p) a.period x.period;
  periods = same (λ p q. q) a.periods x.periods;
  buffer = same (λ p q. p * q) a.buffer x.buffer;
}
  where
    same : (number : ℕ → ℕ → ℕ) (s : Span) → IsRange X number s → IsRange Z number s
    same number s r = record {
      least = (r.least.0, r.least.1, to _ _ r.least.2, r.least.3);
      most = (r.most.0, r.most.1, to _ _ r.most.2, r.most.3);
      within = λ p q z. r.within p q (from p q z);
    }

-- what either box holds, together
IsBoxOf-either : (X Y Z : ℕ → ℕ → Type 0) (a b : Option Sizes) → Joins X Y Z → IsBoxOf X a → IsBoxOf Y b → IsBoxOf Z (either a b)
IsBoxOf-either X Y Z None None j x y = λ p q z. elim (j.parts p q z) [ inl h ↦ x p q h | inr h ↦ y p q h ]
IsBoxOf-either X Y Z None (Some b) j x y =
    AreRanges-same Y Z b j.right (λ p q z. elim (j.parts p q z) [ inl h ↦ absurd (x p q h) | inr h ↦ h ]) y
IsBoxOf-either X Y Z (Some a) None j x y =
    AreRanges-same X Z a j.left (λ p q z. elim (j.parts p q z) [ inl h ↦ h | inr h ↦ absurd (y p q h) ]) x
IsBoxOf-either X Y Z (Some a) (Some b) j x y = AreRanges-both X Y Z a b j x y

-- a count below n + 1 is below n, or n
one-more : (s : Sizes) (n : ℕ) → Joins (FitsBelow s n) (FitsAt s n) (FitsBelow s (n + 1))
one-more s n = record {
  left = λ p q h. (omega (arith, h.0), h.1);
  right = λ p q h. (omega (arith, h.0), h.1);
  parts = λ p q h. elim (cases_lt q n) [ inl l ↦ inl (l, h.1) | inr g ↦ inr (omega (arith, h.0), h.1) ];
}

pub box-one-more : (s : Sizes) (n : ℕ) (a b : Option Sizes) → IsBoxOf (FitsBelow s n) a → IsBoxOf (FitsAt s n) b → IsBoxOf (FitsBelow s (n + 1)) (either a b)
box-one-more s n a b x y = IsBoxOf-either (FitsBelow s n) (FitsAt s n) (FitsBelow s (n + 1)) a b (one-more s n) x y

-- all counts are below one more than the most
pub box-all : (s : Sizes) (n : ℕ) (a : Option Sizes) → s.periods.most + 1 ≤ n → IsBoxOf (FitsBelow s n) a → IsBoxOf (Fits s) a
box-all s n None h x = λ p q f. x p q (omega (arith, f.count.most), f)
box-all s n (Some a) h x = AreRanges-same (FitsBelow s n) (Fits s) a (λ p q f. f.1) (λ p q f. (omega (arith, f.count.most), f)) x

-- p periods of n are at least b from the quotient on that is rounded up
ceil-from : (b n p : ℕ) → 1 ≤ n → div_ceil b n ≤ p → b ≤ p * n
ceil-from b n p some h = omega (arith, div_ceil_times b n (omega arith), mul-le-mul_right n h)

ceil-to : (b n p : ℕ) → 1 ≤ n → b ≤ p * n → div_ceil b n ≤ p
ceil-to b n p some h = elim (cases_lt p (div_ceil b n)) [
  | inl l ↦
      let more : (p + 1) * n ≤ div_ceil b n * n = mul-le-mul_right n (omega arith) in
      absurd (omega (arith, div_ceil_times b n (omega arith)))
  | inr g ↦ g
]

-- the least and the greatest period that fit n of them
pub record AreEnds (s : Sizes) (n least most : ℕ) : Type 0 where
  pub some : 1 ≤ n
  pub least-is : least ≡ max s.period.least (div_ceil s.buffer.least n)
  pub most-is : most ≡ min s.period.most (s.buffer.most / n)

-- each period of n that fit lies between the ends
within-ends : (s : Sizes) (n least most p q : ℕ) → AreEnds s n least most → FitsAt s n p q → Within (record { least = least; most = most }) p
within-ends s n least most p q ends f =
    let product : p * q ≡ p * n = ap (λ (k : ℕ). p * k) f.0 in
    let low : div_ceil s.buffer.least n ≤ p = ceil-to s.buffer.least n p ends.some (omega (arith, product, f.1.buffer.least)) in
    let high : p ≤ s.buffer.most / n = (le-div_iff_mul-le {k = n} {x = p} {y = s.buffer.most} (omega arith)).1 (omega (arith, product, f.1.buffer.most)) in
    record { least = omega (arith, f.1.period.least); most = omega (arith, f.1.period.most) }

-- and each period between them fits
ends-fit : (s : Sizes) (n least most p : ℕ) → AreEnds s n least most → Within s.periods n → least ≤ p → p ≤ most → Fits s p n
ends-fit s n least most p ends count low high = record {
  period = record { least = omega arith; most = omega arith };
  count = count;
  buffer = record {
    least = ceil-from s.buffer.least n p ends.some (omega arith);
    most = (le-div_iff_mul-le {k = n} {x = p} {y = s.buffer.most} (omega arith)).0 (omega arith);
  };
}

-- the box of one count, from its least and its greatest period
pub box-at : (s : Sizes) (n least most : ℕ) → AreEnds s n least most → Within s.periods n → least ≤ most
    → AreRanges (FitsAt s n) (record {
      period = record { least = least; most = most };
      periods = record { least = n; most = n };
      buffer = record { least = least * n; most = most * n };
    })
box-at s n least most ends count h =
    let first : FitsAt s n least n = (refl, ends-fit s n least most least ends count (omega arith) h) in
    let last : FitsAt s n most n = (refl, ends-fit s n least most most ends count h (omega arith)) in
    record {
      period = record { least = (least, n, first, refl); most = (most, n, last, refl); within = λ p q f. within-ends s n least most p q ends f };
      periods = record {
        least = (least, n, first, refl);
        most = (least, n, first, refl);
        within = λ p q f. record { least = omega (arith, f.0); most = omega (arith, f.0) };
      };
      buffer = record {
        least = (least, n, first, refl);
        most = (most, n, last, refl);
        within = λ p q f.
            let w = within-ends s n least most p q ends f in
            let product : p * q ≡ p * n = ap (λ (k : ℕ). p * k) f.0 in
            record { least = omega (arith, product, mul-le-mul_right n w.least); most = omega (arith, product, mul-le-mul_right n w.most) };
      };
    }

-- no period fits where the least exceeds the greatest
pub none-at : (s : Sizes) (n least most : ℕ) → AreEnds s n least most → most < least → (p q : ℕ) → FitsAt s n p q → ⊥
none-at s n least most ends h p q f = let w = within-ends s n least most p q ends f in omega (arith, w)

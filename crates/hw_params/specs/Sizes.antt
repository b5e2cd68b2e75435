-- Periods and counts of periods whose product is a buffer.
use Rattle.std.specs.Prelude.{◌≡◌, ℕ, ◌*◌, ◌<◌}
use Rattle.std.specs.declared.option.Option.{Option}
use Rattle.std.specs.declared.option.Option.TheVariants.{Some, None}
use Rattle.pcm_base.specs.declared.config.Span.{Span}
use Rattle.hw_params.specs.declared.sizes.Sizes.{Sizes}
use Rattle.hw_params.specs.Spans.{Within, joined}

-- q periods of p frames make a buffer, all in their spans
pub record Fits (spans : Sizes) (p q : ℕ) : Type 0 where
  pub period : Within spans.period p
  pub count : Within spans.periods q
  pub buffer : Within spans.buffer (p * q)

-- those with this count, and those with a lesser count
abbrev pub FitsAt : Sizes → ℕ → ℕ → ℕ → Type 0
FitsAt spans n p q = (q ≡ n) × Fits spans p q

abbrev pub FitsBelow : Sizes → ℕ → ℕ → ℕ → Type 0
FitsBelow spans n p q = (q < n) × Fits spans p q

-- the least and the greatest number of the pairs that hold
pub record IsRange (holds : ℕ → ℕ → Type 0) (number : ℕ → ℕ → ℕ) (span : Span) : Type 0 where
  pub least : (p q : ℕ) × holds p q × (number p q ≡ span.least)
  pub most : (p q : ℕ) × holds p q × (number p q ≡ span.most)
  pub within : (p q : ℕ) → holds p q → Within span (number p q)

pub record AreRanges (holds : ℕ → ℕ → Type 0) (sizes : Sizes) : Type 0 where
  pub period : IsRange holds (λ p q. p) sizes.period
  pub periods : IsRange holds (λ p q. q) sizes.periods
  pub buffer : IsRange holds (λ p q. p * q) sizes.buffer

-- the ranges of the pairs that hold, or none where none holds
abbrev pub IsBoxOf : (ℕ → ℕ → Type 0) → Option Sizes → Type 0
IsBoxOf holds None = (p q : ℕ) → holds p q → ⊥
IsBoxOf holds (Some sizes) = AreRanges holds sizes

-- the least box that holds what either holds
abbrev pub both : Sizes → Sizes → Sizes
both a b = record { period = joined a.period b.period; periods = joined a.periods b.periods; buffer = joined a.buffer b.buffer }

abbrev pub either : Option Sizes → Option Sizes → Option Sizes
either None None = None
either None (Some b) = Some b
either (Some a) None = Some a
either (Some a) (Some b) = Some (both a b)

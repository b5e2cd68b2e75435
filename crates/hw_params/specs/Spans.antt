-- Spans of numbers (struct snd_interval with closed ends).
use Rattle.std.specs.Prelude.{◌≡◌, ℕ, ◌≤◌, min, max}
use Rattle.pcm_base.specs.declared.config.Span.{Span}

-- n lies in the span
pub record Within (span : Span) (n : ℕ) : Type 0 where
  pub least : span.least ≤ n
  pub most : n ≤ span.most

-- the span holds what lies in both a and b
pub record IsCommon (a b span : Span) : Type 0 where
  pub least : span.least ≡ max a.least b.least
  pub most : span.most ≡ min a.most b.most

-- the least span that holds both
abbrev pub joined : Span → Span → Span
joined a b = record { least = min a.least b.least; most = max a.most b.most }

-- the greatest number of which a fact holds
pub record IsGreatest (holds : ℕ → Type 0) (n : ℕ) : Type 0 where
  pub here : holds n
  pub above : (k : ℕ) → holds k → k ≤ n

-- The configurations that a card model allows, those that lie in a space, and the least box that holds what is both (snd_pcm_hw_refine). The limits of 2 to 32 periods and 4 to 65536 frames, and that the box is exact, are this project's own.
use Rattle.std.specs.Prelude.{◌≡◌, ℕ, ◌*◌, ◌≤◌, ◌⊎◌, ◌↔◌}
use Rattle.std.specs.Int.{bit_at}
use Rattle.pcm_base.specs.declared.config.CardModel.{CardModel}
use Rattle.pcm_base.specs.declared.config.Config.{Config}
use Rattle.pcm_base.specs.declared.config.Space.{Space}
use Rattle.pcm_base.specs.declared.config.Span.{Span}
use Rattle.pcm_base.specs.Numbers.{format_number, access_number}
use Rattle.pcm_base.specs.model.Allowed.{buffer_of, frame_bytes_of}
use Rattle.hw_params.specs.Spans.{Within}

-- bit i of the mask is set
abbrev pub HasBit : ℕ → ℕ → Type 0
HasBit mask i = bit_at mask i ≡ 1

-- the model allows the configuration
pub record Allowed (m : CardModel) (c : Config) : Type 0 where
  pub access : HasBit m.accesses (access_number c.access)
  pub format : HasBit m.formats (format_number c.format)
  pub channels : Within m.channels c.channels
  pub rate : Within m.rate c.rate
  pub period : Within m.period c.period
  pub periods : Within (record { least = 2; most = 32 }) c.periods
  pub buffer : Within (record { least = 4; most = 65536 }) (buffer_of c)
  pub bytes : buffer_of c * frame_bytes_of c ≤ m.buffer_bytes
  pub wide : (c.rate ≤ m.wide_rate) ⊎ (c.channels ≤ 2)

-- the configuration lies in the space
pub record In (s : Space) (c : Config) : Type 0 where
  pub access : HasBit s.accesses (access_number c.access)
  pub format : HasBit s.formats (format_number c.format)
  pub channels : Within s.channels c.channels
  pub rate : Within s.rate c.rate
  pub period : Within s.period c.period
  pub periods : Within s.periods c.periods
  pub buffer : Within s.buffer (buffer_of c)

-- the model allows it, and it lies in the space
pub record Occurs (m : CardModel) (s : Space) (c : Config) : Type 0 where
  pub allowed : Allowed m c
  pub inside : In s c

-- no configuration is left
abbrev pub HasNone : CardModel → Space → Type 0
HasNone m s = (c : Config) → Occurs m s c → ⊥

-- bit i of the mask is set exactly where a configuration that occurs has the number i
abbrev pub IsMaskOf : CardModel → Space → (Config → ℕ) → ℕ → Type 0
IsMaskOf m s number mask = (i : ℕ) → HasBit mask i ↔ ((c : Config) × Occurs m s c × (number c ≡ i))

-- the least and the greatest number that occur
pub record IsSpanOf (m : CardModel) (s : Space) (number : Config → ℕ) (span : Span) : Type 0 where
  pub least : (c : Config) × Occurs m s c × (number c ≡ span.least)
  pub most : (c : Config) × Occurs m s c × (number c ≡ span.most)
  pub within : (c : Config) → Occurs m s c → Within span (number c)

-- the box of the masks and the ends of the numbers that occur
pub record IsHull (m : CardModel) (s : Space) (h : Space) : Type 0 where
  pub accesses : IsMaskOf m s (λ c. access_number c.access) h.accesses
  pub formats : IsMaskOf m s (λ c. format_number c.format) h.formats
  pub channels : IsSpanOf m s (λ c. c.channels) h.channels
  pub rate : IsSpanOf m s (λ c. c.rate) h.rate
  pub period : IsSpanOf m s (λ c. c.period) h.period
  pub periods : IsSpanOf m s (λ c. c.periods) h.periods
  pub buffer : IsSpanOf m s buffer_of h.buffer

-- the box holds each configuration that occurs
abbrev pub HoldsAll : CardModel → Space → Space → Type 0
HoldsAll m s box = (c : Config) → Occurs m s c → In box c

-- the one mask has each bit of the other
abbrev pub HasBitsOf : ℕ → ℕ → Type 0
HasBitsOf whole part = (i : ℕ) → HasBit part i → HasBit whole i

-- the one span has the ends of the other
pub record Covers (whole part : Span) : Type 0 where
  pub least : whole.least ≤ part.least
  pub most : part.most ≤ whole.most

-- the one box holds the other
pub record HoldsBox (whole part : Space) : Type 0 where
  pub accesses : HasBitsOf whole.accesses part.accesses
  pub formats : HasBitsOf whole.formats part.formats
  pub channels : Covers whole.channels part.channels
  pub rate : Covers whole.rate part.rate
  pub period : Covers whole.period part.period
  pub periods : Covers whole.periods part.periods
  pub buffer : Covers whole.buffer part.buffer

-- The configuration that leaves the most room for the others: a format of the least width, the least channels and the least rate.
use Rattle.std.specs.Prelude.{ℕ, ◌*◌, ◌/◌, ◌≤◌, ◌⊎◌, min}
use Rattle.pcm_base.specs.declared.config.CardModel.{CardModel}
use Rattle.pcm_base.specs.declared.config.Space.{Space}
use Rattle.pcm_base.specs.declared.format.Format.{Format}
use Rattle.pcm_base.specs.Numbers.{format_number, access_number, sample_bytes}
use Rattle.hw_params.specs.declared.base.Base.{Base}
use Rattle.hw_params.specs.Hull.{HasBit}
use Rattle.hw_params.specs.Spans.{IsCommon}

-- the most frames of a buffer with the least frame
abbrev pub room : CardModel → Base → ℕ
room m b = m.buffer_bytes / (sample_bytes b.format * b.channels.least)

-- what is left where the model and the space are cut against each other
pub record IsBase (m : CardModel) (s : Space) (b : Base) : Type 0 where
  pub access : HasBit m.accesses (access_number b.access) × HasBit s.accesses (access_number b.access)
  pub format : HasBit m.formats (format_number b.format) × HasBit s.formats (format_number b.format)
  pub narrow : (f : Format) → HasBit m.formats (format_number f) → HasBit s.formats (format_number f) → sample_bytes b.format ≤ sample_bytes f
  pub channels : IsCommon m.channels s.channels b.channels
  pub some_channels : b.channels.least ≤ b.channels.most
  pub rate : IsCommon m.rate s.rate b.rate
  pub some_rate : b.rate.least ≤ b.rate.most
  pub wide : (b.rate.least ≤ m.wide_rate) ⊎ (b.channels.least ≤ 2)
  pub period : IsCommon m.period s.period b.sizes.period
  pub periods : IsCommon (record { least = 2; most = 32 }) s.periods b.sizes.periods
  pub buffer : IsCommon (record { least = 4; most = min (room m b) 65536 }) s.buffer b.sizes.buffer

-- channels that fit beside the least rate, where a frame has room for so many samples
abbrev pub CanHaveChannels : CardModel → Base → ℕ → ℕ → Type 0
CanHaveChannels m b samples n = (n ≤ b.channels.most) × (n ≤ samples) × ((b.rate.least ≤ m.wide_rate) ⊎ (n ≤ 2))

-- rates that fit beside the least channels
abbrev pub CanHaveRate : CardModel → Base → ℕ → Type 0
CanHaveRate m b n = (n ≤ b.rate.most) × ((n ≤ m.wide_rate) ⊎ (b.channels.least ≤ 2))

-- The configurations that a card model allows, and the sizes that follow. The limits of 2 to 32 periods and 4 to 65536 frames are this project's own.
use Rattle.std.specs.Prelude.{ℕ, Bool, ◌&&◌, ◌||◌, nat_eq, nat_le, ◌*◌, ◌/◌, ◌%◌, ◌^◌}
use Rattle.pcm_base.specs.declared.config.CardModel.{CardModel}
use Rattle.pcm_base.specs.declared.config.Config.{Config}
use Rattle.pcm_base.specs.declared.config.Shape.{Shape}
use Rattle.pcm_base.specs.declared.config.Span.{Span}
use Rattle.pcm_base.specs.Boundary.{boundary_of}
use Rattle.pcm_base.specs.Numbers.{format_number, access_number, sample_bytes}

-- bit i of a mask is set
abbrev pub has_bit : ℕ → ℕ → Bool
has_bit mask i = nat_eq (mask / (2 ^ i) % 2) 1

-- n lies in the span
abbrev pub is_in : Span → ℕ → Bool
is_in span n = nat_le span.least n && nat_le n span.most

-- the frames of a buffer
abbrev pub buffer_of : Config → ℕ
buffer_of c = c.period * c.periods

-- the bytes of a frame
abbrev pub frame_bytes_of : Config → ℕ
frame_bytes_of c = sample_bytes c.format * c.channels

-- the model allows the configuration
abbrev pub allows : CardModel → Config → Bool
allows m c =
    has_bit m.accesses (access_number c.access)
    && (has_bit m.formats (format_number c.format)
    && (is_in m.channels c.channels
    && (is_in m.rate c.rate
    && (is_in m.period c.period
    && (is_in (record { least = 2; most = 32 }) c.periods
    && (is_in (record { least = 4; most = 65536 }) (buffer_of c)
    && (nat_le (buffer_of c * frame_bytes_of c) m.buffer_bytes
    && (nat_le c.rate m.wide_rate || nat_le c.channels 2))))))))

-- the model allows it, and four buffers are at most long_max
abbrev pub accepts : CardModel → ℕ → Config → Bool
accepts m long_max c = allows m c && nat_le (4 * buffer_of c) long_max

-- the sizes of an accepted configuration
abbrev pub shape_of : Config → ℕ → Shape
shape_of c long_max = record {
  frame_bytes = frame_bytes_of c;
  channels = c.channels;
  period = c.period;
  periods = c.periods;
  buffer = buffer_of c;
  boundary = boundary_of (buffer_of c) long_max;
}

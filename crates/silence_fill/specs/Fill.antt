-- Silence relative to the hardware position (snd_pcm_playback_silence; the rule is this project's own).
use Rattle.std.specs.Prelude.{◌≡◌, ℕ, ◌+◌, ◌-◌, ◌<◌, nat_lt, nat_le, min, if◌then◌else◌, MatchOption}
use Rattle.std.specs.declared.option.Option.{Option}
use Rattle.pcm_base.specs.declared.config.Shape.{Shape}
use Rattle.pcm_base.specs.declared.config.SwParams.{SwParams}
use Rattle.pcm_base.specs.model.Stream.{Stream}
use Rattle.pcm_base.specs.model.Update.{fill_start, fill_count_at}
use Rattle.pcm_base.specs.model.Words.{◌then◌}

-- how many frames of silence are put from x frames ahead of the hardware position on
abbrev pub count_ahead : Shape → SwParams → ℕ → ℕ
count_ahead shape sw x =
    if nat_le shape.boundary sw.silence_size then shape.buffer - x
    else if nat_lt x sw.silence_threshold then min sw.silence_size (sw.silence_threshold - x)
    else 0

-- The fill begins x frames ahead of the hardware position, and has the rule's count; there is none where that is 0.
abbrev pub IsFillAhead : Shape → SwParams → ℕ → Option (ℕ × ℕ) → Type 0
IsFillAhead shape sw x plan =
    MatchOption plan (count_ahead shape sw x ≡ 0) (λ fill. (fill.0 ≡ x) × (fill.1 ≡ count_ahead shape sw x) × (0 < fill.1))

-- A stream of this shape with these software parameters, whose application position and last fill's end lie so far ahead of the hardware position, 0 where behind.
pub record StandsAt (s : Stream) (shape : Shape) (sw : SwParams) (queued filled : ℕ) : Type 0 where
  pub buffer : s.setup.buffer ≡ shape.buffer
  pub boundary : s.setup.boundary ≡ shape.boundary
  pub software : s.setup.sw ≡ sw
  pub appl : s.at.appl - s.at.hw ≡ queued
  pub fill : s.at.filled - s.at.hw ≡ filled

-- where the stream's silence begins ahead of its hardware position, and how much of it there is
abbrev pub IsFillOf : Stream → Option (ℕ × ℕ) → Type 0
IsFillOf s plan =
    let start = fill_start s in
    MatchOption plan (fill_count_at start s ≡ 0) (λ fill. (start ≡ s.at.hw + fill.0) × (fill_count_at start s ≡ fill.1) × (0 < fill.1))

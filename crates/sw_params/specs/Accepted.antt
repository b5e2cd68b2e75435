-- Software parameters that a substream takes, said by what they are for (the software parameters of alsa-lib's manual).
use Rattle.std.specs.Prelude.{◌≡◌, ℕ, ◌≤◌, ◌⊎◌}
use Rattle.pcm_base.specs.declared.config.SwParams.{SwParams}

-- silence follows the card without end
pub record IsEndless (boundary : ℕ) (sw : SwParams) : Type 0 where
  pub size : boundary ≤ sw.silence_size
  pub threshold : sw.silence_threshold ≡ 0

-- silence of at most its size is put where fewer frames than the threshold lie ahead of the card
pub record IsToppedUp (buffer : ℕ) (sw : SwParams) : Type 0 where
  pub size : sw.silence_size ≤ sw.silence_threshold
  pub threshold : sw.silence_threshold ≤ buffer

-- a sleeper is woken by at least one frame, and silence is of one of the two kinds
pub record IsAccepted (buffer boundary : ℕ) (sw : SwParams) : Type 0 where
  pub wakes : 1 ≤ sw.avail_min
  pub silence : IsEndless boundary sw ⊎ IsToppedUp buffer sw

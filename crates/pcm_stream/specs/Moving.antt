-- Streams whose card can move.
use Rattle.std.specs.Prelude.{◌≡◌, ◌+◌, ◌<◌, ℕ, true}
use Rattle.pcm_base.specs.declared.state.Dir.{Dir}
use Rattle.pcm_base.specs.model.Stream.{Stream}

-- the card runs, and n frames more stay below a whole buffer since the last report
pub record CanMove (d : Dir) (n : ℕ) (s : Stream) : Type 0 where
  pub dir : s.dir ≡ d
  pub runs : s.card.runs ≡ true
  pub near : s.at.card + n < s.at.hw + s.setup.buffer

-- What a room sees of a member of its group. This project's own.
use Rattle.std.specs.Prelude.{◌≡◌}
use Rattle.pcm_base.specs.declared.reply.Page.{Page}
use Rattle.pcm_base.specs.model.Stream.{Stream, shown}

-- the state and the hardware position of the page are those that a mark shows
pub record IsPageIn (p : Page) (s : Stream) : Type 0 where
  pub state : p.state ≡ s.state
  pub hw : p.hw ≡ shown s s.at.hw

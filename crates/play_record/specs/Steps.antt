-- What an event of a device comes to. This project's own.
use Rattle.std.specs.Prelude.{◌≡◌, ◌≢◌, ℕ, false, []}
use Rattle.std.specs.declared.option.Option.TheVariants.{None}
use Rattle.pcm_base.specs.declared.act.Outcome.TheVariants as outcome
use Rattle.pcm_base.specs.declared.act.Updated.TheVariants as updated
use Rattle.pcm_base.specs.declared.reply.Reply.TheVariants as reply
use Rattle.pcm_base.specs.model.Acts.{asked, done, pre, trips}
use Rattle.pcm_base.specs.model.Movement.{move}
use Rattle.pcm_base.specs.model.Program.{Answer, Program, Ends, Makes}
use Rattle.pcm_base.specs.model.Stream.{Stream}
use Rattle.pcm_base.specs.model.Update.{update}
use Rattle.pcm_base.specs.model.Words.{is_closed}

-- the program comes to this answer and this stream, and each of its acts is done
abbrev pub GoesTo : Program → Answer → Stream → Type 0
GoesTo (Ends a s) r t = (a ≡ r) × (s ≡ t)
GoesTo (Makes a s f) r t = (pre s a ≡ None) × (trips s a ≡ false) × GoesTo (f outcome.Done (done a (asked s a))) r t

-- the stream after its card has moved on by n frames and interrupted
abbrev pub moved_on : ℕ → Stream → Stream
moved_on n s = (update (move n s).stream).stream

-- The card can move on by n frames, and its interrupt finds no underrun.
pub record CanMoveOn (n : ℕ) (s : Stream) : Type 0 where
  pub is_open : is_closed s.state ≡ false
  pub moves : (move n s).reply ≡ reply.Moved n
  pub still_open : is_closed (move n s).stream.state ≡ false
  pub quiet : (update (move n s).stream).found ≢ updated.StopXrun
  pub calls : (move n s).stream.sleepers ≡ []
  pub calls_after : (moved_on n s).sleepers ≡ []

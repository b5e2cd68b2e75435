use Rattle.std.proofs.Common.{◌≡◌, refl, Option, None, Some, MatchResult}
use Rattle.pcm_base.specs.declared.state.Errno.{Errno}
use Rattle.state_table.specs.Cases.{answer_of}
use Rattle.pcm_stream.proofs.substream.acts.vote_able.Goals as goal

answered : (o : Option Errno) → MatchResult (answer_of o) (λ x. o ≡ None) (λ e. o ≡ Some e)
answered None = refl
answered (Some e) = refl

pub returns-then-able : goal.returns-then-able
returns-then-able c = rw (c.if-able.true, c.permit.ensures) (answered _)

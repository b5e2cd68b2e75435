use Rattle.std.proofs.Common.{sym}
use Rattle.pcm_base.specs.model.World.{stream_in}
use Rattle.pcm_top.proofs.FeedLemmas.{carries-from, carries-to}
use Rattle.pcm_top.proofs.SessionLemmas.{stream-undeclared}
use Rattle.pcm_top.proofs.carry.carries.Goals as goal

pub returns-in_default : goal.returns-in_default
returns-in_default c = λ w is. carries-from (stream_in c.args.from w) (stream_in c.args.to w) (stream-undeclared c.args.from w (sym (c.in_default.ensures.none w is)))

pub returns-in_default-substream : goal.returns-in_default-substream
returns-in_default-substream c = λ w is. carries-to (stream_in c.args.from w) (stream_in c.args.to w) (stream-undeclared c.args.to w (sym (c.in_default-substream.ensures.none w is)))

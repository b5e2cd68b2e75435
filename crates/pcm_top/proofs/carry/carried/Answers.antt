use Rattle.std.proofs.Common.{◌∙◌, ap, sym}
use Rattle.pcm_base.specs.model.Stream.{Stream}
use Rattle.pcm_base.specs.model.World.{stream_in}
use Rattle.pcm_top.proofs.FeedLemmas.{nothing-taken}
use Rattle.pcm_top.proofs.SessionLemmas.{stream-undeclared}
use Rattle.pcm_top.proofs.carry.carried.Goals as goal

pub returns-in-None : goal.returns-in-None
returns-in-None c = λ w is.
    c.new.ensures.items ∙ nothing-taken (stream_in c.args.from w) (stream_in c.args.to w).moved (ap (λ (s : Stream). s.card.taken) (stream-undeclared c.args.from w (sym (c.in-None.ensures.none w is))))

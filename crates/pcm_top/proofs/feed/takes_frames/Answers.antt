use Rattle.std.proofs.Common.{ap, not, ◌||◌, sym}
use Rattle.pcm_base.specs.model.Stream.{Stream, is_bare}
use Rattle.pcm_base.specs.model.Words.{is_playback}
use Rattle.pcm_top.proofs.SessionLemmas.{stream-undeclared}
use Rattle.pcm_top.proofs.feed.takes_frames.Goals as goal

pub returns-in-None : goal.returns-in-None
returns-in-None c = λ w is. sym (ap (λ (s : Stream). not (is_playback s.dir || is_bare s)) (stream-undeclared c.args.sub w (sym (c.in-None.ensures.none w is))))

use Rattle.std.proofs.Common.{refl}
use Rattle.std.proofs.lemmas.Result.{on_err_weaker, on_ok_weaker}
use Rattle.pcm_stream.proofs.CardLemmas.{stands-as}
use Rattle.pcm_stream.proofs.PointerLemmas.{StandsFor-given}
use Rattle.pcm_stream.proofs.substream.Substream.give.Goals as goal

pub returns-clause-given : goal.returns-clause-given
returns-clause-given g c s h =
    on_ok_weaker c.give.result (λ facts. StandsFor-given c.args.self.now _ c.args.frames.now s c.requires.shape c.requires.whole refl refl refl refl refl facts h) c.give.ensures.ok

pub returns-clause-memory : goal.returns-clause-memory
returns-clause-memory g c s h =
    on_err_weaker c.give.result (λ facts. stands-as c.args.self.now _ s facts refl refl refl refl refl h) c.give.ensures.err

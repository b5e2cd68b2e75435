use Rattle.std.proofs.Common.{ap, sym}
use Rattle.pcm_base.specs.model.Stream.{Stream}
use Rattle.wav_file.specs.Recordings.{recording}
use Rattle.pcm_top.specs.Run.{fits_config}
use Rattle.pcm_top.proofs.SessionLemmas.{stream-undeclared}
use Rattle.pcm_top.proofs.feed.fits.Goals as goal

pub returns-in-None : goal.returns-in-None
returns-in-None c = λ w is. sym (ap (λ (s : Stream). fits_config (recording c.args.wav.now) s.setup.config) (stream-undeclared c.args.sub w (sym (c.in-None.ensures.none w is))))

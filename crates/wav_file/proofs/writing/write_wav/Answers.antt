use Rattle.std.proofs.Common.{arith}
use Rattle.wav_file.specs.Recordings.{recording}
use Rattle.wav_file.proofs.Written.{written_is_wav}
use Rattle.wav_file.proofs.writing.write_wav.Goals as goal

pub returns-clause-again : goal.returns-clause-again
returns-clause-again c = rw c.in_ok-file.ensures (written_is_wav (recording c.args.wav.now) c.requires (omega arith))

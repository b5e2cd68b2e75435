use Rattle.std.proofs.Common.{◌≡◌, ◌*◌, ◌++◌, take, drop}
use Rattle.wav_file.specs.Recordings.{high_samples}
use Rattle.wav_file.proofs.samples.move_high.Given as goal

abbrev pub invariant-moves : goal.invariant-moves
invariant-moves l = take (4 * l.k) l.samples ++ high_samples (drop (4 * l.k) l.samples) ≡ high_samples l.fn.samples

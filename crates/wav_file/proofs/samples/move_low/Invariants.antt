use Rattle.std.proofs.Common.{◌≡◌, ◌*◌, ◌++◌, take, drop}
use Rattle.wav_file.specs.Recordings.{low_samples}
use Rattle.wav_file.proofs.samples.move_low.Given as goal

abbrev pub invariant-moves : goal.invariant-moves
invariant-moves l = take (4 * l.k) l.samples ++ low_samples (drop (4 * l.k) l.samples) ≡ low_samples l.fn.samples

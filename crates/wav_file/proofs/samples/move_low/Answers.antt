use Rattle.std.proofs.Common.{◌+◌, ◌*◌, get_or, ap, arith}
use Rattle.wav_file.specs.Recordings.{low_samples}
use Rattle.wav_file.proofs.SampleMoves.{four_here, one_moved, all_moved, low-rest}
use Rattle.wav_file.proofs.samples.move_low.Goals as goal

pub moves-preserved : goal.moves-preserved
moves-preserved c =
    let s = c.moves.samples in
    let at = 4 * c.moves.k in
    one_moved low_samples s (low_samples c.args.samples.now) c.moves.k (get_or s (at + 1) 0) (get_or s (at + 2) 0) (get_or s (at + 3) 0) (0) (omega arith) (ap low_samples (four_here s at (omega arith))) c.moves.invariant

pub returns : goal.returns
returns c = all_moved low_samples low-rest c.moves.samples (low_samples c.args.samples.now) c.moves.k (omega arith) c.moves.invariant

use Rattle.std.proofs.Common.{◌+◌, ◌*◌, get_or, ap, arith}
use Rattle.wav_file.specs.Recordings.{high_samples}
use Rattle.wav_file.proofs.SampleMoves.{four_here, one_moved, all_moved, high-rest}
use Rattle.wav_file.proofs.samples.move_high.Goals as goal

pub moves-preserved : goal.moves-preserved
moves-preserved c =
    let s = c.moves.samples in
    let at = 4 * c.moves.k in
    one_moved high_samples s (high_samples c.args.samples.now) c.moves.k (0) (get_or s at 0) (get_or s (at + 1) 0) (get_or s (at + 2) 0) (omega arith) (ap high_samples (four_here s at (omega arith))) c.moves.invariant

pub returns : goal.returns
returns c = all_moved high_samples high-rest c.moves.samples (high_samples c.args.samples.now) c.moves.k (omega arith) c.moves.invariant

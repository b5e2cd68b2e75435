use Rattle.std.proofs.Common.{◌≡◌, ◌-◌, ◌≤◌, length, take, drop}
use Rattle.pcm_line.specs.Pieces.{pieces_of}
use Rattle.pcm_line.proofs.Cutting.{onto}
use Rattle.pcm_line.proofs.pieces.piece_len.Given as goal

abbrev pub invariant-bytes : goal.invariant-bytes
invariant-bytes l = record {
  within : l.i ≤ length l.bytes;
  so_far : onto (take l.i l.bytes) (pieces_of (drop l.i l.bytes)) ≡ pieces_of l.bytes;
}

abbrev pub decreases-bytes : goal.decreases-bytes
decreases-bytes l = length l.bytes - l.i

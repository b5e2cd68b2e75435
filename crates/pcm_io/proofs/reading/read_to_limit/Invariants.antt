use Rattle.std.proofs.Common.{◌≡◌, ◌≤◌, ◌+◌, ◌-◌, vec_len}
use Rattle.std.specs.Io.KnownBytes.{Consumes}
use Rattle.pcm_io.proofs.reading.read_to_limit.Given as goal

abbrev pub invariant-pieces : goal.invariant-pieces
invariant-pieces g l =
    let S = g.S.Source in
    record {
      bytes : Consumes (S.left l.fn.source) (S.left l.source) l.bytes.items;
      bound : vec_len l.bytes ≤ l.limit + 1;
      kept : S.faults l.source ≡ S.faults l.fn.source;
    }

abbrev pub decreases-pieces : goal.decreases-pieces
decreases-pieces g l = l.limit + 1 - vec_len l.bytes

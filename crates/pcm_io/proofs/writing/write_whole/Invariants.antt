use Rattle.std.proofs.Common.{◌≡◌, ◌*◌, take}
use Rattle.std.specs.Io.KnownBytes.{Appends}
use Rattle.pcm_io.proofs.writing.write_whole.Given as goal

abbrev pub invariant-pieces : goal.invariant-pieces
invariant-pieces g l =
    let K = g.K.Sink in
    record {
      front : Appends (K.written l.fn.sink) (K.written l.sink) (take (l.i * 4096) l.text);
      kept : K.faults l.sink ≡ K.faults l.fn.sink;
    }

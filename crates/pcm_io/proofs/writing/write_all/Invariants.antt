use Rattle.std.proofs.Common.{◌≡◌, ◌≤◌, ◌-◌, length, take}
use Rattle.std.specs.Io.KnownBytes.{Appends}
use Rattle.pcm_io.proofs.writing.write_all.Given as goal

abbrev pub invariant-parts : goal.invariant-parts
invariant-parts g l =
    let K = g.K.Sink in
    record {
      within : l.done ≤ length l.bytes;
      front : Appends (K.written l.fn.sink) (K.written l.sink) (take l.done l.bytes);
      kept : K.faults l.sink ≡ K.faults l.fn.sink;
    }

abbrev pub decreases-parts : goal.decreases-parts
decreases-parts g l = length l.bytes - l.done

use Rattle.std.proofs.Common.{◌≡◌, ◌++◌, ℕ, List, false}
use Rattle.pcm_io.specs.Lines.{HasRead, has_feed}
use Rattle.pcm_io.proofs.lines.seek_feed.Given as goal

abbrev pub invariant-pieces : goal.invariant-pieces
invariant-pieces g l =
    let S = g.S.Source in
    record {
      bytes : List ℕ;
      read : HasRead l.fn.ahead l.ahead (S.left l.fn.source) (S.left l.source) bytes;
      same : l.fn.ahead.bytes ++ bytes ≡ l.front.items ++ l.ahead.bytes;
      plain : has_feed l.front.items ≡ false;
      kept : S.faults l.source ≡ S.faults l.fn.source;
    }

abbrev pub decreases-pieces : goal.decreases-pieces
decreases-pieces g l = l.ahead.room

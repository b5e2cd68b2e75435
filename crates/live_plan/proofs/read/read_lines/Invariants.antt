use Rattle.std.proofs.Common.{◌≡◌, ◌≤◌, ◌+◌, ℕ, List, [], length, true}
use Rattle.std.specs.Prelude.{IfSome}
use Rattle.std.specs.Io.KnownBytes.{IsAtEnd}
use Rattle.live_plan.specs.Draft.{StandsFor}
use Rattle.live_plan.specs.Lines.{line_limit}
use Rattle.live_plan.specs.Plan.{Begins}
use Rattle.live_plan.specs.Said.{Said}
use Rattle.live_plan.proofs.StreamLemmas.{IsAmid}
use Rattle.live_plan.proofs.read.read_lines.Given as goal

-- The draft stands for the lines that were given, which are a sound beginning.
abbrev pub invariant-lines : goal.invariant-lines
invariant-lines g l =
    let S = g.S.Source in
    record {
      said : Said;
      stands : StandsFor l.draft said;
      given : List (List ℕ);
      begins : Begins given said;
      amid : IfSome (S.left l.fn.source) (λ plan. IsAmid plan given l.lines.ahead (S.left l.source));
      at_end : l.lines.ahead.ended ≡ true → IsAtEnd (S.left l.source);
      more : l.lines.ahead.bytes ≡ [] → l.lines.ahead.room ≡ 0 → ⊥;
      calm : S.faults l.source ≡ S.faults l.fn.source;
      count : l.draft.count ≤ line_limit;
    }

abbrev pub decreases-lines : goal.decreases-lines
decreases-lines g l = length l.lines.ahead.bytes + l.lines.ahead.room

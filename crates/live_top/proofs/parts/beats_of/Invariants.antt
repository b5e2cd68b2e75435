use Rattle.std.proofs.Common.{◌≡◌, drop}
use Rattle.live_top.specs.Callers.{beats_in}
use Rattle.live_top.proofs.parts.beats_of.Given as goal

-- the lines so far plan none for this card
abbrev pub invariant-loop-line : goal.invariant-loop-line
invariant-loop-line l = beats_in l.sub.0 (drop l.line-index l.plan.beats.items) ≡ beats_in l.sub.0 l.plan.beats.items

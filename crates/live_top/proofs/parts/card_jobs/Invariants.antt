use Rattle.std.proofs.Common.{◌≡◌, ◌+◌, drop, length}
use Rattle.std.specs.Vec.Iter.{into_iter_items, into_iter_len}
use Rattle.live_top.specs.Jobs.{AreJobs, IsOfCard}
use Rattle.live_top.proofs.parts.card_jobs.Given as goal

-- the passes so far have their jobs, and the others are left
abbrev pub invariant-loop-number : goal.invariant-loop-number
invariant-loop-number g l = record {
  passes : into_iter_len l.passes_left + l.number ≡ length g.N.FloorName.cards;
  left : into_iter_items l.passes_left ≡ drop l.number l.fn.passes.items;
  jobs : AreJobs (length g.N.FloorName.cards) (IsOfCard l.plan) l.number l.fn.passes.items l.jobs.items;
}

use Rattle.std.proofs.Common.{◌≡◌, ◌+◌, drop, length}
use Rattle.std.specs.Vec.Iter.{into_iter_items, into_iter_len}
use Rattle.live_top.specs.Jobs.{AreJobs, IsOfClient}
use Rattle.live_top.proofs.parts.client_jobs.Given as goal

-- the passes so far have their jobs, and the others are left, each with a parker
abbrev pub invariant-loop-number : goal.invariant-loop-number
invariant-loop-number g l = record {
  passes : into_iter_len l.passes_left + l.number ≡ 16;
  parkers : into_iter_len l.parkers_left + l.number ≡ 16;
  left : into_iter_items l.passes_left ≡ drop l.number l.fn.passes.items;
  jobs : AreJobs (length g.N.FloorName.cards) (IsOfClient l.plan) l.number l.fn.passes.items l.jobs.items;
}

use Rattle.std.proofs.Common.{◌<◌, ◌≤◌, ℕ, List, length}
use Rattle.pcm_base.specs.model.Stream.{Stream}
use Rattle.floor_rule.specs.declared.entry.Entry.{Entry}
use Rattle.live_top.specs.Ends.{AreOf, log_limit}
use Rattle.live_top.proofs.report.full_count.Given as goal

-- none of the logs before is full
abbrev pub invariant-logs : goal.invariant-logs
invariant-logs l = (logs : ℕ → List Entry) (streams : ℕ → Stream) → AreOf logs streams l.all → (j : ℕ) → j < l.one-index → length (logs j) ≤ log_limit

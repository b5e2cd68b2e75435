-- Which plans can fill a log. This project's own.
use Rattle.std.specs.Prelude.{Bool, true, false, ◌||◌}
use Rattle.std.specs.List.{list_any}
use Rattle.pcm_base.specs.declared.call.Call.{Call as CoreCall}
use Rattle.pcm_base.specs.declared.call.Call.TheVariants.{Link}
use Rattle.pcm_line.specs.declared.line.Line.{Line}
use Rattle.pcm_line.specs.declared.line.Line.TheVariants.{Event}
use Rattle.live_plan.specs.declared.plan.Plan.{Plan}
use Rattle.live_plan.specs.Rules.{waits}

abbrev pub is_link : CoreCall → Bool
is_link (Link second) = true
is_link _ = false

-- a link or a call that may wait: an event of linked substreams is told in the log of each, and a call that waits once more whenever it is woken
abbrev pub can_fill : Line → Bool
can_fill (Event e bytes) = is_link e.call || waits e.call
can_fill line = false

-- the setup or a client has such a line
abbrev pub can_fill_logs : Plan → Bool
can_fill_logs plan = list_any can_fill plan.setup.items || list_any (λ lines. list_any can_fill lines.items) plan.clients.items

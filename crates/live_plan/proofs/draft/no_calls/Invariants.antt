use Rattle.std.proofs.Common.{◌≡◌, ℕ, ◌<◌, [], length, slice_index_or, Vec}
use Rattle.std.specs.Global.{Global}
use Rattle.pcm_line.specs.declared.line.Line.{Line}
use Rattle.live_plan.proofs.draft.no_calls.Given as goal

abbrev pub invariant-loop : goal.invariant-loop
invariant-loop l = record { count : length l.clients.items ≡ l.counter; empty : (c : ℕ) (none : Vec Line Global) → c < l.counter → (slice_index_or l.clients.items c none).items ≡ [] }

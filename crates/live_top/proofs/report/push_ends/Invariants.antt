use Rattle.std.proofs.Common.{◌≡◌, ◌++◌, ℕ, List}
use Rattle.pcm_base.specs.model.Stream.{Stream}
use Rattle.floor_rule.specs.declared.entry.Entry.{Entry}
use Rattle.live_top.specs.Ends.{AreOf, ends_text}
use Rattle.live_top.proofs.report.push_ends.Given as goal

-- the lines of the substreams before stand behind the text
abbrev pub invariant-ends : goal.invariant-ends
invariant-ends l = (logs : ℕ → List Entry) (streams : ℕ → Stream) → AreOf logs streams l.all → l.text.items ≡ l.initial.text.items ++ ends_text l.one-index streams

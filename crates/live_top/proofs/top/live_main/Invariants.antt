use Rattle.std.specs.Prelude.{map}
use Rattle.live_floor.specs.Cards.{limits}
use Rattle.live_top.proofs.top.live_main.Given as goal

-- the words that were just made, over the cards of the plan
abbrev pub ghosts-run_plan-N-FloorName : goal.ghosts-run_plan-N-FloorName
ghosts-run_plan-N-FloorName g a = record { table = a.words.table; cards = map limits a.plan.now.cards.items; long_max = a.plan.now.long_max }

abbrev pub ghosts-run_plan-N-Ledger : goal.ghosts-run_plan-N-Ledger
ghosts-run_plan-N-Ledger g a = record { name = a.blank.name; parts = a.blank.parts }

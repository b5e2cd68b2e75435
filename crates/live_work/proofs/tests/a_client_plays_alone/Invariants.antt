use Rattle.std.specs.Prelude.{map}
use Rattle.live_floor.specs.Cards.{limits}
use Rattle.live_work.proofs.tests.a_client_plays_alone.Given as goal

-- the words that were just made, over the cards of the plan
abbrev pub ghosts-alone-N-FloorName : goal.ghosts-alone-N-FloorName
ghosts-alone-N-FloorName g a = record { table = a.words.table; cards = map limits a.plan.now.cards.items; long_max = a.plan.now.long_max }

abbrev pub ghosts-alone-N-Ledger : goal.ghosts-alone-N-Ledger
ghosts-alone-N-Ledger g a = record { name = a.blank.name; parts = a.blank.parts }

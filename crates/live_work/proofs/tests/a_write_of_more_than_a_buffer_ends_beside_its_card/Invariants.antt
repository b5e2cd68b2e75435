use Rattle.std.specs.Prelude.{map}
use Rattle.live_floor.specs.Cards.{limits}
use Rattle.live_work.proofs.tests.a_write_of_more_than_a_buffer_ends_beside_its_card.Given as goal

-- the words that were just made, over the cards of the plan
abbrev pub ghosts-beside-N-FloorName : goal.ghosts-beside-N-FloorName
ghosts-beside-N-FloorName g a = record { table = a.words.table; cards = map limits a.plan.now.cards.items; long_max = a.plan.now.long_max }

abbrev pub ghosts-beside-N-Ledger : goal.ghosts-beside-N-Ledger
ghosts-beside-N-Ledger g a = record { name = a.blank.name; parts = a.blank.parts }

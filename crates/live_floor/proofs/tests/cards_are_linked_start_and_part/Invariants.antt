use Rattle.std.specs.Prelude.{[], ◌∷◌}
use Rattle.card_emul.specs.Limits.{basic}
use Rattle.pcm_base.specs.declared.state.Dir.TheVariants.{Capture}
use Rattle.live_floor.proofs.tests.cards_are_linked_start_and_part.Given as goal

-- the words that were just made, over three capture cards
abbrev pub ghosts-linking-N-FloorName : goal.ghosts-linking-N-FloorName
ghosts-linking-N-FloorName g a = record { table = a.words.table; cards = (basic, Capture) ∷ (basic, Capture) ∷ (basic, Capture) ∷ []; long_max = 2147483647 }

abbrev pub ghosts-linking-N-Ledger : goal.ghosts-linking-N-Ledger
ghosts-linking-N-Ledger g a = record { name = a.blank.name; parts = a.blank.parts }

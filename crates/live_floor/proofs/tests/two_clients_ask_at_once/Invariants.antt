use Rattle.std.specs.Prelude.{[], ◌∷◌}
use Rattle.card_emul.specs.Limits.{basic}
use Rattle.pcm_base.specs.declared.state.Dir.TheVariants.{Playback}
use Rattle.live_floor.proofs.tests.two_clients_ask_at_once.Given as goal

-- the words that were just made, over one playback card
abbrev pub ghosts-asking-N-FloorName : goal.ghosts-asking-N-FloorName
ghosts-asking-N-FloorName g a = record { table = a.words.table; cards = (basic, Playback) ∷ []; long_max = 2147483647 }

abbrev pub ghosts-asking-N-Ledger : goal.ghosts-asking-N-Ledger
ghosts-asking-N-Ledger g a = record { name = a.blank.name; parts = a.blank.parts }

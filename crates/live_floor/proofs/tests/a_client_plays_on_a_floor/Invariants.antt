use Rattle.std.specs.Prelude.{[], ◌∷◌}
use Rattle.card_emul.specs.Limits.{basic}
use Rattle.pcm_base.specs.declared.state.Dir.TheVariants.{Playback}
use Rattle.live_floor.proofs.tests.a_client_plays_on_a_floor.Given as goal

-- the words that were just made, over one playback card
abbrev pub ghosts-playing-N-FloorName : goal.ghosts-playing-N-FloorName
ghosts-playing-N-FloorName g a = record { table = a.words.table; cards = (basic, Playback) ∷ []; long_max = 2147483647 }

abbrev pub ghosts-playing-N-Ledger : goal.ghosts-playing-N-Ledger
ghosts-playing-N-Ledger g a = record { name = a.blank.name; parts = a.blank.parts }

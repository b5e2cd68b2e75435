use Rattle.std.specs.Prelude.{[], ◌∷◌}
use Rattle.card_emul.specs.Limits.{basic}
use Rattle.pcm_base.specs.declared.state.Dir.TheVariants.{Playback}
use Rattle.live_floor.proofs.worked_tests.a_client_asleep_in_a_write_is_woken_by_its_card.Given as goal

-- the words that were just made, over one playback card
abbrev pub ghosts-waking-N-FloorName : goal.ghosts-waking-N-FloorName
ghosts-waking-N-FloorName g a = record { table = a.words.table; cards = (basic, Playback) ∷ []; long_max = 2147483647 }

abbrev pub ghosts-waking-N-Ledger : goal.ghosts-waking-N-Ledger
ghosts-waking-N-Ledger g a = record { name = a.blank.name; parts = a.blank.parts }
